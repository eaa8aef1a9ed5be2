use Rattle.mm_bridge.proofs.Examples.{buffering_cycle}
use Rattle.mm_bridge.proofs.laws.examples.store_buffering_has_a_cycle.Goals as goal

pub returns-clause-cycle : goal.returns-clause-cycle
returns-clause-cycle c = buffering_cycle
