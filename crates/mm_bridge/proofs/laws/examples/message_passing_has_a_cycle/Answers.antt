use Rattle.mm_bridge.proofs.Examples.{passing_cycle}
use Rattle.mm_bridge.proofs.laws.examples.message_passing_has_a_cycle.Goals as goal

pub returns-clause-cycle : goal.returns-clause-cycle
returns-clause-cycle c = passing_cycle
