use Rattle.mm_bridge.proofs.Cycles.{planned}
use Rattle.mm_bridge.proofs.laws.a_plan_has_each_delayed_store.Goals as goal

pub returns : goal.returns
returns c = planned
