use Rattle.mm_reorder.proofs.Carrying.{carried}
use Rattle.mm_reorder.proofs.laws.a_failing_run_is_carried_or_a_store_is_overtaken.Goals as goal

pub returns : goal.returns
returns c = carried
