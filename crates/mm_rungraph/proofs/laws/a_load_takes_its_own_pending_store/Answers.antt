use Rattle.std.proofs.Common.{refl}
use Rattle.mm_rungraph.specs.RunGraph.{layout_of}
use Rattle.mm_rungraph.proofs.Remarks.{own_is}
use Rattle.mm_rungraph.proofs.laws.a_load_takes_its_own_pending_store.Goals as goal

pub returns : goal.returns
returns c = λ m bound p es run valid. own_is p valid (layout_of m bound p) bound refl es run.events run.happen
