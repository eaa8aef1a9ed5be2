use Rattle.mm_within.proofs.Whole.{keeps_the_limits}
use Rattle.mm_within.proofs.laws.a_woven_tree_passes_no_limit.Goals as goal

pub returns : goal.returns
returns c = keeps_the_limits
