use Rattle.std.proofs.Common.{sym}
use Rattle.mm_small.proofs.SmallFlat.{small_program}
use Rattle.mm_small.proofs.laws.a_small_tree_is_flattened_so.Goals as goal

pub returns : goal.returns
returns c = λ tree s. sym (small_program tree s.small s.is_small s.within)
