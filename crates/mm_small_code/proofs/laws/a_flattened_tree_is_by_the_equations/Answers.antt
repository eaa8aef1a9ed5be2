use Rattle.mm_small_code.proofs.Equations.{by_the_equations}
use Rattle.mm_small_code.proofs.laws.a_flattened_tree_is_by_the_equations.Goals as goal

pub returns : goal.returns
returns c = by_the_equations
