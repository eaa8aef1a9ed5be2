use Rattle.mm_parse_expr.proofs.ExprRuns.{one_tree, one_unary_tree}
use Rattle.mm_parse_expr.proofs.laws.one_tree.Goals as goal

pub returns : goal.returns
returns c = record { expr = one_tree; unary = one_unary_tree }
