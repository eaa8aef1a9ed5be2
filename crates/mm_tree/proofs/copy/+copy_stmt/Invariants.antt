use Rattle.std.proofs.Common.{◌≡◌, take}
use Rattle.mm_tree.proofs.copy.+copy_stmt.Given as goal

abbrev pub invariant-copy_stmts-loop-stmt : goal.invariant-copy_stmts-loop-stmt
invariant-copy_stmts-loop-stmt l = l.copy.items ≡ take l.stmt-index l.stmts
