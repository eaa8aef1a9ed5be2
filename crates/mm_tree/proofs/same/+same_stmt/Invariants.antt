use Rattle.std.proofs.Common.{◌≡◌, take, map}
use Rattle.mm_tree.specs.Places.{bare_stmt}
use Rattle.mm_tree.proofs.same.+same_stmt.Given as goal

abbrev pub invariant-same_stmts-loop-i : goal.invariant-same_stmts-loop-i
invariant-same_stmts-loop-i l = map bare_stmt (take l.i l.stmts) ≡ map bare_stmt (take l.i l.others)
