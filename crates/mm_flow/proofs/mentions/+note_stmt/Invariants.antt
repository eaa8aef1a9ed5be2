use Rattle.std.proofs.Common.{◌≡◌, ◌++◌, drop, map}
use Rattle.mm_flow.specs.Text.{mentions_of, of_parts}
use Rattle.mm_flow.proofs.mentions.+note_stmt.Given as goal

abbrev pub invariant-note_stmts-loop-s : goal.invariant-note_stmts-loop-s
invariant-note_stmts-loop-s l = l.fn.out.items ++ of_parts (map mentions_of l.ss) ≡ l.out.items ++ of_parts (map mentions_of (drop l.s-index l.ss))
