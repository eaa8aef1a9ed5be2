use Rattle.std.proofs.Common.{◌≡◌, ◌++◌, take, map, string_bytes}
use Rattle.mm_print.specs.Pieces.{text}
use Rattle.mm_print.specs.Statements.{layout, lines}
use Rattle.mm_print.proofs.statements.+statement.Given as goal

abbrev pub invariant-put_lines-loop-stmt : goal.invariant-put_lines-loop-stmt
invariant-put_lines-loop-stmt l = string_bytes l.out ≡ string_bytes l.fn.out ++ text (lines l.depth (map layout (take l.stmt-index l.stmts)))
