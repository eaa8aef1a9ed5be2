use Rattle.std.proofs.Common.{◌≡◌, ◌++◌, string_bytes, codes}
use Rattle.mm_print.specs.Pieces.{indent}
use Rattle.mm_print.proofs.statements.put_line.Given as goal

abbrev pub invariant-loop-level : goal.invariant-loop-level
invariant-loop-level l = string_bytes l.out ≡ string_bytes l.fn.out ++ (codes "\n" ++ indent l.level)
