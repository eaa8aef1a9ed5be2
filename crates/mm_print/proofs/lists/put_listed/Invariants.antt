use Rattle.std.proofs.Common.{◌≡◌, ◌++◌, length, map, string_bytes}
use Rattle.mm_print.specs.Pieces.{text, commas}
use Rattle.mm_print.proofs.lists.put_listed.Given as goal

abbrev pub invariant-loop-rest : goal.invariant-loop-rest
invariant-loop-rest g l = string_bytes l.out ++ text (commas (map g.T.Listed.pieces l.rest)) ≡ string_bytes l.fn.out ++ text (commas (map g.T.Listed.pieces l.parts))

abbrev pub decreases-loop-rest : goal.decreases-loop-rest
decreases-loop-rest g l = length l.rest
