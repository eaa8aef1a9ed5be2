use Rattle.std.proofs.Common.{◌≡◌, ◌++◌, length, map, string_bytes}
use Rattle.mm_print.specs.Pieces.{text, commas}
use Rattle.mm_print.specs.Items.{mutex_pieces}
use Rattle.mm_print.proofs.items.put_mutexes.Given as goal

abbrev pub invariant-loop-rest : goal.invariant-loop-rest
invariant-loop-rest l = string_bytes l.out ++ text (commas (map mutex_pieces l.rest)) ≡ string_bytes l.fn.out ++ text (commas (map mutex_pieces l.mutexes))

abbrev pub decreases-loop-rest : goal.decreases-loop-rest
decreases-loop-rest l = length l.rest
