use Rattle.std.proofs.Common.{◌≡◌, ◌++◌, length, map, string_bytes}
use Rattle.mm_print.specs.Pieces.{text, commas}
use Rattle.mm_print.specs.Items.{param_pieces}
use Rattle.mm_print.proofs.items.put_params.Given as goal

abbrev pub invariant-loop-rest : goal.invariant-loop-rest
invariant-loop-rest l = string_bytes l.out ++ text (commas (map (param_pieces l.gives) l.rest)) ≡ string_bytes l.fn.out ++ text (commas (map (param_pieces l.gives) l.params))

abbrev pub decreases-loop-rest : goal.decreases-loop-rest
decreases-loop-rest l = length l.rest
