use Rattle.std.proofs.Common.{take}
use Rattle.mm_flow.specs.reading.Finding.{ArePlaced, is_called}
use Rattle.mm_flow.proofs.places.name_places.Given as goal

abbrev pub invariant-loop-i : goal.invariant-loop-i
invariant-loop-i l = ArePlaced is_called l.places (take l.i l.names)
