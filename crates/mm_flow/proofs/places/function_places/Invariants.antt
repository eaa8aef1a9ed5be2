use Rattle.std.proofs.Common.{take}
use Rattle.mm_flow.specs.reading.Finding.{ArePlaced}
use Rattle.mm_flow.specs.Statements.{is_function}
use Rattle.mm_flow.proofs.places.function_places.Given as goal

abbrev pub invariant-loop-i : goal.invariant-loop-i
invariant-loop-i l = ArePlaced is_function l.places (take l.i l.items)
