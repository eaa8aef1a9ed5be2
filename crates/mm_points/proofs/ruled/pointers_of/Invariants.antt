use Rattle.std.proofs.Common.{◌≡◌, take}
use Rattle.mm_points.specs.reading.Ruled.{pointers_of}
use Rattle.mm_points.proofs.ruled.pointers_of.Given as goal

abbrev pub invariant-cells : goal.invariant-cells
invariant-cells l = l.pointers.items ≡ pointers_of (take l.cell-index l.cells)
