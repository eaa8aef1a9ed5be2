use Rattle.std.proofs.Common.{◌≡◌, ◌++◌, drop}
use Rattle.mm_flow.specs.Programs.{cells_of, globals_in}
use Rattle.mm_flat.proofs.cells.cells_of.Given as goal

abbrev pub invariant-loop-item : goal.invariant-loop-item
invariant-loop-item l = cells_of l.parts.spots (globals_in l.items) ≡ l.out.items ++ cells_of l.parts.spots (globals_in (drop l.item-index l.items))
