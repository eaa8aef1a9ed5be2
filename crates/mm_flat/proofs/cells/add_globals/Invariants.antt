use Rattle.std.proofs.Common.{◌≡◌, ◌++◌, drop}
use Rattle.mm_flow.specs.Programs.{cells_of}
use Rattle.mm_flat.proofs.cells.add_globals.Given as goal

abbrev pub invariant-loop-global : goal.invariant-loop-global
invariant-loop-global l = l.fn.out.items ++ cells_of l.parts.spots l.globals ≡ l.out.items ++ cells_of l.parts.spots (drop l.global-index l.globals)
