use Rattle.std.proofs.Common.{◌≡◌, ◌++◌}
use Rattle.mm_names.specs.Results.{cells_to}
use Rattle.mm_names.proofs.layout.add_cells.Given as goal

abbrev pub invariant-loop-k : goal.invariant-loop-k
invariant-loop-k l = l.cells.items ≡ l.initial.cells.items ++ cells_to l.places l.global l.k
