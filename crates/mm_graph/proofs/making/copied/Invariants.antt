use Rattle.std.proofs.Common.{◌≡◌, take}
use Rattle.mm_graph.proofs.making.copied.Given as goal

abbrev pub invariant-cells : goal.invariant-cells
invariant-cells l = l.copy.items ≡ take l.cell-index l.cells
