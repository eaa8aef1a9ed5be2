use Rattle.std.proofs.Common.{◌≡◌, ◌++◌, drop}
use Rattle.mm_points.specs.reading.Ruled.{starts_from}
use Rattle.mm_points.proofs.ruled.put_starts.Given as goal

abbrev pub invariant-cells : goal.invariant-cells
invariant-cells l = l.out.items ++ starts_from l.base l.k (drop l.k l.cells) ≡ l.fn.out.items ++ starts_from l.base 0 l.cells
