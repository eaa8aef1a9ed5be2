use Rattle.std.proofs.Common.{◌≡◌, ℕ, false}
use Rattle.std.specs.Prelude.{◌↔◌, ◌⊎◌}
use Rattle.mm_points.specs.Sets.{Has}
use Rattle.mm_points.proofs.Indexes.{SomeBefore}
use Rattle.mm_points.proofs.cell_set.CellSet.join.Given as goal

abbrev pub invariant-cells : goal.invariant-cells
invariant-cells l = record {
  added : (m : ℕ) → Has l.self m ↔ (Has l.fn.self m ⊎ SomeBefore l.cells l.k (λ c. m ≡ c));
  stays : l.grew ≡ false → (m : ℕ) → Has l.self m → Has l.fn.self m;
}
