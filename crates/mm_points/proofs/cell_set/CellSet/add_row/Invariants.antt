use Rattle.std.proofs.Common.{ℕ, ◌<◌, ◌≤◌}
use Rattle.std.specs.Prelude.{◌↔◌, ◌⊎◌}
use Rattle.mm_points.specs.Sets.{Has}
use Rattle.mm_points.proofs.cell_set.CellSet.add_row.Given as goal

abbrev pub invariant-cells : goal.invariant-cells
invariant-cells l = (m : ℕ) → Has l.self m ↔ (Has l.fn.self m ⊎ ((l.fn.row.first ≤ m) × (m < l.c)))
