use Rattle.std.proofs.Common.{ℕ}
use Rattle.std.specs.Prelude.{◌↔◌, ◌⊎◌}
use Rattle.mm_goto.specs.PointsTo.{IsInRow}
use Rattle.mm_points.specs.Sets.{Has}
use Rattle.mm_points.proofs.Indexes.{SomeBefore}
use Rattle.mm_points.proofs.gathering.add_rows.Given as goal

abbrev pub invariant-rows : goal.invariant-rows
invariant-rows l = (c : ℕ) → Has l.into c ↔ (Has l.fn.into c ⊎ SomeBefore l.rows l.k (λ row. IsInRow row c))
