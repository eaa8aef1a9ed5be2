use Rattle.std.proofs.Common.{◌≡◌, ℕ}
use Rattle.std.specs.Prelude.{◌↔◌, ◌⊎◌, IsTrue}
use Rattle.mm_bits.specs.Words.{Has}
use Rattle.mm_points.proofs.Indexes.{SomeBefore}
use Rattle.mm_delay.proofs.sets.add_cells.Given as goal

abbrev pub invariant-cells : goal.invariant-cells
invariant-cells l = (c : ℕ) → Has l.into.words c ↔ (Has l.fn.into.words c ⊎ SomeBefore l.cells l.k (λ x. IsTrue l.so × (c ≡ x)))
