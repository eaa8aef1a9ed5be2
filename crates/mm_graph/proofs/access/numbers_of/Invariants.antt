use Rattle.std.proofs.Common.{◌≡◌, ℕ}
use Rattle.std.specs.Prelude.{◌↔◌, ◌⊎◌}
use Rattle.mm_bits.specs.Words.{Has}
use Rattle.mm_points.proofs.Indexes.{SomeBefore}
use Rattle.mm_graph.proofs.access.numbers_of.Given as goal

abbrev pub invariant-cells : goal.invariant-cells
invariant-cells l = (c : ℕ) → Has l.found.words c ↔ (⊥ ⊎ SomeBefore l.cells l.k (λ x. c ≡ x))
