use Rattle.std.proofs.Common.{◌≡◌, ℕ}
use Rattle.std.specs.Prelude.{◌↔◌, ◌⊎◌}
use Rattle.mm_bits.specs.Words.{Has}
use Rattle.mm_points.proofs.Indexes.{SomeBefore}
use Rattle.mm_delay.proofs.sets.noted.Given as goal

abbrev pub invariant-notes : goal.invariant-notes
invariant-notes l = (s : ℕ) → Has l.found.words s ↔ (⊥ ⊎ SomeBefore l.notes l.k (λ x. s ≡ x.site))
