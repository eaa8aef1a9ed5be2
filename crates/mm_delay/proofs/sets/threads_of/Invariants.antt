use Rattle.std.proofs.Common.{◌≡◌, ℕ}
use Rattle.std.specs.Prelude.{◌↔◌, ◌⊎◌, IsSomeAnd, slice_get}
use Rattle.mm_bits.specs.Words.{Has}
use Rattle.mm_delay.proofs.Gathering.{SomeBefore}
use Rattle.mm_delay.proofs.sets.threads_of.Given as goal

abbrev pub invariant-sites : goal.invariant-sites
invariant-sites l = (t : ℕ) → Has l.found.words t ↔ (⊥ ⊎ SomeBefore l.s (λ s. IsSomeAnd (slice_get l.sites s) (λ x. x.thread ≡ t) × Has l.set.words s))
