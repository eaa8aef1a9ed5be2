use Rattle.std.proofs.Common.{ℕ}
use Rattle.std.specs.Prelude.{◌↔◌, ◌⊎◌, IsSomeAnd, slice_get}
use Rattle.std.specs.List.{Contains}
use Rattle.mm_bits.specs.Words.{Has}
use Rattle.mm_delay.proofs.Gathering.{SomeBefore}
use Rattle.mm_delay.proofs.sets.cells_of.Given as goal

abbrev pub invariant-sites : goal.invariant-sites
invariant-sites l = (c : ℕ) → Has l.found.words c ↔ (⊥ ⊎ SomeBefore l.s (λ s. IsSomeAnd (slice_get l.sites s) (λ x. Contains x.cells c) × Has l.set.words s))
