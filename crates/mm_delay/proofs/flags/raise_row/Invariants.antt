use Rattle.std.proofs.Common.{◌≡◌, ℕ, ◌<◌, length}
use Rattle.std.specs.Prelude.{◌↔◌, ◌⊎◌, IsSomeAnd, slice_get}
use Rattle.mm_bits.specs.Words.{Has}
use Rattle.mm_delay.specs.reading.Sets.{Raised}
use Rattle.mm_delay.proofs.Gathering.{SomeBefore}
use Rattle.mm_delay.proofs.flags.raise_row.Given as goal

abbrev pub invariant-sites : goal.invariant-sites
invariant-sites l = record {
  size : length l.row ≡ length l.fn.row;
  raised : (k : ℕ) → Raised l.row k ↔ (Raised l.fn.row k ⊎ SomeBefore l.s (λ s. (k < length l.fn.row) × (IsSomeAnd (slice_get l.sites s) (λ x. (x.thread ≡ l.t) × (x.index ≡ k)) × Has l.set.words s)));
}
