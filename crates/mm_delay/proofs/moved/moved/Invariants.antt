use Rattle.std.proofs.Common.{◌≡◌, ℕ, ◌<◌, length, Some}
use Rattle.std.specs.Prelude.{◌↔◌, IsSomeAnd, slice_get}
use Rattle.mm_bits.specs.Words.{Has}
use Rattle.mm_goto.specs.declared.program.Cell.{Cell}
use Rattle.mm_delay.specs.reading.Sets.{Raised}
use Rattle.mm_delay.proofs.moved.moved.Given as goal

abbrev pub invariant-cells : goal.invariant-cells
invariant-cells l = record {
  size : length l.moved.items ≡ l.c;
  raised : (k : ℕ) → k < l.c → (x : Cell) → slice_get l.cells k ≡ Some x → Raised l.moved.items k ↔ ((d : ℕ) × IsSomeAnd (slice_get l.cells d) (λ y. x.name ≡ y.name) × Has l.set.words d);
}
