use Rattle.std.proofs.Common.{◌≡◌, ℕ, ◌<◌, ◌≤◌, ◌^◌, length, get_or, w64}
use Rattle.std.specs.Prelude.{bit_and}
use Rattle.std.specs.Int.{bit_not}
use Rattle.mm_bits.proofs.numbers.remove_words.Given as goal

abbrev pub invariant-words : goal.invariant-words
invariant-words l = record {
  size : length l.from ≡ 16;
  fits : (j : ℕ) → j < l.k → get_or l.other j 0 < 2 ^ 64;
  below : (j : ℕ) → j < l.k → get_or l.from j 0 ≡ bit_and (get_or l.fn.from j 0) (bit_not w64 (get_or l.other j 0));
  above : (j : ℕ) → l.k ≤ j → get_or l.from j 0 ≡ get_or l.fn.from j 0;
}
