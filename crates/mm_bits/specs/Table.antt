-- Tables of bits as relations.
use Rattle.std.specs.Prelude.{ℕ, ◌↔◌, List, [], slice_index_or}
use Rattle.mm_bits.specs.declared.numbers.Numbers.{Numbers}
use Rattle.mm_bits.specs.Words.{Has}

-- the words of row a, and none past the end
abbrev pub words_at : List Numbers → ℕ → List ℕ
words_at rows a = (slice_index_or rows a (record { words = [] })).words

-- row a has b
abbrev pub Linked : List Numbers → ℕ → ℕ → Type 0
Linked rows a b = Has (words_at rows a) b

-- the one table has what the other has, from right to left
abbrev pub AreTurned : List Numbers → List Numbers → Type 0
AreTurned rows back = (a b : ℕ) → Linked back b a ↔ Linked rows a b
