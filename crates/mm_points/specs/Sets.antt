-- Sets of cells, and lists of such sets.
use Rattle.std.specs.Prelude.{ℕ, List, [], slice_index_or}
use Rattle.std.specs.List.{Contains}

-- the set has the cell
abbrev pub Has : List ℕ → ℕ → Type 0
Has set c = Contains set c

-- the set of the holder a has the cell
abbrev pub Linked : List (List ℕ) → ℕ → ℕ → Type 0
Linked sets a c = Has (slice_index_or sets a []) c
