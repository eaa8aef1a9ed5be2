-- Paths of so many edges at most.
use Rattle.std.specs.Prelude.{ℕ, ◌+◌, ◌-◌, ◌<◌, ◌≤◌, ◌↔◌, List, length}
use Rattle.mm_goto.specs.Paths.{IsPath, Leads}
use Rattle.mm_bits.specs.declared.numbers.Numbers.{Numbers}
use Rattle.mm_bits.specs.Table.{Linked}

-- a path of at most d + 1 edges leads from x to b
abbrev pub Near : (ℕ → ℕ → Type 0) → ℕ → ℕ → ℕ → Type 0
Near E b d x = (path : List ℕ) × IsPath E x path b × (length path ≤ d + 1)

-- for each number of edges from 1 on, the set of what is so near to b; the last has all from which a path leads to b
pub record AreLevels (E : ℕ → ℕ → Type 0) (b : ℕ) (sets : List Numbers) : Type 0 where
  pub some : 1 ≤ length sets
  pub near : (d : ℕ) → d < length sets → (x : ℕ) → Linked sets d x ↔ Near E b d x
  pub all : (x : ℕ) → Leads E x b → Linked sets (length sets - 1) x
