-- Scopes (ISO C, 6.2.1): the names that are declared so far. An inner name hides an outer one.
use Rattle.std.specs.Prelude.{◌≡◌, ℕ, Bool, true, false, List, find, drop, reverse, Option, Some, None, is_some}
use Rattle.std.specs.List.{list_any}
use Rattle.std.specs.Map.{lookup}
use Rattle.indexmap.specs.IndexMap.{insert_entry}
use Rattle.std.specs.Option.{option_map, option_or}
use Rattle.std.specs.Str.{bytes_eq}
use Rattle.mm_goto.specs.declared.ident.Ident.{Ident}
use Rattle.mm_scope.specs.declared.table.Meaning.{Meaning}
use Rattle.mm_scope.specs.declared.table.Meaning.TheVariants.{Ahead}

-- ---- tables

-- names with what they stand for, in the order in which they are first seen, each once
abbrev pub Table : Type 0
Table = List (Ident × Meaning)

abbrev pub meaning_in : Table → Ident → Option Meaning
meaning_in table x = lookup (bytes_eq x) table

-- the name stands for this behind it
abbrev pub with_name : Table → Ident → Meaning → Table
with_name = insert_entry bytes_eq

-- ---- names

-- a local name, and what it stands for
pub record Named : Type 0 where
  pub name : Ident
  pub meaning : Meaning

abbrev pub named_as : Ident → Meaning → Named
named_as x m = record { name = x; meaning = m }

-- the global names, and the local names of all blocks that are open, the newest last
pub record Names : Type 0 where
  pub globals : Table
  pub locals : List Named

abbrev pub is_named : Ident → Named → Bool
is_named x n = bytes_eq n.name x

-- what the newest of this name stands for
abbrev pub found : List Named → Ident → Option Meaning
found locals x = option_map (λ n. n.meaning) (find (is_named x) (reverse locals))

abbrev pub meaning_of : Names → Ident → Option Meaning
meaning_of names x = option_or (found names.locals x) (meaning_in names.globals x)

-- the name stands behind so many
abbrev pub stands : List Named → ℕ → Ident → Bool
stands locals from x = list_any (is_named x) (drop from locals)

-- the name stands already in the block that was opened behind so many local names
abbrev pub is_taken : Names → ℕ → Ident → Bool
is_taken names = stands names.locals

-- each name stands in the table too
pub record AreSeen (table : Table) (locals : List Named) : Type 0 where
  pub each : (x : Ident) → list_any (is_named x) locals ≡ true → is_some (meaning_in table x) ≡ true

-- a global is declared, and not merely known ahead
abbrev pub is_declared : Option Meaning → Bool
is_declared None = false
is_declared (Some (Ahead k)) = false
is_declared (Some _) = true
