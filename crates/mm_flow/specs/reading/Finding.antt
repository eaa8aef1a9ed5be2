-- Tables from names to numbers, and the lists that they stand for.
use Rattle.std.specs.Prelude.{◌≡◌, ℕ, Bool, if◌then◌else◌, List, [], ◌∷◌, ◌++◌, map, position, slice_get, Option, Some, None, is_some}
use Rattle.std.specs.Bool.{⊤}
use Rattle.std.specs.Map.{lookup}
use Rattle.std.specs.Str.{bytes_eq}
use Rattle.indexmap.specs.IndexMap.{insert_entry}
use Rattle.mm_goto.specs.declared.ident.Ident.{Ident}
use Rattle.mm_flow.specs.declared.locals.Entry.{Entry}
use Rattle.mm_flow.specs.declared.names.Named.{Named}
use Rattle.mm_flow.specs.declared.names.Spot.{Spot}
use Rattle.mm_flow.specs.Scopes.{local_of, named}

-- ---- where names stand

-- names, each once, with the number of the first place where each stands
abbrev pub Placing : Type 0
Placing = List (Ident × ℕ)

-- the name stands at a place, where it is noted if it did not stand at one before
abbrev pub noted : Placing → Ident → ℕ → Placing
noted t x i = if is_some (lookup (bytes_eq x) t) then t else insert_entry bytes_eq t x i

abbrev pub is_called : Ident → Ident → Bool
is_called x y = bytes_eq y x

abbrev pub spot_is_called : Ident → Spot → Bool
spot_is_called x s = bytes_eq s.name x

-- the table says where each name stands first
pub record ArePlaced {X : Type 0} (called : Ident → X → Bool) (table : Placing) (xs : List X) : Type 0 where
  pub each : (x : Ident) → lookup (bytes_eq x) table ≡ position (called x) xs

abbrev pub at_place : {X : Type 0} → List X → Option ℕ → Option X
at_place xs None = None
at_place xs (Some i) = slice_get xs i

-- ---- locals

-- names, each once, with the local that each stands for, if any
abbrev pub Presence : Type 0
Presence = List (Ident × Option ℕ)

abbrev pub joined : Option (Option ℕ) → Option ℕ
joined None = None
joined (Some l) = l

-- the local that a name stands for
abbrev pub present : Presence → Ident → Option ℕ
present t x = joined (lookup (bytes_eq x) t)

abbrev pub entry_name : Entry → Named
entry_name e = named e.name e.number

abbrev pub entry_names : List Entry → List Named
entry_names es = map entry_name es

-- each entry says which local its name stood for before, where these names were known before the first
abbrev pub Hide : List Named → List Entry → Type 0
Hide before [] = ⊤
Hide before (e ∷ es) = (e.hidden ≡ local_of before e.name) × Hide (before ++ entry_name e ∷ []) es

-- each name stands in the table for the local of the newest entry of the name
pub record IsPresent (table : Presence) (entries : List Entry) : Type 0 where
  pub each : (x : Ident) → present table x ≡ local_of (entry_names entries) x
  pub hide : Hide [] entries
