-- A name that is accepted somewhere stands for what is wanted there.
use Rattle.std.proofs.Common.{◌≡◌, Bool, true, false, cond, List, [], ◌∷◌, refl, ◌∙◌, sym, subst, Option, Some, None}
use Rattle.std.specs.List.{AllByRecursion, find}
use Rattle.std.specs.Option.{option_or}
use Rattle.std.specs.Str.{bytes_eq}
use Rattle.mm_goto.specs.declared.ident.At.{At}
use Rattle.mm_goto.specs.declared.ident.Ident.{Ident}
use Rattle.mm_goto.specs.declared.program.Thread.{Thread}
use Rattle.mm_goto.specs.Listing.{Listing}
use Rattle.mm_goto.specs.Valid.{IsRow}
use Rattle.mm_tree.specs.declared.item.Item.{Item}
use Rattle.mm_flow.specs.declared.names.Named.{Named}
use Rattle.mm_flow.specs.declared.names.Spot.{Spot}
use Rattle.mm_flow.specs.Expressions.{the_spot}
use Rattle.mm_flow.specs.Scopes.{local_of, spot_of}
use Rattle.mm_scope.specs.declared.expression.Sort.TheVariants as sort
use Rattle.mm_scope.specs.declared.table.Meaning.{Meaning}
use Rattle.mm_scope.specs.declared.table.Meaning.TheVariants as meaning
use Rattle.mm_scope.specs.Expressions.{judged_meaning, named as judged_name}
use Rattle.mm_scope.specs.Scopes.{Names, found, meaning_in}
use Rattle.mm_sourcelike.proofs.Cells.{row_of}
use Rattle.mm_sourcelike.proofs.Scoping.{NoFault, HasSpot, HasLocal, Means, Stands, Reads, none_is_not, same_some}

-- ---- the spot of a name

passes_at : {A : Type 0} (P : A → Type 0) (y x : A) (rest : Option A) (b : Bool) → P y → (rest ≡ Some x → P x) → cond b (Some y) rest ≡ Some x → P x
passes_at P y x rest true h g e = subst P (same_some y x e) h
passes_at P y x rest false h g e = g e

pub found_passes : {A : Type 0} (P : A → Type 0) (test : A → Bool) (xs : List A) (x : A) → AllByRecursion P xs → find test xs ≡ Some x → P x
found_passes P test [] x h e = absurd (none_is_not x e)
found_passes P test (y ∷ xs) x h e = passes_at P y x (find test xs) (test y) h.0 (found_passes P test xs x h.1) e

pub spot_row : (p : Listing) (spots : List Spot) (x : Ident) → AllByRecursion (λ s. IsRow p.cells (row_of s)) spots → HasSpot spots x → IsRow p.cells (row_of (the_spot (spot_of spots x)))
spot_row p spots x rows h =
    subst (λ o. IsRow p.cells (row_of (the_spot o))) (sym h.is) (found_passes (λ s. IsRow p.cells (row_of s)) (λ s. bytes_eq s.name x) spots h.spot rows h.is)

-- ---- variables, arrays and shared ints

no_local : {names : List Named} {x : Ident} → local_of names x ≡ None → HasLocal names x → ⊥
no_local e h = none_is_not h.local (sym e ∙ h.is)

module _ (spots : List Spot) (mutexes : List Ident) (items : List Item) (named : List Named) (x : Ident) (at : At) where
  variable_local : (m : Meaning) → Stands named x m → NoFault (judged_meaning sort.Variable at (Some m)).notes → HasLocal named x
  variable_local meaning.Int s f = s
  variable_local meaning.Pointer s f = s
  variable_local meaning.Thread s f = absurd f
  variable_local meaning.Handed s f = absurd f
  variable_local meaning.Unready s f = absurd f
  variable_local meaning.Shared s f = absurd s
  variable_local (meaning.Array n) s f = absurd s
  variable_local meaning.Mutex s f = absurd s
  variable_local meaning.SharedThread s f = absurd s
  variable_local (meaning.Function k) s f = absurd s
  variable_local (meaning.Ahead k) s f = absurd s
  variable_local meaning.Input s f = absurd s
  variable_local meaning.Label s f = absurd s

  variable_global : (m : Meaning) → Means spots mutexes items x m → NoFault (judged_meaning sort.Variable at (Some m)).notes → HasSpot spots x
  variable_global meaning.Shared s f = record { spot = s.spot; is = s.is }
  variable_global meaning.Pointer s f = record { spot = s.spot; is = s.is }
  variable_global meaning.Int s f = absurd s
  variable_global meaning.Thread s f = absurd s
  variable_global meaning.Handed s f = absurd s
  variable_global meaning.Unready s f = absurd s
  variable_global (meaning.Array n) s f = absurd f
  variable_global meaning.Mutex s f = absurd f
  variable_global meaning.SharedThread s f = absurd f
  variable_global (meaning.Function k) s f = absurd f
  variable_global (meaning.Ahead k) s f = absurd f
  variable_global meaning.Input s f = absurd f
  variable_global meaning.Label s f = absurd s

  array_local : (m : Meaning) → Stands named x m → NoFault (judged_meaning sort.Array at (Some m)).notes → ⊥
  array_local meaning.Int s f = f
  array_local meaning.Pointer s f = f
  array_local meaning.Thread s f = f
  array_local meaning.Handed s f = f
  array_local meaning.Unready s f = f
  array_local meaning.Shared s f = s
  array_local (meaning.Array n) s f = s
  array_local meaning.Mutex s f = s
  array_local meaning.SharedThread s f = s
  array_local (meaning.Function k) s f = s
  array_local (meaning.Ahead k) s f = s
  array_local meaning.Input s f = s
  array_local meaning.Label s f = s

  array_global : (m : Meaning) → Means spots mutexes items x m → NoFault (judged_meaning sort.Array at (Some m)).notes → HasSpot spots x
  array_global (meaning.Array n) s f = record { spot = s.spot; is = s.is }
  array_global meaning.Shared s f = record { spot = s.spot; is = s.is }
  array_global meaning.Pointer s f = record { spot = s.spot; is = s.is }
  array_global meaning.Int s f = absurd s
  array_global meaning.Thread s f = absurd s
  array_global meaning.Handed s f = absurd s
  array_global meaning.Unready s f = absurd s
  array_global meaning.Mutex s f = absurd f
  array_global meaning.SharedThread s f = absurd f
  array_global (meaning.Function k) s f = absurd f
  array_global (meaning.Ahead k) s f = absurd f
  array_global meaning.Input s f = absurd f
  array_global meaning.Label s f = absurd s

  shared_local : (m : Meaning) → Stands named x m → NoFault (judged_meaning sort.Shared at (Some m)).notes → ⊥
  shared_local meaning.Int s f = f
  shared_local meaning.Pointer s f = f
  shared_local meaning.Thread s f = f
  shared_local meaning.Handed s f = f
  shared_local meaning.Unready s f = f
  shared_local meaning.Shared s f = s
  shared_local (meaning.Array n) s f = s
  shared_local meaning.Mutex s f = s
  shared_local meaning.SharedThread s f = s
  shared_local (meaning.Function k) s f = s
  shared_local (meaning.Ahead k) s f = s
  shared_local meaning.Input s f = s
  shared_local meaning.Label s f = s

  shared_global : (m : Meaning) → Means spots mutexes items x m → NoFault (judged_meaning sort.Shared at (Some m)).notes → HasSpot spots x
  shared_global meaning.Shared s f = record { spot = s.spot; is = s.is }
  shared_global meaning.Pointer s f = record { spot = s.spot; is = s.is }
  shared_global (meaning.Array n) s f = absurd f
  shared_global meaning.Int s f = absurd s
  shared_global meaning.Thread s f = absurd s
  shared_global meaning.Handed s f = absurd s
  shared_global meaning.Unready s f = absurd s
  shared_global meaning.Mutex s f = absurd f
  shared_global meaning.SharedThread s f = absurd f
  shared_global (meaning.Function k) s f = absurd f
  shared_global (meaning.Ahead k) s f = absurd f
  shared_global meaning.Input s f = absurd f
  shared_global meaning.Label s f = absurd s

-- ---- where names are

module _ (p : Listing) (t : Thread) (items : List Item) (spots : List Spot) (named : List Named) (names : Names) (r : Reads p t items spots named names) (x : Ident) (at : At) where
  -- a variable that is no local has a spot
  pub variable_spot : NoFault (judged_name sort.Variable names at x).notes → local_of named x ≡ None → HasSpot spots x
  unfolding judged_name
  variable_spot f none = by (found names.locals x) (meaning_in names.globals x) (r.sees.each x) (r.globals.each x) f
    where
      by : (a b : Option Meaning) → ((m : Meaning) → a ≡ Some m → Stands named x m) → ((m : Meaning) → b ≡ Some m → Means spots p.mutexes items x m) → NoFault (judged_meaning sort.Variable at (option_or a b)).notes → HasSpot spots x
      by (Some m) b s g h = absurd (no_local none (variable_local spots p.mutexes items named x at m (s m refl) h))
      by None (Some m) s g h = variable_global spots p.mutexes items named x at m (g m refl) h
      by None None s g h = absurd h

  pub array_spot : NoFault (judged_name sort.Array names at x).notes → HasSpot spots x
  unfolding judged_name
  array_spot f = by (found names.locals x) (meaning_in names.globals x) (r.sees.each x) (r.globals.each x) f
    where
      by : (a b : Option Meaning) → ((m : Meaning) → a ≡ Some m → Stands named x m) → ((m : Meaning) → b ≡ Some m → Means spots p.mutexes items x m) → NoFault (judged_meaning sort.Array at (option_or a b)).notes → HasSpot spots x
      by (Some m) b s g h = absurd (array_local spots p.mutexes items named x at m (s m refl) h)
      by None (Some m) s g h = array_global spots p.mutexes items named x at m (g m refl) h
      by None None s g h = absurd h

  pub shared_spot : NoFault (judged_name sort.Shared names at x).notes → HasSpot spots x
  unfolding judged_name
  shared_spot f = by (found names.locals x) (meaning_in names.globals x) (r.sees.each x) (r.globals.each x) f
    where
      by : (a b : Option Meaning) → ((m : Meaning) → a ≡ Some m → Stands named x m) → ((m : Meaning) → b ≡ Some m → Means spots p.mutexes items x m) → NoFault (judged_meaning sort.Shared at (option_or a b)).notes → HasSpot spots x
      by (Some m) b s g h = absurd (shared_local spots p.mutexes items named x at m (s m refl) h)
      by None (Some m) s g h = shared_global spots p.mutexes items named x at m (g m refl) h
      by None None s g h = absurd h
