-- Steps: parts of a program's text that declare names, one behind another. Each sees the names that are declared before it.
use Rattle.std.specs.Prelude.{ℕ, nat_eq, Bool, ◌||◌, if◌then◌else◌, List, [], ◌∷◌, ◌++◌, codes, Option, Some, None}
use Rattle.std.specs.List.{starts_with}
use Rattle.mm_goto.specs.declared.ident.At.{At}
use Rattle.mm_goto.specs.declared.ident.Ident.{Ident}
use Rattle.mm_tree.specs.declared.side.Side.{Side}
use Rattle.mm_tree.specs.declared.side.Side.TheVariants.{Source, Output}
use Rattle.mm_scope.specs.declared.fault.Rule.TheVariants.{ReservedName, TwiceDeclared}
use Rattle.mm_scope.specs.declared.table.Meaning.{Meaning}
use Rattle.mm_scope.specs.declared.walk.Walk.{Walk}
use Rattle.mm_scope.specs.Notes.{Note, refusal, all_noted}
use Rattle.mm_scope.specs.Scopes.{Named, Names, named_as, is_taken}

-- the names that a part declares for the parts behind it in its scope, and what is noted in it
pub record Said : Type 0 where
  pub declared : List Named
  pub notes : List Note

abbrev pub Step : Type 0
Step = Names → Said

abbrev pub nothing : Said
nothing = record { declared = []; notes = [] }

-- a part that declares nothing and in which nothing is noted
unfoldable pub skip : Step
skip names = nothing

-- a part that declares nothing
abbrev pub noting : List Note → Said
noting notes = record { declared = []; notes = notes }

abbrev pub with_both : Said → Said → Said
with_both s t = record { declared = s.declared ++ t.declared; notes = s.notes ++ t.notes }

-- the names behind a part
abbrev pub behind : Step → Names → Names
behind f names = record names { locals = names.locals ++ (f names).declared }

-- the names and the notes behind a part
unfoldable pub after : Step → Walk → Walk
after f w = record { scope = behind f w.scope; notes = all_noted w.notes (f w.scope).notes }

-- one part, and then another
unfoldable pub and_then : Step → Step → Step
and_then f g names = with_both (f names) (g (behind f names))

-- parts of one sort, one behind another
unfoldable pub in_turn : {X : Type 0} → (X → Step) → List X → Step
in_turn f [] = skip
in_turn f (x ∷ xs) = and_then (f x) (in_turn f xs)

abbrev pub if_there : {X : Type 0} → (X → Step) → Option X → Step
if_there f None = skip
if_there f (Some x) = f x

-- a scope of its own: its names are not seen behind it
unfoldable pub closed : Step → Step
closed f names = noting (f names).notes

-- ---- declarations

abbrev pub is_reserved_on : Side → Ident → Bool
is_reserved_on Source x = starts_with nat_eq x (codes "wm_") || starts_with nat_eq x (codes "nondet_")
is_reserved_on Output x = starts_with nat_eq x (codes "nondet_")

unfoldable pub reserved : Side → At → Ident → List Note
reserved side at x = if is_reserved_on side x then refusal ReservedName at ∷ [] else []

-- a name that the parts behind see
unfoldable pub adding : Ident → Meaning → Step
adding x m names = record { declared = named_as x m ∷ []; notes = [] }

-- a name with its meaning, where it is not taken
unfoldable pub declaring_where : Bool → At → Ident → Meaning → Step
declaring_where taken at x m names =
    if taken
    then record { declared = []; notes = refusal TwiceDeclared at ∷ [] }
    else record { declared = named_as x m ∷ []; notes = [] }

-- a name of the scope that was opened behind so many names, with its meaning. Of two in one scope the first counts.
unfoldable pub declaring : ℕ → At → Ident → Meaning → Step
declaring from at x m names = declaring_where (is_taken names from x) at x m names
