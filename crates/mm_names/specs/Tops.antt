-- Items one behind another: each sees the global names that are declared before it.
use Rattle.std.specs.Prelude.{if◌then◌else◌, List, [], ◌∷◌, ◌++◌}
use Rattle.mm_goto.specs.declared.ident.At.{At}
use Rattle.mm_goto.specs.declared.ident.Ident.{Ident}
use Rattle.mm_tree.specs.declared.side.Side.{Side}
use Rattle.mm_scope.specs.declared.fault.Rule.TheVariants.{TwiceDeclared}
use Rattle.mm_scope.specs.declared.table.Meaning.{Meaning}
use Rattle.mm_scope.specs.declared.walk.Walk.{Walk}
use Rattle.mm_scope.specs.Notes.{Note, refusal, all_noted}
use Rattle.mm_scope.specs.Scopes.{Table, Names, meaning_in, is_declared, with_name}
use Rattle.mm_scope.specs.Steps.{reserved}

-- the global names behind an item, and what is noted in it
pub record Listed : Type 0 where
  pub globals : Table
  pub notes : List Note

abbrev pub Top : Type 0
Top = Names → Listed

abbrev pub with_globals : Names → Table → Names
with_globals names table = record names { globals = table }

unfoldable pub no_more : Top
no_more names = record { globals = names.globals; notes = [] }

-- what declares no global name
unfoldable pub top_notes : (Names → List Note) → Top
top_notes f names = record { globals = names.globals; notes = f names }

abbrev pub with_more : List Note → Listed → Listed
with_more notes l = record l { notes = notes ++ l.notes }

-- the names and the notes behind it
unfoldable pub after_top : Top → Walk → Walk
after_top f w = record { scope = with_globals w.scope (f w.scope).globals; notes = all_noted w.notes (f w.scope).notes }

-- one part, and then another
unfoldable pub top_then : Top → Top → Top
top_then f g names = with_more (f names).notes (g (with_globals names (f names).globals))

-- parts of one sort, one behind another
unfoldable pub tops : {X : Type 0} → (X → Top) → List X → Top
tops f [] = no_more
tops f (x ∷ xs) = top_then (f x) (tops f xs)

-- a global name. Of two the first counts.
unfoldable pub listed : At → Ident → Meaning → Top
listed at x m names =
    if is_declared (meaning_in names.globals x)
    then record { globals = names.globals; notes = refusal TwiceDeclared at ∷ [] }
    else record { globals = with_name names.globals x m; notes = [] }

abbrev pub reserved_at : Side → At → Ident → Names → List Note
reserved_at side at x names = reserved side at x

unfoldable pub listed_name : Side → At → Ident → Meaning → Top
listed_name side at x m = top_then (top_notes (reserved_at side at x)) (listed at x m)
