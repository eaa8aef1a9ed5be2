-- Names in the calls that lock and unlock, and that start and join threads.
use Rattle.std.specs.Prelude.{Bool, true, false, List, [], ◌∷◌, ◌++◌, slice_get, Option, Some, None}
use Rattle.mm_goto.specs.declared.ident.At.{At}
use Rattle.mm_goto.specs.declared.ident.Ident.{Ident}
use Rattle.mm_tree.specs.declared.expr.Word.{Word}
use Rattle.mm_tree.specs.declared.item.Gives.TheVariants as gives
use Rattle.mm_tree.specs.declared.item.Item.{Item}
use Rattle.mm_tree.specs.declared.item.Item.TheVariants as item
use Rattle.mm_scope.specs.declared.fault.Rule.TheVariants.{UnknownName, WrongType, BadThread}
use Rattle.mm_scope.specs.declared.table.Meaning.{Meaning}
use Rattle.mm_scope.specs.declared.table.Meaning.TheVariants as meaning
use Rattle.mm_scope.specs.declared.around.Around.{Around}
use Rattle.mm_scope.specs.Notes.{Note, Use, refusal, a_use}
use Rattle.mm_scope.specs.Scopes.{meaning_of}
use Rattle.mm_scope.specs.Steps.{Step, noting, and_then}

-- ---- mutexes

abbrev pub as_mutex : At → Option Meaning → List Note
as_mutex at None = refusal UnknownName at ∷ []
as_mutex at (Some meaning.Unready) = refusal UnknownName at ∷ []
as_mutex at (Some meaning.Mutex) = []
as_mutex at (Some _) = refusal WrongType at ∷ []

unfoldable pub noted_mutex : Word → Step
noted_mutex w names = noting (as_mutex w.at (meaning_of names w.name))

-- ---- the variable that holds a thread

-- what is refused already, as it stands elsewhere than in the outermost block of main, is not judged again
abbrev pub used_where : Bool → Use → List Note
used_where true u = a_use u ∷ []
used_where false u = []

abbrev pub use_of : Option Ident → Bool → At → Word → Use
use_of function local at w = record { function = function; local = local; variable = w.name; at = at }

abbrev pub as_thread : Bool → Option Ident → At → Word → Option Meaning → List Note
as_thread outermost function at w None = refusal UnknownName w.at ∷ []
as_thread outermost function at w (Some meaning.Unready) = refusal UnknownName w.at ∷ []
as_thread outermost function at w (Some meaning.SharedThread) = used_where outermost (use_of function false at w)
as_thread outermost function at w (Some meaning.Thread) = used_where outermost (use_of function true at w)
as_thread outermost function at w (Some _) = refusal WrongType w.at ∷ []

abbrev pub outside_main : Bool → At → List Note
outside_main true at = []
outside_main false at = refusal BadThread at ∷ []

-- a thread is started with a function, or else joined
unfoldable pub noted_thread : Around → Option Ident → At → Word → Step
noted_thread a function at w names =
    noting (outside_main a.outermost at ++ as_thread a.outermost function at w (meaning_of names w.name))

-- ---- the function that a thread runs

abbrev pub gives_thread : Option Item → Bool
gives_thread (Some (item.Function there gives.Thread x params body)) = true
gives_thread _ = false

abbrev pub as_function : At → Bool → List Note
as_function at true = []
as_function at false = refusal BadThread at ∷ []

abbrev pub as_body : List Item → At → At → Option Meaning → List Note
as_body items at there None = refusal UnknownName there ∷ []
as_body items at there (Some meaning.Unready) = refusal UnknownName there ∷ []
as_body items at there (Some meaning.Input) = refusal BadThread at ∷ []
as_body items at there (Some (meaning.Function k)) = as_function at (gives_thread (slice_get items k))
as_body items at there (Some (meaning.Ahead k)) = as_function at (gives_thread (slice_get items k))
as_body items at there (Some _) = refusal WrongType there ∷ []

unfoldable pub noted_body : List Item → At → Word → Step
noted_body items at f names = noting (as_body items at f.at (meaning_of names f.name))

unfoldable pub started : List Item → Around → At → Word → Word → Step
started items a at w f = and_then (noted_thread a (Some f.name) at w) (noted_body items at f)
