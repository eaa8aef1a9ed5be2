-- Names and types of items.
use Rattle.std.specs.Prelude.{ℕ, ℤ, pos, ◌+◌, nat_eq, Bool, true, false, not, ◌&&◌, if◌then◌else◌, is_some, int_lt, List, [], ◌∷◌, ◌++◌, length, map, slice_get, codes, Option, Some, None}
use Rattle.std.specs.List.{starts_with}
use Rattle.std.specs.Int.{w32, cast_unsigned}
use Rattle.std.specs.Str.{bytes_eq}
use Rattle.mm_goto.specs.declared.ident.At.{At}
use Rattle.mm_goto.specs.declared.ident.Ident.{Ident}
use Rattle.mm_tree.specs.Trees.{place_of, node_of}
use Rattle.mm_tree.specs.declared.expr.Expr.{Expr}
use Rattle.mm_tree.specs.declared.expr.Node.{Node}
use Rattle.mm_tree.specs.declared.expr.Node.TheOpen as node
use Rattle.mm_tree.specs.declared.expr.Node.TheOpen.{Node-F}
use Rattle.mm_tree.specs.declared.expr.Word.{Word}
use Rattle.mm_tree.specs.declared.stmt.Stmt.{Stmt}
use Rattle.mm_tree.specs.declared.item.Gives.{Gives}
use Rattle.mm_tree.specs.declared.item.Gives.TheVariants as gives
use Rattle.mm_tree.specs.declared.item.Global.{Global}
use Rattle.mm_tree.specs.declared.item.Item.{Item}
use Rattle.mm_tree.specs.declared.item.Item.TheVariants as item
use Rattle.mm_tree.specs.declared.item.Param.{Param}
use Rattle.mm_tree.specs.declared.side.Side.{Side}
use Rattle.mm_tree.specs.declared.side.Side.TheVariants.{Source, Output}
use Rattle.mm_scope.specs.declared.fault.Rule.TheVariants.{ReservedName, UnknownName, WrongType}
use Rattle.mm_scope.specs.declared.table.Meaning.{Meaning}
use Rattle.mm_scope.specs.declared.table.Meaning.TheVariants as meaning
use Rattle.mm_scope.specs.declared.around.Around.{Around}
use Rattle.mm_scope.specs.Expressions.{judged_expr}
use Rattle.mm_scope.specs.Notes.{Note, refusal}
use Rattle.mm_scope.specs.Operands.{fit, of_one}
use Rattle.mm_scope.specs.Scopes.{Table, Names, meaning_of, meaning_in, with_name}
use Rattle.mm_scope.specs.Steps.{Step, and_then, in_turn}
use Rattle.mm_scope.specs.Values.{kind_if_pointer}
use Rattle.mm_scope.specs.Declarations.{declared_name}
use Rattle.mm_scope.specs.Statements.{said_stmt, all_at}
use Rattle.mm_names.specs.Labels.{labels_in, all_labels, with_labels, labels_notes}
use Rattle.mm_names.specs.Tops.{Top, no_more, top_notes, top_then, tops, listed, listed_name}

-- ---- global variables

abbrev pub meaning_of_global : Bool → Option ℤ → Meaning
meaning_of_global pointer (Some n) = meaning.Array n
meaning_of_global true None = meaning.Pointer
meaning_of_global false None = meaning.Shared

abbrev pub refused_if : Bool → At → List Note
refused_if true at = refusal WrongType at ∷ []
refused_if false at = []

-- the first constant too many
abbrev pub too_long : Bool → Option Expr → List Note
too_long negative None = []
too_long true (Some e) = []
too_long false (Some e) = refusal WrongType (place_of e) ∷ []

-- an array has an element, and its initialiser is not longer
abbrev pub length_notes : At → List Expr → Option ℤ → List Note
length_notes at es None = []
length_notes at es (Some n) = refused_if (int_lt n (pos 1)) at ++ too_long (int_lt n (pos 0)) (slice_get es (cast_unsigned w32 n))

-- it is the number of an element
abbrev pub is_index : ℤ → Node-F Node Expr → Bool
is_index n (node.Number k) = not (int_lt k (pos 0)) && int_lt k n
is_index n _ = false

abbrev pub index_notes : Expr → Option Meaning → List Note
index_notes i (Some (meaning.Array n)) = refused_if (not (is_index n (node_of i))) (place_of i)
index_notes i _ = []

-- in an address the index is below the length
abbrev pub address_notes : Names → Node-F Node Expr → List Note
address_notes names (node.AddrIndex w i) = index_notes i (meaning_of names w.name)
address_notes names _ = []

unfoldable pub start_notes : Bool → Expr → Names → List Note
start_notes pointer e names = (of_one (fit (kind_if_pointer pointer)) (judged_expr names e)).notes ++ address_notes names (node_of e)

abbrev pub noted_length : Global → Names → List Note
noted_length g names = length_notes g.at g.init g.len

unfoldable pub listed_start : Bool → Expr → Top
listed_start pointer e = top_notes (start_notes pointer e)

unfoldable pub listed_global : Side → Global → Top
listed_global side g =
    top_then (listed_name side g.at g.name (meaning_of_global g.pointer g.len))
    (top_then (top_notes (noted_length g)) (tops (listed_start g.pointer) g.init))

-- ---- functions

abbrev pub is_main : Item → Bool
is_main (item.Function at gives.Int x [] body) = bytes_eq x (codes "main")
is_main _ = false

abbrev pub meaning_of_param : Gives → Bool → Meaning
meaning_of_param gives.Thread pointer = meaning.Handed
meaning_of_param _ true = meaning.Pointer
meaning_of_param _ false = meaning.Int

unfoldable pub declared_param : Around → Param → Step
declared_param a p = declared_name a p.name.at p.name.name (meaning_of_param a.gives p.pointer)

-- where the statements of a function stand, behind so many local names
abbrev pub in_function : Side → ℕ → Item → Gives → ℕ → Around
in_function side k i gives from =
    record { side = side; caller = k; gives = gives; from = from; looped = false; outermost = is_main i }

-- the parameters and the outermost block are one scope
unfoldable pub body_of : List Item → Table → Around → List Param → List Stmt → Step
body_of items labels a params body = and_then (in_turn (declared_param a) params) (all_at a (map (said_stmt items labels) body))

abbrev pub labels_of : List Stmt → List Word
labels_of body = all_labels (map labels_in body)

unfoldable pub function_notes : Side → List Item → ℕ → Item → Gives → List Param → List Stmt → Names → List Note
function_notes side items k i gives params body names =
    labels_notes side [] (labels_of body)
    ++ (body_of items (with_labels [] (labels_of body)) (in_function side k i gives (length names.locals)) params body names).notes

-- ---- items

abbrev pub woven_prototype : Side → At → Bool → List Note
woven_prototype Source at true = refusal ReservedName at ∷ []
woven_prototype Source at false = []
woven_prototype Output at woven = []

abbrev pub unknown_prototype : At → Bool → List Note
unknown_prototype at true = []
unknown_prototype at false = refusal UnknownName at ∷ []

-- a function without a body may begin with nondet_, and must
abbrev pub input_notes : Side → At → Ident → Names → List Note
input_notes side at x names =
    woven_prototype side at (starts_with nat_eq x (codes "wm_")) ++ unknown_prototype at (starts_with nat_eq x (codes "nondet_"))

unfoldable pub listed_input : Side → At → Ident → Top
listed_input side at x = top_then (top_notes (input_notes side at x)) (listed at x meaning.Input)

unfoldable pub listed_word : Side → Meaning → Word → Top
listed_word side m w = listed_name side w.at w.name m

-- item k of the program
unfoldable pub listed_item : Side → List Item → ℕ → Item → Top
listed_item side items k (item.Globals gs) = tops (listed_global side) gs
listed_item side items k (item.Mutexes ws) = tops (listed_word side meaning.Mutex) ws
listed_item side items k (item.Threads ws) = tops (listed_word side meaning.SharedThread) ws
listed_item side items k (item.InputDecl at x) = listed_input side at x
listed_item side items k (item.Function at gives x params body) =
    top_then (listed_name side at x (meaning.Function k))
    (top_notes (function_notes side items k (item.Function at gives x params body) gives params body))

-- the items from number k on
unfoldable pub listed_items : Side → List Item → ℕ → List Item → Top
listed_items side items k [] = no_more
listed_items side items k (i ∷ is) = top_then (listed_item side items k i) (listed_items side items (k + 1) is)

-- ---- functions before their text

-- functions may be used before their text; of two with one name the first counts
abbrev pub with_ahead : Table → ℕ → Item → Table
with_ahead table k (item.Function at gives x params body) =
    if is_some (meaning_in table x) then table else with_name table x (meaning.Ahead k)
with_ahead table k _ = table

unfoldable pub ahead : Table → ℕ → List Item → Table
ahead table k [] = table
ahead table k (i ∷ is) = ahead (with_ahead table k i) (k + 1) is
