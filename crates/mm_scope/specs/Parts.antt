-- Names and types of the parts of statements.
use Rattle.std.specs.Prelude.{ℕ, ◌==◌, nat_lt, ◌^◌, Bool, true, false, not, ◌&&◌, List, [], ◌∷◌, ◌++◌, drop, length, codes, nat_eq, Option, Some, None}
use Rattle.std.specs.List.{list_all, starts_with}
use Rattle.std.specs.Char.{is_ascii_digit}
use Rattle.std.specs.Int.{w32, cast_unsigned}
use Rattle.std.specs.Str.Parse.{digits_value}
use Rattle.mm_goto.specs.declared.ident.At.{At}
use Rattle.mm_goto.specs.declared.ident.Ident.{Ident}
use Rattle.mm_tree.specs.Trees.{node_of}
use Rattle.mm_tree.specs.declared.expr.Expr.{Expr}
use Rattle.mm_tree.specs.declared.expr.Node.{Node}
use Rattle.mm_tree.specs.declared.expr.Node.TheOpen as node
use Rattle.mm_tree.specs.declared.expr.Node.TheOpen.{Node-F}
use Rattle.mm_tree.specs.declared.stmt.Left.{Left}
use Rattle.mm_tree.specs.declared.stmt.Value.{Value}
use Rattle.mm_tree.specs.declared.stmt.Value.TheVariants as value
use Rattle.mm_tree.specs.declared.item.Gives.{Gives}
use Rattle.mm_tree.specs.declared.item.Gives.TheVariants as gives
use Rattle.mm_tree.specs.declared.item.Item.{Item}
use Rattle.mm_tree.specs.declared.side.Side.{Side}
use Rattle.mm_tree.specs.declared.side.Side.TheVariants.{Source, Output}
use Rattle.mm_scope.specs.declared.fault.Rule.TheVariants.{OutputOnly, WrongType}
use Rattle.mm_scope.specs.declared.operand.Kind.{Kind}
use Rattle.mm_scope.specs.declared.operand.Kind.TheVariants as kind
use Rattle.mm_scope.specs.declared.operand.Operand.{Operand}
use Rattle.mm_scope.specs.declared.around.Around.{Around}
use Rattle.mm_scope.specs.Expressions.{judged_expr}
use Rattle.mm_scope.specs.Notes.{Note, refusal, an_assertion}
use Rattle.mm_scope.specs.Operands.{Judged, fine, fit, never, of_one}
use Rattle.mm_scope.specs.Scopes.{Names}
use Rattle.mm_scope.specs.Steps.{Step, noting}
use Rattle.mm_scope.specs.Values.{judged_value, judged_left, fit_place}

-- ---- where a statement stands

-- in a scope that is opened behind these names
abbrev pub inner : Around → Names → Around
inner a names = record a { from = length names.locals; outermost = false }

-- behind `if` or `else`
abbrev pub guarded : Around → Around
guarded a = record a { outermost = false }

abbrev pub in_loop : Around → Around
in_loop a = record a { looped = true; outermost = false }

-- ---- parts

abbrev pub noted_expr : Expr → Step
noted_expr e names = noting (judged_expr names e).notes

-- the value at a place of this type
unfoldable pub noted_value : List Item → Around → Option Kind → Value → Step
noted_value items a k v names = noting (of_one (fit_place k) (judged_value items a.caller names v)).notes

unfoldable pub noted_assign : List Item → Around → Left → Value → Step
noted_assign items a l v names =
    let place = judged_left names l in
    noting (place.notes ++ (of_one (fit_place place.operand.kind) (judged_value items a.caller names v)).notes)

unfoldable pub noted_update : Left → Expr → Step
noted_update l e names = noting ((of_one (fit kind.Int) (judged_left names l)).notes ++ (of_one (fit kind.Int) (judged_expr names e)).notes)

-- ---- return

abbrev pub is_nothing_node : Node-F Node Expr → Bool
is_nothing_node (node.Number z) = cast_unsigned w32 z == 0
is_nothing_node node.Null = true
is_nothing_node _ = false

-- 0 or NULL
abbrev pub is_nothing : Value → Bool
is_nothing (value.Plain e) = is_nothing_node (node_of e)
is_nothing _ = false

-- a value that is returned has the type of the function; a thread's function returns 0 or NULL
abbrev pub fit_return : Gives → Bool → Operand → Judged
fit_return gives.Int nothing o = fit kind.Int o
fit_return gives.Pointer nothing o = fit kind.Pointer o
fit_return gives.Nothing nothing o = never o
fit_return gives.Thread true o = fine o
fit_return gives.Thread false o = never o

unfoldable pub returned : List Item → Around → Value → Step
returned items a v names = noting (of_one (fit_return a.gives (is_nothing v)) (judged_value items a.caller names v)).notes

-- ---- assertions

-- a decimal number below 2^32 without leading zero
abbrev pub is_numeral : List ℕ → Bool
is_numeral [] = false
is_numeral (b ∷ bs) =
    (list_all is_ascii_digit (b ∷ bs) && not (b == 48 && not (length bs == 0))) && nat_lt (digits_value 10 (b ∷ bs)) (2 ^ 32)

-- `assertion ` and such a number
abbrev pub is_assertion_text : List ℕ → Bool
is_assertion_text text = starts_with nat_eq text (codes "assertion ") && is_numeral (drop 10 text)

abbrev pub text_fits : Side → Option Ident → Bool
text_fits Source text = true
text_fits Output None = false
text_fits Output (Some text) = is_assertion_text text

abbrev pub refusal_unless : Bool → At → List Note
refusal_unless true at = []
refusal_unless false at = refusal WrongType at ∷ []

-- on the output side every assertion has a numbered text
unfoldable pub asserted : Side → At → Expr → Option Ident → Step
asserted side at e text names = noting ((judged_expr names e).notes ++ refusal_unless (text_fits side text) at ++ an_assertion ∷ [])

-- ---- what stands in a loop, or in an output

abbrev pub output_only : Side → At → List Note
output_only Source at = refusal OutputOnly at ∷ []
output_only Output at = []
