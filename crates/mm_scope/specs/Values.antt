-- Names and types of what is assigned, returned or called.
use Rattle.std.specs.Prelude.{ℕ, Bool, true, false, not, ◌&&◌, nat_eq, if◌then◌else◌, List, [], ◌∷◌, ◌++◌, length, slice_get, codes, Option, Some, None, is_some}
use Rattle.std.specs.List.{starts_with}
use Rattle.std.specs.Str.{bytes_eq}
use Rattle.mm_goto.specs.declared.ident.At.{At}
use Rattle.mm_goto.specs.declared.ident.Ident.{Ident}
use Rattle.mm_tree.specs.declared.expr.Expr.{Expr}
use Rattle.mm_tree.specs.declared.stmt.Left.{Left}
use Rattle.mm_tree.specs.declared.stmt.LeftNode.{LeftNode}
use Rattle.mm_tree.specs.declared.stmt.LeftNode.TheVariants as left
use Rattle.mm_tree.specs.declared.stmt.Value.{Value}
use Rattle.mm_tree.specs.declared.stmt.Value.TheVariants as value
use Rattle.mm_tree.specs.declared.item.Gives.{Gives}
use Rattle.mm_tree.specs.declared.item.Gives.TheVariants as gives
use Rattle.mm_tree.specs.declared.item.Item.{Item}
use Rattle.mm_tree.specs.declared.item.Item.TheVariants as item
use Rattle.mm_tree.specs.declared.item.Param.{Param}
use Rattle.mm_scope.specs.declared.fault.Rule.{Rule}
use Rattle.mm_scope.specs.declared.fault.Rule.TheVariants.{UnknownName, WrongType}
use Rattle.mm_scope.specs.declared.operand.Kind.{Kind}
use Rattle.mm_scope.specs.declared.operand.Kind.TheVariants.{Int, Pointer, Nothing}
use Rattle.mm_scope.specs.declared.operand.Operand.{Operand}
use Rattle.mm_scope.specs.declared.table.Meaning.{Meaning}
use Rattle.mm_scope.specs.declared.table.Meaning.TheVariants as meaning
use Rattle.mm_scope.specs.declared.expression.Sort.TheVariants.{Variable, Array}
use Rattle.mm_scope.specs.Expressions.{judged_expr, named}
use Rattle.mm_scope.specs.Notes.{Note, refusal, a_call}
use Rattle.mm_scope.specs.Operands.{Judged, made, fine, fit, deref, element, fetch_add, compare_swap, of_one, of_two, of_three}
use Rattle.mm_scope.specs.Scopes.{Names, meaning_of}

abbrev pub kind_if_pointer : Bool → Kind
kind_if_pointer true = Pointer
kind_if_pointer false = Int

-- ---- functions

abbrev pub kind_given : Gives → Option Kind
kind_given gives.Int = Some Int
kind_given gives.Pointer = Some Pointer
kind_given gives.Nothing = Some Nothing
kind_given gives.Thread = None

abbrev pub can_be_called : Ident → Gives → Bool
can_be_called x gives.Thread = false
can_be_called x _ = not (bytes_eq x (codes "main"))

-- ---- calls

-- an argument at the place of a parameter, where there is one
abbrev pub argument : Option Param → Operand → Judged
argument None o = fine o
argument (Some p) o = fit (kind_if_pointer p.pointer) o

abbrev pub rest : List Param → List Param
rest [] = []
rest (p ∷ ps) = ps

abbrev pub judged_argument : Names → Option Param → Expr → Judged
judged_argument names p e = of_one (argument p) (judged_expr names e)

-- each argument has the type of its parameter
unfoldable pub arguments : Names → List Param → List Expr → List Note
arguments names params [] = []
arguments names params (e ∷ es) = (judged_argument names (slice_get params 0) e).notes ++ arguments names (rest params) es

-- no argument is refused
unfoldable pub are_known : Names → List Param → List Expr → Bool
are_known names params [] = true
are_known names params (e ∷ es) = is_some (judged_argument names (slice_get params 0) e).operand.kind && are_known names (rest params) es

abbrev pub call_fault : At → Bool → List Note
call_fault at true = []
call_fault at false = refusal WrongType at ∷ []

abbrev pub kind_where : Bool → Option Kind → Option Kind
kind_where true k = k
kind_where false k = None

abbrev pub input_call : Names → At → List Expr → Judged
input_call names at es = record {
  operand = made at (kind_where (are_known names [] es) (Some Int));
  notes = call_fault at (nat_eq (length es) 0) ++ arguments names [] es;
}

abbrev pub function_call : Names → ℕ → ℕ → At → List Expr → Item → Judged
function_call names caller callee at es (item.Function there gives x params body) = record {
  operand = made at (kind_where (are_known names params es) (kind_given gives));
  notes = (a_call (record { caller = caller; callee = callee; at = at })
      ∷ call_fault at (can_be_called x gives && nat_eq (length es) (length params)))
      ++ arguments names params es;
}
function_call names caller callee at es _ = fine (made at None)

abbrev pub refused_by : At → Option Rule → List Note
refused_by at None = []
refused_by at (Some rule) = refusal rule at ∷ []

abbrev pub other_call : Names → At → List Expr → List Note → Judged
other_call names at es notes = record { operand = made at None; notes = notes ++ arguments names [] es }

abbrev pub numbered_call : Names → ℕ → ℕ → At → List Expr → Option Item → Judged
numbered_call names caller callee at es None = other_call names at es (refusal UnknownName at ∷ [])
numbered_call names caller callee at es (Some i) = function_call names caller callee at es i

abbrev pub call_of : List Item → Names → ℕ → At → List Expr → Option Meaning → Judged
call_of items names caller at es None = other_call names at es (refusal UnknownName at ∷ [])
call_of items names caller at es (Some meaning.Unready) = other_call names at es (refusal UnknownName at ∷ [])
call_of items names caller at es (Some (meaning.Function k)) = numbered_call names caller k at es (slice_get items k)
call_of items names caller at es (Some (meaning.Ahead k)) = numbered_call names caller k at es (slice_get items k)
call_of items names caller at es (Some meaning.Input) = other_call names at es []
call_of items names caller at es (Some _) = other_call names at es (refusal WrongType at ∷ [])

-- a call of a name that begins with nondet_ needs no declaration
unfoldable pub call : List Item → Names → ℕ → At → Ident → List Expr → Judged
call items names caller at x es =
    if starts_with nat_eq x (codes "nondet_") then input_call names at es else call_of items names caller at es (meaning_of names x)

-- ---- values and left sides

unfoldable pub judged_value : List Item → ℕ → Names → Value → Judged
judged_value items caller names (value.Plain e) = judged_expr names e
judged_value items caller names (value.Call at x es) = call items names caller at x es
judged_value items caller names (value.FetchAdd at p e) = of_two (fetch_add at) (judged_expr names p) (judged_expr names e)
judged_value items caller names (value.CompareSwap at p e f) =
    of_three (compare_swap at) (judged_expr names p) (judged_expr names e) (judged_expr names f)

abbrev pub judged_left_node : Names → At → LeftNode → Judged
judged_left_node names at (left.Name x) = named Variable names at x
judged_left_node names at (left.Index x e) = of_two (element at Int) (named Array names at x) (judged_expr names e)
judged_left_node names at (left.Deref e) = of_one (deref at) (judged_expr names e)

unfoldable pub judged_left : Names → Left → Judged
judged_left names l = judged_left_node names l.at l.node

-- the value at a place that has this type, where the place is not refused itself
unfoldable pub fit_place : Option Kind → Operand → Judged
fit_place None v = fine v
fit_place (Some k) v = fit k v
