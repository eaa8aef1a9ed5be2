-- What is noted in a value, a left side or a call without its places is what is noted in it, without places.
use Rattle.std.proofs.Common.{◌≡◌, ℕ, nat_eq, Bool, true, false, ◌&&◌, if◌then◌else◌, List, [], ◌∷◌, ◌++◌, map, length, slice_get, codes, is_some, refl, ◌∙◌, ap, Option, Some, None}
use Rattle.std.specs.List.{starts_with}
use Rattle.std.specs.Option.{option_map}
use Rattle.std.proofs.lemmas.List.{length-map}
use Rattle.std.proofs.lemmas.Option.{slice_get-map}
use Rattle.mm_goto.specs.declared.ident.At.{At}
use Rattle.mm_goto.specs.declared.ident.Ident.{Ident}
use Rattle.mm_tree.specs.Places.{nowhere, bare_expr, bare_left_node, bare_left, bare_value, bare_param, bare_item}
use Rattle.mm_tree.specs.declared.expr.Expr.{Expr}
use Rattle.mm_tree.specs.declared.item.Gives.{Gives}
use Rattle.mm_tree.specs.declared.item.Gives.TheVariants as gives
use Rattle.mm_tree.specs.declared.item.Item.{Item}
use Rattle.mm_tree.specs.declared.item.Item.TheVariants as item
use Rattle.mm_tree.specs.declared.item.Param.{Param}
use Rattle.mm_tree.specs.declared.stmt.Left.{Left}
use Rattle.mm_tree.specs.declared.stmt.LeftNode.{LeftNode}
use Rattle.mm_tree.specs.declared.stmt.LeftNode.TheVariants as left
use Rattle.mm_tree.specs.declared.stmt.Value.{Value}
use Rattle.mm_tree.specs.declared.stmt.Value.TheVariants as value
use Rattle.mm_scope.specs.declared.fault.Rule.TheVariants.{UnknownName, WrongType}
use Rattle.mm_scope.specs.declared.expression.Sort.TheVariants as sort
use Rattle.mm_scope.specs.declared.operand.Kind.{Kind}
use Rattle.mm_scope.specs.declared.operand.Kind.TheVariants as kind
use Rattle.mm_scope.specs.declared.operand.Operand.{Operand}
use Rattle.mm_scope.specs.declared.table.Meaning.{Meaning}
use Rattle.mm_scope.specs.declared.table.Meaning.TheVariants as meaning
use Rattle.mm_scope.specs.Expressions.{judged_expr, named}
use Rattle.mm_scope.specs.Notes.{Note, a_call, refusal}
use Rattle.mm_scope.specs.Operands.{Judged, made, deref, element, fetch_add, compare_swap}
use Rattle.mm_scope.specs.Parts.{fit_return}
use Rattle.mm_scope.specs.Scopes.{Names, meaning_of}
use Rattle.mm_scope.specs.Values.{kind_if_pointer, kind_given, kind_where, judged_argument, argument, rest, arguments, are_known, call_fault, can_be_called, input_call, function_call, other_call, numbered_call, call_of, call, judged_value, judged_left, judged_left_node, fit_place}
use Rattle.mm_sensible.proofs.BareOperands.{bare_note, bare_notes, bare_both, bare_operand, bare_judged, bare_one, bare_two, bare_three, fit_bare, never_bare, deref_bare, element_bare, fetch_add_bare, compare_swap_bare, named_bare, expr_bare}

-- ---- arguments

argument_rule : (p : Option Param) (o : Operand) → argument (option_map bare_param p) (bare_operand o) ≡ bare_judged (argument p o)
argument_rule None o = refl
argument_rule (Some p) o = fit_bare (kind_if_pointer p.pointer) o

argument_bare : (names : Names) (p : Option Param) (e : Expr) → judged_argument names (option_map bare_param p) (bare_expr e) ≡ bare_judged (judged_argument names p e)
argument_bare names p e = bare_one (argument (option_map bare_param p)) (argument p) (judged_expr names (bare_expr e)) (judged_expr names e) (argument_rule p) (expr_bare names e)

rest_bare : (ps : List Param) → rest (map bare_param ps) ≡ map bare_param (rest ps)
rest_bare [] = refl
rest_bare (p ∷ ps) = refl

-- the argument at the place of the first parameter
first_bare : (names : Names) (ps : List Param) (e : Expr) → judged_argument names (slice_get (map bare_param ps) 0) (bare_expr e) ≡ bare_judged (judged_argument names (slice_get ps 0) e)
first_bare names ps e = ap (λ p. judged_argument names p (bare_expr e)) (slice_get-map bare_param ps 0) ∙ argument_bare names (slice_get ps 0) e

arguments_bare : (names : Names) (ps : List Param) (es : List Expr) → arguments names (map bare_param ps) (map bare_expr es) ≡ bare_notes (arguments names ps es)
unfolding arguments
arguments_bare names ps [] = refl
arguments_bare names ps (e ∷ es) =
    bare_both (judged_argument names (slice_get ps 0) e).notes (arguments names (rest ps) es)
    (ap (λ (j : Judged). j.notes) (first_bare names ps e))
    (ap (λ qs. arguments names qs (map bare_expr es)) (rest_bare ps) ∙ arguments_bare names (rest ps) es)

known_bare : (names : Names) (ps : List Param) (es : List Expr) → are_known names (map bare_param ps) (map bare_expr es) ≡ are_known names ps es
unfolding are_known
known_bare names ps [] = refl
known_bare names ps (e ∷ es) =
    ap (λ (j : Judged). is_some j.operand.kind && are_known names (rest (map bare_param ps)) (map bare_expr es)) (first_bare names ps e)
    ∙ ap (λ b. is_some (judged_argument names (slice_get ps 0) e).operand.kind && b) (ap (λ qs. are_known names qs (map bare_expr es)) (rest_bare ps) ∙ known_bare names (rest ps) es)

-- ---- calls

call_fault_bare : (at : At) (b : Bool) → call_fault nowhere b ≡ bare_notes (call_fault at b)
call_fault_bare at true = refl
call_fault_bare at false = refl

abbrev judged_as : Option Kind → List Note → Judged
judged_as k ns = record { operand = made nowhere k; notes = ns }

module _ (items : List Item) (names : Names) (caller : ℕ) (at : At) (x : Ident) (es : List Expr) where
  abbrev fs : List Expr
  fs = map bare_expr es

  other_bare : (old : List Note) → other_call names nowhere fs (bare_notes old) ≡ bare_judged (other_call names at es old)
  other_bare old = ap (judged_as None) (bare_both old (arguments names [] es) refl (arguments_bare names [] es))

  function_bare : (k : ℕ) (i : Item) → function_call names caller k nowhere fs (bare_item i) ≡ bare_judged (function_call names caller k at es i)
  function_bare k (item.Function there g y ps ss) =
      ap (λ b. judged_as (kind_where b (kind_given g)) new) (known_bare names ps es)
      ∙ ap (judged_as (kind_where (are_known names ps es) (kind_given g))) (bare_both (the_call ∷ fault) (arguments names ps es) (ap (λ ns. bare_note the_call ∷ ns) faults) (arguments_bare names ps es))
    where
      the_call : Note
      the_call = a_call (record { caller = caller; callee = k; at = at })

      fault : List Note
      fault = call_fault at (can_be_called y g && nat_eq (length es) (length ps))

      new : List Note
      new = (bare_note the_call ∷ call_fault nowhere (can_be_called y g && nat_eq (length fs) (length (map bare_param ps)))) ++ arguments names (map bare_param ps) fs

      faults : call_fault nowhere (can_be_called y g && nat_eq (length fs) (length (map bare_param ps))) ≡ bare_notes fault
      faults =
          ap (λ n. call_fault nowhere (can_be_called y g && nat_eq n (length (map bare_param ps)))) (length-map es bare_expr)
          ∙ ap (λ n. call_fault nowhere (can_be_called y g && nat_eq (length es) n)) (length-map ps bare_param)
          ∙ call_fault_bare at (can_be_called y g && nat_eq (length es) (length ps))
  function_bare k (item.Globals gs) = refl
  function_bare k (item.Mutexes ws) = refl
  function_bare k (item.Threads ws) = refl
  function_bare k (item.InputDecl there y) = refl

  numbered_bare : (k : ℕ) (o : Option Item) → numbered_call names caller k nowhere fs (option_map bare_item o) ≡ bare_judged (numbered_call names caller k at es o)
  numbered_bare k None = other_bare (refusal UnknownName at ∷ [])
  numbered_bare k (Some i) = function_bare k i

  at_bare : (k : ℕ) → numbered_call names caller k nowhere fs (slice_get (map bare_item items) k) ≡ bare_judged (numbered_call names caller k at es (slice_get items k))
  at_bare k = ap (numbered_call names caller k nowhere fs) (slice_get-map bare_item items k) ∙ numbered_bare k (slice_get items k)

  call_of_bare : (o : Option Meaning) → call_of (map bare_item items) names caller nowhere fs o ≡ bare_judged (call_of items names caller at es o)
  call_of_bare None = other_bare (refusal UnknownName at ∷ [])
  call_of_bare (Some meaning.Unready) = other_bare (refusal UnknownName at ∷ [])
  call_of_bare (Some (meaning.Function k)) = at_bare k
  call_of_bare (Some (meaning.Ahead k)) = at_bare k
  call_of_bare (Some meaning.Input) = other_bare []
  call_of_bare (Some meaning.Shared) = other_bare (refusal WrongType at ∷ [])
  call_of_bare (Some meaning.Int) = other_bare (refusal WrongType at ∷ [])
  call_of_bare (Some meaning.Pointer) = other_bare (refusal WrongType at ∷ [])
  call_of_bare (Some (meaning.Array n)) = other_bare (refusal WrongType at ∷ [])
  call_of_bare (Some meaning.Mutex) = other_bare (refusal WrongType at ∷ [])
  call_of_bare (Some meaning.SharedThread) = other_bare (refusal WrongType at ∷ [])
  call_of_bare (Some meaning.Thread) = other_bare (refusal WrongType at ∷ [])
  call_of_bare (Some meaning.Handed) = other_bare (refusal WrongType at ∷ [])
  call_of_bare (Some meaning.Label) = other_bare (refusal WrongType at ∷ [])

  input_bare : input_call names nowhere fs ≡ bare_judged (input_call names at es)
  input_bare =
      ap (λ b. judged_as (kind_where b (Some kind.Int)) (call_fault nowhere (nat_eq (length fs) 0) ++ arguments names [] fs)) (known_bare names [] es)
      ∙ ap (judged_as (kind_where (are_known names [] es) (Some kind.Int))) (bare_both (call_fault at (nat_eq (length es) 0)) (arguments names [] es) faults (arguments_bare names [] es))
    where
      faults : call_fault nowhere (nat_eq (length fs) 0) ≡ bare_notes (call_fault at (nat_eq (length es) 0))
      faults = ap (λ n. call_fault nowhere (nat_eq n 0)) (length-map es bare_expr) ∙ call_fault_bare at (nat_eq (length es) 0)

  call_bare : call (map bare_item items) names caller nowhere x fs ≡ bare_judged (call items names caller at x es)
  unfolding call
  call_bare = by (starts_with nat_eq x (codes "nondet_"))
    where
      by : (b : Bool) → (if b then input_call names nowhere fs else call_of (map bare_item items) names caller nowhere fs (meaning_of names x)) ≡ bare_judged (if b then input_call names at es else call_of items names caller at es (meaning_of names x))
      by true = input_bare
      by false = call_of_bare (meaning_of names x)

-- ---- values and left sides

pub value_bare : (items : List Item) (caller : ℕ) (names : Names) (v : Value) → judged_value (map bare_item items) caller names (bare_value v) ≡ bare_judged (judged_value items caller names v)
unfolding judged_value
value_bare items caller names (value.Plain e) = expr_bare names e
value_bare items caller names (value.Call at x es) = call_bare items names caller at x es
value_bare items caller names (value.FetchAdd at p e) =
    bare_two (fetch_add nowhere) (fetch_add at) (judged_expr names (bare_expr p)) (judged_expr names (bare_expr e)) (judged_expr names p) (judged_expr names e) (fetch_add_bare at) (expr_bare names p) (expr_bare names e)
value_bare items caller names (value.CompareSwap at p e f) =
    bare_three (compare_swap nowhere) (compare_swap at) (judged_expr names (bare_expr p)) (judged_expr names (bare_expr e)) (judged_expr names (bare_expr f)) (judged_expr names p) (judged_expr names e) (judged_expr names f)
    (compare_swap_bare at) (expr_bare names p) (expr_bare names e) (expr_bare names f)

left_node_bare : (names : Names) (at : At) (l : LeftNode) → judged_left_node names nowhere (bare_left_node l) ≡ bare_judged (judged_left_node names at l)
left_node_bare names at (left.Name x) = named_bare sort.Variable names at x
left_node_bare names at (left.Index x e) =
    bare_two (element nowhere kind.Int) (element at kind.Int) (named sort.Array names nowhere x) (judged_expr names (bare_expr e)) (named sort.Array names at x) (judged_expr names e) (element_bare at kind.Int) (named_bare sort.Array names at x) (expr_bare names e)
left_node_bare names at (left.Deref e) = bare_one (deref nowhere) (deref at) (judged_expr names (bare_expr e)) (judged_expr names e) (deref_bare at) (expr_bare names e)

pub left_bare : (names : Names) (l : Left) → judged_left names (bare_left l) ≡ bare_judged (judged_left names l)
unfolding judged_left
left_bare names l = left_node_bare names l.at l.node

pub fit_place_bare : (k : Option Kind) (o : Operand) → fit_place k (bare_operand o) ≡ bare_judged (fit_place k o)
unfolding fit_place
fit_place_bare None o = refl
fit_place_bare (Some k) o = fit_bare k o

pub fit_return_bare : (g : Gives) (b : Bool) (o : Operand) → fit_return g b (bare_operand o) ≡ bare_judged (fit_return g b o)
fit_return_bare gives.Int b o = fit_bare kind.Int o
fit_return_bare gives.Pointer b o = fit_bare kind.Pointer o
fit_return_bare gives.Nothing b o = never_bare o
fit_return_bare gives.Thread true o = refl
fit_return_bare gives.Thread false o = never_bare o
