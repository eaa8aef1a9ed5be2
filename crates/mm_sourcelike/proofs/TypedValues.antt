-- The code of what is assigned, returned or called fits the types, and so does that of assignments.
use Rattle.std.proofs.Common.{arith, ◌≡◌, ℕ, pos, ◌+◌, ◌≤◌, nat_eq, Bool, true, false, IsTrue, IsSomeAnd, is_some, if◌then◌else◌, List, [], ◌∷◌, ◌++◌, length, codes, rules, refl, ◌∙◌, sym, ap, subst, Option, Some, None}
use Rattle.std.specs.List.{AllByRecursion, slice_get, starts_with}
use Rattle.mm_goto.specs.declared.ident.At.{At}
use Rattle.mm_goto.specs.declared.ident.Ident.{Ident}
use Rattle.mm_goto.specs.declared.program.Cell.{Cell}
use Rattle.mm_goto.specs.declared.program.Thread.{Thread}
use Rattle.mm_goto.specs.declared.pure.Pure.{Pure}
use Rattle.mm_goto.specs.declared.pure.Binary.{Binary}
use Rattle.mm_goto.specs.Kinds.{Kinds, IsOf, IsRowOfInts, kinds_of}
use Rattle.mm_goto.specs.Listing.{Listing}
use Rattle.mm_goto.specs.Locals.{rows_of, rows_step}
use Rattle.mm_goto.specs.Parts.{addressed, addressed_step, arrays_of, arrays_step}
use Rattle.mm_goto.specs.Sourcelike.{IsSingle, IsWholeArray}
use Rattle.mm_goto.specs.Terms.{the_local, combined}
use Rattle.mm_tree.specs.declared.expr.Expr.{Expr}
use Rattle.mm_tree.specs.declared.expr.Node.{Node, the_lemmas as expr_lemmas}
use Rattle.mm_tree.specs.declared.expr.Node.TheOpen as node
use Rattle.mm_tree.specs.declared.expr.Node.TheOpen.{Node-F}
use Rattle.mm_tree.specs.declared.expr.Node.TheFolds.{map-Node}
use Rattle.mm_tree.specs.declared.item.Gives.{Gives}
use Rattle.mm_tree.specs.declared.item.Gives.TheVariants as gives
use Rattle.mm_tree.specs.declared.item.Item.{Item}
use Rattle.mm_tree.specs.declared.item.Param.{Param}
use Rattle.mm_tree.specs.declared.stmt.Left.{Left}
use Rattle.mm_tree.specs.declared.stmt.LeftNode.{LeftNode}
use Rattle.mm_tree.specs.declared.stmt.LeftNode.TheVariants as left
use Rattle.mm_tree.specs.declared.stmt.Value.{Value}
use Rattle.mm_tree.specs.declared.stmt.Value.TheVariants as value
use Rattle.mm_tree.specs.Trees.{node_of, place_of}
use Rattle.mm_flow.specs.declared.names.Named.{Named}
use Rattle.mm_flow.specs.declared.names.Spot.{Spot}
use Rattle.mm_flow.specs.Expressions.{Scope, Reading, Val, Vals, Aim, address_at, indexed, followed, reading, node_value, node_step, expr_value, values, the_spot, zero_value}
use Rattle.mm_flow.specs.Scopes.{spot_of}
use Rattle.mm_flow.specs.Statements.{Function, Within, scope, function_of, bound, input, sets, called, call_of, call_value, aim_of, aim_at, value_of, local_left, left_aim, assigned_to, assigned, updated_to, updated}
use Rattle.mm_flow.specs.Words.{address, element}
use Rattle.mm_scope.specs.declared.expression.Sort.TheVariants as sort
use Rattle.mm_scope.specs.declared.operand.Kind.{Kind}
use Rattle.mm_scope.specs.declared.operand.Kind.TheVariants.{Int, Pointer, Nothing}
use Rattle.mm_scope.specs.declared.operand.Operand.{Operand}
use Rattle.mm_scope.specs.Expressions.{judged_expr, named as judged_name}
use Rattle.mm_scope.specs.Notes.{Note}
use Rattle.mm_scope.specs.Operands.{Judged, made, fit, fits}
use Rattle.mm_scope.specs.Scopes.{Names, meaning_of}
use Rattle.mm_scope.specs.Values.{judged_value, judged_left, judged_left_node, call, call_of as judged_call, call_fault, input_call, can_be_called, arguments, are_known, judged_argument, kind_given, kind_where, kind_if_pointer, fit_place}
use Rattle.mm_sourcelike.proofs.Growth.{grows, node_reading, values_grow}
use Rattle.mm_sourcelike.proofs.Judging.{ValueFits, OperandFits, KindIs, Known, is_pointer, as_value, typed_of, fit_int, fit_as, fit_known, element_makes, deref_makes, fetch_makes, swap_makes, ints_make, and_true}
use Rattle.mm_sourcelike.proofs.Lengthening.{CallsGrow, aim_grows, left_grows, value_grows}
use Rattle.mm_sourcelike.proofs.Pures.{fold_address, fold_element}
use Rattle.mm_sourcelike.proofs.Scoping.{NoFault, HasFunction, IsSound, Reads, fault_left, fault_right, none_is_not, same_some}
use Rattle.mm_sourcelike.proofs.Tables.{true_is_not}
use Rattle.mm_sourcelike.proofs.TypedExpressions.{Fits, FitsTarget, FitsFlow, FitsVal, FitsAim, set_to, cell_fits, indexed_fits, followed_fits, division_fits, expr_typed}
use Rattle.mm_sourcelike.proofs.TypedNames.{GlobalsFit, SeesTypes, VariableIs, a_local, a_global, variable_is, array_is}
use Rattle.mm_sourcelike.proofs.TypedPures.{Tidy, SingleFits, constant_tidy, local_tidy, combined_tidy, element_kinds, combined_kinds, local_fits, zero_is}
use Rattle.mm_sourcelike.proofs.Typing.{Typing, still, over, both, fresh, then_fresh}
use Rattle.mm_sourcelike.proofs.Valuing.{IsCall, fault_of_call, is_call, same_count}

-- ---- called functions

abbrev pub gives_pointer : Gives → Bool
gives_pointer gives.Int = false
gives_pointer gives.Pointer = true
gives_pointer gives.Nothing = false
gives_pointer gives.Thread = false

-- the locals of parameters have their types
abbrev pub ParamsTyped : (ℕ → Bool) → List Param → ℕ → Type 0
ParamsTyped q [] n = Unit {0}
ParamsTyped q (a ∷ ps) n = (q n ≡ a.pointer) × ParamsTyped q ps (n + 1)

params_typing : (ps : List Param) (n : ℕ) → Typing n (n + length ps) (λ q. ParamsTyped q ps n)
params_typing [] n =
    let is : n ≡ n + length {A = Param} [] = omega arith in
    subst (λ m. Typing n m (λ q. ParamsTyped q [] n)) is (still n (λ q. ParamsTyped q [] n) (λ q. tt))
params_typing (a ∷ ps) n =
    let is : n + 1 + length ps ≡ n + length (a ∷ ps) = omega arith in
    subst (λ m. Typing n m (λ q. ParamsTyped q (a ∷ ps) n)) is
    (both n (n + 1) (n + 1 + length ps) (λ q. q n ≡ a.pointer) (λ q. ParamsTyped q ps (n + 1)) (omega arith) (omega arith) (fresh n a.pointer) (params_typing ps (n + 1)))

-- the function is found with these parameters, and there are types for the locals of its code
pub record IsTyped (p : Listing) (w : Within) (x : Ident) (params : List Param) (g : Gives) : Type 0 where
  pub function : Function
  pub is : function_of w.items w.parts.asserts x ≡ Some function
  pub params_are : function.params ≡ params
  pub code : (n m ret : ℕ) → Typing m (w.inline function (bound function.params n) m ret).known.next (λ q. ParamsTyped q function.params n → q ret ≡ gives_pointer g → FitsFlow p q (w.inline function (bound function.params n) m ret).flow)

pub record TypedCalls (p : Listing) (items : List Item) (w : Within) : Type 0 where
  pub each : (x : Ident) (k : ℕ) (h : HasFunction items x k) → can_be_called x h.gives ≡ true → IsTyped p w x h.params h.gives

-- ---- values

pub record FitsValue (p : Listing) (q : ℕ → Bool) (o : Operand) (v : Val) : Type 0 where
  pub flow : FitsFlow p q v.flow
  pub kind : ValueFits (kinds_of q v.pure) o.kind o.zero
  pub tidy : Tidy p v.pure

from_expr : (p : Listing) (q : ℕ → Bool) (o : Operand) (v : Val) → FitsVal p q o v → FitsValue p q o v
from_expr p q o v h = record { flow = h.flow; kind = as_value (kinds_of q v.pure) o.kind o.zero h.kind; tidy = h.tidy }

by_made : (p : Listing) (q : ℕ → Bool) (o r : Operand) (v : Val) → o ≡ r → FitsValue p q r v → FitsValue p q o v
by_made p q o r v e h = subst (λ s. FitsValue p q s v) (sym e) h

-- an expression of a type
as_type : (q : ℕ → Bool) (e : Pure) (b : Bool) → KindIs (kinds_of q e) b → IsOf q e b
as_type q e true h = h
as_type q e false h = h

pub zero_kind : (q : ℕ → Bool) (b : Bool) → KindIs (kinds_of q zero_value) b
zero_kind q true = zero_is q true
zero_kind q false = zero_is q false

-- each value has the type of its parameter
abbrev ArgsAre : Listing → (ℕ → Bool) → List Param → List Pure → Type 0
ArgsAre p q [] [] = Unit {0}
ArgsAre p q (a ∷ ps) (e ∷ es) = (KindIs (kinds_of q e) a.pointer × Tidy p e) × ArgsAre p q ps es
ArgsAre p q [] (e ∷ es) = ⊥
ArgsAre p q (a ∷ ps) [] = ⊥

sets_typed : (p : Listing) (q : ℕ → Bool) (at : At) (ps : List Param) (es : List Pure) (n : ℕ) → ParamsTyped q ps n → ArgsAre p q ps es → FitsFlow p q (sets at es n)
sets_typed p q at [] [] n t h = tt
sets_typed p q at (a ∷ ps) (e ∷ es) n t h = (set_to p q n e a.pointer t.0 h.0.0 h.0.1, sets_typed p q at ps es (n + 1) t.1 h.1)
sets_typed p q at [] (e ∷ es) n t h = absurd h
sets_typed p q at (a ∷ ps) [] n t h = absurd h

reading_is : (e : Expr) → reading e ≡ node_step (map-Node Node Expr (At → Reading) Reading node_reading reading (node_of e)) (place_of e)
unfolding reading
reading_is e = search (rules, expr_lemmas)

-- the value of an expression as its layer has it
value_is : (e : Expr) (s : Scope) (n : ℕ) → expr_value e s n ≡ node_value (map-Node Node Expr (At → Reading) Reading node_reading reading (node_of e)) (place_of e) s n
value_is e s n = ap (λ (r : Reading). r.value s n) (reading_is e)

record FitsVals (p : Listing) (q : ℕ → Bool) (params : List Param) (vs : Vals) : Type 0 where
  flow : FitsFlow p q vs.flow
  args : ArgsAre p q params vs.pures

module _ (p : Listing) (items : List Item) (names : Names) (s : Scope) (g : GlobalsFit p items s.spots) (sound : IsSound s.spots p.mutexes items names.globals) where
  abbrev Sees : (ℕ → Bool) → Type 0
  Sees q = SeesTypes q names.locals s.names

  expr_at : (e : Expr) (n : ℕ) → NoFault (judged_expr names e).notes → Typing n (expr_value e s n).next (λ q. Sees q → FitsVal p q (judged_expr names e).operand (expr_value e s n))
  expr_at e n f = expr_typed p items names e s n g sound f

  -- ---- arguments

  values_typed : (params : List Param) (es : List Expr) (n : ℕ) → length es ≡ length params → NoFault (arguments names params es)
      → Typing n (values s es n).next (λ q. Sees q → FitsVals p q params (values s es n) × (are_known names params es ≡ true))
  unfolding arguments are_known
  values_typed [] [] n c f = still n _ (λ q sees. (record { flow = tt; args = tt }, refl))
  values_typed (a ∷ ps) [] n c f = absurd (omega (arith, c))
  values_typed [] (e ∷ es) n c f = absurd (omega (arith, c))
  values_typed (a ∷ ps) (e ∷ es) n c f =
      let notes : List Note = (judged_argument names (Some a) e).notes in
      let one = fault_left notes (arguments names ps es) f in
      let v : Val = expr_value e s n in
      let vs : Vals = values s es v.next in
      over n vs.next _ _ (λ q h sees.
      let first = h.0 sees in
      let more = h.1 sees in
      let o : Operand = (judged_expr names e).operand in
      let fine = fault_right (judged_expr names e).notes (fit (kind_if_pointer a.pointer) o).notes one in
      let value = as_value (kinds_of q v.pure) o.kind o.zero first.kind in (
        record { flow = (first.flow, more.0.flow); args = ((fit_as a.pointer o (kinds_of q v.pure) fine value, first.tidy), more.0.args) },
        and_true (is_some (fit (kind_if_pointer a.pointer) o).operand.kind) (are_known names ps es) (some_of (fit (kind_if_pointer a.pointer) o).operand.kind (fit_known a.pointer o (kinds_of q v.pure) fine value)) more.1,
      ))
      (both n v.next vs.next (λ q. Sees q → FitsVal p q (judged_expr names e).operand v) (λ q. Sees q → FitsVals p q ps vs × (are_known names ps es ≡ true)) (grows e s n) (values_grow s es v.next)
      (expr_at e n (fault_left (judged_expr names e).notes _ one)) (values_typed ps es v.next (omega (arith, c)) (fault_right notes (arguments names ps es) f)))
    where
      some_of : (k : Option Kind) → Known k → is_some k ≡ true
      some_of (Some k) h = refl
      some_of None h = absurd h

  -- ---- what a locked instruction accesses

  aim_next : (at there : At) (e : Expr) (d : Node-F Node Expr) (n : ℕ) → expr_value e s n ≡ node_value (map-Node Node Expr (At → Reading) Reading node_reading reading d) there s n → (expr_value e s n).next ≡ (aim_of s at e d n).next
  aim_next at there e (node.AddrName w) n is = ap (λ (v : Val). v.next) is
  aim_next at there e (node.AddrIndex w x) n is = ap (λ (v : Val). v.next) is
  aim_next at there e (node.Number z) n is = refl
  aim_next at there e node.Null n is = refl
  aim_next at there e (node.Name x) n is = refl
  aim_next at there e (node.Index x y) n is = refl
  aim_next at there e (node.Deref x) n is = refl
  aim_next at there e (node.Un op x) n is = refl
  aim_next at there e (node.Bin op x y) n is = refl
  aim_next at there e (node.Cond x y z) n is = refl

  -- the address of a cell names it, and that of an element its array
  address_single : (c : ℕ) → Tidy p (address c) → SingleFits p c false
  address_single c h =
      let ints : AllByRecursion (IsRowOfInts p) (record { first = c; len = 1 } ∷ []) = subst (AllByRecursion (IsRowOfInts p)) (fold_address rows_step c) h.ints in
      let singles : AllByRecursion (IsSingle p) (c ∷ []) = subst (AllByRecursion (IsSingle p)) (fold_address addressed_step c) h.singles in
      let is : c + 0 ≡ c = omega arith in
      record { pointer = subst (λ d. IsSomeAnd (slice_get p.cells d) (λ (cell : Cell). cell.pointer ≡ false)) is (ints.0 0 (omega arith)); single = singles.0 }

  element_whole : (first len : ℕ) (x : Pure) → Tidy p (element first len x) → IsWholeArray p (record { first = first; len = len }) × Tidy p x
  element_whole first len x h =
      let ints : AllByRecursion (IsRowOfInts p) (record { first = first; len = len } ∷ rows_of x) = subst (AllByRecursion (IsRowOfInts p)) (fold_element rows_step first len x) h.ints in
      let arrays : AllByRecursion (IsWholeArray p) (record { first = first; len = len } ∷ arrays_of x) = subst (AllByRecursion (IsWholeArray p)) (fold_element arrays_step first len x) h.arrays in
      let singles : AllByRecursion (IsSingle p) (addressed x) = subst (AllByRecursion (IsSingle p)) (fold_element addressed_step first len x) h.singles in
      (arrays.0, record { ints = ints.1; arrays = arrays.1; singles = singles })

  element_aim : (q : ℕ → Bool) (at there : At) (spot : Spot) (i : Val) (o : Operand) → IsTrue (kinds_of q (element spot.first spot.len i.pure)).pointer → FitsVal p q o (address_at there spot i) → FitsAim p q false (indexed at spot i)
  element_aim q at there spot i o k h =
      let parts = element_whole spot.first spot.len i.pure h.tidy in
      record { flow = h.flow; target = (refl, (subst (λ (ks : Kinds). IsTrue ks.pointer) (element_kinds q spot.first spot.len i.pure) k, parts.1), parts.0) }

  aim_by : (q : ℕ → Bool) (at there : At) (e : Expr) (d : Node-F Node Expr) (n : ℕ) (o : Operand) → expr_value e s n ≡ node_value (map-Node Node Expr (At → Reading) Reading node_reading reading d) there s n
      → IsTrue (kinds_of q (expr_value e s n).pure).pointer → FitsVal p q o (expr_value e s n) → FitsAim p q false (aim_of s at e d n)
  aim_by q at there e (node.AddrName w) n o is k h = cell_fits p q (the_spot (spot_of s.spots w.name)) n false (address_single (the_spot (spot_of s.spots w.name)).first (subst (λ (v : Val). Tidy p v.pure) is h.tidy))
  aim_by q at there e (node.AddrIndex w x) n o is k h =
      element_aim q at there (the_spot (spot_of s.spots w.name)) (expr_value x s n) o (subst (λ (v : Val). IsTrue (kinds_of q v.pure).pointer) is k) (subst (FitsVal p q o) is h)
  aim_by q at there e (node.Number z) n o is k h = followed_fits p q at o (expr_value e s n) k h
  aim_by q at there e node.Null n o is k h = followed_fits p q at o (expr_value e s n) k h
  aim_by q at there e (node.Name x) n o is k h = followed_fits p q at o (expr_value e s n) k h
  aim_by q at there e (node.Index x y) n o is k h = followed_fits p q at o (expr_value e s n) k h
  aim_by q at there e (node.Deref x) n o is k h = followed_fits p q at o (expr_value e s n) k h
  aim_by q at there e (node.Un op x) n o is k h = followed_fits p q at o (expr_value e s n) k h
  aim_by q at there e (node.Bin op x y) n o is k h = followed_fits p q at o (expr_value e s n) k h
  aim_by q at there e (node.Cond x y z) n o is k h = followed_fits p q at o (expr_value e s n) k h

  -- a pointer's value, and what it points to where it is one
  record Aims (at : At) (e : Expr) (n : ℕ) (q : ℕ → Bool) : Type 0 where
    value : OperandFits (kinds_of q (expr_value e s n).pure) (judged_expr names e).operand
    aim : IsTrue (kinds_of q (expr_value e s n).pure).pointer → FitsAim p q false (aim_at s at e n)

  aim_typed : (at : At) (e : Expr) (n : ℕ) → NoFault (judged_expr names e).notes → Typing n (aim_at s at e n).next (λ q. Sees q → Aims at e n q)
  aim_typed at e n f =
      subst (λ m. Typing n m (λ q. Sees q → Aims at e n q)) (aim_next at (place_of e) e (node_of e) n (value_is e s n))
      (over n (expr_value e s n).next (λ q. Sees q → FitsVal p q (judged_expr names e).operand (expr_value e s n)) (λ q. Sees q → Aims at e n q) (λ q h sees.
      let v = h sees in
      record { value = v.kind; aim = λ k. aim_by q at (place_of e) e (node_of e) n (judged_expr names e).operand (value_is e s n) k v })
      (expr_at e n f))

  -- ---- left sides

  -- what is judged of a left side has this type, and is no number
  abbrev pub LeftIs : Operand → Type 0
  LeftIs o = o.kind ≡ Some (kind_if_pointer (is_pointer o.kind))

  int_left : (at : At) (o : Operand) → o ≡ made at (Some Int) → LeftIs o × (is_pointer o.kind ≡ false)
  int_left at o e = subst (λ (r : Operand). LeftIs r × (is_pointer r.kind ≡ false)) (sym e) (refl, refl)

  left_typed : (at : At) (l : LeftNode) (n : ℕ) → NoFault (judged_left_node names at l).notes → local_left s.names l ≡ None
      → Typing n (left_aim s at l n).next (λ q. Sees q → FitsAim p q (is_pointer (judged_left_node names at l).operand.kind) (left_aim s at l n) × LeftIs (judged_left_node names at l).operand)
  left_typed at (left.Name x) n f none = still n _ (λ q sees.
      let o : Operand = (judged_name sort.Variable names at x).operand in
      let v = variable_is p items s.spots g q s.names x at names sound sees f in
      (cell_fits p q (the_spot (spot_of s.spots x)) n (is_pointer o.kind) (of_global q o v.place), v.kind))
    where
      of_global : (q : ℕ → Bool) (o : Operand) → VariableIs p s.spots q s.names x (is_pointer o.kind) → SingleFits p (the_spot (spot_of s.spots x)).first (is_pointer o.kind)
      of_global q o (a_local h) = absurd (none_is_not h.local (sym none ∙ h.is))
      of_global q o (a_global e h) = h
  left_typed at (left.Index x e) n f none =
      let a : List Note = (judged_name sort.Array names at x).notes in
      let i : List Note = (judged_expr names e).notes in
      let parts = fault_left (a ++ i) _ f in
      let v : Val = expr_value e s n in
      let spot : Spot = the_spot (spot_of s.spots x) in
      over n v.next (λ q. Sees q → FitsVal p q (judged_expr names e).operand v) _ (λ q h sees.
      let array = array_is p items s.spots g q s.names x at names sound sees (fault_left a i parts) in
      let index = h sees in
      let r = element_makes at Int (judged_name sort.Array names at x).operand (judged_expr names e).operand (kinds_of q v.pure) (fault_right (a ++ i) _ f) array.0 index.kind in
      let is = int_left at (judged_left_node names at (left.Index x e)).operand r.1 in
      (subst (λ b. FitsAim p q b (indexed at spot v)) (sym is.1) (indexed_fits p q at spot (judged_expr names e).operand v r.0 index array.1), is.0))
      (expr_at e n (fault_right a i parts))
  left_typed at (left.Deref e) n f none =
      let i : List Note = (judged_expr names e).notes in
      let v : Val = expr_value e s n in
      over n v.next (λ q. Sees q → FitsVal p q (judged_expr names e).operand v) _ (λ q h sees.
      let pointer = h sees in
      let r = deref_makes at (judged_expr names e).operand (kinds_of q v.pure) (fault_right i _ f) pointer.kind in
      let is = int_left at (judged_left_node names at (left.Deref e)).operand r.1 in
      (subst (λ b. FitsAim p q b (followed at v)) (sym is.1) (followed_fits p q at (judged_expr names e).operand v r.0 pointer), is.0))
      (expr_at e n (fault_left i _ f))

  -- a left side that is a local has its type
  left_local : (q : ℕ → Bool) (at : At) (l : LeftNode) (t : ℕ) → Sees q → NoFault (judged_left_node names at l).notes → local_left s.names l ≡ Some t → (q t ≡ is_pointer (judged_left_node names at l).operand.kind) × LeftIs (judged_left_node names at l).operand
  left_local q at (left.Name x) t sees f e =
      let v = variable_is p items s.spots g q s.names x at names sound sees f in
      (of_local (judged_name sort.Variable names at x).operand v.place, v.kind)
    where
      of_local : (o : Operand) → VariableIs p s.spots q s.names x (is_pointer o.kind) → q t ≡ is_pointer o.kind
      of_local o (a_local h) = subst (λ k. q k ≡ is_pointer o.kind) (same_some h.local t (sym h.is ∙ e)) h.type
      of_local o (a_global none h) = absurd (none_is_not t (sym none ∙ e))
  left_local q at (left.Index x i) t sees f e = absurd (none_is_not t e)
  left_local q at (left.Deref i) t sees f e = absurd (none_is_not t e)

-- ---- calls and values

-- the local for what a function gives
given_fits : (q : ℕ → Bool) (x : Ident) (g : Gives) (ret : ℕ) → can_be_called x g ≡ true → q ret ≡ gives_pointer g → ValueFits (kinds_of q (the_local ret)) (kind_given g) false
given_fits q x gives.Int ret c e = local_fits q ret false e
given_fits q x gives.Pointer ret c e = local_fits q ret true e
given_fits q x gives.Nothing ret c e = refl
given_fits q x gives.Thread ret c e = true_is_not (sym c)

no_arguments : (names : Names) (at : At) (es : List Expr) (ns : List Note) → NoFault (call_fault at (nat_eq (length es) 0) ++ ns) → are_known names [] es ≡ true
unfolding are_known
no_arguments names at [] ns f = refl
no_arguments names at (e ∷ es) ns f = absurd (omega (arith, same_count (length (e ∷ es)) 0 (fault_of_call at (nat_eq (length (e ∷ es)) 0) ns f).0))

module _ (p : Listing) (t : Thread) (items : List Item) (names : Names) (w : Within) (named : List Named) (g : GlobalsFit p items w.parts.spots) (calls : TypedCalls p items w) (grow : CallsGrow w) (r : Reads p t items w.parts.spots named names) where
  abbrev SeesAll : (ℕ → Bool) → Type 0
  SeesAll q = SeesTypes q names.locals named

  abbrev s : Scope
  s = scope w named

  aim_long : (at : At) (d : Expr) (n : ℕ) → n ≤ (aim_at s at d n).next
  aim_long at d n = aim_grows s at d (node_of d) n

  left_long : (at : At) (l : LeftNode) (n : ℕ) → n ≤ (left_aim s at l n).next
  left_long at l n = left_grows s at l n

  called_typed : (at : At) (x : Ident) (es : List Expr) (n : ℕ) (o : Operand) → IsCall items names x es at o → (f : Function) → function_of w.items w.parts.asserts x ≡ Some f → Typing n (called w at es named n f).next (λ q. SeesAll q → FitsValue p q o (called w at es named n f))
  called_typed at x es n o c f e = subst (λ (h : Function). Typing n (called w at es named n h).next (λ q. SeesAll q → FitsValue p q o (called w at es named n h))) (same_some (calls.each x c.k c.function c.can).function f (sym (calls.each x c.k c.function c.can).is ∙ e)) whole
    where
      typed : IsTyped p w x c.function.params c.function.gives
      typed = calls.each x c.k c.function c.can

      callee : Function
      callee = typed.function

      ret : ℕ
      ret = n + length callee.params

      args : Vals
      args = values s es (ret + 1)

      params : List Param
      params = c.function.params

      b : Bool
      b = gives_pointer c.function.gives

      end : ℕ
      end = (w.inline callee (bound callee.params n) args.next ret).known.next

      Body : (ℕ → Bool) → Type 0
      Body q = ParamsTyped q callee.params n → q ret ≡ b → FitsFlow p q (w.inline callee (bound callee.params n) args.next ret).flow

      Args : (ℕ → Bool) → Type 0
      Args q = SeesAll q → FitsVals p q params args × (are_known names params es ≡ true)

      up : args.next ≤ end
      up = grow callee (bound callee.params n) args.next ret

      over_args : ret + 1 ≤ args.next
      over_args = values_grow s es (ret + 1)

      parts : Typing n end (λ q. ParamsTyped q callee.params n × ((q ret ≡ b) × (Args q × Body q)))
      parts =
          both n ret end (λ q. ParamsTyped q callee.params n) (λ q. (q ret ≡ b) × (Args q × Body q)) (omega arith) (omega (arith, over_args, up)) (params_typing callee.params n)
          (both ret (ret + 1) end (λ q. q ret ≡ b) (λ q. Args q × Body q) (omega arith) (omega (arith, over_args, up)) (fresh ret b)
          (both (ret + 1) args.next end Args Body over_args up (values_typed p items names s g r.globals params es (ret + 1) c.count c.args) (typed.code n args.next ret)))

      whole : Typing n (called w at es named n callee).next (λ q. SeesAll q → FitsValue p q o (called w at es named n callee))
      whole = over n end _ _ (λ q h sees.
          let vs = h.1.1.0 sees in
          let sets_fit = sets_typed p q at params args.pures n (subst (λ ps. ParamsTyped q ps n) typed.params_are h.0) vs.0.args in
          let known : made at (kind_where (are_known names params es) (kind_given c.function.gives)) ≡ made at (kind_given c.function.gives) = ap (λ k. made at (kind_where k (kind_given c.function.gives))) vs.1 in
          by_made p q o (made at (kind_given c.function.gives)) (called w at es named n callee) (c.operand ∙ known) (record {
            flow = (vs.0.flow, (sets_fit, (set_to p q ret zero_value b h.1.0 (zero_kind q b) (constant_tidy p (pos 0)), h.1.1.1 h.0 h.1.0)));
            kind = given_fits q x c.function.gives ret c.can h.1.0;
            tidy = local_tidy p ret;
          })) parts

  pub value_typed : (caller n : ℕ) (v : Value) → NoFault (judged_value items caller names v).notes → Typing n (value_of w named n v).next (λ q. SeesAll q → FitsValue p q (judged_value items caller names v).operand (value_of w named n v))
  unfolding judged_value call
  value_typed caller n (value.Plain e) f = over n (expr_value e s n).next (λ q. SeesAll q → FitsVal p q (judged_expr names e).operand (expr_value e s n)) _ (λ q h sees. from_expr p q (judged_expr names e).operand (expr_value e s n) (h sees)) (expr_at p items names s g r.globals e n f)
  value_typed caller n (value.Call at x es) f = by (starts_with nat_eq x (codes "nondet_")) refl f
    where
      judged : Bool → Judged
      judged b = if b then input_call names at es else judged_call items names caller at es (meaning_of names x)

      found_function : (c : IsCall items names x es at (judged false).operand) (o : Option Function) → function_of w.items w.parts.asserts x ≡ o → Typing n (call_of w at es named n o).next (λ q. SeesAll q → FitsValue p q (judged false).operand (call_of w at es named n o))
      found_function c None e = absurd (none_is_not (calls.each x c.k c.function c.can).function (sym e ∙ (calls.each x c.k c.function c.can).is))
      found_function c (Some h) e = called_typed at x es n (judged false).operand c h e

      by : (b : Bool) → starts_with nat_eq x (codes "nondet_") ≡ b → NoFault (judged b).notes → Typing n (call_value w at x es named n b).next (λ q. SeesAll q → FitsValue p q (judged b).operand (call_value w at x es named n b))
      by true e h = over n (n + 1) (λ q. q n ≡ false) _ (λ q k sees.
          by_made p q (judged true).operand (made at (Some Int)) (input at n) (ap (λ c. made at (kind_where c (Some Int))) (no_arguments names at es (arguments names [] es) h)) (record { flow = k; kind = local_fits q n false k; tidy = local_tidy p n })) (fresh n false)
      by false e h = found_function (is_call items names caller at x es p t w.parts.spots named r e h) (function_of w.items w.parts.asserts x) refl
  value_typed caller n (value.FetchAdd at d e) f =
      let i : List Note = (judged_expr names d).notes in
      let j : List Note = (judged_expr names e).notes in
      let parts = fault_left (i ++ j) _ f in
      let m : ℕ = (aim_at s at d n).next in
      let v : Val = expr_value e s m in
      over n (v.next + 1) _ _ (λ q h sees.
      let pointer = h.0.0 sees in
      let added = h.0.1 sees in
      let k = fetch_makes at (judged_expr names d).operand (judged_expr names e).operand (kinds_of q (expr_value d s n).pure) (kinds_of q v.pure) (fault_right (i ++ j) _ f) pointer.value added.kind in
      let aim = pointer.aim k.0 in
      by_made p q _ (made at (Some Int)) _ k.2 (record { flow = (aim.flow, (added.flow, (h.1, aim.target, (k.1, added.tidy)))); kind = local_fits q v.next false h.1; tidy = local_tidy p v.next }))
      (then_fresh n v.next (λ q. (SeesAll q → Aims p items names s g r.globals at d n q) × (SeesAll q → FitsVal p q (judged_expr names e).operand v)) false (omega (arith, aim_long at d n, grows e s m))
      (both n m v.next (λ q. SeesAll q → Aims p items names s g r.globals at d n q) (λ q. SeesAll q → FitsVal p q (judged_expr names e).operand v) (aim_long at d n) (grows e s m)
      (aim_typed p items names s g r.globals at d n (fault_left i j parts)) (expr_at p items names s g r.globals e m (fault_right i j parts))))
  value_typed caller n (value.CompareSwap at d e c) f =
      let i : List Note = (judged_expr names d).notes in
      let j : List Note = (judged_expr names e).notes in
      let l : List Note = (judged_expr names c).notes in
      let parts = fault_left ((i ++ j) ++ l) _ f in
      let front = fault_left (i ++ j) l parts in
      let m : ℕ = (aim_at s at d n).next in
      let v : Val = expr_value e s m in
      let u : Val = expr_value c s v.next in
      over n (u.next + 1) _ _ (λ q h sees.
      let pointer = h.0.0 sees in
      let old = h.0.1.0 sees in
      let new = h.0.1.1 sees in
      let k = swap_makes at (judged_expr names d).operand (judged_expr names e).operand (judged_expr names c).operand (kinds_of q (expr_value d s n).pure) (kinds_of q v.pure) (kinds_of q u.pure) (fault_right ((i ++ j) ++ l) _ f) pointer.value old.kind new.kind in
      let aim = pointer.aim k.0 in
      by_made p q _ (made at (Some Int)) _ k.3 (record { flow = (aim.flow, (old.flow, (new.flow, (h.1, aim.target, (k.1, old.tidy), (k.2, new.tidy))))); kind = local_fits q u.next false h.1; tidy = local_tidy p u.next }))
      (then_fresh n u.next (λ q. (SeesAll q → Aims p items names s g r.globals at d n q) × ((SeesAll q → FitsVal p q (judged_expr names e).operand v) × (SeesAll q → FitsVal p q (judged_expr names c).operand u))) false (omega (arith, aim_long at d n, grows e s m, grows c s v.next))
      (both n m u.next (λ q. SeesAll q → Aims p items names s g r.globals at d n q) (λ q. (SeesAll q → FitsVal p q (judged_expr names e).operand v) × (SeesAll q → FitsVal p q (judged_expr names c).operand u)) (aim_long at d n) (omega (arith, grows e s m, grows c s v.next))
      (aim_typed p items names s g r.globals at d n (fault_left i j front))
      (both m v.next u.next (λ q. SeesAll q → FitsVal p q (judged_expr names e).operand v) (λ q. SeesAll q → FitsVal p q (judged_expr names c).operand u) (grows e s m) (grows c s v.next)
      (expr_at p items names s g r.globals e m (fault_right i j front)) (expr_at p items names s g r.globals c v.next (fault_right (i ++ j) l parts)))))

  -- ---- assignments

  fitted : (k : Option Kind) (o : Operand) (ks : Kinds) → k ≡ Some (kind_if_pointer (is_pointer k)) → NoFault (fit_place k o).notes → ValueFits ks o.kind o.zero → KindIs ks (is_pointer k)
  unfolding fit_place
  fitted k o ks e f h = fit_as (is_pointer k) o ks (subst (λ c. NoFault (fit_place c o).notes) e f) h

  assigned_by : (caller n : ℕ) (l : Left) (v : Value) (o : Option ℕ) → local_left named l.node ≡ o → NoFault (judged_left_node names l.at l.node).notes → NoFault (judged_value items caller names v).notes → NoFault (fit_place (judged_left_node names l.at l.node).operand.kind (judged_value items caller names v).operand).notes
      → Typing n (assigned_to w named n l v o).next (λ q. SeesAll q → FitsFlow p q (assigned_to w named n l v o).flow)
  assigned_by caller n l v (Some m) e fl fv ff =
      let k : Option Kind = (judged_left_node names l.at l.node).operand.kind in
      let u : Val = value_of w named n v in
      over n u.next (λ q. SeesAll q → FitsValue p q (judged_value items caller names v).operand u) _ (λ q h sees.
      let value = h sees in
      let place = left_local p items names s g r.globals q l.at l.node m sees fl e in
      (value.flow, set_to p q m u.pure (is_pointer k) place.0 (fitted k (judged_value items caller names v).operand (kinds_of q u.pure) place.1 ff value.kind) value.tidy)) (value_typed caller n v fv)
  assigned_by caller n l v None e fl fv ff =
      let k : Option Kind = (judged_left_node names l.at l.node).operand.kind in
      let a : Aim = left_aim s l.at l.node n in
      let u : Val = value_of w named a.next v in
      over n u.next _ _ (λ q h sees.
      let place = h.0 sees in
      let value = h.1 sees in
      let same = as_type q u.pure (is_pointer k) (fitted k (judged_value items caller names v).operand (kinds_of q u.pure) place.1 ff value.kind) in
      (place.0.flow, (value.flow, (is_pointer k, place.0.target, (same, value.tidy)))))
      (both n a.next u.next (λ q. SeesAll q → FitsAim p q (is_pointer k) a × LeftIs p items names s g r.globals (judged_left_node names l.at l.node).operand) (λ q. SeesAll q → FitsValue p q (judged_value items caller names v).operand u) (left_long l.at l.node n) (value_grows w named a.next v grow)
      (left_typed p items names s g r.globals l.at l.node n fl e) (value_typed caller a.next v fv))

  pub assigned_typed : (caller n : ℕ) (l : Left) (v : Value) → NoFault (judged_left names l).notes → NoFault (judged_value items caller names v).notes → NoFault (fit_place (judged_left names l).operand.kind (judged_value items caller names v).operand).notes
      → Typing n (assigned w named n l v).next (λ q. SeesAll q → FitsFlow p q (assigned w named n l v).flow)
  unfolding assigned judged_left
  assigned_typed caller n l v fl fv ff = assigned_by caller n l v (local_left named l.node) refl fl fv ff

  -- what an update joins
  joined_fits : (q : ℕ → Bool) (op : Binary) (m : ℕ) (e : Pure) → q m ≡ false → IsTrue (kinds_of q e).int → Tidy p e → Fits p q (combined op (the_local m) e) false
  joined_fits q op m e is k h = (
    subst (λ (ks : Kinds). IsTrue ks.int) (sym (combined_kinds q op (the_local m) e)) (ints_make op (kinds_of q (the_local m)) (kinds_of q e) (local_fits q m false is) k),
    combined_tidy p op (the_local m) e (local_tidy p m) h,
  )

  -- the place of an update is an int
  int_place : (o : Operand) → o.kind ≡ Some (kind_if_pointer (is_pointer o.kind)) → NoFault (fit Int o).notes → is_pointer o.kind ≡ false
  unfolding fit fits
  int_place o e f = by o.at o.zero o.kind f
    where
      by : (at : At) (z : Bool) (k : Option Kind) → NoFault (fit Int (record { at = at; zero = z; kind = k })).notes → is_pointer k ≡ false
      by at z (Some Int) h = refl
      by at z (Some Pointer) h = absurd h
      by at z (Some Nothing) h = refl
      by at z None h = refl

  updated_by : (n : ℕ) (l : Left) (op : Binary) (e : Expr) (o : Option ℕ) → local_left named l.node ≡ o → NoFault (judged_left_node names l.at l.node).notes → NoFault (fit Int (judged_left_node names l.at l.node).operand).notes → NoFault (judged_expr names e).notes → NoFault (fit Int (judged_expr names e).operand).notes
      → Typing n (updated_to w named n l op e o).next (λ q. SeesAll q → FitsFlow p q (updated_to w named n l op e o).flow)
  updated_by n l op e (Some m) is fl il fe ie =
      let v : Val = expr_value e s n in
      let j : Operand = (judged_left_node names l.at l.node).operand in
      over n v.next (λ q. SeesAll q → FitsVal p q (judged_expr names e).operand v) _ (λ q h sees.
      let value = h sees in
      let place = left_local p items names s g r.globals q l.at l.node m sees fl is in
      let int = fit_int (judged_expr names e).operand (kinds_of q v.pure) ie (as_value (kinds_of q v.pure) (judged_expr names e).operand.kind (judged_expr names e).operand.zero value.kind) in
      let type : q m ≡ false = place.0 ∙ int_place j place.1 il in
      let whole = joined_fits q op m v.pure type int.0 value.tidy in
      (value.flow, (division_fits p q op l.at v.pure (typed_of (kinds_of q v.pure) (judged_expr names e).operand.kind (judged_expr names e).operand.zero value.kind) value.tidy, set_to p q m (combined op (the_local m) v.pure) false type whole.0 whole.1)))
      (expr_at p items names s g r.globals e n fe)
  updated_by n l op e None is fl il fe ie =
      let j : Operand = (judged_left_node names l.at l.node).operand in
      let a : Aim = left_aim s l.at l.node n in
      let m : ℕ = a.next in
      let v : Val = expr_value e s (m + 1) in
      over n v.next _ _ (λ q h sees.
      let place = h.0.0 sees in
      let value = h.1 sees in
      let int = fit_int (judged_expr names e).operand (kinds_of q v.pure) ie (as_value (kinds_of q v.pure) (judged_expr names e).operand.kind (judged_expr names e).operand.zero value.kind) in
      let target = subst (FitsTarget p q a.target) (int_place j place.1 il) place.0.target in
      let whole = joined_fits q op m v.pure h.0.1 int.0 value.tidy in
      (place.0.flow, (subst (FitsTarget p q a.target) (sym h.0.1) target, (value.flow, (division_fits p q op l.at v.pure (typed_of (kinds_of q v.pure) (judged_expr names e).operand.kind (judged_expr names e).operand.zero value.kind) value.tidy, (false, target, whole))))))
      (both n (m + 1) v.next (λ q. (SeesAll q → FitsAim p q (is_pointer j.kind) a × LeftIs p items names s g r.globals j) × (q m ≡ false)) (λ q. SeesAll q → FitsVal p q (judged_expr names e).operand v) (omega (arith, left_long l.at l.node n)) (grows e s (m + 1))
      (then_fresh n m (λ q. SeesAll q → FitsAim p q (is_pointer j.kind) a × LeftIs p items names s g r.globals j) false (left_long l.at l.node n) (left_typed p items names s g r.globals l.at l.node n fl is))
      (expr_at p items names s g r.globals e (m + 1) fe))

  pub updated_typed : (n : ℕ) (l : Left) (op : Binary) (e : Expr) → NoFault (judged_left names l).notes → NoFault (fit Int (judged_left names l).operand).notes → NoFault (judged_expr names e).notes → NoFault (fit Int (judged_expr names e).operand).notes
      → Typing n (updated w named n l op e).next (λ q. SeesAll q → FitsFlow p q (updated w named n l op e).flow)
  unfolding judged_left
  updated_typed n l op e fl il fe ie = updated_by n l op e (local_left named l.node) refl fl il fe ie
