-- The code of what is assigned, returned or called stands in its thread, and so does that of left sides.
use Rattle.std.proofs.Common.{arith, ◌≡◌, ℕ, suc, ℤ, ◌+◌, ◌<◌, ◌≤◌, nat_eq, Bool, true, false, ◌&&◌, if◌then◌else◌, List, [], ◌∷◌, ◌++◌, length, codes, rules, refl, ◌∙◌, sym, ap, subst, Option, Some, None}
use Rattle.std.specs.List.{AllByRecursion, slice_get, starts_with}
use Rattle.std.specs.Option.{option_or}
use Rattle.std.proofs.lemmas.Bool.Decides.{nat_tests}
use Rattle.mm_goto.specs.declared.ident.At.{At}
use Rattle.mm_goto.specs.declared.ident.Ident.{Ident}
use Rattle.mm_goto.specs.declared.pure.Pure.{Pure}
use Rattle.mm_goto.specs.declared.pure.Binary.{Binary}
use Rattle.mm_goto.specs.declared.program.Thread.{Thread}
use Rattle.mm_goto.specs.Listing.{Listing}
use Rattle.mm_goto.specs.Terms.{the_local}
use Rattle.mm_goto.specs.Valid.{IsInt, IsPureIn}
use Rattle.mm_goto.proofs.Within.{local_in}
use Rattle.mm_tree.specs.declared.expr.Expr.{Expr}
use Rattle.mm_tree.specs.declared.expr.Node.{Node, the_lemmas as expr_lemmas}
use Rattle.mm_tree.specs.declared.expr.Node.TheOpen as node
use Rattle.mm_tree.specs.declared.expr.Node.TheOpen.{Node-F}
use Rattle.mm_tree.specs.declared.expr.Node.TheFolds.{map-Node}
use Rattle.mm_tree.specs.declared.item.Item.{Item}
use Rattle.mm_tree.specs.declared.item.Item.TheVariants as item
use Rattle.mm_tree.specs.declared.item.Param.{Param}
use Rattle.mm_tree.specs.declared.stmt.Left.{Left}
use Rattle.mm_tree.specs.declared.stmt.LeftNode.{LeftNode}
use Rattle.mm_tree.specs.declared.stmt.LeftNode.TheVariants as left
use Rattle.mm_tree.specs.declared.stmt.Value.{Value}
use Rattle.mm_tree.specs.declared.stmt.Value.TheVariants as value
use Rattle.mm_tree.specs.Trees.{node_of, place_of}
use Rattle.mm_flow.specs.declared.names.Named.{Named}
use Rattle.mm_flow.specs.declared.names.Spot.{Spot}
use Rattle.mm_flow.specs.Expressions.{Scope, Vals, Aim, expr_value, values, the_spot}
use Rattle.mm_flow.specs.Scopes.{spot_of}
use Rattle.mm_flow.specs.Statements.{Function, Within, scope, function_of, bound, sets, called, call_of, call_value, aim_of, aim_at, value_of, local_left, left_aim, assigned_to, assigned, updated_to, updated}
use Rattle.mm_scope.specs.declared.expression.Sort.TheVariants as sort
use Rattle.mm_scope.specs.declared.operand.Operand.{Operand}
use Rattle.mm_scope.specs.declared.table.Meaning.{Meaning}
use Rattle.mm_scope.specs.declared.table.Meaning.TheVariants as meaning
use Rattle.mm_scope.specs.Expressions.{judged_expr, judged_node, judged_node_step, named as judged_name}
use Rattle.mm_scope.specs.Notes.{Note}
use Rattle.mm_scope.specs.Operands.{Judged, made}
use Rattle.mm_scope.specs.Scopes.{Names, found, meaning_in, meaning_of}
use Rattle.mm_scope.specs.Values.{judged_value, judged_left, judged_left_node, call, call_of as judged_call, numbered_call, call_fault, input_call, can_be_called, arguments, are_known, rest, judged_argument, kind_given, kind_where}
use Rattle.mm_sourcelike.specs.Ints.{numbers_of, node_numbers, all_numbers, of_value, of_left}
use Rattle.mm_sourcelike.proofs.Evaluating.{all_left, all_right, FlowIn, ValIn, AimIn, node_ints, cell_in, indexed_in, followed_in, division_in, expr_fine}
use Rattle.mm_sourcelike.proofs.Growth.{grows, values_grow}
use Rattle.mm_sourcelike.proofs.Lengthening.{CallsGrow, value_grows}
use Rattle.mm_sourcelike.proofs.Pures.{zero_in, combined_in}
use Rattle.mm_sourcelike.proofs.Resolving.{spot_row, variable_spot, array_spot, shared_spot}
use Rattle.mm_sourcelike.proofs.Scoping.{NoFault, fault_left, fault_right, HasFunction, Means, Stands, Reads}

-- ---- what called functions must be

-- the function has as many parameters as these, and its code is in range
pub record IsCallable (p : Listing) (t : Thread) (w : Within) (f : Function) (params : List Param) : Type 0 where
  pub count : length f.params ≡ length params
  pub code : (n m ret : ℕ) → n + length f.params ≤ t.locals → ret < t.locals → (w.inline f (bound f.params n) m ret).known.next ≤ t.locals → FlowIn p t (w.inline f (bound f.params n) m ret).flow

-- what code stands in is as the program has it
pub record IsGood (p : Listing) (t : Thread) (items : List Item) (w : Within) : Type 0 where
  pub mutexes : w.parts.mutexes ≡ p.mutexes
  pub starts : length p.threads ≡ 1 + length w.parts.starts
  pub ret : (l : ℕ) → w.ret ≡ Some l → l < t.locals
  pub grow : CallsGrow w
  pub calls : (x : Ident) (k : ℕ) (h : HasFunction items x k) (f : Function) → can_be_called x h.gives ≡ true → function_of w.items w.parts.asserts x ≡ Some f → IsCallable p t w f h.params

-- ---- calls that are accepted

-- a function of the text may be called with these arguments, and this is what the call is judged to be
pub record IsCall (items : List Item) (names : Names) (x : Ident) (es : List Expr) (at : At) (o : Operand) : Type 0 where
  pub k : ℕ
  pub function : HasFunction items x k
  pub can : can_be_called x function.gives ≡ true
  pub count : length es ≡ length function.params
  pub args : NoFault (arguments names function.params es)
  pub operand : o ≡ made at (kind_where (are_known names function.params es) (kind_given function.gives))

pub test_first : (a b : Bool) → (a && b) ≡ true → a ≡ true
test_first true b e = refl
test_first false b e = e

pub test_second : (a b : Bool) → (a && b) ≡ true → b ≡ true
test_second true b e = e
test_second false b e = absurd (false_is_not e)
  where
    false_is_not : false ≡ true → ⊥
    false_is_not q = cc

pub same_count : (m n : ℕ) → nat_eq m n ≡ true → m ≡ n
same_count m n e = grind (arith, nat_tests)

pub fault_of_call : (at : At) (b : Bool) (ns : List Note) → NoFault (call_fault at b ++ ns) → (b ≡ true) × NoFault ns
fault_of_call at true ns h = (refl, h)
fault_of_call at false ns h = absurd h

module _ (items : List Item) (names : Names) (caller : ℕ) (at : At) (x : Ident) (es : List Expr) where
  numbered : (k : ℕ) (h : HasFunction items x k) → NoFault (numbered_call names caller k at es (slice_get items k)).notes → IsCall items names x es at (numbered_call names caller k at es (slice_get items k)).operand
  numbered k h f =
      let g : NoFault (numbered_call names caller k at es (Some (item.Function h.at h.gives x h.params h.body))).notes = subst (λ o. NoFault (numbered_call names caller k at es o).notes) h.is f in
      let r = fault_of_call at (can_be_called x h.gives && nat_eq (length es) (length h.params)) (arguments names h.params es) g in
      record { k = k; function = h; can = test_first (can_be_called x h.gives) (nat_eq (length es) (length h.params)) r.0; count = same_count (length es) (length h.params) (test_second (can_be_called x h.gives) (nat_eq (length es) (length h.params)) r.0); args = r.1; operand = ap (λ o. (numbered_call names caller k at es o).operand) h.is }

  of_local : (named : List Named) (m : Meaning) → Stands named x m → NoFault (judged_call items names caller at es (Some m)).notes → ⊥
  of_local named meaning.Int s f = f
  of_local named meaning.Pointer s f = f
  of_local named meaning.Thread s f = f
  of_local named meaning.Handed s f = f
  of_local named meaning.Unready s f = f
  of_local named meaning.Shared s f = s
  of_local named (meaning.Array n) s f = s
  of_local named meaning.Mutex s f = s
  of_local named meaning.SharedThread s f = s
  of_local named (meaning.Function k) s f = s
  of_local named (meaning.Ahead k) s f = s
  of_local named meaning.Input s f = s
  of_local named meaning.Label s f = s

  of_global : (spots : List Spot) (mutexes : List Ident) (m : Meaning) → starts_with nat_eq x (codes "nondet_") ≡ false → Means spots mutexes items x m → NoFault (judged_call items names caller at es (Some m)).notes → IsCall items names x es at (judged_call items names caller at es (Some m)).operand
  of_global spots mutexes (meaning.Function k) e s f = numbered k s f
  of_global spots mutexes (meaning.Ahead k) e s f = numbered k s f
  of_global spots mutexes meaning.Input e s f = absurd (apart (sym e ∙ s))
    where
      apart : false ≡ true → ⊥
      apart q = cc
  of_global spots mutexes meaning.Shared e s f = absurd f
  of_global spots mutexes meaning.Pointer e s f = absurd f
  of_global spots mutexes (meaning.Array n) e s f = absurd f
  of_global spots mutexes meaning.Mutex e s f = absurd f
  of_global spots mutexes meaning.SharedThread e s f = absurd f
  of_global spots mutexes meaning.Int e s f = absurd s
  of_global spots mutexes meaning.Thread e s f = absurd s
  of_global spots mutexes meaning.Handed e s f = absurd s
  of_global spots mutexes meaning.Unready e s f = absurd s
  of_global spots mutexes meaning.Label e s f = absurd s

  pub is_call : (p : Listing) (t : Thread) (spots : List Spot) (named : List Named) → Reads p t items spots named names → starts_with nat_eq x (codes "nondet_") ≡ false → NoFault (judged_call items names caller at es (meaning_of names x)).notes → IsCall items names x es at (judged_call items names caller at es (meaning_of names x)).operand
  is_call p t spots named r e f = by (found names.locals x) (meaning_in names.globals x) (r.sees.each x) (r.globals.each x) f
    where
      by : (a b : Option Meaning) → ((m : Meaning) → a ≡ Some m → Stands named x m) → ((m : Meaning) → b ≡ Some m → Means spots p.mutexes items x m) → NoFault (judged_call items names caller at es (option_or a b)).notes → IsCall items names x es at (judged_call items names caller at es (option_or a b)).operand
      by (Some m) b s g h = absurd (of_local named m (s m refl) h)
      by None (Some m) s g h = of_global spots p.mutexes m e (g m refl) h
      by None None s g h = absurd h

-- ---- lists of values

record ValsIn (p : Listing) (t : Thread) (vs : Vals) (n : ℕ) : Type 0 where
  flow : FlowIn p t vs.flow
  pures : AllByRecursion (IsPureIn p t) vs.pures
  count : length vs.pures ≡ n

module _ (p : Listing) (t : Thread) (items : List Item) (names : Names) (s : Scope) (r : Reads p t items s.spots s.names names) where
  value_in : (e : Expr) (n : ℕ) → AllByRecursion IsInt (numbers_of e) → NoFault (judged_expr names e).notes → (expr_value e s n).next ≤ t.locals → ValIn p t (expr_value e s n)
  value_in e n i f l = expr_fine p t items names e s n r i f l

  values_in : (params : List Param) (es : List Expr) (n : ℕ) → AllByRecursion IsInt (all_numbers es) → NoFault (arguments names params es) → (values s es n).next ≤ t.locals → ValsIn p t (values s es n) (length es)
  unfolding arguments
  values_in params [] n i f l = record { flow = tt; pures = tt; count = refl }
  values_in params (e ∷ es) n i f l =
      let one = fault_left (judged_argument names (slice_get params 0) e).notes (arguments names (rest params) es) f in
      let others = fault_right (judged_argument names (slice_get params 0) e).notes (arguments names (rest params) es) f in
      let m : ℕ = (expr_value e s n).next in
      let v = value_in e n (all_left IsInt (numbers_of e) (all_numbers es) i) (fault_left (judged_expr names e).notes _ one) (omega (arith, values_grow s es m)) in
      let vs = values_in (rest params) es m (all_right IsInt (numbers_of e) (all_numbers es) i) others l in
      record { flow = (v.flow, vs.flow); pures = (v.pure, vs.pures); count = ap suc vs.count }

  -- ---- what a locked instruction accesses

  judged_is : (e : Expr) → judged_expr names e ≡ judged_node_step names (map-Node Node Expr (At → Judged) Judged (judged_node names) (judged_expr names) (node_of e)) (place_of e)
  judged_is e = search (rules, expr_lemmas)

  numbers_are : (e : Expr) → numbers_of e ≡ node_numbers (map-Node Node Expr (List ℤ) (List ℤ) node_ints numbers_of (node_of e))
  unfolding numbers_of
  numbers_are e = search (rules, expr_lemmas)

  aim_by : (at there : At) (e : Expr) (d : Node-F Node Expr) (n : ℕ)
      → AllByRecursion IsInt (node_numbers (map-Node Node Expr (List ℤ) (List ℤ) node_ints numbers_of d))
      → NoFault (judged_node_step names (map-Node Node Expr (At → Judged) Judged (judged_node names) (judged_expr names) d) there).notes
      → ((expr_value e s n).next ≤ t.locals → ValIn p t (expr_value e s n))
      → (aim_of s at e d n).next ≤ t.locals → AimIn p t (aim_of s at e d n)
  aim_by at there e (node.AddrName w) n i f whole l =
      cell_in p t s.spots w.name n r.rows (shared_spot p t items s.spots s.names names r w.name w.at (fault_left (judged_name sort.Shared names w.at w.name).notes _ f))
  aim_by at there e (node.AddrIndex w x) n i f whole l =
      let parts = fault_left ((judged_name sort.Array names w.at w.name).notes ++ (judged_expr names x).notes) _ f in
      let name = fault_left (judged_name sort.Array names w.at w.name).notes (judged_expr names x).notes parts in
      let index = fault_right (judged_name sort.Array names w.at w.name).notes (judged_expr names x).notes parts in
      indexed_in p t at (the_spot (spot_of s.spots w.name)) (expr_value x s n) r.few (spot_row p s.spots w.name r.rows (array_spot p t items s.spots s.names names r w.name w.at name)) (value_in x n i index l)
  aim_by at there e (node.Number z) n i f whole l = followed_in p t at (expr_value e s n) (whole l)
  aim_by at there e node.Null n i f whole l = followed_in p t at (expr_value e s n) (whole l)
  aim_by at there e (node.Name x) n i f whole l = followed_in p t at (expr_value e s n) (whole l)
  aim_by at there e (node.Index x y) n i f whole l = followed_in p t at (expr_value e s n) (whole l)
  aim_by at there e (node.Deref x) n i f whole l = followed_in p t at (expr_value e s n) (whole l)
  aim_by at there e (node.Un op x) n i f whole l = followed_in p t at (expr_value e s n) (whole l)
  aim_by at there e (node.Bin op x y) n i f whole l = followed_in p t at (expr_value e s n) (whole l)
  aim_by at there e (node.Cond x y z) n i f whole l = followed_in p t at (expr_value e s n) (whole l)

  aim_in : (at : At) (e : Expr) (n : ℕ) → AllByRecursion IsInt (numbers_of e) → NoFault (judged_expr names e).notes → (aim_at s at e n).next ≤ t.locals → AimIn p t (aim_at s at e n)
  aim_in at e n i f l =
      aim_by at (place_of e) e (node_of e) n (subst (AllByRecursion IsInt) (numbers_are e) i) (subst (λ (j : Judged). NoFault j.notes) (judged_is e) f) (value_in e n i f) l

  -- ---- left sides

  left_aim_in : (at : At) (l : LeftNode) (n : ℕ) → AllByRecursion IsInt (of_left l) → NoFault (judged_left_node names at l).notes → local_left s.names l ≡ None → (left_aim s at l n).next ≤ t.locals → AimIn p t (left_aim s at l n)
  left_aim_in at (left.Name x) n i f none h = cell_in p t s.spots x n r.rows (variable_spot p t items s.spots s.names names r x at f none)
  left_aim_in at (left.Index x e) n i f none h =
      let parts = fault_left ((judged_name sort.Array names at x).notes ++ (judged_expr names e).notes) _ f in
      let name = fault_left (judged_name sort.Array names at x).notes (judged_expr names e).notes parts in
      let index = fault_right (judged_name sort.Array names at x).notes (judged_expr names e).notes parts in
      indexed_in p t at (the_spot (spot_of s.spots x)) (expr_value e s n) r.few (spot_row p s.spots x r.rows (array_spot p t items s.spots s.names names r x at name)) (value_in e n i index h)
  left_aim_in at (left.Deref e) n i f none h = followed_in p t at (expr_value e s n) (value_in e n i (fault_left (judged_expr names e).notes _ f) h)

  left_local : (l : LeftNode) (m : ℕ) → local_left s.names l ≡ Some m → m < t.locals
  left_local (left.Name x) m e = r.locals.each x m e
  left_local (left.Index x i) m e = absurd (impossible e)
    where
      impossible : None ≡ Some m → ⊥
      impossible q = cc
  left_local (left.Deref i) m e = absurd (impossible e)
    where
      impossible : None ≡ Some m → ⊥
      impossible q = cc

-- ---- values

sets_in : (p : Listing) (t : Thread) (at : At) (es : List Pure) (n : ℕ) → n + length es ≤ t.locals → AllByRecursion (IsPureIn p t) es → FlowIn p t (sets at es n)
sets_in p t at [] n l h = tt
sets_in p t at (e ∷ es) n l h = (((omega arith, h.0), refl), sets_in p t at es (n + 1) (omega arith) h.1)

module _ (p : Listing) (t : Thread) (items : List Item) (names : Names) (w : Within) (named : List Named) (g : IsGood p t items w) (r : Reads p t items w.parts.spots named names) where
  called_in : (at : At) (x : Ident) (es : List Expr) (n : ℕ) (f : Function) {o : Operand} → function_of w.items w.parts.asserts x ≡ Some f → IsCall items names x es at o → AllByRecursion IsInt (all_numbers es) → (called w at es named n f).next ≤ t.locals → ValIn p t (called w at es named n f)
  called_in at x es n f is c i l =
      let ret : ℕ = n + length f.params in
      let args : Vals = values (scope w named) es (ret + 1) in
      let callable = g.calls x c.k c.function f c.can is in
      let up : args.next ≤ t.locals = omega (arith, g.grow f (bound f.params n) args.next ret) in
      let below : ret + 1 ≤ args.next = values_grow (scope w named) es (ret + 1) in
      let vs = values_in p t items names (scope w named) r c.function.params es (ret + 1) i c.args up in
      record {
        flow = (
          vs.flow,
          (
            sets_in p t at args.pures n (omega (arith, vs.count, c.count, callable.count)) vs.pures,
            (((omega arith, zero_in p t), refl), callable.code n args.next ret (omega arith) (omega arith) l),
          ),
        );
        pure = local_in p t ret (omega arith);
      }

  pub value_fine : (caller n : ℕ) (v : Value) → AllByRecursion IsInt (of_value v) → NoFault (judged_value items caller names v).notes → (value_of w named n v).next ≤ t.locals → ValIn p t (value_of w named n v)
  unfolding judged_value call
  value_fine caller n (value.Plain e) i f l = value_in p t items names (scope w named) r e n i f l
  value_fine caller n (value.Call at x es) i f l = by (starts_with nat_eq x (codes "nondet_")) refl f l
    where
      found_function : (o : Option Function) → function_of w.items w.parts.asserts x ≡ o → starts_with nat_eq x (codes "nondet_") ≡ false → NoFault (judged_call items names caller at es (meaning_of names x)).notes → (call_of w at es named n o).next ≤ t.locals → ValIn p t (call_of w at es named n o)
      found_function None e b h m = record { flow = tt; pure = zero_in p t }
      found_function (Some q) e b h m = called_in at x es n q e (is_call items names caller at x es p t w.parts.spots named r b h) i m

      by : (b : Bool) → starts_with nat_eq x (codes "nondet_") ≡ b → NoFault (if b then input_call names at es else judged_call items names caller at es (meaning_of names x)).notes → (call_value w at x es named n b).next ≤ t.locals → ValIn p t (call_value w at x es named n b)
      by true e h m = record { flow = (omega arith, refl); pure = local_in p t n (omega arith) }
      by false e h m = found_function (function_of w.items w.parts.asserts x) refl e h m
  value_fine caller n (value.FetchAdd at q e) i f l =
      let s : Scope = scope w named in
      let a : Aim = aim_at s at q n in
      let parts = fault_left ((judged_expr names q).notes ++ (judged_expr names e).notes) _ f in
      let v = value_in p t items names s r e a.next (all_right IsInt (numbers_of q) (numbers_of e) i) (fault_right (judged_expr names q).notes (judged_expr names e).notes parts) (omega arith) in
      let aim = aim_in p t items names s r at q n (all_left IsInt (numbers_of q) (numbers_of e) i) (fault_left (judged_expr names q).notes (judged_expr names e).notes parts) (omega (arith, grows e s a.next)) in
      record { flow = (aim.flow, (v.flow, ((omega arith, aim.target, v.pure), refl))); pure = local_in p t (expr_value e s a.next).next (omega arith) }
  value_fine caller n (value.CompareSwap at q e o) i f l =
      let s : Scope = scope w named in
      let a : Aim = aim_at s at q n in
      let jq : List Note = (judged_expr names q).notes in
      let je : List Note = (judged_expr names e).notes in
      let jo : List Note = (judged_expr names o).notes in
      let parts = fault_left ((jq ++ je) ++ jo) _ f in
      let front = fault_left (jq ++ je) jo parts in
      let more = all_right IsInt (numbers_of q) (numbers_of e ++ numbers_of o) i in
      let m : ℕ = (expr_value e s a.next).next in
      let v = value_in p t items names s r e a.next (all_left IsInt (numbers_of e) (numbers_of o) more) (fault_right jq je front) (omega (arith, grows o s m)) in
      let u = value_in p t items names s r o m (all_right IsInt (numbers_of e) (numbers_of o) more) (fault_right (jq ++ je) jo parts) (omega arith) in
      let aim = aim_in p t items names s r at q n (all_left IsInt (numbers_of q) (numbers_of e ++ numbers_of o) i) (fault_left jq je front) (omega (arith, grows e s a.next, grows o s m)) in
      record { flow = (aim.flow, (v.flow, (u.flow, ((omega arith, aim.target, v.pure, u.pure), refl)))); pure = local_in p t (expr_value o s m).next (omega arith) }

  -- ---- assignments

  assigned_by : (caller n : ℕ) (l : Left) (v : Value) (o : Option ℕ) → local_left named l.node ≡ o → AllByRecursion IsInt (of_left l.node) → AllByRecursion IsInt (of_value v) → NoFault (judged_left_node names l.at l.node).notes → NoFault (judged_value items caller names v).notes → (assigned_to w named n l v o).next ≤ t.locals → FlowIn p t (assigned_to w named n l v o).flow
  assigned_by caller n l v (Some m) e il iv fl fv h =
      let u = value_fine caller n v iv fv h in
      (u.flow, ((left_local p t items names (scope w named) r l.node m e, u.pure), refl))
  assigned_by caller n l v None e il iv fl fv h =
      let a : Aim = left_aim (scope w named) l.at l.node n in
      let u = value_fine caller a.next v iv fv h in
      let aim = left_aim_in p t items names (scope w named) r l.at l.node n il fl e (omega (arith, value_grows w named a.next v g.grow)) in
      (aim.flow, (u.flow, ((aim.target, u.pure), refl)))

  pub assigned_fine : (caller n : ℕ) (l : Left) (v : Value) → AllByRecursion IsInt (of_left l.node ++ of_value v) → NoFault (judged_left names l).notes → NoFault (judged_value items caller names v).notes → (assigned w named n l v).next ≤ t.locals → FlowIn p t (assigned w named n l v).flow
  unfolding assigned judged_left
  assigned_fine caller n l v i fl fv h =
      assigned_by caller n l v (local_left named l.node) refl (all_left IsInt (of_left l.node) (of_value v) i) (all_right IsInt (of_left l.node) (of_value v) i) fl fv h

  updated_by : (n : ℕ) (l : Left) (op : Binary) (e : Expr) (o : Option ℕ) → local_left named l.node ≡ o → AllByRecursion IsInt (of_left l.node) → AllByRecursion IsInt (numbers_of e) → NoFault (judged_left_node names l.at l.node).notes → NoFault (judged_expr names e).notes → (updated_to w named n l op e o).next ≤ t.locals → FlowIn p t (updated_to w named n l op e o).flow
  updated_by n l op e (Some m) is il ie fl fe h =
      let v = value_in p t items names (scope w named) r e n ie fe h in
      let below = left_local p t items names (scope w named) r l.node m is in
      (v.flow, (division_in p t op l.at (expr_value e (scope w named) n).pure v.pure, ((below, combined_in p t op (the_local m) (expr_value e (scope w named) n).pure (local_in p t m below) v.pure), refl)))
  updated_by n l op e None is il ie fl fe h =
      let s : Scope = scope w named in
      let a : Aim = left_aim s l.at l.node n in
      let m : ℕ = a.next in
      let v = value_in p t items names s r e (m + 1) ie fe h in
      let below : m < t.locals = omega (arith, grows e s (m + 1)) in
      let aim = left_aim_in p t items names s r l.at l.node n il fl is (omega arith) in
      (aim.flow, (((below, aim.target), refl), (v.flow, (division_in p t op l.at (expr_value e s (m + 1)).pure v.pure, ((aim.target, combined_in p t op (the_local m) (expr_value e s (m + 1)).pure (local_in p t m below) v.pure), refl)))))

  pub updated_fine : (n : ℕ) (l : Left) (op : Binary) (e : Expr) → AllByRecursion IsInt (of_left l.node ++ numbers_of e) → NoFault (judged_left names l).notes → NoFault (judged_expr names e).notes → (updated w named n l op e).next ≤ t.locals → FlowIn p t (updated w named n l op e).flow
  unfolding judged_left
  updated_fine n l op e i fl fe h =
      updated_by n l op e (local_left named l.node) refl (all_left IsInt (of_left l.node) (numbers_of e) i) (all_right IsInt (of_left l.node) (numbers_of e) i) fl fe h
