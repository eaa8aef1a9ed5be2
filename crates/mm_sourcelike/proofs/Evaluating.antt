-- The code of an expression that is accepted stands in its thread, and so does its value.
use Rattle.std.proofs.Common.{arith, ◌≡◌, ℕ, ℤ, ◌+◌, ◌<◌, ◌≤◌, Bool, true, false, ◌||◌, if◌then◌else◌, List, [], ◌∷◌, ◌++◌, length, refl, sym, subst, Option, Some, None}
use Rattle.std.specs.List.{AllByRecursion}
use Rattle.mm_goto.specs.declared.ident.At.{At}
use Rattle.mm_goto.specs.declared.ident.Ident.{Ident}
use Rattle.mm_goto.specs.declared.pure.Pure.{Pure}
use Rattle.mm_goto.specs.declared.pure.Unary.TheVariants.{Not}
use Rattle.mm_goto.specs.declared.pure.Binary.{Binary}
use Rattle.mm_goto.specs.declared.program.Instr.{Instr}
use Rattle.mm_goto.specs.declared.program.Instr.TheVariants as instr
use Rattle.mm_goto.specs.declared.program.Thread.{Thread}
use Rattle.mm_goto.specs.Checks.{is_not_zero}
use Rattle.mm_goto.specs.Listing.{Listing}
use Rattle.mm_goto.specs.Parts.{is_division}
use Rattle.mm_goto.specs.Sourcelike.{is_start_or_join}
use Rattle.mm_goto.specs.Terms.{applied}
use Rattle.mm_goto.specs.Valid.{IsInt, IsRow, IsPureIn, IsTargetIn, IsInstrIn}
use Rattle.mm_goto.proofs.Within.{constant_in, local_in}
use Rattle.mm_tree.specs.declared.expr.Expr.{Expr, roll-Expr}
use Rattle.mm_tree.specs.declared.expr.Node.{Node, roll-Node}
use Rattle.mm_tree.specs.declared.expr.Node.TheOpen as node
use Rattle.mm_tree.specs.declared.expr.Node.TheOpen.{Node-F, Expr-F}
use Rattle.mm_tree.specs.declared.expr.Node.TheFolds.{ind-Expr, fold-Node, fold-roll-Node, fold-roll-Expr, map-Node, map-Expr}
use Rattle.mm_tree.specs.declared.item.Item.{Item}
use Rattle.mm_flow.specs.declared.names.Joining.{Joining}
use Rattle.mm_flow.specs.declared.names.Joining.TheVariants.{Both, And, Or}
use Rattle.mm_flow.specs.declared.names.Spot.{Spot}
use Rattle.mm_flow.specs.Flow.{Flow, Empty, Do}
use Rattle.mm_flow.specs.Scopes.{local_of, spot_of}
use Rattle.mm_flow.specs.Expressions.{Scope, Reading, Val, Aim, reading, node_step, expr_step, name_value, binary_value, joining, cond_value, expr_value, the_spot, cell, indexed, followed, loaded, address_at, division_check, short, zero_value, one_value}
use Rattle.mm_scope.specs.declared.expression.Sort.TheVariants as sort
use Rattle.mm_scope.specs.Expressions.{judged_expr, judged_node, judged_node_step, judged_expr_step, named as judged_name}
use Rattle.mm_scope.specs.Notes.{Note}
use Rattle.mm_scope.specs.Operands.{Judged}
use Rattle.mm_scope.specs.Scopes.{Names}
use Rattle.mm_sourcelike.specs.Ints.{numbers_of, node_numbers, expr_layer}
use Rattle.mm_sourcelike.proofs.Growth.{node_reading, grows}
use Rattle.mm_sourcelike.proofs.Laying.{Each}
use Rattle.mm_sourcelike.proofs.Pures.{zero_in, one_in, applied_in, combined_in, chosen_in, address_in, element_in, in_range_in, not_zero_in}
use Rattle.mm_sourcelike.proofs.Resolving.{spot_row, variable_spot, array_spot, shared_spot}
use Rattle.mm_sourcelike.proofs.Scoping.{NoFault, fault_left, fault_right, HasSpot, Reads}

pub all_left : {A : Type 0} (P : A → Type 0) (xs ys : List A) → AllByRecursion P (xs ++ ys) → AllByRecursion P xs
all_left P [] ys h = tt
all_left P (x ∷ xs) ys h = (h.0, all_left P xs ys h.1)

pub all_right : {A : Type 0} (P : A → Type 0) (xs ys : List A) → AllByRecursion P (xs ++ ys) → AllByRecursion P ys
all_right P [] ys h = h
all_right P (x ∷ xs) ys h = all_right P xs ys h.1

-- the instruction is in range, and neither starts a thread nor waits for one
abbrev pub IsStepIn : Listing → Thread → Instr → Type 0
IsStepIn p t i = IsInstrIn p t i × (is_start_or_join i ≡ false)

abbrev pub FlowIn : Listing → Thread → Flow → Type 0
FlowIn p t f = Each (IsStepIn p t) (IsPureIn p t) f

pub record ValIn (p : Listing) (t : Thread) (v : Val) : Type 0 where
  pub flow : FlowIn p t v.flow
  pub pure : IsPureIn p t v.pure

pub record AimIn (p : Listing) (t : Thread) (a : Aim) : Type 0 where
  pub flow : FlowIn p t a.flow
  pub target : IsTargetIn p t a.target

-- where so many numbers are ints, the names are found and the locals suffice, the code is in range
abbrev pub IsFine : Listing → Thread → List Item → Names → Judged → Reading → List ℤ → Type 0
IsFine p t items names j r zs =
    (s : Scope) (n : ℕ) → Reads p t items s.spots s.names names → AllByRecursion IsInt zs → NoFault j.notes → (r.value s n).next ≤ t.locals → ValIn p t (r.value s n)

abbrev pub node_ints : Node → List ℤ
node_ints = fold-Node (List ℤ) (List ℤ) node_numbers expr_layer

module _ (p : Listing) (t : Thread) where
  pub cell_in : (spots : List Spot) (x : Ident) (n : ℕ) → AllByRecursion (λ s. IsRow p.cells (record { first = s.first; len = s.len })) spots → HasSpot spots x → AimIn p t (cell (the_spot (spot_of spots x)) n)
  cell_in spots x n rows h = let r = spot_row p spots x rows h in record { flow = tt; target = omega (arith, r.some, r.within) }

  pub loaded_in : (at : At) (a : Aim) → AimIn p t a → a.next + 1 ≤ t.locals → ValIn p t (loaded at a)
  loaded_in at a h l = record { flow = (h.flow, ((omega arith, h.target), refl)); pure = local_in p t a.next (omega arith) }

  pub indexed_in : (at : At) (s : Spot) (i : Val) → length p.cells < 2147483648 → IsRow p.cells (record { first = s.first; len = s.len }) → ValIn p t i → AimIn p t (indexed at s i)
  indexed_in at s i few r h = record {
    flow = (h.flow, ((in_range_in p t i.pure s.len (omega (arith, few, r.within)) h.pure, omega arith), refl));
    target = (r, h.pure);
  }

  pub followed_in : (at : At) (v : Val) → ValIn p t v → AimIn p t (followed at v)
  followed_in at v h = record { flow = (h.flow, ((not_zero_in p t v.pure h.pure, omega arith), refl)); target = h.pure }

  address_at_in : (at : At) (s : Spot) (i : Val) → length p.cells < 2147483648 → IsRow p.cells (record { first = s.first; len = s.len }) → ValIn p t i → ValIn p t (address_at at s i)
  address_at_in at s i few r h = record {
    flow = (h.flow, ((in_range_in p t i.pure s.len (omega (arith, few, r.within)) h.pure, omega arith), refl));
    pure = element_in p t s.first s.len i.pure r h.pure;
  }

  pub division_in : (op : Binary) (at : At) (e : Pure) → IsPureIn p t e → FlowIn p t (division_check op at e)
  division_in op at e h = by (is_division op)
    where
      by : (b : Bool) → FlowIn p t (if b then Do at (instr.Assert (is_not_zero e) 0) else Empty)
      by true = ((not_zero_in p t e h, omega arith), refl)
      by false = tt

  short_in : (at : At) (start test : Pure) (a : Val) (b : ℕ → Val) → IsPureIn p t start → IsPureIn p t test → ValIn p t a → ValIn p t (b (a.next + 1)) → a.next < t.locals → ValIn p t (short at start test a b)
  short_in at start test a b hs ht ha hb l = record {
    flow = (ha.flow, (((l, hs), refl), (ht, (hb.flow, ((l, not_zero_in p t (b (a.next + 1)).pure hb.pure), refl)))));
    pure = local_in p t a.next l;
  }

  binary_in : (at : At) (op : Binary) (j : Joining) (a : Val) (b : ℕ → Val) → ValIn p t a → ((m : ℕ) → (b m).next ≤ t.locals → ValIn p t (b m)) → ((m : ℕ) → m ≤ (b m).next) → (binary_value at op j a b).next ≤ t.locals → ValIn p t (binary_value at op j a b)
  binary_in at op And a b ha hb gb l =
      let below : a.next < t.locals = omega (arith, gb (a.next + 1)) in
      short_in at zero_value a.pure a b (zero_in p t) ha.pure ha (hb (a.next + 1) l) below
  binary_in at op Or a b ha hb gb l =
      let below : a.next < t.locals = omega (arith, gb (a.next + 1)) in
      short_in at one_value (applied Not a.pure) a b (one_in p t) (applied_in p t Not a.pure ha.pure) ha (hb (a.next + 1) l) below
  binary_in at op Both a b ha hb gb l =
      let c = hb a.next l in
      record {
        flow = (ha.flow, (c.flow, division_in op at (b a.next).pure c.pure));
        pure = combined_in p t op a.pure (b a.next).pure ha.pure c.pure;
      }

  cond_in : (at : At) (choice : Bool) (c : Val) (a b : ℕ → Val) → ValIn p t c → ((m : ℕ) → (a m).next ≤ t.locals → ValIn p t (a m)) → ((m : ℕ) → (b m).next ≤ t.locals → ValIn p t (b m)) → ((m : ℕ) → m ≤ (a m).next) → ((m : ℕ) → m ≤ (b m).next) → (cond_value at choice c a b).next ≤ t.locals → ValIn p t (cond_value at choice c a b)
  cond_in at true c a b hc ha hb ga gb l =
      let m : ℕ = c.next + 1 in
      let v = ha m (omega (arith, gb (a m).next)) in
      let w = hb (a m).next l in
      let below : c.next < t.locals = omega (arith, ga m, gb (a m).next) in
      record {
        flow = (hc.flow, (hc.pure, (v.flow, ((below, v.pure), refl)), (w.flow, ((below, w.pure), refl))));
        pure = local_in p t c.next below;
      }
  cond_in at false c a b hc ha hb ga gb l =
      let m : ℕ = c.next in
      let v = ha m (omega (arith, gb (a m).next)) in
      let w = hb (a m).next l in
      record {
        flow = (hc.flow, (v.flow, w.flow));
        pure = chosen_in p t c.pure (a m).pure (b (a m).next).pure hc.pure v.pure w.pure;
      }

module _ (p : Listing) (t : Thread) (items : List Item) (names : Names) where
  abbrev P : Node → Type 0
  P d = (at : At) → IsFine p t items names (judged_node names d at) (node_reading d at) (node_ints d)

  abbrev Q : Expr → Type 0
  Q e = IsFine p t items names (judged_expr names e) (reading e) (numbers_of e)

  by : (z : Node-F Node Expr) (at : At)
      → IsFine p t items names (judged_node_step names (map-Node Node Expr (At → Judged) Judged (judged_node names) (judged_expr names) z) at)
      (node_step (map-Node Node Expr (At → Reading) Reading node_reading reading z) at)
      (node_numbers (map-Node Node Expr (List ℤ) (List ℤ) node_ints numbers_of z))
      → IsFine p t items names (judged_node names (roll-Node z) at) (node_reading (roll-Node z) at) (node_ints (roll-Node z))
  unfolding reading numbers_of
  by z at g =
      subst (λ (f : At → Judged). IsFine p t items names (f at) (node_reading (roll-Node z) at) (node_ints (roll-Node z))) (sym (fold-roll-Node (At → Judged) Judged (judged_node_step names) judged_expr_step z))
      (subst (λ (f : At → Reading). IsFine p t items names (judged_node_step names (map-Node Node Expr (At → Judged) Judged (judged_node names) (judged_expr names) z) at) (f at) (node_ints (roll-Node z))) (sym (fold-roll-Node (At → Reading) Reading node_step expr_step z))
      (subst (λ (f : List ℤ). IsFine p t items names (judged_node_step names (map-Node Node Expr (At → Judged) Judged (judged_node names) (judged_expr names) z) at) (node_step (map-Node Node Expr (At → Reading) Reading node_reading reading z) at) f) (sym (fold-roll-Node (List ℤ) (List ℤ) node_numbers expr_layer z)) g))

  by_expr : (z : Expr-F Node Expr) → IsFine p t items names (judged_node names z.node z.at) (node_reading z.node z.at) (node_ints z.node) → Q (roll-Expr z)
  unfolding reading numbers_of
  by_expr z g =
      subst (λ (f : Judged). IsFine p t items names f (reading (roll-Expr z)) (numbers_of (roll-Expr z))) (sym (fold-roll-Expr (At → Judged) Judged (judged_node_step names) judged_expr_step z))
      (subst (λ (f : Reading). IsFine p t items names (judged_node names z.node z.at) f (numbers_of (roll-Expr z))) (sym (fold-roll-Expr (At → Reading) Reading node_step expr_step z))
      (subst (λ (f : List ℤ). IsFine p t items names (judged_node names z.node z.at) (node_reading z.node z.at) f) (sym (fold-roll-Expr (List ℤ) (List ℤ) node_numbers expr_layer z)) g))

  name_fine : (at : At) (x : Ident) (s : Scope) (n : ℕ) → Reads p t items s.spots s.names names → NoFault (judged_name sort.Variable names at x).notes → (name_value at s x (local_of s.names x) n).next ≤ t.locals → ValIn p t (name_value at s x (local_of s.names x) n)
  name_fine at x s n r f l = by (local_of s.names x) refl l
    where
      by : (o : Option ℕ) → local_of s.names x ≡ o → (name_value at s x o n).next ≤ t.locals → ValIn p t (name_value at s x o n)
      by (Some m) e h = record { flow = tt; pure = local_in p t m (r.locals.each x m e) }
      by None e h = loaded_in p t at (cell (the_spot (spot_of s.spots x)) n) (cell_in p t s.spots x n r.rows (variable_spot p t items s.spots s.names names r x at f e)) h

  abbrev Proved : Type 0
  Proved = (e : Expr) × Q e

  node_fine : (y : Node-F ((d : Node) × P d) Proved) → P (roll-Node (map-Node ((d : Node) × P d) Proved Node Expr (λ d. d.0) (λ e. e.0) y))
  node_fine (node.Number z) at = by (node.Number z) at (λ s n r i f l. record { flow = tt; pure = constant_in p t z i.0 })
  node_fine node.Null at = by node.Null at (λ s n r i f l. record { flow = tt; pure = zero_in p t })
  node_fine (node.Name x) at = by (node.Name x) at (λ s n r i f l. name_fine at x s n r f l)
  node_fine (node.Index x e) at = by (node.Index x e.0) at (λ s n r i f l.
      let parts = fault_left ((judged_name sort.Array names at x).notes ++ (judged_expr names e.0).notes) _ f in
      let name = fault_left (judged_name sort.Array names at x).notes (judged_expr names e.0).notes parts in
      let index = fault_right (judged_name sort.Array names at x).notes (judged_expr names e.0).notes parts in
      let spot = the_spot (spot_of s.spots x) in
      loaded_in p t at (indexed at spot (expr_value e.0 s n))
      (indexed_in p t at spot (expr_value e.0 s n) r.few (spot_row p s.spots x r.rows (array_spot p t items s.spots s.names names r x at name)) (e.1 s n r i index (omega arith))) l)
  node_fine (node.Deref e) at = by (node.Deref e.0) at (λ s n r i f l.
      loaded_in p t at (followed at (expr_value e.0 s n)) (followed_in p t at (expr_value e.0 s n) (e.1 s n r i (fault_left (judged_expr names e.0).notes _ f) (omega arith))) l)
  node_fine (node.AddrName w) at = by (node.AddrName w) at (λ s n r i f l.
      let row = spot_row p s.spots w.name r.rows (shared_spot p t items s.spots s.names names r w.name w.at (fault_left (judged_name sort.Shared names w.at w.name).notes _ f)) in
      record { flow = tt; pure = address_in p t (the_spot (spot_of s.spots w.name)).first (omega (arith, row.some, row.within)) })
  node_fine (node.AddrIndex w e) at = by (node.AddrIndex w e.0) at (λ s n r i f l.
      let parts = fault_left ((judged_name sort.Array names w.at w.name).notes ++ (judged_expr names e.0).notes) _ f in
      let name = fault_left (judged_name sort.Array names w.at w.name).notes (judged_expr names e.0).notes parts in
      let index = fault_right (judged_name sort.Array names w.at w.name).notes (judged_expr names e.0).notes parts in
      let spot = the_spot (spot_of s.spots w.name) in
      address_at_in p t at spot (expr_value e.0 s n) r.few (spot_row p s.spots w.name r.rows (array_spot p t items s.spots s.names names r w.name w.at name)) (e.1 s n r i index l))
  node_fine (node.Un op e) at = by (node.Un op e.0) at (λ s n r i f l.
      let v = e.1 s n r i (fault_left (judged_expr names e.0).notes _ f) l in
      record { flow = v.flow; pure = applied_in p t op (expr_value e.0 s n).pure v.pure })
  node_fine (node.Bin op a b) at = by (node.Bin op a.0 b.0) at (λ s n r i f l.
      let parts = fault_left ((judged_expr names a.0).notes ++ (judged_expr names b.0).notes) _ f in
      let j : Joining = joining op ((reading b.0).has_code s) in
      binary_in p t at op j (expr_value a.0 s n) (expr_value b.0 s)
      (a.1 s n r (all_left IsInt (numbers_of a.0) (numbers_of b.0) i) (fault_left (judged_expr names a.0).notes (judged_expr names b.0).notes parts) (first_enough at op j (expr_value a.0 s n) (expr_value b.0 s) (grows b.0 s) t.locals l))
      (λ m h. b.1 s m r (all_right IsInt (numbers_of a.0) (numbers_of b.0) i) (fault_right (judged_expr names a.0).notes (judged_expr names b.0).notes parts) h)
      (grows b.0 s) l)
    where
      first_enough : (at : At) (op : Binary) (j : Joining) (a : Val) (b : ℕ → Val) → ((m : ℕ) → m ≤ (b m).next) → (k : ℕ) → (binary_value at op j a b).next ≤ k → a.next ≤ k
      first_enough at op And a b g k l = omega (arith, g (a.next + 1))
      first_enough at op Or a b g k l = omega (arith, g (a.next + 1))
      first_enough at op Both a b g k l = omega (arith, g a.next)
  node_fine (node.Cond c a b) at = by (node.Cond c.0 a.0 b.0) at (λ s n r i f l.
      let jc : List Note = (judged_expr names c.0).notes in
      let ja : List Note = (judged_expr names a.0).notes in
      let jb : List Note = (judged_expr names b.0).notes in
      let parts = fault_left ((jc ++ ja) ++ jb) _ f in
      let front = fault_left (jc ++ ja) jb parts in
      let more = all_right IsInt (numbers_of c.0) (numbers_of a.0 ++ numbers_of b.0) i in
      let choice : Bool = (reading a.0).has_code s || (reading b.0).has_code s in
      cond_in p t at choice (expr_value c.0 s n) (expr_value a.0 s) (expr_value b.0 s)
      (c.1 s n r (all_left IsInt (numbers_of c.0) (numbers_of a.0 ++ numbers_of b.0) i) (fault_left jc ja front) (test_enough at choice (expr_value c.0 s n) (expr_value a.0 s) (expr_value b.0 s) (grows a.0 s) (grows b.0 s) t.locals l))
      (λ m h. a.1 s m r (all_left IsInt (numbers_of a.0) (numbers_of b.0) more) (fault_right jc ja front) h)
      (λ m h. b.1 s m r (all_right IsInt (numbers_of a.0) (numbers_of b.0) more) (fault_right (jc ++ ja) jb parts) h)
      (grows a.0 s) (grows b.0 s) l)
    where
      test_enough : (at : At) (choice : Bool) (c : Val) (a b : ℕ → Val) → ((m : ℕ) → m ≤ (a m).next) → ((m : ℕ) → m ≤ (b m).next) → (k : ℕ) → (cond_value at choice c a b).next ≤ k → c.next ≤ k
      test_enough at true c a b g h k l = omega (arith, g (c.next + 1), h (a (c.next + 1)).next)
      test_enough at false c a b g h k l = omega (arith, g c.next, h (a c.next).next)

  -- the code of an accepted expression is in range
  pub expr_fine : (e : Expr) → Q e
  expr_fine = ind-Expr P Q (λ x y is. subst (λ z. P (roll-Node z)) is (node_fine y)) (λ x y is. subst (λ z. Q (roll-Expr z)) is (by_expr (map-Expr _ _ Node Expr (λ d. d.0) (λ e. e.0) y) (y.node.1 y.at)))
