-- The code of an accepted expression fits the types, and so does its value.
use Rattle.std.proofs.Common.{arith, ◌≡◌, ℕ, ℤ, pos, ◌+◌, Bool, true, false, ◌||◌, IsTrue, if◌then◌else◌, List, ◌++◌, refl, ◌∙◌, sym, subst, Option, Some, None}
use Rattle.mm_goto.specs.declared.ident.At.{At}
use Rattle.mm_goto.specs.declared.ident.Ident.{Ident}
use Rattle.mm_goto.specs.declared.program.Cell.{Cell}
use Rattle.mm_goto.specs.declared.program.Instr.{Instr}
use Rattle.mm_goto.specs.declared.program.Instr.TheVariants as instr
use Rattle.mm_goto.specs.declared.program.Target.{Target}
use Rattle.mm_goto.specs.declared.program.Target.TheVariants as target
use Rattle.mm_goto.specs.declared.pure.Pure.{Pure}
use Rattle.mm_goto.specs.declared.pure.Unary.TheVariants.{Not}
use Rattle.mm_goto.specs.declared.pure.Binary.{Binary}
use Rattle.mm_goto.specs.Checks.{is_in_range, is_not_zero}
use Rattle.mm_goto.specs.Kinds.{Kinds, IsOf, is_typed, kinds_of, binary_kinds}
use Rattle.mm_goto.specs.Listing.{Listing}
use Rattle.mm_goto.specs.Parts.{is_division}
use Rattle.mm_goto.specs.Sourcelike.{IsWholeArray}
use Rattle.mm_goto.specs.Terms.{constant, the_local, applied, combined}
use Rattle.mm_goto.specs.Value.{is_zero}
use Rattle.mm_tree.specs.declared.expr.Expr.{Expr, roll-Expr}
use Rattle.mm_tree.specs.declared.expr.Node.{Node, roll-Node}
use Rattle.mm_tree.specs.declared.expr.Node.TheOpen as node
use Rattle.mm_tree.specs.declared.expr.Node.TheOpen.{Node-F, Expr-F}
use Rattle.mm_tree.specs.declared.expr.Node.TheFolds.{ind-Expr, fold-roll-Node, fold-roll-Expr, map-Node, map-Expr}
use Rattle.mm_tree.specs.declared.item.Item.{Item}
use Rattle.mm_flow.specs.declared.names.Joining.{Joining}
use Rattle.mm_flow.specs.declared.names.Joining.TheVariants.{Both, And, Or}
use Rattle.mm_flow.specs.declared.names.Spot.{Spot}
use Rattle.mm_flow.specs.Flow.{Flow, Empty, Do}
use Rattle.mm_flow.specs.Scopes.{local_of, spot_of}
use Rattle.mm_flow.specs.Expressions.{Scope, Reading, Val, Aim, reading, node_step, expr_step, zero_value, one_value, name_value, short, of_two, of_three, one_of_two, binary_value, joining, cond_value, expr_value, the_spot, cell, indexed, followed, loaded, address_at, division_check}
use Rattle.mm_flow.specs.Words.{address}
use Rattle.mm_scope.specs.declared.expression.Sort.TheVariants as sort
use Rattle.mm_scope.specs.declared.operand.Kind.TheVariants.{Int, Pointer, Nothing}
use Rattle.mm_scope.specs.declared.operand.Operand.{Operand}
use Rattle.mm_scope.specs.Expressions.{judged_expr, judged_node, judged_node_step, judged_expr_step, named as judged_name}
use Rattle.mm_scope.specs.Notes.{Note}
use Rattle.mm_scope.specs.Operands.{Judged, made, binary, choice}
use Rattle.mm_scope.specs.Scopes.{Names}
use Rattle.mm_scope.specs.Values.{kind_if_pointer}
use Rattle.mm_sourcelike.proofs.Cells.{row_of}
use Rattle.mm_sourcelike.proofs.Growth.{Grows, node_reading, grows}
use Rattle.mm_sourcelike.proofs.Judging.{KindFits, OperandFits, KindIs, JoinKind, is_pointer, typed_of, unary_makes, deref_makes, address_made, element_makes, binary_makes, choice_makes, join_first, join_second, chosen_fits}
use Rattle.mm_sourcelike.proofs.Laying.{Each}
use Rattle.mm_sourcelike.proofs.Scoping.{NoFault, IsSound, fault_left, fault_right, none_is_not, same_some}
use Rattle.mm_sourcelike.proofs.TypedNames.{GlobalsFit, SeesTypes, VariableIs, a_local, a_global, IsVariable, variable_is, array_is, shared_is}
use Rattle.mm_sourcelike.proofs.TypedPures.{Tidy, SingleFits, ArrayFits, kinds_chosen, constant_tidy, local_tidy, address_tidy, element_tidy, applied_tidy, combined_tidy, chosen_tidy, range_tidy, not_zero_tidy, constant_kinds, address_kinds, element_kinds, applied_kinds, combined_kinds, chosen_kinds, zero_is, one_is, int_typed, not_zero_int, range_int, local_fits, set_as}
use Rattle.mm_sourcelike.proofs.Typing.{Typing, still, over, both, then_fresh}

module _ (p : Listing) (q : ℕ → Bool) where
  -- ---- instructions

  -- it is a pointer or an int, as this says, and names cells as a source does
  abbrev pub Fits : Pure → Bool → Type 0
  Fits e b = IsOf q e b × Tidy p e

  -- it has a type
  abbrev pub FitsTest : Pure → Type 0
  FitsTest e = IsTrue (is_typed (kinds_of q e)) × Tidy p e

  abbrev pub FitsTarget : Target → Bool → Type 0
  FitsTarget (target.Cell c) b = SingleFits p c b
  FitsTarget (target.Elem first len e) b = (b ≡ false) × Fits e false × IsWholeArray p (record { first = first; len = len })
  FitsTarget (target.Deref e) b = (b ≡ false) × Fits e true

  abbrev pub FitsInstr : Instr → Type 0
  FitsInstr (instr.Set l e) = Fits e (q l)
  FitsInstr (instr.Load l t) = FitsTarget t (q l)
  FitsInstr (instr.Store t e) = (b : Bool) × FitsTarget t b × Fits e b
  FitsInstr (instr.Input l) = q l ≡ false
  FitsInstr (instr.Jump k) = Unit {0}
  FitsInstr (instr.Branch e k) = FitsTest e
  FitsInstr (instr.Assert e n) = FitsTest e
  FitsInstr (instr.Assume e) = FitsTest e
  FitsInstr instr.Fence = Unit {0}
  FitsInstr (instr.Lock m) = Unit {0}
  FitsInstr (instr.Unlock m) = Unit {0}
  FitsInstr (instr.Add l t e) = (q l ≡ false) × FitsTarget t false × Fits e false
  FitsInstr (instr.Cas l t e f) = (q l ≡ false) × FitsTarget t false × Fits e false × Fits f false
  FitsInstr (instr.Start u) = Unit {0}
  FitsInstr (instr.Join u) = Unit {0}
  FitsInstr instr.AtomBegin = Unit {0}
  FitsInstr instr.AtomEnd = Unit {0}
  FitsInstr instr.End = Unit {0}

  abbrev pub FitsFlow : Flow → Type 0
  FitsFlow f = Each FitsInstr FitsTest f

  -- ---- values

  pub record FitsVal (o : Operand) (v : Val) : Type 0 where
    pub flow : FitsFlow v.flow
    pub kind : OperandFits (kinds_of q v.pure) o
    pub tidy : Tidy p v.pure

  pub record FitsAim (b : Bool) (a : Aim) : Type 0 where
    pub flow : FitsFlow a.flow
    pub target : FitsTarget a.target b

  pub by_operand : (ks : Kinds) (o r : Operand) → o ≡ r → OperandFits ks r → OperandFits ks o
  by_operand ks o r e h = subst (OperandFits ks) (sym e) h

  -- an operand of this type that is no number
  pub by_kind : (ks : Kinds) (o : Operand) (b : Bool) → o.kind ≡ Some (kind_if_pointer b) → o.zero ≡ false → KindFits ks (Some (kind_if_pointer b)) false → OperandFits ks o
  by_kind ks o b e z h = subst (λ k. KindFits ks k o.zero) (sym e) (subst (KindFits ks (Some (kind_if_pointer b))) (sym z) h)

  pub set_to : (l : ℕ) (e : Pure) (b : Bool) → q l ≡ b → KindIs (kinds_of q e) b → Tidy p e → FitsInstr (instr.Set l e)
  set_to l e b is h t = (set_as q l e b is h, t)

  -- ---- accesses

  pub loaded_fits : (at : At) (a : Aim) (b : Bool) → FitsAim b a → q a.next ≡ b → FitsVal (made at (Some (kind_if_pointer b))) (loaded at a)
  loaded_fits at a b h e = record { flow = (h.flow, subst (FitsTarget a.target) (sym e) h.target); kind = local_fits q a.next b e; tidy = local_tidy p a.next }

  pub cell_fits : (s : Spot) (n : ℕ) (b : Bool) → SingleFits p s.first b → FitsAim b (cell s n)
  cell_fits s n b h = record { flow = tt; target = h }

  pub indexed_fits : (at : At) (s : Spot) (o : Operand) (i : Val) → IsTrue (kinds_of q i.pure).int → FitsVal o i → ArrayFits p (row_of s) → FitsAim false (indexed at s i)
  indexed_fits at s o i k h a = record {
    flow = (h.flow, (int_typed q (is_in_range i.pure s.len) (range_int q i.pure s.len k), range_tidy p i.pure s.len h.tidy));
    target = (refl, (k, h.tidy), a.whole);
  }

  pub followed_fits : (at : At) (o : Operand) (v : Val) → IsTrue (kinds_of q v.pure).pointer → FitsVal o v → FitsAim false (followed at v)
  followed_fits at o v k h = record {
    flow = (h.flow, (int_typed q (is_not_zero v.pure) (not_zero_int q v.pure (typed_of (kinds_of q v.pure) o.kind o.zero h.kind)), not_zero_tidy p v.pure h.tidy));
    target = (refl, (k, h.tidy));
  }

  pub division_fits : (op : Binary) (at : At) (e : Pure) → IsTrue (is_typed (kinds_of q e)) → Tidy p e → FitsFlow (division_check op at e)
  division_fits op at e k h = by (is_division op)
    where
      by : (b : Bool) → FitsFlow (if b then Do at (instr.Assert (is_not_zero e) 0) else Empty)
      by true = (int_typed q (is_not_zero e) (not_zero_int q e k), not_zero_tidy p e h)
      by false = tt

  address_fits : (at : At) (c : ℕ) → SingleFits p c false → OperandFits (kinds_of q (address c)) (made at (Some Pointer))
  address_fits at c h = (subst (λ (ks : Kinds). IsTrue ks.pointer) (sym (address_kinds q c)) refl, refl)

  address_at_fits : (at : At) (s : Spot) (o : Operand) (i : Val) → IsTrue (kinds_of q i.pure).int → FitsVal o i → ArrayFits p (row_of s) → FitsVal (made at (Some Pointer)) (address_at at s i)
  address_at_fits at s o i k h a = record {
    flow = (indexed_fits at s o i k h a).flow;
    kind = (subst (λ (ks : Kinds). IsTrue ks.pointer) (sym (element_kinds q s.first s.len i.pure)) k, refl);
    tidy = element_tidy p s.first s.len i.pure a h.tidy;
  }

  -- ---- operators

  short_fits : (at : At) (start test : Pure) (o : Operand) (a c : Val) → IsOf q start false → Tidy p start → FitsTest test → FitsFlow a.flow → FitsVal o c → q a.next ≡ false → FitsVal (made at (Some Int)) (short at start test a (λ k. c))
  short_fits at start test o a c ks ts t ha hc e = record {
    flow = (
      ha,
      (
        set_to a.next start false e ks ts,
        (t, (hc.flow, set_to a.next (is_not_zero c.pure) false e (not_zero_int q c.pure (typed_of (kinds_of q c.pure) o.kind o.zero hc.kind)) (not_zero_tidy p c.pure hc.tidy))),
      ),
    );
    kind = local_fits q a.next false e;
    tidy = local_tidy p a.next;
  }

  of_two_fits : (at : At) (op : Binary) (o r : Operand) (a c : Val) → FitsVal o a → FitsVal r c → IsTrue (binary_kinds op (kinds_of q a.pure) (kinds_of q c.pure)).int → FitsVal (made at (Some Int)) (of_two at op a (λ k. c))
  of_two_fits at op o r a c ha hc k = record {
    flow = (ha.flow, (hc.flow, division_fits op at c.pure (typed_of (kinds_of q c.pure) r.kind r.zero hc.kind) hc.tidy));
    kind = subst (λ (ks : Kinds). IsTrue ks.int) (sym (combined_kinds q op a.pure c.pure)) k;
    tidy = combined_tidy p op a.pure c.pure ha.tidy hc.tidy;
  }

  one_of_two_fits : (at : At) (t o r e : Operand) (c v w : Val) → FitsVal t c → FitsVal o v → FitsVal r w → JoinKind (kinds_of q v.pure) (kinds_of q w.pure) e.kind → e.zero ≡ false → q c.next ≡ is_pointer e.kind → FitsVal e (one_of_two at c (λ k. v) (λ k. w))
  one_of_two_fits at t o r e c v w hc hv hw j z k = record {
    flow = (
      hc.flow,
      (
        (typed_of (kinds_of q c.pure) t.kind t.zero hc.kind, hc.tidy),
        (hv.flow, set_to c.next v.pure (is_pointer e.kind) k (join_first (kinds_of q v.pure) (kinds_of q w.pure) e.kind j) hv.tidy),
        (hw.flow, set_to c.next w.pure (is_pointer e.kind) k (join_second (kinds_of q v.pure) (kinds_of q w.pure) e.kind j) hw.tidy),
      ),
    );
    kind = by_kind (kinds_of q (the_local c.next)) e (is_pointer e.kind) (joined_kind e.kind j) z (local_fits q c.next (is_pointer e.kind) k);
    tidy = local_tidy p c.next;
  }
    where
      joined_kind : (k : Option _) → JoinKind (kinds_of q v.pure) (kinds_of q w.pure) k → k ≡ Some (kind_if_pointer (is_pointer k))
      joined_kind (Some Int) h = refl
      joined_kind (Some Pointer) h = refl
      joined_kind (Some Nothing) h = absurd h
      joined_kind None h = absurd h

  of_three_fits : (t o r e : Operand) (c v w : Val) → FitsVal t c → FitsVal o v → FitsVal r w → JoinKind (kinds_of q v.pure) (kinds_of q w.pure) e.kind → e.zero ≡ false → FitsVal e (of_three c (λ k. v) (λ k. w))
  of_three_fits t o r e c v w hc hv hw j z = record {
    flow = (hc.flow, (hv.flow, hw.flow));
    kind = subst (λ (ks : Kinds). OperandFits ks e) (sym (chosen_kinds q c.pure v.pure w.pure))
        (subst (λ b. KindFits (kinds_chosen (kinds_of q c.pure) (kinds_of q v.pure) (kinds_of q w.pure)) e.kind b) (sym z)
        (chosen_fits (kinds_of q v.pure) (kinds_of q w.pure) (is_typed (kinds_of q c.pure)) e.kind (typed_of (kinds_of q c.pure) t.kind t.zero hc.kind) j));
    tidy = chosen_tidy p c.pure v.pure w.pure hc.tidy hv.tidy hw.tidy;
  }

  pub number_fits : (at : At) (z : ℤ) (n : ℕ) → FitsVal (record { at = at; zero = is_zero z; kind = Some Int }) (record { flow = Empty; pure = constant z; next = n })
  number_fits at z n = record { flow = tt; kind = subst (λ (ks : Kinds). KindFits ks (Some Int) (is_zero z)) (sym (constant_kinds q z)) (by (is_zero z)); tidy = constant_tidy p z }
    where
      by : (b : Bool) → KindFits (record { int = true; pointer = b }) (Some Int) b
      by true = (refl, refl)
      by false = refl

  null_fits : (at : At) (n : ℕ) → FitsVal (record { at = at; zero = false; kind = Some Pointer }) (record { flow = Empty; pure = zero_value; next = n })
  null_fits at n = record { flow = tt; kind = (zero_is q true, refl); tidy = constant_tidy p (pos 0) }

-- ---- the whole

module _ (p : Listing) (items : List Item) (names : Names) where
  -- where names are sound and globals have cells of their types, there are types for the fresh locals
  abbrev pub ReadsTyped : Judged → Reading → Type 0
  ReadsTyped j r =
      (s : Scope) (n : ℕ) → GlobalsFit p items s.spots → IsSound s.spots p.mutexes items names.globals → NoFault j.notes
      → Typing n (r.value s n).next (λ q. SeesTypes q names.locals s.names → FitsVal p q j.operand (r.value s n))

  abbrev P : Node → Type 0
  P d = (at : At) → ReadsTyped (judged_node names d at) (node_reading d at)

  abbrev Q : Expr → Type 0
  Q e = ReadsTyped (judged_expr names e) (reading e)

  by : (z : Node-F Node Expr) (at : At)
      → ReadsTyped (judged_node_step names (map-Node Node Expr (At → Judged) Judged (judged_node names) (judged_expr names) z) at) (node_step (map-Node Node Expr (At → Reading) Reading node_reading reading z) at)
      → ReadsTyped (judged_node names (roll-Node z) at) (node_reading (roll-Node z) at)
  unfolding reading
  by z at g =
      subst (λ (f : At → Judged). ReadsTyped (f at) (node_reading (roll-Node z) at)) (sym (fold-roll-Node (At → Judged) Judged (judged_node_step names) judged_expr_step z))
      (subst (λ (f : At → Reading). ReadsTyped (judged_node_step names (map-Node Node Expr (At → Judged) Judged (judged_node names) (judged_expr names) z) at) (f at)) (sym (fold-roll-Node (At → Reading) Reading node_step expr_step z)) g)

  by_expr : (z : Expr-F Node Expr) → ReadsTyped (judged_node names z.node z.at) (node_reading z.node z.at) → Q (roll-Expr z)
  unfolding reading
  by_expr z g =
      subst (λ (f : Judged). ReadsTyped f (reading (roll-Expr z))) (sym (fold-roll-Expr (At → Judged) Judged (judged_node_step names) judged_expr_step z))
      (subst (λ (f : Reading). ReadsTyped (judged_node names z.node z.at) f) (sym (fold-roll-Expr (At → Reading) Reading node_step expr_step z)) g)

  -- a variable as a value
  pub name_typed : (at : At) (x : Ident) (s : Scope) (n : ℕ) → GlobalsFit p items s.spots → IsSound s.spots p.mutexes items names.globals → NoFault (judged_name sort.Variable names at x).notes
      → Typing n (name_value at s x (local_of s.names x) n).next (λ q. SeesTypes q names.locals s.names → FitsVal p q (judged_name sort.Variable names at x).operand (name_value at s x (local_of s.names x) n))
  name_typed at x s n g sound f = choose (local_of s.names x) refl
    where
      o : Operand
      o = (judged_name sort.Variable names at x).operand

      of_local : (q : ℕ → Bool) (l : ℕ) → local_of s.names x ≡ Some l → VariableIs p s.spots q s.names x (is_pointer o.kind) → q l ≡ is_pointer o.kind
      of_local q l e (a_local h) = subst (λ k. q k ≡ is_pointer o.kind) (same_some h.local l (sym h.is ∙ e)) h.type
      of_local q l e (a_global none h) = absurd (none_is_not l (sym none ∙ e))

      of_global : (q : ℕ → Bool) → local_of s.names x ≡ None → VariableIs p s.spots q s.names x (is_pointer o.kind) → SingleFits p (the_spot (spot_of s.spots x)).first (is_pointer o.kind)
      of_global q e (a_local h) = absurd (none_is_not h.local (sym e ∙ h.is))
      of_global q e (a_global none h) = h

      is : (q : ℕ → Bool) → SeesTypes q names.locals s.names → IsVariable p s.spots q s.names x o
      is q sees = variable_is p items s.spots g q s.names x at names sound sees f

      choose : (l : Option ℕ) → local_of s.names x ≡ l → Typing n (name_value at s x l n).next (λ q. SeesTypes q names.locals s.names → FitsVal p q o (name_value at s x l n))
      choose (Some l) e = still n _ (λ q sees.
          let v = is q sees in
          record { flow = tt; kind = by_kind p q (kinds_of q (the_local l)) o (is_pointer o.kind) v.kind v.zero (local_fits q l (is_pointer o.kind) (of_local q l e v.place)); tidy = local_tidy p l })
      choose None e =
          over n (n + 1) (λ q. Unit {0} × (q n ≡ is_pointer o.kind)) _ (λ q h sees.
          let v = is q sees in
          let r = loaded_fits p q at (cell (the_spot (spot_of s.spots x)) n) (is_pointer o.kind) (cell_fits p q (the_spot (spot_of s.spots x)) n (is_pointer o.kind) (of_global q e v.place)) h.1 in
          record { flow = r.flow; kind = by_kind p q (kinds_of q (the_local n)) o (is_pointer o.kind) v.kind v.zero r.kind; tidy = r.tidy })
          (then_fresh n n (λ q. Unit {0}) (is_pointer o.kind) (omega arith) (still n (λ q. Unit {0}) (λ q. tt)))

  abbrev Proved : Type 0
  Proved = (e : Expr) × Q e

  abbrev jud : Expr → Operand
  jud e = (judged_expr names e).operand

  node_typed : (y : Node-F ((d : Node) × P d) Proved) → P (roll-Node (map-Node ((d : Node) × P d) Proved Node Expr (λ d. d.0) (λ e. e.0) y))
  node_typed (node.Number z) at = by (node.Number z) at (λ s n g sound f. still n _ (λ q sees. number_fits p q at z n))
  node_typed node.Null at = by node.Null at (λ s n g sound f. still n _ (λ q sees. null_fits p q at n))
  node_typed (node.Name x) at = by (node.Name x) at (λ s n g sound f. name_typed at x s n g sound f)
  node_typed (node.Index x e) at = by (node.Index x e.0) at (λ s n g sound f.
      let a : List Note = (judged_name sort.Array names at x).notes in
      let i : List Note = (judged_expr names e.0).notes in
      let parts = fault_left (a ++ i) _ f in
      let v : Val = expr_value e.0 s n in
      let spot : Spot = the_spot (spot_of s.spots x) in
      over n (v.next + 1) _ _ (λ q h sees.
      let array = array_is p items s.spots g q s.names x at names sound sees (fault_left a i parts) in
      let index = h.0 sees in
      let r = element_makes at Int (judged_name sort.Array names at x).operand (jud e.0) (kinds_of q v.pure) (fault_right (a ++ i) _ f) array.0 index.kind in
      let w = loaded_fits p q at (indexed at spot v) false (indexed_fits p q at spot (jud e.0) v r.0 index array.1) h.1 in
      record { flow = w.flow; kind = by_operand p q (kinds_of q (the_local v.next)) _ _ r.1 w.kind; tidy = w.tidy })
      (then_fresh n v.next (λ q. SeesTypes q names.locals s.names → FitsVal p q (jud e.0) v) false (grows e.0 s n) (e.1 s n g sound (fault_right a i parts))))
  node_typed (node.Deref e) at = by (node.Deref e.0) at (λ s n g sound f.
      let i : List Note = (judged_expr names e.0).notes in
      let v : Val = expr_value e.0 s n in
      over n (v.next + 1) _ _ (λ q h sees.
      let pointer = h.0 sees in
      let r = deref_makes at (jud e.0) (kinds_of q v.pure) (fault_right i _ f) pointer.kind in
      let w = loaded_fits p q at (followed at v) false (followed_fits p q at (jud e.0) v r.0 pointer) h.1 in
      record { flow = w.flow; kind = by_operand p q (kinds_of q (the_local v.next)) _ _ r.1 w.kind; tidy = w.tidy })
      (then_fresh n v.next (λ q. SeesTypes q names.locals s.names → FitsVal p q (jud e.0) v) false (grows e.0 s n) (e.1 s n g sound (fault_left i _ f))))
  node_typed (node.AddrName w) at = by (node.AddrName w) at (λ s n g sound f.
      still n _ (λ q sees.
      let shared = shared_is p items s.spots g q s.names w.name w.at names sound sees (fault_left (judged_name sort.Shared names w.at w.name).notes _ f) in
      let c : ℕ = (the_spot (spot_of s.spots w.name)).first in
      record { flow = tt; kind = by_operand p q (kinds_of q (address c)) _ _ (address_made at (judged_name sort.Shared names w.at w.name).operand shared.0) (address_fits p q at c shared.1); tidy = address_tidy p c shared.1 }))
  node_typed (node.AddrIndex w e) at = by (node.AddrIndex w e.0) at (λ s n g sound f.
      let a : List Note = (judged_name sort.Array names w.at w.name).notes in
      let i : List Note = (judged_expr names e.0).notes in
      let parts = fault_left (a ++ i) _ f in
      let v : Val = expr_value e.0 s n in
      let spot : Spot = the_spot (spot_of s.spots w.name) in
      over n v.next (λ q. SeesTypes q names.locals s.names → FitsVal p q (jud e.0) v) _ (λ q h sees.
      let array = array_is p items s.spots g q s.names w.name w.at names sound sees (fault_left a i parts) in
      let index = h sees in
      let r = element_makes at Pointer (judged_name sort.Array names w.at w.name).operand (jud e.0) (kinds_of q v.pure) (fault_right (a ++ i) _ f) array.0 index.kind in
      let u = address_at_fits p q at spot (jud e.0) v r.0 index array.1 in
      record { flow = u.flow; kind = by_operand p q (kinds_of q (address_at at spot v).pure) _ _ r.1 u.kind; tidy = u.tidy })
      (e.1 s n g sound (fault_right a i parts)))
  node_typed (node.Un op e) at = by (node.Un op e.0) at (λ s n g sound f.
      let i : List Note = (judged_expr names e.0).notes in
      let v : Val = expr_value e.0 s n in
      over n v.next (λ q. SeesTypes q names.locals s.names → FitsVal p q (jud e.0) v) _ (λ q h sees.
      let part = h sees in
      let r = unary_makes at op (jud e.0) (kinds_of q v.pure) (fault_right i _ f) part.kind in
      record { flow = part.flow; kind = by_operand p q (kinds_of q (applied op v.pure)) _ _ r.1 (subst (λ (ks : Kinds). IsTrue ks.int) (sym (applied_kinds q op v.pure)) r.0); tidy = applied_tidy p op v.pure part.tidy })
      (e.1 s n g sound (fault_left i _ f)))
  node_typed (node.Bin op a b) at = by (node.Bin op a.0 b.0) at (λ s n g sound f.
      let i : List Note = (judged_expr names a.0).notes in
      let j : List Note = (judged_expr names b.0).notes in
      let parts = fault_left (i ++ j) _ f in
      binary_typed at op (joining op ((reading b.0).has_code s)) (jud a.0) (jud b.0) (fault_right (i ++ j) _ f) s n (reading a.0) (reading b.0) (grows a.0) (grows b.0)
      (a.1 s n g sound (fault_left i j parts)) (λ k. b.1 s k g sound (fault_right i j parts)))
    where
      binary_typed : (at : At) (op : Binary) (j : Joining) (o r : Operand) → NoFault (binary at op o r).notes → (s : Scope) (n : ℕ) (x y : Reading) → Grows x → Grows y
          → Typing n (x.value s n).next (λ q. SeesTypes q names.locals s.names → FitsVal p q o (x.value s n))
          → ((k : ℕ) → Typing k (y.value s k).next (λ q. SeesTypes q names.locals s.names → FitsVal p q r (y.value s k)))
          → Typing n (binary_value at op j (x.value s n) (y.value s)).next (λ q. SeesTypes q names.locals s.names → FitsVal p q (binary at op o r).operand (binary_value at op j (x.value s n) (y.value s)))
      binary_typed at op And o r f s n x y gx gy tx ty =
          let a : Val = x.value s n in
          let t : ℕ = a.next in
          let c : Val = y.value s (t + 1) in
          over n c.next _ _ (λ q h sees.
          let first = h.0.0 sees in
          let second = h.1 sees in
          let m = binary_makes at op o r (kinds_of q a.pure) (kinds_of q c.pure) f first.kind second.kind in
          let w = short_fits p q at zero_value a.pure r a c (zero_is q false) (constant_tidy p (pos 0)) (typed_of (kinds_of q a.pure) o.kind o.zero first.kind, first.tidy) first.flow second h.0.1 in
          record { flow = w.flow; kind = by_operand p q (kinds_of q (the_local t)) _ _ m.1 w.kind; tidy = w.tidy })
          (both n (t + 1) c.next (λ q. (SeesTypes q names.locals s.names → FitsVal p q o a) × (q t ≡ false)) (λ q. SeesTypes q names.locals s.names → FitsVal p q r c) (omega (arith, gx s n)) (gy s (t + 1))
          (then_fresh n t (λ q. SeesTypes q names.locals s.names → FitsVal p q o a) false (gx s n) tx) (ty (t + 1)))
      binary_typed at op Or o r f s n x y gx gy tx ty =
          let a : Val = x.value s n in
          let t : ℕ = a.next in
          let c : Val = y.value s (t + 1) in
          over n c.next _ _ (λ q h sees.
          let first = h.0.0 sees in
          let second = h.1 sees in
          let m = binary_makes at op o r (kinds_of q a.pure) (kinds_of q c.pure) f first.kind second.kind in
          let not_typed = int_typed q (applied Not a.pure) (subst (λ (ks : Kinds). IsTrue ks.int) (sym (applied_kinds q Not a.pure)) (typed_of (kinds_of q a.pure) o.kind o.zero first.kind)) in
          let w = short_fits p q at one_value (applied Not a.pure) r a c (one_is q) (constant_tidy p (pos 1)) (not_typed, applied_tidy p Not a.pure first.tidy) first.flow second h.0.1 in
          record { flow = w.flow; kind = by_operand p q (kinds_of q (the_local t)) _ _ m.1 w.kind; tidy = w.tidy })
          (both n (t + 1) c.next (λ q. (SeesTypes q names.locals s.names → FitsVal p q o a) × (q t ≡ false)) (λ q. SeesTypes q names.locals s.names → FitsVal p q r c) (omega (arith, gx s n)) (gy s (t + 1))
          (then_fresh n t (λ q. SeesTypes q names.locals s.names → FitsVal p q o a) false (gx s n) tx) (ty (t + 1)))
      binary_typed at op Both o r f s n x y gx gy tx ty =
          let a : Val = x.value s n in
          let c : Val = y.value s a.next in
          over n c.next _ _ (λ q h sees.
          let first = h.0 sees in
          let second = h.1 sees in
          let m = binary_makes at op o r (kinds_of q a.pure) (kinds_of q c.pure) f first.kind second.kind in
          let w = of_two_fits p q at op o r a c first second m.0 in
          record { flow = w.flow; kind = by_operand p q (kinds_of q (combined op a.pure c.pure)) _ _ m.1 w.kind; tidy = w.tidy })
          (both n a.next c.next (λ q. SeesTypes q names.locals s.names → FitsVal p q o a) (λ q. SeesTypes q names.locals s.names → FitsVal p q r c) (gx s n) (gy s a.next) tx (ty a.next))
  node_typed (node.Cond c a b) at = by (node.Cond c.0 a.0 b.0) at (λ s n g sound f.
      let i : List Note = (judged_expr names c.0).notes in
      let j : List Note = (judged_expr names a.0).notes in
      let k : List Note = (judged_expr names b.0).notes in
      let parts = fault_left ((i ++ j) ++ k) _ f in
      let front = fault_left (i ++ j) k parts in
      cond_typed at ((reading a.0).has_code s || (reading b.0).has_code s) (jud c.0) (jud a.0) (jud b.0) (fault_right ((i ++ j) ++ k) _ f) s n (reading c.0) (reading a.0) (reading b.0) (grows c.0) (grows a.0) (grows b.0)
      (c.1 s n g sound (fault_left i j front)) (λ m. a.1 s m g sound (fault_right i j front)) (λ m. b.1 s m g sound (fault_right (i ++ j) k parts)))
    where
      cond_typed : (at : At) (choose : Bool) (t o r : Operand) → NoFault (choice at t o r).notes → (s : Scope) (n : ℕ) (x y z : Reading) → Grows x → Grows y → Grows z
          → Typing n (x.value s n).next (λ q. SeesTypes q names.locals s.names → FitsVal p q t (x.value s n))
          → ((k : ℕ) → Typing k (y.value s k).next (λ q. SeesTypes q names.locals s.names → FitsVal p q o (y.value s k)))
          → ((k : ℕ) → Typing k (z.value s k).next (λ q. SeesTypes q names.locals s.names → FitsVal p q r (z.value s k)))
          → Typing n (cond_value at choose (x.value s n) (y.value s) (z.value s)).next (λ q. SeesTypes q names.locals s.names → FitsVal p q (choice at t o r).operand (cond_value at choose (x.value s n) (y.value s) (z.value s)))
      cond_typed at true t o r f s n x y z gx gy gz tx ty tz =
          let c : Val = x.value s n in
          let m : ℕ = c.next + 1 in
          let v : Val = y.value s m in
          let w : Val = z.value s v.next in
          let e : Operand = (choice at t o r).operand in
          over n w.next _ _ (λ q h sees.
          let test = h.0.0 sees in
          let first = h.1.0 sees in
          let second = h.1.1 sees in
          let j = choice_makes at t o r (kinds_of q c.pure) (kinds_of q v.pure) (kinds_of q w.pure) f test.kind first.kind second.kind in
          one_of_two_fits p q at t o r e c v w test first second j.0 j.1 h.0.1)
          (both n m w.next (λ q. (SeesTypes q names.locals s.names → FitsVal p q t c) × (q c.next ≡ is_pointer e.kind)) (λ q. (SeesTypes q names.locals s.names → FitsVal p q o v) × (SeesTypes q names.locals s.names → FitsVal p q r w)) (omega (arith, gx s n)) (omega (arith, gy s m, gz s v.next))
          (then_fresh n c.next (λ q. SeesTypes q names.locals s.names → FitsVal p q t c) (is_pointer e.kind) (gx s n) tx)
          (both m v.next w.next (λ q. SeesTypes q names.locals s.names → FitsVal p q o v) (λ q. SeesTypes q names.locals s.names → FitsVal p q r w) (gy s m) (gz s v.next) (ty m) (tz v.next)))
      cond_typed at false t o r f s n x y z gx gy gz tx ty tz =
          let c : Val = x.value s n in
          let m : ℕ = c.next in
          let v : Val = y.value s m in
          let w : Val = z.value s v.next in
          let e : Operand = (choice at t o r).operand in
          over n w.next _ _ (λ q h sees.
          let test = h.0 sees in
          let first = h.1.0 sees in
          let second = h.1.1 sees in
          let j = choice_makes at t o r (kinds_of q c.pure) (kinds_of q v.pure) (kinds_of q w.pure) f test.kind first.kind second.kind in
          of_three_fits p q t o r e c v w test first second j.0 j.1)
          (both n m w.next (λ q. SeesTypes q names.locals s.names → FitsVal p q t c) (λ q. (SeesTypes q names.locals s.names → FitsVal p q o v) × (SeesTypes q names.locals s.names → FitsVal p q r w)) (gx s n) (omega (arith, gy s m, gz s v.next)) tx
          (both m v.next w.next (λ q. SeesTypes q names.locals s.names → FitsVal p q o v) (λ q. SeesTypes q names.locals s.names → FitsVal p q r w) (gy s m) (gz s v.next) (ty m) (tz v.next)))

  pub expr_typed : (e : Expr) → Q e
  expr_typed = ind-Expr P Q (λ x y is. subst (λ z. P (roll-Node z)) is (node_typed y)) (λ x y is. subst (λ z. Q (roll-Expr z)) is (by_expr (map-Expr _ _ Node Expr (λ d. d.0) (λ e. e.0) y) (y.node.1 y.at)))
