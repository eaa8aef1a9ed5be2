-- A start value that is accepted fits its cell.
use Rattle.std.proofs.Common.{◌≡◌, ℕ, ℤ, pos, ◌+◌, Bool, false, IsTrue, List, [], ◌++◌, refl, sym, subst, Some}
use Rattle.std.specs.List.{AllByRecursion}
use Rattle.mm_goto.specs.declared.ident.At.{At}
use Rattle.mm_goto.specs.declared.pure.Pure.{Pure}
use Rattle.mm_goto.specs.Kinds.{Kinds, kinds_of}
use Rattle.mm_goto.specs.Listing.{Listing}
use Rattle.mm_goto.specs.Parts.{numbers, numbers_step}
use Rattle.mm_goto.specs.Terms.{constant}
use Rattle.mm_goto.proofs.Folding.{fold_constant}
use Rattle.mm_tree.specs.declared.expr.Expr.{Expr}
use Rattle.mm_tree.specs.declared.expr.Node.{Node}
use Rattle.mm_tree.specs.declared.expr.Node.TheOpen as node
use Rattle.mm_tree.specs.declared.expr.Node.TheOpen.{Node-F}
use Rattle.mm_tree.specs.declared.expr.Node.TheFolds.{map-Node}
use Rattle.mm_tree.specs.declared.item.Global.{Global}
use Rattle.mm_tree.specs.declared.item.Item.{Item}
use Rattle.mm_tree.specs.Trees.{node_of, place_of}
use Rattle.mm_flow.specs.declared.names.Spot.{Spot}
use Rattle.mm_flow.specs.Expressions.{the_spot, zero_value}
use Rattle.mm_flow.specs.Programs.{start_of, start_value, start_index}
use Rattle.mm_flow.specs.Scopes.{spot_of}
use Rattle.mm_flow.specs.Words.{address, element}
use Rattle.mm_scope.specs.declared.expression.Sort.TheVariants as sort
use Rattle.mm_scope.specs.declared.operand.Kind.TheVariants.{Pointer}
use Rattle.mm_scope.specs.declared.operand.Operand.{Operand}
use Rattle.mm_scope.specs.Expressions.{judged_expr, judged_node, judged_node_step, named as judged_name}
use Rattle.mm_scope.specs.Notes.{Note}
use Rattle.mm_scope.specs.Operands.{Judged, fit, made}
use Rattle.mm_scope.specs.Scopes.{Names, Table}
use Rattle.mm_scope.specs.Values.{kind_if_pointer}
use Rattle.mm_names.specs.Items.{start_notes}
use Rattle.mm_sourcelike.specs.Ints.{numbers_of, node_numbers}
use Rattle.mm_sourcelike.proofs.Evaluating.{node_ints}
use Rattle.mm_sourcelike.proofs.Judging.{KindIs, OperandFits, address_made, as_value, element_makes, fit_as}
use Rattle.mm_sourcelike.proofs.Pures.{fold_address, fold_element}
use Rattle.mm_sourcelike.proofs.Scoping.{NoFault, IsSound, fault_left, fault_right, none_is_not}
use Rattle.mm_sourcelike.proofs.Starting.{global_names, judged_is, numbers_are}
use Rattle.mm_sourcelike.proofs.TypedExpressions.{expr_typed, number_fits}
use Rattle.mm_sourcelike.proofs.TypedNames.{GlobalsFit, SeesTypes, array_is, shared_is}
use Rattle.mm_sourcelike.proofs.TypedPures.{Tidy, address_kinds, address_tidy, constant_kinds, constant_tidy, element_kinds, element_tidy, zero_is}
use Rattle.mm_sourcelike.proofs.TypedValues.{zero_kind}

-- each start value of the global is so
abbrev pub Starts : List Spot → (Global → Pure → Type 0) → Global → Type 0
Starts ss S g = AllByRecursion (λ e. S g (start_value ss e)) g.init

-- there are no locals
abbrev pub no_pointers : ℕ → Bool
no_pointers l = false

-- it has the type, and takes addresses as a source does
pub record StartTyped (p : Listing) (pointer : Bool) (e : Pure) : Type 0 where
  pub kind : KindIs (kinds_of no_pointers e) pointer
  pub tidy : Tidy p e

pub zero_typed : (p : Listing) (pointer : Bool) → StartTyped p pointer zero_value
zero_typed p pointer = record { kind = zero_kind no_pointers pointer; tidy = constant_tidy p (pos 0) }

no_names : (q : ℕ → Bool) → SeesTypes q [] []
no_names q = record { each = λ x m e. absurd (none_is_not m e); known = λ x l e. absurd (none_is_not l e) }

-- the index of an address is an int
index_int : (p : Listing) (d : Node-F Node Expr) → IsTrue (kinds_of no_pointers (start_index d)).int × Tidy p (start_index d)
index_int p (node.Number z) = (subst (λ (ks : Kinds). IsTrue ks.int) (sym (constant_kinds no_pointers z)) refl, constant_tidy p z)
index_int p node.Null = (zero_is no_pointers false, constant_tidy p (pos 0))
index_int p (node.Name x) = (zero_is no_pointers false, constant_tidy p (pos 0))
index_int p (node.Index x e) = (zero_is no_pointers false, constant_tidy p (pos 0))
index_int p (node.Deref e) = (zero_is no_pointers false, constant_tidy p (pos 0))
index_int p (node.AddrName w) = (zero_is no_pointers false, constant_tidy p (pos 0))
index_int p (node.AddrIndex w e) = (zero_is no_pointers false, constant_tidy p (pos 0))
index_int p (node.Un op e) = (zero_is no_pointers false, constant_tidy p (pos 0))
index_int p (node.Bin op a b) = (zero_is no_pointers false, constant_tidy p (pos 0))
index_int p (node.Cond c a b) = (zero_is no_pointers false, constant_tidy p (pos 0))

module _ (p : Listing) (items : List Item) (spots : List Spot) (g : GlobalsFit p items spots) (table : Table) (sound : IsSound spots p.mutexes items table) where
  abbrev names : Names
  names = global_names table

  abbrev judged : Node-F Node Expr → At → Judged
  judged d at = judged_node_step names (map-Node Node Expr (At → Judged) Judged (judged_node names) (judged_expr names) d) at

  by : (pointer : Bool) (e : Pure) (o : Operand) → NoFault (fit (kind_if_pointer pointer) o).notes → OperandFits (kinds_of no_pointers e) o → Tidy p e → StartTyped p pointer e
  by pointer e o f h t = record { kind = fit_as pointer o (kinds_of no_pointers e) f (as_value (kinds_of no_pointers e) o.kind o.zero h); tidy = t }

  -- where what is judged of it is a pointer
  by_pointer : (pointer : Bool) (at : At) (e : Pure) (o : Operand) → NoFault (fit (kind_if_pointer pointer) o).notes → o ≡ made at (Some Pointer) → IsTrue (kinds_of no_pointers e).pointer → Tidy p e → StartTyped p pointer e
  by_pointer pointer at e o f is h t = by pointer e o f (subst (OperandFits (kinds_of no_pointers e)) (sym is) (h, refl)) t

  start_by : (pointer : Bool) (d : Node-F Node Expr) (at : At) → NoFault (judged d at).notes → NoFault (fit (kind_if_pointer pointer) (judged d at).operand).notes → StartTyped p pointer (start_of spots d)
  start_by pointer (node.Number z) at f h = let v = number_fits p no_pointers at z 0 in by pointer (constant z) (judged (node.Number z) at).operand h v.kind v.tidy
  start_by pointer node.Null at f h = zero_typed p pointer
  start_by pointer (node.Name x) at f h = zero_typed p pointer
  start_by pointer (node.Index x e) at f h = zero_typed p pointer
  start_by pointer (node.Deref e) at f h = zero_typed p pointer
  start_by pointer (node.AddrName w) at f h =
      let c : ℕ = (the_spot (spot_of spots w.name)).first in
      let shared = shared_is p items spots g no_pointers [] w.name w.at names sound (no_names no_pointers) (fault_left (judged_name sort.Shared names w.at w.name).notes _ f) in
      by_pointer pointer at (address c) (judged (node.AddrName w) at).operand h (address_made at (judged_name sort.Shared names w.at w.name).operand shared.0)
      (subst (λ (ks : Kinds). IsTrue ks.pointer) (sym (address_kinds no_pointers c)) refl) (address_tidy p c shared.1)
  start_by pointer (node.AddrIndex w e) at f h =
      let a : List Note = (judged_name sort.Array names w.at w.name).notes in
      let i : List Note = (judged_expr names e).notes in
      let parts = fault_left (a ++ i) _ f in
      let spot : Spot = the_spot (spot_of spots w.name) in
      let array = array_is p items spots g no_pointers [] w.name w.at names sound (no_names no_pointers) (fault_left a i parts) in
      let index = index_int p (node_of e) in
      let t = expr_typed p items names e (record { spots = spots; names = [] }) 0 g sound (fault_right a i parts) in
      let v = t.holds t.kinds (λ l m k. refl) (no_names t.kinds) in
      let r = element_makes at Pointer (judged_name sort.Array names w.at w.name).operand (judged_expr names e).operand _ (fault_right (a ++ i) _ f) array.0 v.kind in
      by_pointer pointer at (element spot.first spot.len (start_index (node_of e))) (judged (node.AddrIndex w e) at).operand h r.1
      (subst (λ (ks : Kinds). IsTrue ks.pointer) (sym (element_kinds no_pointers spot.first spot.len (start_index (node_of e)))) index.0) (element_tidy p spot.first spot.len (start_index (node_of e)) array.1 index.1)
  start_by pointer (node.Un op e) at f h = zero_typed p pointer
  start_by pointer (node.Bin op a b) at f h = zero_typed p pointer
  start_by pointer (node.Cond c a b) at f h = zero_typed p pointer

  pub start_typed : (pointer : Bool) (e : Expr) → NoFault (start_notes pointer e names) → StartTyped p pointer (start_value spots e)
  unfolding start_notes
  start_typed pointer e f =
      let j : Judged = judged_expr names e in
      let first = fault_left (j.notes ++ (fit (kind_if_pointer pointer) j.operand).notes) _ f in
      start_by pointer (node_of e) (place_of e)
      (subst (λ (q : Judged). NoFault q.notes) (judged_is names e) (fault_left j.notes _ first))
      (subst (λ (q : Judged). NoFault (fit (kind_if_pointer pointer) q.operand).notes) (judged_is names e) (fault_right j.notes _ first))

-- ---- its numbers

module _ (P : ℤ → Type 0) (zero : P (pos 0)) where
  constant_numbers : (z : ℤ) → P z → AllByRecursion P (numbers (constant z))
  constant_numbers z h = rw (fold_constant numbers_step z) (h, tt)

  index_numbers : (d : Node-F Node Expr) → AllByRecursion P (node_numbers (map-Node Node Expr (List ℤ) (List ℤ) node_ints numbers_of d)) → AllByRecursion P (numbers (start_index d))
  index_numbers (node.Number z) h = constant_numbers z h.0
  index_numbers node.Null h = constant_numbers (pos 0) zero
  index_numbers (node.Name x) h = constant_numbers (pos 0) zero
  index_numbers (node.Index x e) h = constant_numbers (pos 0) zero
  index_numbers (node.Deref e) h = constant_numbers (pos 0) zero
  index_numbers (node.AddrName w) h = constant_numbers (pos 0) zero
  index_numbers (node.AddrIndex w e) h = constant_numbers (pos 0) zero
  index_numbers (node.Un op e) h = constant_numbers (pos 0) zero
  index_numbers (node.Bin op a b) h = constant_numbers (pos 0) zero
  index_numbers (node.Cond c a b) h = constant_numbers (pos 0) zero

  numbers_by : (spots : List Spot) (d : Node-F Node Expr) → AllByRecursion P (node_numbers (map-Node Node Expr (List ℤ) (List ℤ) node_ints numbers_of d)) → AllByRecursion P (numbers (start_of spots d))
  numbers_by spots (node.Number z) h = constant_numbers z h.0
  numbers_by spots node.Null h = constant_numbers (pos 0) zero
  numbers_by spots (node.Name x) h = constant_numbers (pos 0) zero
  numbers_by spots (node.Index x e) h = constant_numbers (pos 0) zero
  numbers_by spots (node.Deref e) h = constant_numbers (pos 0) zero
  numbers_by spots (node.AddrName w) h = rw (fold_address numbers_step (the_spot (spot_of spots w.name)).first) tt
  numbers_by spots (node.AddrIndex w e) h =
      rw (fold_element numbers_step (the_spot (spot_of spots w.name)).first (the_spot (spot_of spots w.name)).len (start_index (node_of e))) (index_numbers (node_of e) (subst (AllByRecursion P) (numbers_are e) h))
  numbers_by spots (node.Un op e) h = constant_numbers (pos 0) zero
  numbers_by spots (node.Bin op a b) h = constant_numbers (pos 0) zero
  numbers_by spots (node.Cond c a b) h = constant_numbers (pos 0) zero

  -- what holds of the numbers of the text and of 0 holds of those of the start value
  pub start_numbers : (spots : List Spot) (e : Expr) → AllByRecursion P (numbers_of e) → AllByRecursion P (numbers (start_value spots e))
  start_numbers spots e h = numbers_by spots (node_of e) (subst (AllByRecursion P) (numbers_are e) h)

  pub zero_numbers : AllByRecursion P (numbers zero_value)
  zero_numbers = constant_numbers (pos 0) zero
