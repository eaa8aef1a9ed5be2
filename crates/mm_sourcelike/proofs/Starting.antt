-- A start value that is accepted is one among the cells.
use Rattle.std.proofs.Common.{arith, ◌≡◌, ℕ, ℤ, pos, negsuc, ◌<◌, ◌^◌, Bool, true, false, not, ◌&&◌, List, [], ◌++◌, length, rules, refl, sym, subst, Option, Some, None}
use Rattle.std.specs.Prelude.{int_lt}
use Rattle.std.specs.List.{AllByRecursion}
use Rattle.std.proofs.lemmas.Bool.Decides.{nat_tests}
use Rattle.mm_goto.specs.declared.ident.At.{At}
use Rattle.mm_goto.specs.declared.ident.Ident.{Ident}
use Rattle.mm_goto.specs.declared.program.Thread.{Thread}
use Rattle.mm_goto.specs.Listing.{Listing}
use Rattle.mm_goto.specs.Terms.{constant}
use Rattle.mm_goto.specs.Valid.{IsInt, IsRow}
use Rattle.mm_tree.specs.declared.expr.Expr.{Expr}
use Rattle.mm_tree.specs.declared.expr.Node.{Node, the_lemmas as expr_lemmas}
use Rattle.mm_tree.specs.declared.expr.Node.TheOpen as node
use Rattle.mm_tree.specs.declared.expr.Node.TheOpen.{Node-F}
use Rattle.mm_tree.specs.declared.expr.Node.TheFolds.{map-Node}
use Rattle.mm_tree.specs.declared.item.Item.{Item}
use Rattle.mm_tree.specs.Trees.{node_of, place_of}
use Rattle.mm_flow.specs.declared.names.Spot.{Spot}
use Rattle.mm_flow.specs.Expressions.{the_spot}
use Rattle.mm_flow.specs.Programs.{natural, start_of, start_value, start_index}
use Rattle.mm_flow.specs.Scopes.{spot_of}
use Rattle.mm_flow.specs.Words.{element}
use Rattle.mm_scope.specs.declared.expression.Sort.TheVariants as sort
use Rattle.mm_scope.specs.declared.table.Meaning.{Meaning}
use Rattle.mm_scope.specs.declared.table.Meaning.TheVariants as meaning
use Rattle.mm_scope.specs.Expressions.{judged_expr, judged_node, judged_node_step, judged_meaning, named as judged_name}
use Rattle.mm_scope.specs.Notes.{Note}
use Rattle.mm_scope.specs.Operands.{Judged}
use Rattle.mm_scope.specs.Scopes.{Names, Table, meaning_in, meaning_of}
use Rattle.mm_names.specs.Items.{start_notes, address_notes, index_notes, is_index, refused_if}
use Rattle.mm_sourcelike.specs.Ints.{numbers_of, node_numbers}
use Rattle.mm_sourcelike.proofs.Cells.{row_of, StartsIn, number_starts, zero_starts, address_starts, element_starts}
use Rattle.mm_sourcelike.proofs.Evaluating.{node_ints}
use Rattle.mm_sourcelike.proofs.Resolving.{spot_row, shared_spot, found_passes}
use Rattle.mm_sourcelike.proofs.Scoping.{NoFault, fault_left, fault_right, Means, IsSound, Reads, none_is_not}
use Rattle.mm_sourcelike.proofs.Tables.{true_is_not}
use Rattle.mm_sourcelike.proofs.Valuing.{test_second}

abbrev pub global_names : Table → Names
global_names table = record { globals = table; locals = [] }

pub no_thread : Thread
no_thread = record { locals = 0; code = []; places = [] }

pub judged_is : (names : Names) (e : Expr) → judged_expr names e ≡ judged_node_step names (map-Node Node Expr (At → Judged) Judged (judged_node names) (judged_expr names) (node_of e)) (place_of e)
judged_is names e = search (rules, expr_lemmas)

pub numbers_are : (e : Expr) → numbers_of e ≡ node_numbers (map-Node Node Expr (List ℤ) (List ℤ) node_ints numbers_of (node_of e))
unfolding numbers_of
numbers_are e = search (rules, expr_lemmas)

-- a number that is below the length of an array, and not below 0, is a natural number below it
pub record IsBelow (z : ℤ) (len : ℕ) : Type 0 where
  pub k : ℕ
  pub is : z ≡ pos k
  pub below : k < len

below_length : (n z : ℤ) → (not (int_lt z (pos 0)) && int_lt z n) ≡ true → IsBelow z (natural n)
below_length (pos n) (pos k) h = record { k = k; is = refl; below = grind (arith, nat_tests) }
below_length (negsuc n) (pos k) h = true_is_not (sym (test_second (not (int_lt (pos k) (pos 0))) (int_lt (pos k) (negsuc n)) h))
below_length (pos n) (negsuc k) h = true_is_not (sym h)
below_length (negsuc n) (negsuc k) h = true_is_not (sym h)

not_refused : (b : Bool) (at : At) → NoFault (refused_if b at) → b ≡ false
not_refused true at h = absurd h
not_refused false at h = refl

not_false : (b : Bool) → not b ≡ false → b ≡ true
not_false true h = refl
not_false false h = true_is_not h

module _ (p : Listing) (items : List Item) (spots : List Spot) (few : length p.cells < 2 ^ 31) (rows : AllByRecursion (λ s. IsRow p.cells (row_of s)) spots) (table : Table) (sound : IsSound spots p.mutexes items table) where
  reads : Reads p no_thread items spots [] (global_names table)
  reads = record {
    few = few;
    rows = rows;
    sees = record { each = λ x m e. absurd (none_is_not m e) };
    locals = record { each = λ x l e. absurd (none_is_not l e) };
    globals = sound;
  }

  element_by : (z : ℤ) (len : ℕ) (s : Spot) → IsRow p.cells (row_of s) → s.len ≡ len → IsBelow z len → IsInt z → StartsIn p.cells (element s.first s.len (constant z))
  element_by z len s row e b i =
      subst (λ (y : ℤ). StartsIn p.cells (element s.first s.len (constant y))) (sym b.is)
      (element_starts p.cells s.first s.len b.k row (omega (arith, e, b.below)) (subst IsInt b.is i))

  index_by : (n : ℤ) (d : Node-F Node Expr) (s : Spot) → IsRow p.cells (row_of s) → s.len ≡ natural n → is_index n d ≡ true → AllByRecursion IsInt (node_numbers (map-Node Node Expr (List ℤ) (List ℤ) node_ints numbers_of d)) → StartsIn p.cells (element s.first s.len (start_index d))
  index_by n (node.Number z) s row e h i = element_by z (natural n) s row e (below_length n z h) i.0
  index_by n node.Null s row e h i = true_is_not (sym h)
  index_by n (node.Name x) s row e h i = true_is_not (sym h)
  index_by n (node.Index x y) s row e h i = true_is_not (sym h)
  index_by n (node.Deref x) s row e h i = true_is_not (sym h)
  index_by n (node.AddrName w) s row e h i = true_is_not (sym h)
  index_by n (node.AddrIndex w y) s row e h i = true_is_not (sym h)
  index_by n (node.Un op x) s row e h i = true_is_not (sym h)
  index_by n (node.Bin op x y) s row e h i = true_is_not (sym h)
  index_by n (node.Cond x y z) s row e h i = true_is_not (sym h)

  array_by : (w : Ident) (at : At) (i : Expr) (m : Meaning) → Means spots p.mutexes items w m → NoFault (judged_meaning sort.Array at (Some m)).notes → NoFault (index_notes i (Some m)) → AllByRecursion IsInt (numbers_of i)
      → StartsIn p.cells (element (the_spot (spot_of spots w)).first (the_spot (spot_of spots w)).len (start_index (node_of i)))
  array_by w at i (meaning.Array n) h f g q =
      let row = found_passes (λ s. IsRow p.cells (row_of s)) _ spots h.spot rows h.is in
      subst (λ o. StartsIn p.cells (element (the_spot o).first (the_spot o).len (start_index (node_of i)))) (sym h.is)
      (index_by n (node_of i) h.spot row h.len (not_false (is_index n (node_of i)) (not_refused (not (is_index n (node_of i))) (place_of i) g)) (subst (AllByRecursion IsInt) (numbers_are i) q))
  array_by w at i meaning.Shared h f g q = absurd f
  array_by w at i meaning.Pointer h f g q = absurd f
  array_by w at i meaning.Int h f g q = absurd h
  array_by w at i meaning.Thread h f g q = absurd h
  array_by w at i meaning.Handed h f g q = absurd h
  array_by w at i meaning.Unready h f g q = absurd h
  array_by w at i meaning.Mutex h f g q = absurd f
  array_by w at i meaning.SharedThread h f g q = absurd f
  array_by w at i (meaning.Function k) h f g q = absurd f
  array_by w at i (meaning.Ahead k) h f g q = absurd f
  array_by w at i meaning.Input h f g q = absurd f
  array_by w at i meaning.Label h f g q = absurd h

  array_start : (w : Ident) (at : At) (i : Expr) → NoFault (judged_name sort.Array (global_names table) at w).notes → NoFault (index_notes i (meaning_of (global_names table) w)) → AllByRecursion IsInt (numbers_of i)
      → StartsIn p.cells (element (the_spot (spot_of spots w)).first (the_spot (spot_of spots w)).len (start_index (node_of i)))
  unfolding judged_name
  array_start w at i f g q = by (meaning_in table w) (sound.each w) f g
    where
      by : (o : Option Meaning) → ((m : Meaning) → o ≡ Some m → Means spots p.mutexes items w m) → NoFault (judged_meaning sort.Array at o).notes → NoFault (index_notes i o) → StartsIn p.cells (element (the_spot (spot_of spots w)).first (the_spot (spot_of spots w)).len (start_index (node_of i)))
      by (Some m) h a b = array_by w at i m (h m refl) a b q
      by None h a b = absurd a

  start_by : (d : Node-F Node Expr) (at : At) → AllByRecursion IsInt (node_numbers (map-Node Node Expr (List ℤ) (List ℤ) node_ints numbers_of d))
      → NoFault (judged_node_step (global_names table) (map-Node Node Expr (At → Judged) Judged (judged_node (global_names table)) (judged_expr (global_names table)) d) at).notes
      → NoFault (address_notes (global_names table) d) → StartsIn p.cells (start_of spots d)
  start_by (node.Number z) at i f g = number_starts p.cells z i.0
  start_by node.Null at i f g = zero_starts p.cells
  start_by (node.Name x) at i f g = zero_starts p.cells
  start_by (node.Index x e) at i f g = zero_starts p.cells
  start_by (node.Deref e) at i f g = zero_starts p.cells
  start_by (node.AddrName w) at i f g =
      let row = spot_row p spots w.name rows (shared_spot p no_thread items spots [] (global_names table) reads w.name w.at (fault_left (judged_name sort.Shared (global_names table) w.at w.name).notes _ f)) in
      address_starts p.cells (the_spot (spot_of spots w.name)).first (omega (arith, row.some, row.within))
  start_by (node.AddrIndex w e) at i f g =
      array_start w.name w.at e (fault_left (judged_name sort.Array (global_names table) w.at w.name).notes (judged_expr (global_names table) e).notes (fault_left ((judged_name sort.Array (global_names table) w.at w.name).notes ++ (judged_expr (global_names table) e).notes) _ f)) g i
  start_by (node.Un op e) at i f g = zero_starts p.cells
  start_by (node.Bin op a b) at i f g = zero_starts p.cells
  start_by (node.Cond c a b) at i f g = zero_starts p.cells

  pub start_fine : (pointer : Bool) (e : Expr) → AllByRecursion IsInt (numbers_of e) → NoFault (start_notes pointer e (global_names table)) → StartsIn p.cells (start_value spots e)
  unfolding start_notes
  start_fine pointer e i f =
      let j : List Note = (judged_expr (global_names table) e).notes in
      start_by (node_of e) (place_of e) (subst (AllByRecursion IsInt) (numbers_are e) i)
      (subst (λ (q : Judged). NoFault q.notes) (judged_is (global_names table) e) (fault_left j _ (fault_left (j ++ _) _ f)))
      (fault_right (j ++ _) _ f)
