-- Expressions that take the addresses of whole arrays and of single cells, which hold ints.
use Rattle.std.proofs.Common.{arith, ◌≡◌, ℕ, ℤ, pos, ◌+◌, Bool, true, false, not, ◌&&◌, ◌||◌, IsTrue, IsSomeAnd, ◌++◌, refl, sym, ap, subst, Some}
use Rattle.std.specs.List.{AllByRecursion, slice_get}
use Rattle.mm_goto.specs.declared.program.Cell.{Cell}
use Rattle.mm_goto.specs.declared.pure.Pure.{Pure}
use Rattle.mm_goto.specs.declared.pure.Unary.{Unary}
use Rattle.mm_goto.specs.declared.pure.Binary.{Binary}
use Rattle.mm_goto.specs.declared.pure.Binary.TheVariants as binary
use Rattle.mm_goto.specs.declared.row.Row.{Row}
use Rattle.mm_goto.specs.Checks.{is_in_range, is_not_zero}
use Rattle.mm_goto.specs.Kinds.{Kinds, IsOf, IsRowOfInts, are_alike, binary_kinds, is_typed, kinds_of, kinds_step, unary_kinds}
use Rattle.mm_goto.specs.Listing.{Listing}
use Rattle.mm_goto.specs.Locals.{rows_of, rows_step}
use Rattle.mm_goto.specs.Parts.{addressed, addressed_step, arrays_of, arrays_step}
use Rattle.mm_goto.specs.Sourcelike.{IsSingle, IsWholeArray}
use Rattle.mm_goto.specs.Terms.{constant, the_local, applied, combined}
use Rattle.mm_goto.specs.Value.{is_zero}
use Rattle.mm_goto.proofs.Folding.{fold_constant, fold_local, fold_applied, fold_combined}
use Rattle.mm_flow.specs.Words.{address, element, chosen}
use Rattle.mm_scope.specs.Values.{kind_if_pointer}
use Rattle.mm_sourcelike.proofs.Cells.{both_all}
use Rattle.mm_sourcelike.proofs.Judging.{KindFits, KindIs, and_true}
use Rattle.mm_sourcelike.proofs.Pures.{fold_address, fold_element, fold_chosen}

-- ---- the cells that it names

pub record Tidy (p : Listing) (e : Pure) : Type 0 where
  pub ints : AllByRecursion (IsRowOfInts p) (rows_of e)
  pub arrays : AllByRecursion (IsWholeArray p) (arrays_of e)
  pub singles : AllByRecursion (IsSingle p) (addressed e)

-- a cell that is no element, of this type
pub record SingleFits (p : Listing) (c : ℕ) (b : Bool) : Type 0 where
  pub pointer : IsSomeAnd (slice_get p.cells c) (λ (cell : Cell). cell.pointer ≡ b)
  pub single : IsSingle p c

-- a whole array of ints
pub record ArrayFits (p : Listing) (row : Row) : Type 0 where
  pub whole : IsWholeArray p row
  pub ints : IsRowOfInts p row

module _ (p : Listing) where
  pub constant_tidy : (z : ℤ) → Tidy p (constant z)
  constant_tidy z = record {
    ints = rw (fold_constant rows_step z) tt;
    arrays = rw (fold_constant arrays_step z) tt;
    singles = rw (fold_constant addressed_step z) tt;
  }

  pub local_tidy : (l : ℕ) → Tidy p (the_local l)
  local_tidy l = record {
    ints = rw (fold_local rows_step l) tt;
    arrays = rw (fold_local arrays_step l) tt;
    singles = rw (fold_local addressed_step l) tt;
  }

  pub address_tidy : (c : ℕ) → SingleFits p c false → Tidy p (address c)
  address_tidy c h = record {
    ints = rw (fold_address rows_step c) (row, tt);
    arrays = rw (fold_address arrays_step c) tt;
    singles = rw (fold_address addressed_step c) (h.single, tt);
  }
    where
      row : IsRowOfInts p (record { first = c; len = 1 })
      row k l =
          let is : c ≡ c + k = omega (arith, l) in
          subst (λ d. IsSomeAnd (slice_get p.cells d) (λ (cell : Cell). cell.pointer ≡ false)) is h.pointer

  pub element_tidy : (first len : ℕ) (x : Pure) → ArrayFits p (record { first = first; len = len }) → Tidy p x → Tidy p (element first len x)
  element_tidy first len x a h = record {
    ints = rw (fold_element rows_step first len x) (a.ints, h.ints);
    arrays = rw (fold_element arrays_step first len x) (a.whole, h.arrays);
    singles = rw (fold_element addressed_step first len x) h.singles;
  }

  pub applied_tidy : (op : Unary) (x : Pure) → Tidy p x → Tidy p (applied op x)
  applied_tidy op x h = record {
    ints = rw (fold_applied rows_step op x) h.ints;
    arrays = rw (fold_applied arrays_step op x) h.arrays;
    singles = rw (fold_applied addressed_step op x) h.singles;
  }

  pub combined_tidy : (op : Binary) (x y : Pure) → Tidy p x → Tidy p y → Tidy p (combined op x y)
  combined_tidy op x y h g = record {
    ints = rw (fold_combined rows_step op x y) (both_all (IsRowOfInts p) (rows_of x) (rows_of y) h.ints g.ints);
    arrays = rw (fold_combined arrays_step op x y) (both_all (IsWholeArray p) (arrays_of x) (arrays_of y) h.arrays g.arrays);
    singles = rw (fold_combined addressed_step op x y) (both_all (IsSingle p) (addressed x) (addressed y) h.singles g.singles);
  }

  pub chosen_tidy : (c x y : Pure) → Tidy p c → Tidy p x → Tidy p y → Tidy p (chosen c x y)
  chosen_tidy c x y f h g = record {
    ints = rw (fold_chosen rows_step c x y) (both_all (IsRowOfInts p) (rows_of c ++ rows_of x) (rows_of y) (both_all (IsRowOfInts p) (rows_of c) (rows_of x) f.ints h.ints) g.ints);
    arrays = rw (fold_chosen arrays_step c x y) (both_all (IsWholeArray p) (arrays_of c ++ arrays_of x) (arrays_of y) (both_all (IsWholeArray p) (arrays_of c) (arrays_of x) f.arrays h.arrays) g.arrays);
    singles = rw (fold_chosen addressed_step c x y) (both_all (IsSingle p) (addressed c ++ addressed x) (addressed y) (both_all (IsSingle p) (addressed c) (addressed x) f.singles h.singles) g.singles);
  }

  pub range_tidy : (x : Pure) (len : ℕ) → Tidy p x → Tidy p (is_in_range x len)
  range_tidy x len h =
      combined_tidy binary.Land (combined binary.Le (constant (pos 0)) x) (combined binary.Lt x (constant (pos len)))
      (combined_tidy binary.Le (constant (pos 0)) x (constant_tidy (pos 0)) h)
      (combined_tidy binary.Lt x (constant (pos len)) h (constant_tidy (pos len)))

  pub not_zero_tidy : (x : Pure) → Tidy p x → Tidy p (is_not_zero x)
  not_zero_tidy x h = combined_tidy binary.Ne x (constant (pos 0)) h (constant_tidy (pos 0))

-- ---- its kinds

-- those of a choice between the second and the third
abbrev pub kinds_chosen : Kinds → Kinds → Kinds → Kinds
kinds_chosen c x y = record { int = is_typed c && (x.int && y.int); pointer = is_typed c && (x.pointer && y.pointer) }

module _ (q : ℕ → Bool) where
  pub constant_kinds : (z : ℤ) → kinds_of q (constant z) ≡ record { int = true; pointer = is_zero z }
  constant_kinds z = fold_constant (kinds_step q) z

  pub local_kinds : (l : ℕ) → kinds_of q (the_local l) ≡ record { int = not (q l); pointer = q l }
  local_kinds l = fold_local (kinds_step q) l

  pub address_kinds : (c : ℕ) → kinds_of q (address c) ≡ record { int = false; pointer = true }
  address_kinds c = fold_address (kinds_step q) c

  pub element_kinds : (first len : ℕ) (x : Pure) → kinds_of q (element first len x) ≡ record { int = false; pointer = (kinds_of q x).int }
  element_kinds first len x = fold_element (kinds_step q) first len x

  pub applied_kinds : (op : Unary) (x : Pure) → kinds_of q (applied op x) ≡ unary_kinds op (kinds_of q x)
  applied_kinds op x = fold_applied (kinds_step q) op x

  pub combined_kinds : (op : Binary) (x y : Pure) → kinds_of q (combined op x y) ≡ binary_kinds op (kinds_of q x) (kinds_of q y)
  combined_kinds op x y = fold_combined (kinds_step q) op x y

  pub chosen_kinds : (c x y : Pure) → kinds_of q (chosen c x y) ≡ kinds_chosen (kinds_of q c) (kinds_of q x) (kinds_of q y)
  chosen_kinds c x y = fold_chosen (kinds_step q) c x y

  pub zero_is : (b : Bool) → IsOf q (constant (pos 0)) b
  zero_is true = subst (λ (ks : Kinds). IsTrue ks.pointer) (sym (constant_kinds (pos 0))) refl
  zero_is false = subst (λ (ks : Kinds). IsTrue ks.int) (sym (constant_kinds (pos 0))) refl

  pub one_is : IsOf q (constant (pos 1)) false
  one_is = subst (λ (ks : Kinds). IsTrue ks.int) (sym (constant_kinds (pos 1))) refl

  by_kinds : (e : Pure) (ks : Kinds) → kinds_of q e ≡ ks → IsTrue ks.int → IsTrue (kinds_of q e).int
  by_kinds e ks is h = subst (λ (k : Kinds). IsTrue k.int) (sym is) h

  pub int_typed : (e : Pure) → IsTrue (kinds_of q e).int → IsTrue (is_typed (kinds_of q e))
  int_typed e h = ap (λ b. b || (kinds_of q e).pointer) h

  pub not_zero_int : (x : Pure) → IsTrue (is_typed (kinds_of q x)) → IsTrue (kinds_of q (is_not_zero x)).int
  not_zero_int x h =
      by_kinds (is_not_zero x) _ (combined_kinds binary.Ne x (constant (pos 0)))
      (subst (λ (ks : Kinds). IsTrue (are_alike (kinds_of q x) ks)) (sym (constant_kinds (pos 0))) (alike (kinds_of q x).int (kinds_of q x).pointer h))
    where
      alike : (i p : Bool) → (i || p) ≡ true → ((i && true) || (p && true)) ≡ true
      alike true p e = refl
      alike false true e = refl
      alike false false e = e

  pub range_int : (x : Pure) (len : ℕ) → IsTrue (kinds_of q x).int → IsTrue (kinds_of q (is_in_range x len)).int
  range_int x len h =
      let low : Pure = combined binary.Le (constant (pos 0)) x in
      let high : Pure = combined binary.Lt x (constant (pos len)) in
      let first = by_kinds low _ (combined_kinds binary.Le (constant (pos 0)) x) (subst (λ (ks : Kinds). IsTrue (ks.int && (kinds_of q x).int)) (sym (constant_kinds (pos 0))) h) in
      let second = by_kinds high _ (combined_kinds binary.Lt x (constant (pos len))) (subst (λ (ks : Kinds). IsTrue ((kinds_of q x).int && ks.int)) (sym (constant_kinds (pos len))) (and_true (kinds_of q x).int true h refl)) in
      by_kinds (is_in_range x len) _ (combined_kinds binary.Land low high) (and_true (is_typed (kinds_of q low)) (is_typed (kinds_of q high)) (int_typed low first) (int_typed high second))

  -- a local of a type
  pub local_fits : (l : ℕ) (b : Bool) → q l ≡ b → KindFits (kinds_of q (the_local l)) (Some (kind_if_pointer b)) false
  local_fits l true e = (subst (λ (ks : Kinds). IsTrue ks.pointer) (sym (local_kinds l)) e, refl)
  local_fits l false e = subst (λ (ks : Kinds). IsTrue ks.int) (sym (local_kinds l)) (ap not e)

  -- an expression of the type of the local that it is set to
  pub set_as : (l : ℕ) (e : Pure) (b : Bool) → q l ≡ b → KindIs (kinds_of q e) b → IsOf q e (q l)
  set_as l e true is h = subst (IsOf q e) (sym is) h
  set_as l e false is h = subst (IsOf q e) (sym is) h
