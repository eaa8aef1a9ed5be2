-- The start values of a source are numbers that a text has.
use Rattle.std.proofs.Common.{◌≡◌, ◌∙◌, ℕ, ℤ, suc, pos, negsuc, ◌+◌, ◌<◌, ◌≤◌, ◌^◌, true, false, List, [], inl, inr, arith, refl, sym, subst, ap, Option, Some, None}
use Rattle.std.specs.Prelude.{◌⊎◌, ◌≤ℤ◌, IsTrue}
use Rattle.std.specs.Int.{w32, cast_signed, int_wrapping_add}
use Rattle.std.specs.List.{AllByRecursion}
use Rattle.std.proofs.lemmas.Bool.{true≢false}
use Rattle.std.proofs.lemmas.Bool.Decides.{nat_tests}
use Rattle.std.proofs.lemmas.Int.{ints, to_z_pos}
use Rattle.std.proofs.Math.Nat.{mod-eq_of_lt}
use Rattle.mm_goto.specs.declared.pure.Pure.{Pure, roll-Pure}
use Rattle.mm_goto.specs.declared.pure.Pure.TheOpen as pure
use Rattle.mm_goto.specs.declared.pure.Pure.TheFolds.{fold-roll-Pure, ind-Pure, map-Pure}
use Rattle.mm_goto.specs.declared.row.Row.{Row}
use Rattle.mm_goto.specs.Locals.{rows_of, rows_step}
use Rattle.mm_goto.specs.Parts.{numbers, numbers_step}
use Rattle.mm_goto.specs.Valid.{IsInt, StartKind, is_index, start_kind, start_step}
use Rattle.mm_goto.specs.Value.{address, value_of, value_step}

-- ---- addresses

address_is : (c : ℕ) → c ≤ 256 → address c ≡ pos (c + 1)
address_is c few = ap (cast_signed w32) (mod-eq_of_lt {n = c + 1} {m = 2 ^ 32} (omega (arith, few))) ∙ to_z_pos w32 (c + 1) (omega (arith, few))

element_is : (first n : ℕ) → first ≤ 256 → n ≤ 256 → int_wrapping_add w32 (address first) (pos n) ≡ pos (first + 1 + n)
element_is first n few less = ap (λ z. int_wrapping_add w32 z (pos n)) (address_is first few) ∙ sum (first + 1) n (omega (arith, few, less))
  where
    sum : (a b : ℕ) → a + b < 2 ^ 31 → int_wrapping_add w32 (pos a) (pos b) ≡ pos (a + b)
    sum a b h = grind (arith, ints)

-- ---- start values

-- a number, or the negative of one
abbrev pub IsWritable : ℤ → Type 0
IsWritable z = ((n : ℕ) × (z ≡ pos n) × (n < 2 ^ 31)) ⊎ ((n : ℕ) × (z ≡ negsuc n) × (suc n < 2 ^ 31))

-- an int above the least one
abbrev pub IsAbove : ℤ → Type 0
IsAbove z = IsInt z × (negsuc 2147483646 ≤ℤ z)

above_writable : (z : ℤ) → IsAbove z → IsWritable z
above_writable (pos n) h = inl (n, refl, (let f = h.0 in omega (arith, f)))
above_writable (negsuc n) h = inr (n, refl, (let f = h.1 in grind (arith, ints)))

-- the row is within few cells
abbrev pub IsWithinFew : Row → Type 0
IsWithinFew row = row.first + row.len ≤ 256

record Starting (e : Pure) : Type 0 where
  writable : IsTrue (start_kind e).fits → AllByRecursion IsAbove (numbers e) → AllByRecursion IsWithinFew (rows_of e) → IsWritable (value_of e [])
  constant : (z : ℤ) → (start_kind e).constant ≡ Some z → value_of e [] ≡ z

-- what is no start value
no_start : (v : pure.Pure-F Pure) → start_kind (roll-Pure v) ≡ record { constant = None; fits = false } → Starting (roll-Pure v)
no_start v same = record {
  writable = λ fits ns rs. absurd (true≢false (sym fits ∙ ap (λ k. k.fits) same));
  constant = λ z is. absurd (none z (sym (ap (λ k. k.constant) same) ∙ is));
}
  where
    none : (z : ℤ) → None ≡ Some z → ⊥
    none z is = cc

same_number : (a b : ℤ) → Some a ≡ Some b → a ≡ b
same_number a b e = cc

at_const : (z : ℤ) → Starting (roll-Pure (pure.Const z))
unfolding value_of
at_const z = record {
  writable = λ fits ns rs. subst IsWritable (sym (fold-roll-Pure ℤ (value_step []) (pure.Const z))) (above_writable z (subst (AllByRecursion IsAbove) (fold-roll-Pure (List ℤ) numbers_step (pure.Const z)) ns).0);
  constant = λ y is. fold-roll-Pure ℤ (value_step []) (pure.Const z) ∙ same_number z y (sym (ap (λ k. k.constant) (fold-roll-Pure StartKind start_step (pure.Const z))) ∙ is);
}

at_addr : (c : ℕ) → Starting (roll-Pure (pure.Addr c))
unfolding value_of
at_addr c = record {
  writable = λ fits ns rs.
      let few = (subst (AllByRecursion IsWithinFew) (fold-roll-Pure (List Row) rows_step (pure.Addr c)) rs).0 in
      inl (c + 1, fold-roll-Pure ℤ (value_step []) (pure.Addr c) ∙ address_is c (omega (arith, few)), omega (arith, few));
  constant = λ z is. absurd (none z (sym (ap (λ k. k.constant) (fold-roll-Pure StartKind start_step (pure.Addr c))) ∙ is));
}
  where
    none : (z : ℤ) → None ≡ Some z → ⊥
    none z is = cc

-- an index that is within the array
index_is : (o : Option ℤ) (len : ℕ) → is_index o len ≡ true → (n : ℕ) × (o ≡ Some (pos n)) × (n < len)
index_is (Some (pos n)) len h = (n, refl, grind (arith, nat_tests))
index_is (Some (negsuc n)) len h = absurd (true≢false (sym h))
index_is None len h = absurd (true≢false (sym h))

at_elem : (first len : ℕ) (x : Pure) → Starting x → Starting (roll-Pure (pure.AddrElem first len x))
unfolding value_of
at_elem first len x s = record {
  writable = λ fits ns rs.
      let v : pure.Pure-F Pure = pure.AddrElem first len x in
      let few = (subst (AllByRecursion IsWithinFew) (fold-roll-Pure (List Row) rows_step v) rs).0 in
      let index = index_is (start_kind x).constant len (sym (ap (λ k. k.fits) (fold-roll-Pure StartKind start_step v)) ∙ fits) in
      let within = index.2 in
      inl (first + 1 + index.0, fold-roll-Pure ℤ (value_step []) v ∙ ap (λ z. int_wrapping_add w32 (address first) z) (s.constant (pos index.0) index.1) ∙ element_is first index.0 (omega (arith, few)) (omega (arith, few, within)), omega (arith, few, within));
  constant = λ z is. absurd (none z (sym (ap (λ k. k.constant) (fold-roll-Pure StartKind start_step (pure.AddrElem first len x))) ∙ is));
}
  where
    none : (z : ℤ) → None ≡ Some z → ⊥
    none z is = cc

starting : (e : Pure) → Starting e
starting e = ind-Pure Starting (λ x y is.
    let P : pure.Pure-F Pure → Type 0 = λ v. Starting (roll-Pure v) in
    elim y as (λ v. map-Pure _ Pure (λ d. d.0) v ≡ x → Starting (roll-Pure x)) [
      | pure.Const c ↦ λ same. subst P same (at_const c)
      | pure.Local m ↦ λ same. subst P same (no_start (pure.Local m) (fold-roll-Pure StartKind start_step (pure.Local m)))
      | pure.Addr c ↦ λ same. subst P same (at_addr c)
      | pure.AddrElem first len x ↦ λ same. subst P same (at_elem first len x.0 x.1)
      | pure.Un op x ↦ λ same. subst P same (no_start (pure.Un op x.0) (fold-roll-Pure StartKind start_step (pure.Un op x.0)))
      | pure.Bin op x y ↦ λ same. subst P same (no_start (pure.Bin op x.0 y.0) (fold-roll-Pure StartKind start_step (pure.Bin op x.0 y.0)))
      | pure.Cond x y z ↦ λ same. subst P same (no_start (pure.Cond x.0 y.0 z.0) (fold-roll-Pure StartKind start_step (pure.Cond x.0 y.0 z.0)))
    ] is) e

pub start_writable : (e : Pure) → IsTrue (start_kind e).fits → AllByRecursion IsAbove (numbers e) → AllByRecursion IsWithinFew (rows_of e) → IsWritable (value_of e [])
start_writable e = (starting e).writable
