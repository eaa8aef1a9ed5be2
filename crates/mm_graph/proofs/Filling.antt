-- Tables that are filled row by row.
use Rattle.std.proofs.Common.{◌≡◌, ℕ, ◌+◌, ◌<◌, List, length, inl, inr, arith, refl, sym, subst, Some, None, Option}
use Rattle.std.proofs.lemmas.Bool.{cases_eq}
use Rattle.std.proofs.lemmas.Option.{slice_get_within}
use Rattle.std.specs.Prelude.{◌↔◌, ◌⊎◌, Bool, IsTrue, IsSomeAnd, slice_get}
use Rattle.mm_graph.specs.reading.Tables.{OnBoth}

-- ---- what stands at two numbers

pub some_and : {X : Type 0} (o : Option X) (P : X → Type 0) → IsSomeAnd o P → (x : X) × (o ≡ Some x) × P x
some_and None P h = absurd h
some_and (Some x) P h = (x, refl, h)

pub on_both : {X : Type 0} (R : X → X → Type 0) (xs : List X) (a b : ℕ) (x y : X) → slice_get xs a ≡ Some x → slice_get xs b ≡ Some y → OnBoth R xs a b ↔ R x y
on_both R xs a b x y p q = rw p (rw q (λ h. h, λ h. h))

pub on_both_within : {X : Type 0} (R : X → X → Type 0) (xs : List X) (a b : ℕ) → OnBoth R xs a b → (a < length xs) × (b < length xs)
on_both_within R xs a b h =
    let x = some_and (slice_get xs a) (λ x. IsSomeAnd (slice_get xs b) (R x)) h in
    let y = some_and (slice_get xs b) (R x.0) x.2 in
    (slice_get_within xs a x.0 x.1, slice_get_within xs b y.0 y.1)

-- ---- row a, as far as column b

abbrev pub InRow : ℕ → ℕ → (ℕ → ℕ → Type 0) → ℕ → ℕ → Type 0
InRow a b R x y = (x ≡ a) × (y < b) × R x y

module _ (a b : ℕ) (R was now : ℕ → ℕ → Type 0) (so_far : (x y : ℕ) → now x y ↔ (was x y ⊎ InRow a b R x y)) where
  pub row_more : (so : Bool) → (IsTrue so ↔ R a b) → (new : ℕ → ℕ → Type 0) → ((x y : ℕ) → new x y ↔ (now x y ⊎ (IsTrue so × ((x ≡ a) × (y ≡ b)))))
      → (x y : ℕ) → new x y ↔ (was x y ⊎ InRow a (b + 1) R x y)
  row_more so test new put x y = (
    λ n. elim ((put x y).0 n) [
      | inl o ↦ elim ((so_far x y).0 o) [ inl w ↦ inl w | inr i ↦ inr (i.0, omega (arith, i.1), i.2) ]
      | inr e ↦
          let P : ℕ → Type 0 = λ u. R u y in
          let Q : ℕ → Type 0 = λ v. R a v in
          let at = e.1 in
          inr (at.0, omega (arith, at.1), subst P (sym at.0) (subst Q (sym at.1) (test.0 e.0)))
    ],
    λ h. elim h [
      | inl w ↦ (put x y).1 (inl ((so_far x y).1 (inl w)))
      | inr i ↦ elim (cases_eq y b) [
        | inl e ↦
            let P : ℕ → Type 0 = λ u. R u b in
            let Q : ℕ → Type 0 = λ v. R x v in
            (put x y).1 (inr (test.1 (subst P i.0 (subst Q e i.2)), (i.0, e)))
        | inr other ↦ (put x y).1 (inl ((so_far x y).1 (inr (i.0, omega (arith, i.1, other), i.2))))
      ]
    ],
  )

  pub row_all : ((x y : ℕ) → R x y → y < b) → (x y : ℕ) → now x y ↔ (was x y ⊎ ((x ≡ a) × R x y))
  row_all within x y = (
    λ n. elim ((so_far x y).0 n) [ inl w ↦ inl w | inr i ↦ inr (i.0, i.2) ],
    λ h. elim h [ inl w ↦ (so_far x y).1 (inl w) | inr i ↦ (so_far x y).1 (inr (i.0, within x y i.1, i.1)) ],
  )

pub row_none : (a : ℕ) (R was : ℕ → ℕ → Type 0) (x y : ℕ) → was x y ↔ (was x y ⊎ InRow a 0 R x y)
row_none a R was x y = (λ w. inl w, λ h. elim h [ inl w ↦ w | inr i ↦ absurd (omega (arith, i.1)) ])

-- ---- the rows before a

abbrev pub InRows : ℕ → (ℕ → ℕ → Type 0) → ℕ → ℕ → Type 0
InRows a R x y = (x < a) × R x y

module _ (a : ℕ) (R was now : ℕ → ℕ → Type 0) (so_far : (x y : ℕ) → now x y ↔ (was x y ⊎ InRows a R x y)) where
  pub rows_more : (new : ℕ → ℕ → Type 0) → ((x y : ℕ) → new x y ↔ (now x y ⊎ ((x ≡ a) × R x y))) → (x y : ℕ) → new x y ↔ (was x y ⊎ InRows (a + 1) R x y)
  rows_more new row x y = (
    λ n. elim ((row x y).0 n) [
      | inl o ↦ elim ((so_far x y).0 o) [ inl w ↦ inl w | inr i ↦ inr (omega (arith, i.0), i.1) ]
      | inr e ↦ inr (omega (arith, e.0), e.1)
    ],
    λ h. elim h [
      | inl w ↦ (row x y).1 (inl ((so_far x y).1 (inl w)))
      | inr i ↦ elim (cases_eq x a) [
        | inl e ↦ (row x y).1 (inr (e, i.1))
        | inr other ↦ (row x y).1 (inl ((so_far x y).1 (inr (omega (arith, i.0, other), i.1))))
      ]
    ],
  )

  pub rows_all : ((x y : ℕ) → R x y → x < a) → (x y : ℕ) → now x y ↔ (was x y ⊎ R x y)
  rows_all within x y = (
    λ n. elim ((so_far x y).0 n) [ inl w ↦ inl w | inr i ↦ inr i.1 ],
    λ h. elim h [ inl w ↦ (so_far x y).1 (inl w) | inr r ↦ (so_far x y).1 (inr (within x y r, r)) ],
  )

  -- where there was nothing
  pub rows_only : ((x y : ℕ) → ¬ (was x y)) → ((x y : ℕ) → R x y → x < a) → (x y : ℕ) → now x y ↔ R x y
  rows_only none within x y = (
    λ n. elim ((so_far x y).0 n) [ inl w ↦ absurd (none x y w) | inr i ↦ i.1 ],
    λ r. (so_far x y).1 (inr (within x y r, r)),
  )

pub rows_none : (R was : ℕ → ℕ → Type 0) (x y : ℕ) → was x y ↔ (was x y ⊎ InRows 0 R x y)
rows_none R was x y = (λ w. inl w, λ h. elim h [ inl w ↦ w | inr i ↦ absurd (omega (arith, i.0)) ])
