-- A cell's place among cells in order.
use Rattle.std.proofs.Common.{◌≡◌, ◌∙◌, ℕ, zero, suc, ◌+◌, ◌-◌, ◌<◌, ◌≤◌, List, [], ◌∷◌, length, get_or, inl, inr, arith, refl, sym, subst, ap, Some}
use Rattle.std.proofs.lemmas.Bool.{cases_lt, cases_eq}
use Rattle.std.proofs.lemmas.List.Edits.{length-insert, get_or-insert_below, get_or-insert_at, get_or-insert_above}
use Rattle.std.proofs.lemmas.List.Elements.{Contains-append_left, Contains-append_right, Contains-append_cases}
use Rattle.std.proofs.lemmas.List.Sorted.{IsPermutation-insert, IsPermutation-sym, Contains-permutation}
use Rattle.std.proofs.lemmas.Option.{slice_get-get_or, slice_get_within, get_or_from_slice_get}
use Rattle.std.specs.List.{insert}
use Rattle.std.specs.List.Sorted.{IsStrictlyIncreasing}
use Rattle.std.specs.Prelude.{◌↔◌, ◌⊎◌, slice_get}
use Rattle.mm_points.specs.Sets.{Has}

pub increasing_le : (xs : List ℕ) → IsStrictlyIncreasing xs → (i j : ℕ) → i ≤ j → j < length xs → get_or xs i 0 ≤ get_or xs j 0
increasing_le xs up i zero le within = let e : i ≡ 0 = omega arith in rw e (omega arith)
increasing_le xs up i (suc j) le within =
    let next : j + 1 ≡ suc j = omega arith in
    let P : ℕ → Type 0 = λ n. get_or xs i 0 ≤ get_or xs n 0 in
    subst P next (elim (cases_lt i (j + 1)) [
      | inl less ↦
          let before = increasing_le xs up i j (omega arith) (omega arith) in
          let step : get_or xs j 0 < get_or xs (j + 1) 0 = up j (omega arith) in
          omega arith
      | inr more ↦ let e : i ≡ j + 1 = omega arith in rw e (omega arith)
    ])

pub has_one : (c m : ℕ) → Has (c ∷ []) m ↔ (m ≡ c)
has_one c m = (λ h. at h.0 h.1 h.2, λ e. (0, omega arith, sym e))
  where
    at : (k : ℕ) → k < length (c ∷ []) → get_or (c ∷ []) k m ≡ m → m ≡ c
    at zero within is = sym is
    at (suc k) within is = absurd (omega arith)

pub has_inserted : (xs : List ℕ) (i c m : ℕ) → Has (insert xs i c) m ↔ (Has xs m ⊎ (m ≡ c))
has_inserted xs i c m = (
  λ h. elim (Contains-append_cases (c ∷ []) xs m (Contains-permutation (insert xs i c) (c ∷ xs) m (IsPermutation-sym (c ∷ xs) (insert xs i c) (IsPermutation-insert xs i c)) h)) [
    | inl one ↦ inr ((has_one c m).0 one)
    | inr old ↦ inl old
  ],
  λ h. Contains-permutation (c ∷ xs) (insert xs i c) m (IsPermutation-insert xs i c) (elim h [
    | inl old ↦ Contains-append_right (c ∷ []) xs m old
    | inr e ↦ Contains-append_left (c ∷ []) xs m ((has_one c m).1 e)
  ]),
)

pub increasing_inserted : (xs : List ℕ) (i c : ℕ) → i ≤ length xs → IsStrictlyIncreasing xs
    → ((k : ℕ) → k < i → get_or xs k 0 < c) → ((k : ℕ) → i ≤ k → k < length xs → c < get_or xs k 0) → IsStrictlyIncreasing (insert xs i c)
increasing_inserted xs i c fits up low high k within =
    let size = length-insert xs i c fits in
    elim (cases_lt (k + 1) i) [
      | inl below ↦ rw (get_or-insert_below xs i c 0 k (omega arith) fits, get_or-insert_below xs i c 0 (k + 1) below fits) (up k (omega arith))
      | inr not_below ↦ elim (cases_lt k i) [
        | inl last ↦
            let e : i ≡ k + 1 = omega arith in
            let at : get_or (insert xs i c) (k + 1) 0 ≡ c = ap (λ n. get_or (insert xs i c) n 0) (sym e) ∙ get_or-insert_at xs i c 0 fits in
            rw (get_or-insert_below xs i c 0 k last fits, at) (low k last)
        | inr from ↦ elim (cases_eq k i) [
          | inl here ↦
              let at : get_or (insert xs i c) k 0 ≡ c = ap (λ n. get_or (insert xs i c) n 0) here ∙ get_or-insert_at xs i c 0 fits in
              rw (at, get_or-insert_above xs i c 0 k from fits) (high k from (omega arith))
          | inr behind ↦
              let j : ℕ = k - 1 in
              let is : j + 1 ≡ k = omega arith in
              let P : ℕ → Type 0 = λ n. get_or xs j 0 < get_or xs n 0 in
              let step : get_or xs j 0 < get_or xs k 0 = subst P is (up j (omega arith)) in
              let a : get_or (insert xs i c) k 0 ≡ get_or xs j 0 = ap (λ n. get_or (insert xs i c) n 0) (sym is) ∙ get_or-insert_above xs i c 0 j (omega arith) fits in
              let b : get_or (insert xs i c) (k + 1) 0 ≡ get_or xs k 0 = get_or-insert_above xs i c 0 k from fits in
              rw (a, b) step
        ]
      ]
    ]

-- by an index or not
pub has_by_index : (xs : List ℕ) (m : ℕ) → ((k : ℕ) × (x : ℕ) × (slice_get xs k ≡ Some x) × (m ≡ x)) ↔ Has xs m
has_by_index xs m = (
  λ s. let P : ℕ → Type 0 = λ x. slice_get xs s.0 ≡ Some x in
      (s.0, slice_get_within xs s.0 s.1 s.2, get_or_from_slice_get xs s.0 m m (subst P (sym s.3) s.2)),
  λ h. (h.0, m, slice_get-get_or xs h.0 m h.1 ∙ ap Some h.2, refl),
)
