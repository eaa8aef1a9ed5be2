-- What holds of each item of a list, by its number, as the list grows.
use Rattle.std.proofs.Common.{◌≡◌, ◌∙◌, ℕ, zero, suc, ◌+◌, ◌<◌, ◌≤◌, List, [], ◌∷◌, ◌++◌, length, inl, inr, arith, refl, sym, ap, subst, get_or, Some}
use Rattle.std.proofs.lemmas.Bool.{cases_lt}
use Rattle.std.proofs.lemmas.List.{get_or_append_left, length-append}
use Rattle.std.proofs.Math.Seq.{get_or-append_seam}
use Rattle.std.proofs.lemmas.Option.{slice_get_read, get_or_from_slice_get}
use Rattle.std.specs.Prelude.{slice_get, slice_index_or}

pub each_more : {X : Type 0} (R : ℕ → X → Type 0) (xs : List X) (x d : X) (n : ℕ) → length xs ≡ n
    → ((k : ℕ) → k < n → R k (slice_index_or xs k d)) → R n x → (k : ℕ) → k < n + 1 → R k (slice_index_or (xs ++ x ∷ []) k d)
each_more R xs x d n size each here k small = elim (cases_lt k n) [
  | inl old ↦
      let e = get_or_append_left xs (x ∷ []) d k (omega (arith, old, size)) in
      subst (R k) (sym e) (each k old)
  | inr new ↦
      let last : k ≡ length xs = omega (arith, small, size, new) in
      let e : slice_index_or (xs ++ x ∷ []) k d ≡ x = ap (λ k. slice_index_or (xs ++ x ∷ []) k d) last ∙ get_or-append_seam xs x [] d in
      let n_k : n ≡ k = omega (arith, size, last) in
      let P : ℕ → Type 0 = λ k. R k x in
      subst (R k) (sym e) (subst P n_k here)
]

-- the item that was read
pub item_is : {X : Type 0} (xs : List X) (k : ℕ) (x : X) → k < length xs → x ≡ get_or xs k x → slice_get xs k ≡ Some x
item_is xs k x small read = slice_get_read xs (length xs) k x refl small read

pub item_or : {X : Type 0} (xs : List X) (k : ℕ) (x d : X) → k < length xs → x ≡ get_or xs k x → slice_index_or xs k d ≡ x
item_or xs k x d small read = get_or_from_slice_get xs k x d (item_is xs k x small read)

pub past_end : {X : Type 0} (xs : List X) (k : ℕ) (d : X) → length xs ≤ k → slice_index_or xs k d ≡ d
past_end [] k d past = refl
past_end (x ∷ xs) zero d past = absurd (omega (arith, past))
past_end (x ∷ xs) (suc k) d past = past_end xs k d (omega (arith, past))

pub one_more : {X : Type 0} (xs : List X) (x : X) (n : ℕ) → length xs ≡ n → length (xs ++ x ∷ []) ≡ n + 1
one_more xs x n size = let e = length-append xs (x ∷ []) in omega (arith, e, size)
