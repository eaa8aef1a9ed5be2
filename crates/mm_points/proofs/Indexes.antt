-- What some element of a list's front is.
use Rattle.std.proofs.Common.{◌≡◌, ◌∙◌, ℕ, ◌+◌, ◌<◌, List, length, inl, inr, arith, sym, subst, ap, Some}
use Rattle.std.proofs.lemmas.Bool.{cases_lt}
use Rattle.std.proofs.lemmas.Option.{slice_get_within}
use Rattle.std.specs.Prelude.{◌↔◌, ◌⊎◌, slice_get}

-- P holds of an element before i
abbrev pub SomeBefore : {X : Type 0} → List X → ℕ → (X → Type 0) → Type 0
SomeBefore {X} xs i P = (k : ℕ) × (x : X) × (k < i) × (slice_get xs k ≡ Some x) × P x

some_same : {X : Type 0} (x y : X) → Some x ≡ Some y → x ≡ y
some_same x y e = cc

pub before_more : {X : Type 0} (xs : List X) (i : ℕ) (x : X) (P : X → Type 0) → slice_get xs i ≡ Some x → SomeBefore xs (i + 1) P ↔ (SomeBefore xs i P ⊎ P x)
before_more xs i x P is = (
  λ s. elim (cases_lt s.0 i) [
    | inl small ↦ inl (s.0, s.1, small, s.3, s.4)
    | inr large ↦
        let here : i ≡ s.0 = omega (arith, s.2) in
        inr (subst P (some_same s.1 x (sym s.3 ∙ ap (slice_get xs) (sym here) ∙ is)) s.4)
  ],
  λ h. elim h [ inl s ↦ (s.0, s.1, omega (arith, s.2), s.3, s.4) | inr p ↦ (i, x, omega arith, is, p) ],
)

pub before_all : {X : Type 0} (xs : List X) (P : X → Type 0) → SomeBefore xs (length xs) P ↔ ((k : ℕ) × (x : X) × (slice_get xs k ≡ Some x) × P x)
before_all xs P = (λ s. (s.0, s.1, s.3, s.4), λ s. (s.0, s.1, slice_get_within xs s.0 s.1 s.2, s.2, s.3))

-- a set that has what was there and what some element before i gives
pub adds_more : {X : Type 0} (xs : List X) (i : ℕ) (x : X) (P : X → Type 0) (was now new : Type 0) → slice_get xs i ≡ Some x
    → now ↔ (was ⊎ SomeBefore xs i P) → new ↔ (now ⊎ P x) → new ↔ (was ⊎ SomeBefore xs (i + 1) P)
adds_more xs i x P was now new is f g =
    let more = before_more xs i x P is in (
      λ n. elim (g.0 n) [
        | inl o ↦ elim (f.0 o) [ inl w ↦ inl w | inr s ↦ inr (more.1 (inl s)) ]
        | inr p ↦ inr (more.1 (inr p))
      ],
      λ h. elim h [
        | inl w ↦ g.1 (inl (f.1 (inl w)))
        | inr s ↦ elim (more.0 s) [ inl t ↦ g.1 (inl (f.1 (inr t))) | inr p ↦ g.1 (inr p) ]
      ],
    )

pub adds_all : {X : Type 0} (xs : List X) (n : ℕ) (P : X → Type 0) (was now : Type 0) → n ≡ length xs → now ↔ (was ⊎ SomeBefore xs n P)
    → now ↔ (was ⊎ ((k : ℕ) × (x : X) × (slice_get xs k ≡ Some x) × P x))
adds_all xs n P was now is f =
    let all = before_all xs P in
    let Q : ℕ → Type 0 = λ m. now ↔ (was ⊎ SomeBefore xs m P) in
    let g = subst Q is f in (
      λ h. elim (g.0 h) [ inl w ↦ inl w | inr s ↦ inr (all.0 s) ],
      λ h. elim h [ inl w ↦ g.1 (inl w) | inr s ↦ g.1 (inr (all.1 s)) ],
    )

pub iff_inr : {P Q R : Type 0} → (P → ⊥) → Q ↔ (P ⊎ R) → Q ↔ R
iff_inr none f = (λ q. elim (f.0 q) [ inl p ↦ absurd (none p) | inr r ↦ r ], λ r. f.1 (inr r))
