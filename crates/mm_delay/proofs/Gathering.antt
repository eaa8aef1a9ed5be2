-- What loops gather: what holds at one of the places so far. What holds of one item of a list.
use Rattle.std.proofs.Common.{◌≡◌, ℕ, zero, suc, ◌+◌, ◌<◌, List, [], ◌∷◌, ◌++◌, length, inl, inr, arith, refl, sym, subst}
use Rattle.std.proofs.lemmas.Bool.{cases_eq}
use Rattle.std.proofs.lemmas.List.Elements.{Contains-append_left, Contains-append_right, Contains-append_cases}
use Rattle.std.specs.Prelude.{◌↔◌, ◌⊎◌, Some, slice_get, slice_index_or}
use Rattle.mm_points.proofs.Indexes as indexes
use Rattle.std.specs.List.{Contains}

abbrev pub SomeBefore : ℕ → (ℕ → Type 0) → Type 0
SomeBefore n P = (k : ℕ) × (k < n) × P k

pub some_none : (P : ℕ → Type 0) (was : Type 0) → was ↔ (was ⊎ SomeBefore 0 P)
some_none P was = (λ w. inl w, λ h. elim h [ inl w ↦ w | inr s ↦ absurd (omega (arith, s.1)) ])

module _ (P : ℕ → Type 0) (n : ℕ) (was old : Type 0) (so_far : old ↔ (was ⊎ SomeBefore n P)) where
  pub some_more : (Q new : Type 0) → Q ↔ P n → new ↔ (old ⊎ Q) → new ↔ (was ⊎ SomeBefore (n + 1) P)
  some_more Q new here step = (
    λ h. elim (step.0 h) [
      | inl o ↦ elim (so_far.0 o) [ inl w ↦ inl w | inr s ↦ inr (s.0, omega (arith, s.1), s.2) ]
      | inr q ↦ inr (n, omega arith, here.0 q)
    ],
    λ h. elim h [
      | inl w ↦ step.1 (inl (so_far.1 (inl w)))
      | inr s ↦ elim (cases_eq s.0 n) [
        | inl e ↦ step.1 (inr (here.1 (subst P e s.2)))
        | inr other ↦ step.1 (inl (so_far.1 (inr (s.0, omega (arith, s.1, other), s.2))))
      ]
    ],
  )

  pub some_all : ((k : ℕ) → P k → k < n) → old ↔ (was ⊎ ((k : ℕ) × P k))
  some_all within = (
    λ o. elim (so_far.0 o) [ inl w ↦ inl w | inr s ↦ inr (s.0, s.2) ],
    λ h. elim h [ inl w ↦ so_far.1 (inl w) | inr s ↦ so_far.1 (inr (s.0, within s.0 s.1, s.1)) ],
  )

-- where there was nothing
pub only : {A B : Type 0} → A ↔ (⊥ ⊎ B) → A ↔ B
only f = (λ a. elim (f.0 a) [ inl n ↦ absurd n | inr b ↦ b ], λ b. f.1 (inr b))

pub iff_same : {A : Type 0} → A ↔ A
iff_same = (λ a. a, λ a. a)

pub iff_chain : {A B C : Type 0} → A ↔ B → B ↔ C → A ↔ C
iff_chain f g = (λ a. g.0 (f.0 a), λ c. f.1 (g.1 c))

pub iff_back : {A B : Type 0} → A ↔ B → B ↔ A
iff_back f = (f.1, f.0)

pub iff_right : {A B C : Type 0} → B ↔ C → (A ⊎ B) ↔ (A ⊎ C)
iff_right f = (λ h. elim h [ inl a ↦ inl a | inr b ↦ inr (f.0 b) ], λ h. elim h [ inl a ↦ inl a | inr c ↦ inr (f.1 c) ])

pub iff_none : {A B : Type 0} → (B → ⊥) → A ↔ (A ⊎ B)
iff_none none = (λ a. inl a, λ h. elim h [ inl a ↦ a | inr b ↦ absurd (none b) ])

-- what two steps add
pub two_steps : {was mid now A B : Type 0} → mid ↔ (was ⊎ A) → now ↔ (mid ⊎ B) → now ↔ (was ⊎ (A ⊎ B))
two_steps f g = (
  λ n. elim (g.0 n) [ inl m ↦ elim (f.0 m) [ inl w ↦ inl w | inr a ↦ inr (inl a) ] | inr b ↦ inr (inr b) ],
  λ h. elim h [ inl w ↦ g.1 (inl (f.1 (inl w))) | inr x ↦ elim x [ inl a ↦ g.1 (inl (f.1 (inr a))) | inr b ↦ g.1 (inr b) ] ],
)

-- what is below a bound
pub small_either : {A B S : Type 0} → ((A × S) ⊎ (B × S)) ↔ ((A ⊎ B) × S)
small_either = (
  λ h. elim h [ inl a ↦ (inl a.0, a.1) | inr b ↦ (inr b.0, b.1) ],
  λ h. elim h.0 [ inl a ↦ inl (a, h.1) | inr b ↦ inr (b, h.1) ],
)

pub small_same : {A B S : Type 0} → A ↔ B → (A × S) ↔ (B × S)
small_same f = (λ h. (f.0 h.0, h.1), λ h. (f.1 h.0, h.1))

-- what one step adds is the whole
pub adds : {was now A B S : Type 0} → now ↔ (was ⊎ (A × S)) → B ↔ A → now ↔ (was ⊎ (B × S))
adds f g = iff_chain f (iff_right (small_same (iff_back g)))

-- what two steps add is the whole
pub adds_both : {was mid now A B C S : Type 0} → mid ↔ (was ⊎ (A × S)) → now ↔ (mid ⊎ (B × S)) → C ↔ (A ⊎ B) → now ↔ (was ⊎ (C × S))
adds_both f g h = iff_chain (two_steps f g) (iff_right (iff_chain small_either (small_same (iff_back h))))

pub adds_all : {was one two now A B C D S : Type 0} → one ↔ (was ⊎ (A × S)) → two ↔ (one ⊎ (B × S)) → now ↔ (two ⊎ (C × S)) → D ↔ ((A ⊎ B) ⊎ C) → now ↔ (was ⊎ (D × S))
adds_all f g h k = adds_both (adds_both f g iff_same) h k

pub either_left : {A B C : Type 0} → (A ⊎ (B ⊎ C)) ↔ ((A ⊎ B) ⊎ C)
either_left = (
  λ h. elim h [ inl a ↦ inl (inl a) | inr x ↦ elim x [ inl b ↦ inl (inr b) | inr c ↦ inr c ] ],
  λ h. elim h [ inl x ↦ elim x [ inl a ↦ inl a | inr b ↦ inr (inl b) ] | inr c ↦ inr (inr c) ],
)

-- ---- item by item

module _ {X : Type 0} (P : X → Type 0) (S was : Type 0) (xs : List X) (k : ℕ) where
  -- a step adds what the next item gives
  pub item_more : (x : X) (now new : Type 0) → slice_get xs k ≡ Some x → now ↔ (was ⊎ indexes.SomeBefore xs k (λ x. P x × S)) → new ↔ (now ⊎ (P x × S))
      → new ↔ (was ⊎ indexes.SomeBefore xs (k + 1) (λ x. P x × S))
  item_more x now new at so_far step = indexes.adds_more xs k x (λ x. P x × S) was now new at so_far step

  -- at the end all is added
  pub item_all : (now : Type 0) → k ≡ length xs → now ↔ (was ⊎ indexes.SomeBefore xs k (λ x. P x × S)) → now ↔ (was ⊎ (((k : ℕ) × (x : X) × (slice_get xs k ≡ Some x) × P x) × S))
  item_all now end so_far =
      iff_chain (indexes.adds_all xs k (λ x. P x × S) was now end so_far) (iff_right (λ h. ((h.0, h.1, h.2, h.3.0), h.3.1), λ h. (h.0.0, h.0.1, h.0.2, (h.0.3, h.1))))

-- ---- one item of a list

abbrev pub Any : {X : Type 0} → (X → Type 0) → List X → Type 0
Any P xs = (x : _) × Contains xs x × P x

pub any_none : {X : Type 0} (P : X → Type 0) → ¬ (Any P [])
any_none P h = omega (arith, h.1.1)

pub any_one : {X : Type 0} (P : X → Type 0) (y : X) → Any P (y ∷ []) ↔ P y
any_one P y = (λ h. at h.0 h.1.0 h.1.1 h.1.2 h.2, λ p. (y, (0, omega arith, refl), p))
  where
    at : (x : _) (k : ℕ) → k < length (y ∷ []) → slice_index_or (y ∷ []) k x ≡ x → P x → P y
    at x zero small is p = subst P (sym is) p
    at x (suc k) small is p = absurd (omega arith)

pub any_append : {X : Type 0} (P : X → Type 0) (xs ys : List X) → Any P (xs ++ ys) ↔ (Any P xs ⊎ Any P ys)
any_append P xs ys = (
  λ h. elim (Contains-append_cases xs ys h.0 h.1) [ inl a ↦ inl (h.0, a, h.2) | inr b ↦ inr (h.0, b, h.2) ],
  λ h. elim h [ inl a ↦ (a.0, Contains-append_left xs ys a.0 a.1, a.2) | inr b ↦ (b.0, Contains-append_right xs ys b.0 b.1, b.2) ],
)
