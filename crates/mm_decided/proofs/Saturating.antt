-- The least set that rules close, over finitely many facts: it is found by adding one fact after the other.
use Rattle.std.proofs.Common.{◌≡◌, ℕ, zero, suc, ◌+◌, ◌<◌, ◌≤◌, Bool, true, false, List, [], ◌∷◌, inl, inr, refl, sym, arith, subst}
use Rattle.std.proofs.lemmas.Bool.{cases_Bool, true≢false}
use Rattle.std.specs.Prelude.{◌⊎◌}
use Rattle.mm_decided.proofs.Deciding.{Decided, both}

-- the fact is one of the list
abbrev pub In : {A : Type 0} → List A → A → Type 0
In [] x = ⊥
In (y ∷ ys) x = (x ≡ y) ⊎ In ys x

pub some_in : {A : Type 0} (xs : List A) (P : A → Type 0) → ((x : A) → Decided (P x)) → Decided ((x : A) × In xs x × P x)
some_in [] P d = inr (λ h. h.1)
some_in (y ∷ ys) P d = elim (d y) [
  | inl is ↦ inl (y, inl refl, is)
  | inr fails ↦ elim (some_in ys P d) [
    | inl h ↦ inl (h.0, inr h.1, h.2)
    | inr none ↦ inr (λ h. elim h.1 [ inl e ↦ fails (subst P e h.2) | inr later ↦ none (h.0, later, h.2) ])
  ]
]

one_if_not : Bool → ℕ
one_if_not true = 0
one_if_not false = 1

if_true : (b : Bool) → b ≡ true → one_if_not b ≡ 0
unfolding one_if_not
if_true b e = rw e refl

if_false : (b : Bool) → b ≡ false → one_if_not b ≡ 1
unfolding one_if_not
if_false b e = rw e refl

not_both : {b : Bool} → b ≡ true → b ≡ false → ⊥
not_both t f = true≢false (let e : true ≡ false = cc in e)

module _ (A : Type 0) (alike : (a b : A) → Decided (a ≡ b)) where
  -- how many of the facts are not in the set
  abbrev missing : (A → Bool) → List A → ℕ
  missing set [] = 0
  missing set (x ∷ xs) = one_if_not (set x) + missing set xs

  added : (A → Bool) → A → A → Bool
  added set x y = elim (alike y x) [ inl e ↦ true | inr other ↦ set y ]

  added_only : (set : A → Bool) (x y : A) → added set x y ≡ true → (y ≡ x) ⊎ (set y ≡ true)
  unfolding added
  added_only set x y = elim (alike y x) as (λ d. (elim d as (λ w. Bool) [ inl e ↦ true | inr other ↦ set y ]) ≡ true → (y ≡ x) ⊎ (set y ≡ true)) [
    | inl e ↦ λ h. inl e
    | inr other ↦ λ h. inr h
  ]

  added_old : (set : A → Bool) (x y : A) → set y ≡ true → added set x y ≡ true
  unfolding added
  added_old set x y old = elim (alike y x) as (λ d. (elim d as (λ w. Bool) [ inl e ↦ true | inr other ↦ set y ]) ≡ true) [
    | inl e ↦ refl
    | inr other ↦ old
  ]

  added_new : (set : A → Bool) (x y : A) → y ≡ x → added set x y ≡ true
  unfolding added
  added_new set x y same = elim (alike y x) as (λ d. (elim d as (λ w. Bool) [ inl e ↦ true | inr other ↦ set y ]) ≡ true) [
    | inl e ↦ refl
    | inr other ↦ absurd (other same)
  ]

  no_more : (set : A → Bool) (x : A) (xs : List A) → missing (added set x) xs ≤ missing set xs
  no_more set x [] = omega arith
  no_more set x (y ∷ xs) =
      let rest = no_more set x xs in
      elim (cases_Bool (set y)) [
        | inl t ↦
            let a = if_true (set y) t in
            let b = if_true (added set x y) (added_old set x y t) in
            omega arith
        | inr f ↦
            let a = if_false (set y) f in
            elim (cases_Bool (added set x y)) [
              | inl t ↦ let b = if_true (added set x y) t in omega arith
              | inr g ↦ let b = if_false (added set x y) g in omega arith
            ]
      ]

  fewer : (set : A → Bool) (x : A) (xs : List A) → In xs x → set x ≡ false → missing (added set x) xs < missing set xs
  fewer set x [] among new = absurd among
  fewer set x (y ∷ xs) among new = elim among [
    | inl e ↦
        let rest = no_more set x xs in
        let a = if_false (set y) (let P : A → Type 0 = λ z. set z ≡ false in subst P e new) in
        let b = if_true (added set x y) (added_new set x y (sym e)) in
        omega arith
    | inr later ↦
        let rest = fewer set x xs later new in
        elim (cases_Bool (set y)) [
          | inl t ↦
              let a = if_true (set y) t in
              let b = if_true (added set x y) (added_old set x y t) in
              omega arith
          | inr f ↦
              let a = if_false (set y) f in
              elim (cases_Bool (added set x y)) [
                | inl t ↦ let b = if_true (added set x y) t in omega arith
                | inr g ↦ let b = if_false (added set x y) g in omega arith
              ]
        ]
  ]

  module _ (facts : List A) (D : A → Type 0) (Step : (A → Bool) → A → Type 0) (decide : (set : A → Bool) (x : A) → Decided (Step set x))
      (sound : (set : A → Bool) → ((x : A) → set x ≡ true → D x) → (x : A) → Step set x → D x) where
    -- what is in the set holds, and no rule leads out of it among the facts
    pub record Closed : Type 0 where
      pub set : A → Bool
      pub holds : (x : A) → set x ≡ true → D x
      pub closed : (x : A) → In facts x → Step set x → set x ≡ true

    -- a fact that a rule gives and that the set has not
    abbrev Next : (A → Bool) → A → Type 0
    Next set x = (set x ≡ false) × Step set x

    next : (set : A → Bool) → Decided ((x : A) × In facts x × Next set x)
    next set = some_in facts (Next set) (λ x. both (elim (cases_Bool (set x)) [ inl t ↦ inr (not_both t) | inr f ↦ inl f ]) (decide set x))

    stable : (set : A → Bool) → ((x : A) → set x ≡ true → D x) → (((x : A) × In facts x × Next set x) → ⊥) → Closed
    stable set holds none = record {
      set = set;
      holds = holds;
      closed = λ x among step. elim (cases_Bool (set x)) [ inl t ↦ t | inr f ↦ absurd (none (x, among, (f, step))) ];
    }

    still : (set : A → Bool) → ((x : A) → set x ≡ true → D x) → (x : A) → Step set x → (y : A) → added set x y ≡ true → D y
    still set holds x step y is = elim (added_only set x y is) [ inl e ↦ subst D (sym e) (sound set holds x step) | inr old ↦ holds y old ]

    grown : (n : ℕ) (set : A → Bool) → ((x : A) → set x ≡ true → D x) → missing set facts ≤ n → Closed
    grown zero set holds few = elim (next set) [
      | inl x ↦ let less = fewer set x.0 facts x.1 x.2.0 in absurd (omega arith)
      | inr none ↦ stable set holds none
    ]
    grown (suc n) set holds few = elim (next set) [
      | inl x ↦
          let less = fewer set x.0 facts x.1 x.2.0 in
          grown n (added set x.0) (still set holds x.0 x.2.1) (omega arith)
      | inr none ↦ stable set holds none
    ]

    pub saturated : Closed
    saturated = grown (missing (λ x. false) facts) (λ x. false) (λ x is. absurd (not_both is refl)) (omega arith)
