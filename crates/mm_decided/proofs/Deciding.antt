-- Statements that are decided, and searches for what they hold of.
use Rattle.std.proofs.Common.{◌≡◌, ◌∙◌, ℕ, zero, suc, ◌+◌, ◌<◌, ◌≤◌, Bool, true, false, List, [], ◌∷◌, length, get_or, inl, inr, refl, sym, ap, Some, None, Option, arith, subst}
use Rattle.std.proofs.lemmas.Bool.{cases_eq, cases_lt, cases_Bool, true≢false}
use Rattle.std.proofs.lemmas.Option.{slice_get-get_or, slice_get_within, get_or_from_slice_get}
use Rattle.std.specs.List.{Contains, insert}
use Rattle.std.specs.List.Sorted.{IsStrictlyIncreasing}
use Rattle.std.specs.Prelude.{◌⊎◌, ◌↔◌, IsSomeAnd, slice_get}
use Rattle.mm_points.proofs.Insertions.{has_inserted, increasing_inserted}

-- it holds, or it does not
abbrev pub Decided : Type 0 → Type 0
Decided P = P ⊎ (P → ⊥)

pub as_well : {P Q : Type 0} → (P → Q) → (Q → P) → Decided P → Decided Q
as_well f g d = elim d [ inl p ↦ inl (f p) | inr fails ↦ inr (λ q. fails (g q)) ]

pub both : {P Q : Type 0} → Decided P → Decided Q → Decided (P × Q)
both p q = elim p [
  | inl a ↦ elim q [ inl b ↦ inl (a, b) | inr fails ↦ inr (λ h. fails h.1) ]
  | inr fails ↦ inr (λ h. fails h.0)
]

pub all_three : {P Q R : Type 0} → Decided P → Decided Q → Decided R → Decided (P × Q × R)
all_three p q r = as_well (λ h. (h.0, h.1.0, h.1.1)) (λ h. (h.0, (h.1, h.2))) (both p (both q r))

pub either : {P Q : Type 0} → Decided P → Decided Q → Decided (P ⊎ Q)
either p q = elim p [
  | inl a ↦ inl (inl a)
  | inr fails ↦ elim q [ inl b ↦ inl (inr b) | inr not ↦ inr (λ h. elim h [ inl a ↦ fails a | inr b ↦ not b ]) ]
]

pub failing : {P : Type 0} → Decided P → Decided (P → ⊥)
failing p = elim p [ inl a ↦ inr (λ fails. fails a) | inr fails ↦ inl fails ]

pub bool_true : (b : Bool) → Decided (b ≡ true)
bool_true b = elim (cases_Bool b) [ inl t ↦ inl t | inr f ↦ inr (λ t. true≢false (let e : true ≡ false = cc in e)) ]

-- ---- numbers

-- it holds of a number below n
abbrev pub SomeBelow : (ℕ → Type 0) → ℕ → Type 0
SomeBelow P n = (k : ℕ) × (k < n) × P k

pub some_below : (P : ℕ → Type 0) → ((k : ℕ) → Decided (P k)) → (n : ℕ) → Decided (SomeBelow P n)
some_below P d zero = inr (λ h. absurd (omega (arith, h.1)))
some_below P d (suc n) = elim (some_below P d n) [
  | inl h ↦ inl (h.0, omega (arith, h.1), h.2)
  | inr none ↦ elim (d n) [
    | inl is ↦ inl (n, omega arith, is)
    | inr fails ↦ inr (λ h. elim (cases_eq h.0 n) [ inl e ↦ fails (subst P e h.2) | inr other ↦ none (h.0, omega (arith, h.1), h.2) ])
  ]
]

-- the least number of which it holds
pub record Least (P : ℕ → Type 0) : Type 0 where
  pub at : ℕ
  pub is : P at
  pub least : (j : ℕ) → P j → at ≤ j

pub least_of : (P : ℕ → Type 0) → ((k : ℕ) → Decided (P k)) → (n : ℕ) → SomeBelow P n → Least P
least_of P d zero h = absurd (omega (arith, h.1))
least_of P d (suc n) h = elim (some_below P d n) [
  | inl before ↦ least_of P d n before
  | inr none ↦ elim (cases_lt h.0 n) [
    | inl less ↦ absurd (none (h.0, less, h.2))
    | inr more ↦
        let e : h.0 ≡ n = omega (arith, h.1) in
        record { at = n; is = subst P e h.2; least = λ j is. elim (cases_lt j n) [ inl low ↦ absurd (none (j, low, is)) | inr high ↦ omega arith ] }
  ]
]

-- ---- options and lists

pub some_and : {X : Type 0} (o : Option X) (P : X → Type 0) → IsSomeAnd o P → (x : X) × (o ≡ Some x) × P x
some_and None P h = absurd h
some_and (Some x) P h = (x, refl, h)

pub and_some : {X : Type 0} (o : Option X) (P : X → Type 0) (x : X) → o ≡ Some x → P x → IsSomeAnd o P
and_some o P x e h = rw e h

pub of_option : {X : Type 0} (o : Option X) (P : X → Type 0) → ((x : X) → Decided (P x)) → Decided (IsSomeAnd o P)
of_option None P d = inr (λ h. h)
of_option (Some x) P d = d x

-- it holds of an element
abbrev pub SomeAt : {X : Type 0} → List X → (X → Type 0) → Type 0
SomeAt xs P = (k : ℕ) × IsSomeAnd (slice_get xs k) P

none_of : {X : Type 0} (x : X) (xs : List X) (P : X → Type 0) → (P x → ⊥) → (SomeAt xs P → ⊥) → (k : ℕ) → IsSomeAnd (slice_get (x ∷ xs) k) P → ⊥
none_of x xs P fails none zero h = fails h
none_of x xs P fails none (suc k) h = none (k, h)

pub some_at : {X : Type 0} (xs : List X) (P : X → Type 0) → ((x : X) → Decided (P x)) → Decided (SomeAt xs P)
some_at [] P d = inr (λ h. h.1)
some_at (x ∷ xs) P d = elim (d x) [
  | inl is ↦ inl (zero, is)
  | inr fails ↦ elim (some_at xs P d) [ inl h ↦ inl (suc h.0, h.1) | inr none ↦ inr (λ h. none_of x xs P fails none h.0 h.1) ]
]

pub at_contained : {X : Type 0} (xs : List X) (P : X → Type 0) → (x : X) → Contains xs x → P x → SomeAt xs P
at_contained xs P x has is = (has.0, and_some (slice_get xs has.0) P x (slice_get-get_or xs has.0 x has.1 ∙ ap Some has.2) is)

pub contained_at : {X : Type 0} (xs : List X) (P : X → Type 0) → SomeAt xs P → (x : X) × Contains xs x × P x
contained_at xs P h =
    let at = some_and (slice_get xs h.0) P h.1 in
    (at.0, (h.0, slice_get_within xs h.0 at.0 at.1, get_or_from_slice_get xs h.0 at.0 at.0 at.1), at.2)

-- ---- sums as bounds

abbrev pub total : {X : Type 0} → (X → ℕ) → List X → ℕ
total f [] = 0
total f (x ∷ xs) = f x + total f xs

pub total_above : {X : Type 0} (f : X → ℕ) (xs : List X) (k : ℕ) (x : X) → slice_get xs k ≡ Some x → f x ≤ total f xs
total_above f [] k x is = absurd (let fails : None ≡ Some x = is in cc)
total_above f (y ∷ xs) zero x is = let e : y ≡ x = cc in let here : f y ≡ f x = ap f e in omega arith
total_above f (y ∷ xs) (suc k) x is = let rest = total_above f xs k x is in omega arith

-- ---- the numbers of which it holds, in order

pub record Listed (P : ℕ → Type 0) (n : ℕ) : Type 0 where
  pub cells : List ℕ
  pub ordered : IsStrictlyIncreasing cells
  pub each : (c : ℕ) → Contains cells c ↔ (P c × (c < n))

push : (P : ℕ → Type 0) (n : ℕ) → P n → Listed P n → Listed P (suc n)
push P n is so_far = record {
  cells = insert so_far.cells (length so_far.cells) n;
  ordered = increasing_inserted so_far.cells (length so_far.cells) n (omega arith) so_far.ordered
      (λ k within. ((so_far.each (get_or so_far.cells k 0)).0 (k, within, get_or_from_slice_get so_far.cells k (get_or so_far.cells k 0) (get_or so_far.cells k 0) (slice_get-get_or so_far.cells k 0 within))).1)
      (λ k from within. absurd (omega arith));
  each = λ c. (
    λ h. elim ((has_inserted so_far.cells (length so_far.cells) n c).0 h) [
      | inl old ↦ let o = (so_far.each c).0 old in (o.0, omega (arith, o.1))
      | inr e ↦ (subst P (sym e) is, omega arith)
    ],
    λ h. (has_inserted so_far.cells (length so_far.cells) n c).1 (elim (cases_eq c n) [
      | inl e ↦ inr e
      | inr other ↦ inl ((so_far.each c).1 (h.0, omega (arith, h.1)))
    ]),
  );
}

skip : (P : ℕ → Type 0) (n : ℕ) → (P n → ⊥) → Listed P n → Listed P (suc n)
skip P n fails so_far = record {
  cells = so_far.cells;
  ordered = so_far.ordered;
  each = λ c. (
    λ h. let o = (so_far.each c).0 h in (o.0, omega (arith, o.1)),
    λ h. elim (cases_eq c n) [
      | inl e ↦ absurd (fails (subst P e h.0))
      | inr other ↦ (so_far.each c).1 (h.0, omega (arith, h.1))
    ],
  );
}

pub listed : (P : ℕ → Type 0) → ((k : ℕ) → Decided (P k)) → (n : ℕ) → Listed P n
listed P d zero = record { cells = []; ordered = λ k h. absurd (omega arith); each = λ c. (λ h. absurd (omega (arith, h.1)), λ h. absurd (omega (arith, h.1))) }
listed P d (suc n) = elim (d n) [ inl is ↦ push P n is (listed P d n) | inr fails ↦ skip P n fails (listed P d n) ]
