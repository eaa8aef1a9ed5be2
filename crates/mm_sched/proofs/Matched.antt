-- Two machines side by side: where the one makes a step, the other makes one that matches it.
use Rattle.std.proofs.Common.{◌≡◌, Bool, true, false, Option, Some, None, option_map, refl, IfSome, IsSomeAnd}
use Rattle.mm_sched.specs.Guarded.{◌>>=◌, guarded}

-- where the one is there, the other is there and is related to it
abbrev pub Matched : {A B : Type 0} → (A → B → Type 0) → Option A → Option B → Type 0
Matched R o q = IfSome o (λ a. IsSomeAnd q (R a))

module _ {A B : Type 0} (R : A → B → Type 0) where
  pub matched-bind : {C : Type 0} (o : Option C) (g : C → Option A) (h : C → Option B) → ((c : C) → o ≡ Some c → Matched R (g c) (h c)) → Matched R (o >>= g) (o >>= h)
  matched-bind None g h k = tt
  matched-bind (Some c) g h k = k c refl

  pub matched-guarded : (b : Bool) (o : Option A) (q : Option B) → Matched R o q → Matched R (guarded b o) (guarded b q)
  matched-guarded true o q k = k
  matched-guarded false o q k = tt

  pub matched-map : {C D : Type 0} (S : C → D → Type 0) (g : C → A) (h : D → B) (o : Option C) (q : Option D) → Matched S o q → ((c : C) (d : D) → S c d → R (g c) (h d)) → Matched R (option_map g o) (option_map h q)
  matched-map S g h None q k l = tt
  matched-map S g h (Some c) None k l = absurd k
  matched-map S g h (Some c) (Some d) k l = l c d k

  pub matched-wrap : {C D : Type 0} (S : C → D → Type 0) (g : C → A) (h : D → B) (o : Option C) (q : Option D) → Matched S o q → ((c : C) (d : D) → S c d → R (g c) (h d)) → Matched R (o >>= λ c. Some (g c)) (q >>= λ d. Some (h d))
  matched-wrap S g h None q k l = tt
  matched-wrap S g h (Some c) None k l = absurd k
  matched-wrap S g h (Some c) (Some d) k l = l c d k

  -- the match, where the one is there
  pub matched-at : (o : Option A) (q : Option B) → Matched R o q → IfSome o (λ a. (b : B) × (q ≡ Some b) × R a b)
  matched-at None q k = tt
  matched-at (Some a) None k = absurd k
  matched-at (Some a) (Some b) k = (b, refl, k)

pub matched-same : {A : Type 0} (R : A → A → Type 0) (P : A → Type 0) (o : Option A) → IfSome o P → ((a : A) → P a → R a a) → Matched R o o
matched-same R P None h k = tt
matched-same R P (Some a) h k = k a h
