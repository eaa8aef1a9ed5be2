-- Lists that have just the items of which something decided holds, each once.
use Rattle.std.proofs.Common.{arith, ◌≡◌, ◌↔◌, ℕ, zero, suc, ◌<◌, ◌⊎◌, inl, inr, ⊎_elim, List, [], ◌∷◌, ◌++◌, subst}
use Rattle.std.specs.Prelude.{Contains}
use Rattle.std.proofs.lemmas.Bool.{cases_eq}
use Rattle.std.proofs.lemmas.List.Elements.{Contains-append_left, Contains-append_right, Contains-append_cases}
use Rattle.mm_rungraph.specs.RunGraph.{Once}
use Rattle.mm_rungraph.proofs.Once.{once_append}

module _ {A : Type 0} where
  pub record Gathered (S : A → Type 0) : Type 0 where
    pub list : List A
    pub once : Once list
    pub each : (x : A) → Contains list x ↔ S x

  pub as_told : (S T : A → Type 0) → ((x : A) → S x ↔ T x) → Gathered S → Gathered T
  as_told S T h g = record { list = g.list; once = g.once; each = λ x. (λ c. (h x).0 ((g.each x).0 c), λ t. (g.each x).1 ((h x).1 t)) }

  pub no_item : (S : A → Type 0) → ((x : A) → S x → ⊥) → Gathered S
  no_item S h = record { list = []; once = tt; each = λ x. (λ c. (let low = c.1 in absurd (omega (arith, low))), λ s. absurd (h x s)) }

  pub one_item : (S : A → Type 0) (x : A) → S x → ((y : A) → S y → x ≡ y) → Gathered S
  one_item S x s h = record {
    list = x ∷ [];
    once = (λ c. (let low = c.1 in absurd (omega (arith, low))), tt);
    each = λ y. (is_it y, λ t. (0, omega arith, h y t));
  }
    where
      is_it : (y : A) → Contains (x ∷ []) y → S y
      is_it y (zero, low, e) = subst S e s
      is_it y (suc k, low, e) = absurd (omega (arith, low))

  pub joined : (S T : A → Type 0) → ((x : A) → S x → T x → ⊥) → Gathered S → Gathered T → Gathered (λ x. S x ⊎ T x)
  joined S T apart f g = record {
    list = f.list ++ g.list;
    once = once_append f.list g.list f.once g.once (λ x c d. apart x ((f.each x).0 c) ((g.each x).0 d));
    each = λ x. (
      λ c. ⊎_elim (λ l. inl ((f.each x).0 l)) (λ r. inr ((g.each x).0 r)) (Contains-append_cases f.list g.list x c),
      λ h. ⊎_elim (λ s. Contains-append_left f.list g.list x ((f.each x).1 s)) (λ t. Contains-append_right f.list g.list x ((g.each x).1 t)) h,
    );
  }

  -- one list for each number below n
  pub below : (T : ℕ → A → Type 0) → ((k : ℕ) → Gathered (T k)) → ((j k : ℕ) (x : A) → T j x → T k x → j ≡ k) → (n : ℕ) → Gathered (λ x. (k : ℕ) × (k < n) × T k x)
  below T f one zero = no_item (λ x. (k : ℕ) × (k < 0) × T k x) (λ x h. (let low = h.1 in absurd (omega (arith, low))))
  below T f one (suc n) = as_told (λ x. ((k : ℕ) × (k < n) × T k x) ⊎ T n x) (λ x. (k : ℕ) × (k < suc n) × T k x) (λ x. (up x, down x))
      (joined (λ x. (k : ℕ) × (k < n) × T k x) (T n) (λ x h t. (let same = one h.0 n x h.2 t in let low = h.1 in absurd (omega (arith, same, low)))) (below T f one n) (f n))
    where
      up : (x : A) → ((k : ℕ) × (k < n) × T k x) ⊎ T n x → (k : ℕ) × (k < suc n) × T k x
      up x (inl h) = (h.0, (let low = h.1 in omega (arith, low)), h.2)
      up x (inr t) = (n, omega arith, t)

      down : (x : A) → (k : ℕ) × (k < suc n) × T k x → ((k : ℕ) × (k < n) × T k x) ⊎ T n x
      down x (k, low, t) = by (cases_eq k n)
        where
          by : (k ≡ n) ⊎ (k ≡ n → ⊥) → ((k : ℕ) × (k < n) × T k x) ⊎ T n x
          by (inl same) = inr (subst (λ j. T j x) same t)
          by (inr other) = inl (k, omega (arith, low, other), t)
