-- Either an order keeps the edges and the added ones, or nodes wait for each other.
use Rattle.std.proofs.Common.{arith, ◌≡◌, ℕ, zero, suc, ◌+◌, ◌<◌, ◌≤◌, List, [], ◌∷◌, ◌++◌, length, Some, None, refl, Bool, true, false, sym, ◌∙◌, ap, ap₂, subst, slice_get, ◌==◌, if◌then◌else◌, ◌⊎◌, inl, inr, ⊎_elim, length-append}
use Rattle.std.specs.Prelude.{Contains}
use Rattle.std.proofs.lemmas.Bool.{cases_lt, cases_eq, cases_Bool, eq-eqb, eqb-true, or_cases, or_left, or_right, false≢true}
use Rattle.std.proofs.lemmas.Option.{same_Some, slice_get_within}
use Rattle.mm_rungraph.specs.RunGraph.{Once}
use Rattle.mm_rungraph.proofs.Once.{once_append}
use Rattle.mm_rungraph.proofs.Spanning.{get_old, get_new}
use Rattle.mm_reorder.specs.Orders.{Precedes}
use Rattle.mm_reorder.proofs.Arranging.{In, in_list, listed, one_place, on_left}
use Rattle.mm_reorder.proofs.Cut.{with_step}
use Rattle.mm_reorder.proofs.Settle.{with_it, with_other}

-- ---- how many are left

left : (ℕ → Bool) → ℕ → ℕ
left done zero = 0
left done (suc n) = if done n then left done n else suc (left done n)

left_kept : (done : ℕ → Bool) (v n : ℕ) → n ≤ v → left (with_step done v) n ≡ left done n
unfolding left
left_kept done v zero l = refl
left_kept done v (suc n) l = ap₂ (λ b i. if b then i else suc i) (with_other done v n (λ e. omega (arith, e, l))) (left_kept done v n (omega arith))

left_less : (done : ℕ → Bool) (v n : ℕ) → v < n → done v ≡ false → suc (left (with_step done v) n) ≡ left done n
unfolding left
left_less done v zero l e = absurd (omega arith)
left_less done v (suc n) l e = go (cases_eq v n) (λ b. left_less done v n b e)
  where
    here : v ≡ n → suc (if with_step done v n then left (with_step done v) n else suc (left (with_step done v) n)) ≡ (if done n then left done n else suc (left done n))
    here s =
        ap (λ b. suc (if b then left (with_step done v) n else suc (left (with_step done v) n))) (subst (λ i. with_step done v i ≡ true) s (with_it done v))
        ∙ ap suc (left_kept done v n (omega (arith, s)))
        ∙ sym (ap (λ b. if b then left done n else suc (left done n)) (subst (λ i. done i ≡ false) s e))

    there : (v ≡ n → ⊥) → suc (left (with_step done v) n) ≡ left done n → (b : Bool) → done n ≡ b → suc (if with_step done v n then left (with_step done v) n else suc (left (with_step done v) n)) ≡ (if done n then left done n else suc (left done n))
    there s ih b d =
        let same : with_step done v n ≡ b = with_other done v n (λ q. s (sym q)) ∙ d in
        ap (λ c. suc (if c then left (with_step done v) n else suc (left (with_step done v) n))) same ∙ both b ∙ sym (ap (λ c. if c then left done n else suc (left done n)) d)
      where
        both : (b : Bool) → suc (if b then left (with_step done v) n else suc (left (with_step done v) n)) ≡ (if b then left done n else suc (left done n))
        both true = ih
        both false = ap suc ih

    go : (v ≡ n) ⊎ (v ≡ n → ⊥) → (v < n → suc (left (with_step done v) n) ≡ left done n) → suc (if with_step done v n then left (with_step done v) n else suc (left (with_step done v) n)) ≡ (if done n then left done n else suc (left done n))
    go (inl s) ih = here s
    go (inr s) ih = there s (ih (omega (arith, s, l))) (done n) refl

-- ---- those that are left

undone : (ℕ → Bool) → ℕ → List ℕ
undone done zero = []
undone done (suc n) = if done n then undone done n else n ∷ undone done n

in_more : (x y : ℕ) (xs : List ℕ) → In xs x → In (y ∷ xs) x
in_more x y xs (i, e) = (suc i, e)

in_undone : (done : ℕ → Bool) (n v : ℕ) → v < n → done v ≡ false → In (undone done n) v
unfolding undone
in_undone done zero v l e = absurd (omega arith)
in_undone done (suc n) v l e = go (done n) refl (cases_eq v n) (λ b. in_undone done n v b e)
  where
    go : (b : Bool) → done n ≡ b → (v ≡ n) ⊎ (v ≡ n → ⊥) → (v < n → In (undone done n) v) → In (if b then undone done n else n ∷ undone done n) v
    go true d (inl s) ih = absurd (false≢true (sym e ∙ ap done s ∙ d))
    go true d (inr s) ih = ih (omega (arith, s, l))
    go false d (inl s) ih = (zero, ap Some (sym s))
    go false d (inr s) ih = in_more v n (undone done n) (ih (omega (arith, s, l)))

of_undone : (done : ℕ → Bool) (n v : ℕ) → In (undone done n) v → (v < n) × (done v ≡ false)
unfolding undone
of_undone done zero v (i, e) = absurd (nothing e)
  where
    nothing : None ≡ Some v → ⊥
    nothing h = cc
of_undone done (suc n) v h = go (done n) refl h (of_undone done n v)
  where
    up : (v < n) × (done v ≡ false) → (v < suc n) × (done v ≡ false)
    up q = let l : v < n = q.0 in (omega arith, q.1)

    split : done n ≡ false → (i : ℕ) → slice_get (n ∷ undone done n) i ≡ Some v → (In (undone done n) v → (v < n) × (done v ≡ false)) → (v < suc n) × (done v ≡ false)
    split d zero e ih = let s : n ≡ v = same_Some n v e in (omega (arith, s), ap done (sym s) ∙ d)
    split d (suc i) e ih = up (ih (i, e))

    go : (b : Bool) → done n ≡ b → In (if b then undone done n else n ∷ undone done n) v → (In (undone done n) v → (v < n) × (done v ≡ false)) → (v < suc n) × (done v ≡ false)
    go true d h ih = up (ih h)
    go false d h ih = split d h.0 h.1 ih

-- ---- the sort

module _ (N : ℕ) (G : ℕ → ℕ → Type 0) (decide : (a b : ℕ) → G a b ⊎ (G a b → ⊥)) where
  -- each that leads to v is done
  abbrev Ready : (ℕ → Bool) → ℕ → Type 0
  Ready done v = (a : ℕ) → a < N → G a v → done a ≡ true

  -- one that leads to v is not
  abbrev Waits : (ℕ → Bool) → ℕ → Type 0
  Waits done v = (a : ℕ) × (a < N) × (done a ≡ false) × G a v

  waits_or : (done : ℕ → Bool) (v n : ℕ) → n ≤ N → ((a : ℕ) × (a < N) × (done a ≡ false) × G a v) ⊎ ((a : ℕ) → a < n → G a v → done a ≡ true)
  waits_or done v zero l = inr (λ a b. absurd (omega arith))
  waits_or done v (suc n) l = go (waits_or done v n (omega arith)) (cases_Bool (done n)) (decide n v)
    where
      more : ((a : ℕ) → a < n → G a v → done a ≡ true) → (G n v → done n ≡ true) → (a : ℕ) → a < suc n → G a v → done a ≡ true
      more f h a b e = ⊎_elim (λ s. subst (λ i. done i ≡ true) (sym s) (h (subst (λ i. G i v) s e))) (λ s. f a (omega (arith, s, b)) e) (cases_eq a n)

      go : ((a : ℕ) × (a < N) × (done a ≡ false) × G a v) ⊎ ((a : ℕ) → a < n → G a v → done a ≡ true) → (done n ≡ true) ⊎ (done n ≡ false) → G n v ⊎ (G n v → ⊥) → ((a : ℕ) × (a < N) × (done a ≡ false) × G a v) ⊎ ((a : ℕ) → a < suc n → G a v → done a ≡ true)
      go (inl w) d e = inl w
      go (inr f) (inl d) e = inr (more f (λ h. d))
      go (inr f) (inr d) (inl e) = inl (n, omega arith, d, e)
      go (inr f) (inr d) (inr e) = inr (more f (λ h. absurd (e h)))

  abbrev Found : (ℕ → Bool) → ℕ → Type 0
  Found done n = ((v : ℕ) × (v < n) × (done v ≡ false) × Ready done v) ⊎ ((v : ℕ) → v < n → done v ≡ false → Waits done v)

  find : (done : ℕ → Bool) (n : ℕ) → n ≤ N → Found done n
  find done zero l = inr (λ v b. absurd (omega arith))
  find done (suc n) l = go (find done n (omega arith)) (cases_Bool (done n)) (waits_or done n N (omega arith))
    where
      go : Found done n → (done n ≡ true) ⊎ (done n ≡ false) → Waits done n ⊎ Ready done n → Found done (suc n)
      go (inl f) d w = inl (f.0, (let a : f.0 < n = f.1 in omega arith), f.2, f.3)
      go (inr f) (inl d) w = inr (λ v b e. f v (⊎_elim (λ s. absurd (false≢true (sym e ∙ ap done s ∙ d))) (λ s. omega (arith, s, b)) (cases_eq v n)) e)
      go (inr f) (inr d) (inr r) = inl (n, omega arith, d, r)
      go (inr f) (inr d) (inl w) = inr (λ v b e. ⊎_elim (λ s. subst (λ i. Waits done i) (sym s) w) (λ s. f v (omega (arith, s, b)) e) (cases_eq v n))

  -- what is sorted so far
  pub record Sorted (done : ℕ → Bool) (xs : List ℕ) : Type 0 where
    pub sound : (n : ℕ) → done n ≡ true → In xs n
    pub complete : (n : ℕ) → In xs n → (done n ≡ true) × (n < N)
    pub once : Once xs
    pub behind : (j b : ℕ) → slice_get xs j ≡ Some b → (a : ℕ) → a < N → G a b → (i : ℕ) × (i < j) × (slice_get xs i ≡ Some a)

  sorted_on : (done : ℕ → Bool) (xs : List ℕ) (v : ℕ) → Sorted done xs → v < N → done v ≡ false → Ready done v → Sorted (with_step done v) (xs ++ v ∷ [])
  sorted_on done xs v s l e ready = record {
    sound = λ n d. ⊎_elim (λ h. later n (s.sound n h)) (λ h. (length xs, get_new xs v ∙ ap Some (sym (eqb-true n v h)))) (or_cases (done n) (n == v) d);
    complete = λ n h. complete n h;
    once = once_append xs (v ∷ []) s.once ((λ c. absurd (omega (arith, c.1))), tt) (λ d c q. fresh d (in_list xs d c) (in_list (v ∷ []) d q));
    behind = λ j b h a la g. behind j b h a la g;
  }
    where
      later : (n : ℕ) → In xs n → In (xs ++ v ∷ []) n
      later n (i, h) = (i, on_left xs (v ∷ []) i n h)

      fresh : (d : ℕ) → In xs d → In (v ∷ []) d → ⊥
      fresh d h (zero, q) = false≢true (sym e ∙ ap done (same_Some v d q) ∙ (s.complete d h).0)
      fresh d h (suc i, q) = nothing q
        where
          nothing : None ≡ Some d → ⊥
          nothing z = cc

      last : (n i : ℕ) → slice_get (xs ++ v ∷ []) i ≡ Some n → length xs ≤ i → (n ≡ v) × (i ≡ length xs)
      last n i h b =
          let within : i < length (xs ++ v ∷ []) = slice_get_within (xs ++ v ∷ []) i n h in
          let size : length (xs ++ v ∷ []) ≡ length xs + 1 = length-append xs (v ∷ []) in
          let same : i ≡ length xs = omega (arith, within, size, b) in
          (sym (same_Some v n (sym (get_new xs v) ∙ ap (slice_get (xs ++ v ∷ [])) (sym same) ∙ h)), same)

      complete : (n : ℕ) → In (xs ++ v ∷ []) n → (with_step done v n ≡ true) × (n < N)
      complete n (i, h) = ⊎_elim
          (λ b. let c = s.complete n (i, sym (get_old xs (v ∷ []) i b) ∙ h) in (or_left (done n) (n == v) c.0, c.1))
          (λ b. let q = (last n i h b).0 in (or_right (done n) (n == v) (eq-eqb n v q), subst (λ j. j < N) (sym q) l))
          (cases_lt i (length xs))

      old : (a : ℕ) → (j : ℕ) → (i : ℕ) × (i < j) × (slice_get xs i ≡ Some a) → (i : ℕ) × (i < j) × (slice_get (xs ++ v ∷ []) i ≡ Some a)
      old a j (i, b, h) = (i, b, on_left xs (v ∷ []) i a h)

      behind : (j b : ℕ) → slice_get (xs ++ v ∷ []) j ≡ Some b → (a : ℕ) → a < N → G a b → (i : ℕ) × (i < j) × (slice_get (xs ++ v ∷ []) i ≡ Some a)
      behind j b h a la g = ⊎_elim
          (λ c. old a j (s.behind j b (sym (get_old xs (v ∷ []) j c) ∙ h) a la g))
          (λ c.
          let q = last b j h c in
          let f = s.sound a (ready a la (subst (λ i. G a i) q.0 g)) in
          let f_below : f.0 < length xs = slice_get_within xs f.0 a f.1 in
          let q_at : j ≡ length xs = q.1 in
          old a j (f.0, omega (arith, f_below, q_at), f.1))
          (cases_lt j (length xs))

  -- nodes of which each waits for one of them
  pub record Stuck : Type 0 where
    pub node : ℕ
    pub others : List ℕ
    pub each : (b : ℕ) → Contains (node ∷ others) b → (a : ℕ) × Contains (node ∷ others) a × G a b

  stuck : (done : ℕ → Bool) (us : List ℕ) → undone done N ≡ us → ((v : ℕ) → v < N → done v ≡ false → Waits done v) → (us ≡ [] → ⊥) → Stuck
  stuck done [] e h n = absurd (n refl)
  stuck done (u ∷ us) e h n = record {
    node = u;
    others = us;
    each = λ b c.
        let q = of_undone done N b (subst (λ xs. In xs b) (sym e) (in_list (u ∷ us) b c)) in
        let a = h b q.0 q.1 in
        (a.0, listed (u ∷ us) a.0 (subst (λ xs. In xs a.0) e (in_undone done N a.0 a.1 a.2)), a.3);
  }

  pub record Order : Type 0 where
    pub list : List ℕ
    pub done : ℕ → Bool
    pub sorted : Sorted done list
    pub all : (n : ℕ) → n < N → done n ≡ true

  -- where none is ready, all are done or some wait for each other
  halted : (done : ℕ → Bool) (xs : List ℕ) → Sorted done xs → ((v : ℕ) → v < N → done v ≡ false → Waits done v) → Order ⊎ Stuck
  halted done xs s h = go (undone done N) refl
    where
      go : (us : List ℕ) → undone done N ≡ us → Order ⊎ Stuck
      go [] e = inl (record { list = xs; done = done; sorted = s; all = λ n b. ⊎_elim (λ d. d) (λ d. absurd (nothing n (in_undone done N n b d))) (cases_Bool (done n)) })
        where
          none : (n i : ℕ) → slice_get (undone done N) i ≡ Some n → ⊥
          none n i q = absurd (clash (sym (ap (λ us. slice_get us i) e) ∙ q))
            where
              clash : None ≡ Some n → ⊥
              clash z = cc

          nothing : (n : ℕ) → In (undone done N) n → ⊥
          nothing n q = none n q.0 q.1
      go (u ∷ us) e = inr (stuck done (u ∷ us) e h (λ z. clash z))
        where
          clash : u ∷ us ≡ [] → ⊥
          clash z = cc

  sort_by : (d : ℕ) (done : ℕ → Bool) (xs : List ℕ) → left done N ≤ d → Sorted done xs → Order ⊎ Stuck
  sort_by zero done xs l s = go (find done N (omega arith))
    where
      go : Found done N → Order ⊎ Stuck
      go (inl (v, b, e, r)) = absurd (let less : suc (left (with_step done v) N) ≡ left done N = left_less done v N b e in omega (arith, less, l))
      go (inr h) = halted done xs s h
  sort_by (suc d) done xs l s = go (find done N (omega arith)) (λ v b e r. sort_by d (with_step done v) (xs ++ v ∷ []) (let less : suc (left (with_step done v) N) ≡ left done N = left_less done v N b e in omega (arith, less, l)) (sorted_on done xs v s b e r))
    where
      go : Found done N → ((v : ℕ) → v < N → done v ≡ false → Ready done v → Order ⊎ Stuck) → Order ⊎ Stuck
      go (inl (v, b, e, r)) ih = ih v b e r
      go (inr h) ih = halted done xs s h

  pub sort : Order ⊎ Stuck
  sort = sort_by (left (λ (n : ℕ). false) N) (λ (n : ℕ). false) [] (omega arith) (record {
    sound = λ n d. absurd (false≢true d);
    complete = λ n h. absurd (nothing n h.0 h.1);
    once = tt;
    behind = λ j b h. absurd (nothing b j h);
  })
    where
      nothing : (n i : ℕ) → slice_get {X = ℕ} [] i ≡ Some n → ⊥
      nothing n i h = cc

  -- the order keeps what leads from one to another
  pub precedes : (o : Order) (a b : ℕ) → a < N → G a b → Precedes o.list a b
  precedes o a b l g i j e f =
      let r = o.sorted.behind j b f a l g in
      let same : r.0 ≡ i = one_place o.list o.sorted.once r.0 i a r.2 e in
      let less : r.0 < j = r.1 in
      omega (arith, same, less)
