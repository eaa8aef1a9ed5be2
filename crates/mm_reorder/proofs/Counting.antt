-- How many stores each queue has taken in and given out along a run.
use Rattle.std.proofs.Common.{arith, ◌≡◌, ℕ, zero, suc, ◌<◌, ◌≤◌, ℤ, Some, refl, Bool, true, false, sym, ◌∙◌, ap, subst, ◌==◌, slice_get, ◌⊎◌, inl, inr}
use Rattle.std.proofs.lemmas.Bool.{cases_lt, cases_order, eqb-true, eq-eqb, and_parts, and_from, false≢true}
use Rattle.mm_goto.specs.Bounds.{Bounding}
use Rattle.mm_goto.specs.declared.model.Model.{Model}
use Rattle.mm_goto.specs.Listing.{Listing}
use Rattle.mm_sched.specs.declared.entry.Act.TheVariants.{Goes, Pushes}
use Rattle.mm_sched.specs.declared.entry.Event.{Event}
use Rattle.mm_sched.specs.declared.entry.Event.TheVariants.{Does, Flushes}
use Rattle.mm_sched.specs.State.{pending_of}
use Rattle.mm_sched.specs.Buffer.{part}
use Rattle.mm_runkeys.specs.Keys.{key}
use Rattle.mm_reorder.proofs.Parts.{Ghost, PushedOf, PoppedOf, changes, count, count_kept, count_up, count_least}
use Rattle.mm_reorder.proofs.Queue.{live, live_first, live_at, head_of}
use Rattle.mm_reorder.proofs.Walking.{Walk, Fresh, Agree, Cuts}

-- ---- a counter that goes up by one where the test holds

module _ (N : ℕ) (f : ℕ → ℕ) (b : ℕ → Bool) (steps : (n : ℕ) → n < N → f (suc n) ≡ count (b n) (f n)) where
  counts_hit : (n : ℕ) → n < N → b n ≡ true → f (suc n) ≡ suc (f n)
  counts_hit n l e = steps n l ∙ count_up (f n) (b n) e

  counts_on : (n : ℕ) → n < N → f n ≤ f (suc n)
  counts_on n l = subst (λ i. f n ≤ i) (sym (steps n l)) (count_least (f n) (b n))

  counts_up : (j k : ℕ) → j ≤ k → k ≤ N → f j ≤ f k
  counts_up j zero l l2 = subst (λ i. f i ≤ f zero) (let e : zero ≡ j = omega arith in e) (omega arith)
  counts_up j (suc k) l l2 = go (cases_lt k j) (λ c. counts_up j k c (omega arith))
    where
      go : (k < j) ⊎ (j ≤ k) → (j ≤ k → f j ≤ f k) → f j ≤ f (suc k)
      go (inl c) ih = subst (λ i. f i ≤ f (suc k)) (let e : suc k ≡ j = omega arith in e) (omega arith)
      go (inr c) ih = let x : f k ≤ f (suc k) = counts_on k l2 in let y : f j ≤ f k = ih c in omega arith

  -- each count was reached
  counts_reach : (v i : ℕ) → v ≤ N → f zero ≡ 0 → i < f v → (u : ℕ) × (u < v) × (f u ≡ i) × (b u ≡ true)
  counts_reach zero i l z h = absurd (omega arith)
  counts_reach (suc v) i l z h = go (cases_lt i (f v)) (counts_reach v i (omega arith) z)
    where
      here : f v ≤ i → (t : Bool) → b v ≡ t → (u : ℕ) × (u < suc v) × (f u ≡ i) × (b u ≡ true)
      here c true e = let s : f (suc v) ≡ suc (f v) = counts_hit v l e in (v, omega arith, omega (arith, s, h, c), e)
      here c false e = let s : f (suc v) ≡ f v = steps v l ∙ count_kept (f v) (b v) e in absurd (omega (arith, s, h, c))

      go : (i < f v) ⊎ (f v ≤ i) → (i < f v → (u : ℕ) × (u < v) × (f u ≡ i) × (b u ≡ true)) → (u : ℕ) × (u < suc v) × (f u ≡ i) × (b u ≡ true)
      go (inl c) ih = let r = ih c in (r.0, (let s : r.0 < v = r.1 in omega arith), r.2, r.3)
      go (inr c) ih = here c (b v) refl

  -- and once only
  counts_once : (u v : ℕ) → u < N → v < N → b u ≡ true → b v ≡ true → f u ≡ f v → u ≡ v
  counts_once u v l l2 e d same = go (cases_order u v)
    where
      go : (u ≡ v) ⊎ ((u < v) ⊎ (v < u)) → u ≡ v
      go (inl c) = c
      go (inr (inl c)) = absurd (let x : f (suc u) ≤ f v = counts_up (suc u) v c (omega arith) in let y : f (suc u) ≡ suc (f u) = counts_hit u l e in omega (arith, x, y, same))
      go (inr (inr c)) = absurd (let x : f (suc v) ≤ f u = counts_up (suc v) u c (omega arith) in let y : f (suc v) ≡ suc (f v) = counts_hit v l2 d in omega (arith, x, y, same))

-- ---- what moves a queue's counters

abbrev pub IsPush : Model → Event → ℕ → ℕ → Type 0
IsPush m v t q = (c : ℕ) × (x : ℤ) × (v ≡ Does t (Pushes c x)) × (key m c ≡ q)

abbrev pub IsPop : Model → Event → ℕ → ℕ → Type 0
IsPop m v t q = (c : ℕ) × (x : ℤ) × (v ≡ Flushes t c x) × (key m c ≡ q)

pub push_is : (m : Model) (v : Event) (t q : ℕ) → changes m v (PushedOf t q) ≡ true → IsPush m v t q
push_is m (Flushes u c x) t q e = absurd (false≢true e)
push_is m (Does u (Pushes c x)) t q e = let p = and_parts (u == t) (key m c == q) e in (c, x, ap (λ y. Does y (Pushes c x)) (eqb-true u t p.0), eqb-true (key m c) q p.1)
push_is m (Does u (Goes k)) t q e = absurd (false≢true (and_parts (u == t) false e).1)
push_is m (Does u a) t q e = absurd (false≢true (and_parts (u == t) false e).1)

pub pop_is : (m : Model) (v : Event) (t q : ℕ) → changes m v (PoppedOf t q) ≡ true → IsPop m v t q
pop_is m (Does u a) t q e = absurd (false≢true e)
pop_is m (Flushes u c x) t q e = let p = and_parts (u == t) (key m c == q) e in (c, x, ap (λ y. Flushes y c x) (eqb-true u t p.0), eqb-true (key m c) q p.1)

pub pushes_it : (m : Model) (v : Event) (t c : ℕ) (x : ℤ) → v ≡ Does t (Pushes c x) → changes m v (PushedOf t (key m c)) ≡ true
pushes_it m v t c x e = ap (λ z. changes m z (PushedOf t (key m c))) e ∙ and_from (t == t) (key m c == key m c) (eq-eqb t t refl) (eq-eqb (key m c) (key m c) refl)

pub pops_it : (m : Model) (v : Event) (t c : ℕ) (x : ℤ) → v ≡ Flushes t c x → changes m v (PoppedOf t (key m c)) ≡ true
pops_it m v t c x e = ap (λ z. changes m z (PoppedOf t (key m c))) e ∙ and_from (t == t) (key m c == key m c) (eq-eqb t t refl) (eq-eqb (key m c) (key m c) refl)

-- ---- along a run

module _ (m : Model) (bound : Bounding) (p : Listing) (w : Walk m bound p) where
  module _ (t q : ℕ) where
    abbrev pub into : ℕ → ℕ
    into n = (w.at n).pushed t q

    abbrev pub out : ℕ → ℕ
    out n = (w.at n).popped t q

    abbrev pushing : ℕ → Bool
    pushing n = changes m (w.what n) (PushedOf t q)

    abbrev popping : ℕ → Bool
    popping n = changes m (w.what n) (PoppedOf t q)

    into_steps : (n : ℕ) → n < w.size → into (suc n) ≡ count (pushing n) (into n)
    into_steps n l = ap (λ (g : Ghost). g.pushed t q) (w.goes n l)

    out_steps : (n : ℕ) → n < w.size → out (suc n) ≡ count (popping n) (out n)
    out_steps n l = ap (λ (g : Ghost). g.popped t q) (w.goes n l)

    pub pushed_up : (j k : ℕ) → j ≤ k → k ≤ w.size → into j ≤ into k
    pushed_up = counts_up w.size into pushing into_steps

    pub popped_up : (j k : ℕ) → j ≤ k → k ≤ w.size → out j ≤ out k
    popped_up = counts_up w.size out popping out_steps

    pub push_of : (v i : ℕ) → v ≤ w.size → i < into v → (u : ℕ) × (u < v) × (into u ≡ i) × IsPush m (w.what u) t q
    push_of v i l h = let r = counts_reach w.size into pushing into_steps v i l (w.none_in t q) h in (r.0, r.1, r.2, push_is m (w.what r.0) t q r.3)

    pub pop_of : (v i : ℕ) → v ≤ w.size → i < out v → (u : ℕ) × (u < v) × (out u ≡ i) × IsPop m (w.what u) t q
    pop_of v i l h = let r = counts_reach w.size out popping out_steps v i l (w.none_out t q) h in (r.0, r.1, r.2, pop_is m (w.what r.0) t q r.3)

    pub pushed_hit : (u : ℕ) → u < w.size → pushing u ≡ true → into (suc u) ≡ suc (into u)
    pushed_hit = counts_hit w.size into pushing into_steps

    pub popped_hit : (u : ℕ) → u < w.size → popping u ≡ true → out (suc u) ≡ suc (out u)
    popped_hit = counts_hit w.size out popping out_steps

    pub pushed_once : (u v : ℕ) → u < w.size → v < w.size → pushing u ≡ true → pushing v ≡ true → into u ≡ into v → u ≡ v
    pushed_once = counts_once w.size into pushing into_steps

    pub popped_once : (u v : ℕ) → u < w.size → v < w.size → popping u ≡ true → popping v ≡ true → out u ≡ out v → u ≡ v
    popped_once = counts_once w.size out popping out_steps

  -- a flush takes the store of its number
  pub head_is : (u t c : ℕ) (x : ℤ) → u < w.size → w.what u ≡ Flushes t c x → ((w.at u).popped t (key m c) < (w.at u).pushed t (key m c)) × (slice_get (w.stores t (key m c)) ((w.at u).popped t (key m c)) ≡ Some (c, x))
  head_is u t c x l e =
      let first : head_of (part m (pending_of (w.at u).state t) c) ≡ Some (c, x) = (subst (Fresh m w.stores (w.at u)) e (w.fresh u l)).0 in
      let lives : head_of (live (w.stores t (key m c)) ((w.at u).popped t (key m c)) ((w.at u).pushed t (key m c))) ≡ Some (c, x) = subst (λ ps. head_of ps ≡ Some (c, x)) (w.queued u (omega arith) t c).1 first in
      let less : (w.at u).popped t (key m c) < (w.at u).pushed t (key m c) = (live_first (w.stores t (key m c)) ((w.at u).popped t (key m c)) ((w.at u).pushed t (key m c)) (c, x) lives).0 in
      (less, sym (live_at (w.stores t (key m c)) ((w.at u).popped t (key m c)) ((w.at u).pushed t (key m c)) less) ∙ lives)

  -- a store stands at its number
  pub store_is : (u t c : ℕ) (x : ℤ) → u < w.size → w.what u ≡ Does t (Pushes c x) → slice_get (w.stores t (key m c)) ((w.at u).pushed t (key m c)) ≡ Some (c, x)
  store_is u t c x l e = (subst (Fresh m w.stores (w.at u)) e (w.fresh u l)).0

  -- ---- in another order

  module _ (done : ℕ → Bool) (g : Ghost) (agree : Agree m bound p w done g) where
    -- a store that is done counts, and so does a flush
    pub pushed_past : (t c u : ℕ) (x : ℤ) → u < w.size → w.what u ≡ Does t (Pushes c x) → done u ≡ true → (w.at u).pushed t (key m c) < g.pushed t (key m c)
    pushed_past t c u x l e d = go (agree (PushedOf t (key m c)))
      where
        go : (k : ℕ) × (k ≤ w.size) × Cuts m bound p w done (PushedOf t (key m c)) k × (g.pushed t (key m c) ≡ (w.at k).pushed t (key m c)) → (w.at u).pushed t (key m c) < g.pushed t (key m c)
        go (k, l2, cut, same) =
            let hit = pushes_it m (w.what u) t c x e in
            let up : (w.at (suc u)).pushed t (key m c) ≤ (w.at k).pushed t (key m c) = pushed_up t (key m c) (suc u) k ((cut u l hit).0 d) l2 in
            let one : (w.at (suc u)).pushed t (key m c) ≡ suc ((w.at u).pushed t (key m c)) = pushed_hit t (key m c) u l hit in
            omega (arith, up, one, same)

    pub popped_past : (t c u : ℕ) (x : ℤ) → u < w.size → w.what u ≡ Flushes t c x → done u ≡ true → (w.at u).popped t (key m c) < g.popped t (key m c)
    popped_past t c u x l e d = go (agree (PoppedOf t (key m c)))
      where
        go : (k : ℕ) × (k ≤ w.size) × Cuts m bound p w done (PoppedOf t (key m c)) k × (g.popped t (key m c) ≡ (w.at k).popped t (key m c)) → (w.at u).popped t (key m c) < g.popped t (key m c)
        go (k, l2, cut, same) =
            let hit = pops_it m (w.what u) t c x e in
            let up : (w.at (suc u)).popped t (key m c) ≤ (w.at k).popped t (key m c) = popped_up t (key m c) (suc u) k ((cut u l hit).0 d) l2 in
            let one : (w.at (suc u)).popped t (key m c) ≡ suc ((w.at u).popped t (key m c)) = popped_hit t (key m c) u l hit in
            omega (arith, up, one, same)
