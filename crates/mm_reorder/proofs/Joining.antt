-- What a join waits for leads to it: the steps of the thread that is joined, and its flushes.
use Rattle.std.proofs.Common.{arith, ◌≡◌, ℕ, zero, suc, ◌+◌, ◌*◌, ◌<◌, ◌≤◌, ℤ, List, [], ◌∷◌, length, take, Option, Some, refl, Bool, true, false, sym, ◌∙◌, ap, ap₂, subst, ◌==◌, slice_get, if◌then◌else◌, ◌⊎◌, inl, inr, ⊎_elim}
use Rattle.std.proofs.lemmas.Bool.{cases_lt, cases_eq, cases_order, cases_Bool, false≢true, eqb-true}
use Rattle.mm_goto.specs.Bounds.{Bounding}
use Rattle.mm_goto.specs.declared.model.Model.{Model}
use Rattle.mm_goto.specs.Listing.{Listing}
use Rattle.mm_sched.specs.declared.entry.Act.{Act}
use Rattle.mm_sched.specs.declared.entry.Act.TheVariants.{Goes, Ends, Pushes, Starts, Joins}
use Rattle.mm_sched.specs.declared.entry.Event.{Event}
use Rattle.mm_sched.specs.declared.entry.Event.TheVariants.{Does, Flushes}
use Rattle.mm_sched.proofs.Happens.{HasNames}
use Rattle.mm_runkeys.specs.declared.graph.EdgeKind.TheVariants.{Join}
use Rattle.mm_runkeys.specs.declared.keys.Layout.{Layout}
use Rattle.mm_rungraph.specs.Edges.{by}
use Rattle.mm_runkeys.specs.Keys.{key, runs, drains, flushes, settles, joins, joins_by, joins_first}
use Rattle.mm_rungraph.specs.RunGraph.{layout_of}
use Rattle.mm_runkeys.specs.Spans.{at, is_key, times}
use Rattle.mm_rungraph.proofs.ForOrders.{span_at}
use Rattle.mm_rungraph.proofs.Nths.{times_cons}
use Rattle.mm_rungraph.proofs.Queues.{digits}
use Rattle.mm_rungraph.proofs.Spanning.{is_key_at}
use Rattle.mm_reorder.proofs.Counting.{push_is, pop_is}
use Rattle.mm_reorder.proofs.Course.{Course, ended_of, R, Has, has, at_is, by_is, edge, trans, program, starting, draining, drain_runs, told}
use Rattle.mm_reorder.proofs.Issuing.{store_of, made_behind}
use Rattle.mm_reorder.proofs.Nexts.{First, first}
use Rattle.mm_reorder.proofs.Parts.{FrameOf, PushedOf, PoppedOf, changes}
use Rattle.mm_reorder.proofs.Threads.{Runs, StartsIt, runs_by, frame_changed, runs_it, starts_it, started_at, started_of, started_up, ended_by, ends_at, ended_still, not_again, start_first}

-- the first below v that passes, or none does
abbrev Least : (ℕ → Bool) → ℕ → Type 0
Least Q v = ((j : ℕ) × (j < v) × (Q j ≡ true) × ((i : ℕ) → i < j → Q i ≡ false)) ⊎ ((j : ℕ) → j < v → Q j ≡ false)

least : (Q : ℕ → Bool) (v : ℕ) → Least Q v
least Q zero = inr (λ j l. absurd (omega arith))
least Q (suc v) = go (least Q v) (cases_Bool (Q v))
  where
    go : Least Q v → (Q v ≡ true) ⊎ (Q v ≡ false) → Least Q (suc v)
    go (inl (j, l, e, n)) d = inl (j, omega arith, e, n)
    go (inr n) (inl d) = inl (v, omega arith, d, n)
    go (inr n) (inr d) = inr (λ j l. ⊎_elim (λ e. subst (λ x. Q x ≡ false) (sym e) d) (λ e. n j (omega arith)) (cases_eq j v))

times_none : (key : Event → Option ℕ) (x : ℕ) (es : List Event) (b : ℕ) → ((i : ℕ) → i < b → is_key x (by key es i) ≡ false) → times key x (take b es) ≡ 0
times_none key x [] zero none = refl
times_none key x [] (suc b) none = refl
times_none key x (e ∷ es) zero none = refl
times_none key x (e ∷ es) (suc b) none =
    times_cons key x e (take b es)
    ∙ ap₂ (λ i j. (if i then 1 else 0) + j) (none 0 (omega arith)) (times_none key x es b (λ i l. none (suc i) (omega (arith, l))))

-- the event joins the thread of the number
joins_by_number : (s : Layout) (v : Event) (x : ℕ) → is_key x (joins s v) ≡ true → (t : ℕ) × (u : ℕ) × (v ≡ Does t (Joins u)) × (t * s.threads + u ≡ x)
joins_by_number s (Flushes t c y) x h = absurd (false≢true h)
joins_by_number s (Does t (Joins u)) x h = (t, u, refl, eqb-true (t * s.threads + u) x h)
joins_by_number s (Does t (Goes j)) x h = absurd (false≢true h)
joins_by_number s (Does t a) x h = absurd (false≢true h)

module _ (m : Model) (bound : Bounding) (p : Listing) (k : Course m bound p) where
  -- the thread's first join of the other
  record FirstJoin (t u v : ℕ) : Type 0 where
    step : ℕ
    below : step ≤ v
    is : k.walk.what step ≡ Does t (Joins u)
    asks : at (joins_first (layout_of m bound p)) k.events step ≡ Some u

  joined_there : (t u v : ℕ) → v < k.walk.size → k.walk.what v ≡ Does t (Joins u) → u < length p.threads
  joined_there t u v l e = subst (λ n. u < n) (k.threads v l) (subst (HasNames (k.walk.at v).state) e (k.walk.names v l)).1

  asks_at : (t u b : ℕ) → b < k.walk.size → k.walk.what b ≡ Does t (Joins u) → times (joins (layout_of m bound p)) (t * length p.threads + u) (take b k.events) ≡ 0 → at (joins_first (layout_of m bound p)) k.events b ≡ Some u
  asks_at t u b l e n =
      at_is m bound p k (joins_first (layout_of m bound p)) b l
      ∙ ap (λ v. joins_first (layout_of m bound p) (take b k.events) v) e
      ∙ ap (λ i. joins_by (i == 0) (Does t (Joins u))) n

  first_join : (t u v : ℕ) → v < k.walk.size → k.walk.what v ≡ Does t (Joins u) → FirstJoin t u v
  first_join t u v l e = go (least (λ n. is_key (t * length p.threads + u) (by (joins (layout_of m bound p)) k.events n)) (suc v))
    where
      here : Has m bound p k (joins (layout_of m bound p)) (t * length p.threads + u) v
      here = has m bound p k (joins (layout_of m bound p)) (t * length p.threads + u) v l (ap (joins (layout_of m bound p)) e)

      go : Least (λ n. is_key (t * length p.threads + u) (by (joins (layout_of m bound p)) k.events n)) (suc v) → FirstJoin t u v
      go (inr none) = absurd (false≢true (sym (none v (omega arith)) ∙ here))
      go (inl (b, l2, h, none)) = found (joins_by_number (layout_of m bound p) (k.walk.what b) (t * length p.threads + u) (ap (is_key (t * length p.threads + u)) (sym (by_is m bound p k (joins (layout_of m bound p)) b (omega arith))) ∙ h))
        where
          found : (t2 : ℕ) × (u2 : ℕ) × (k.walk.what b ≡ Does t2 (Joins u2)) × (t2 * length p.threads + u2 ≡ t * length p.threads + u) → FirstJoin t u v
          found (t2, u2, is, same) =
              let z = digits (length p.threads) t2 t u2 u (joined_there t2 u2 b (omega arith) is) (joined_there t u v l e) same in
              let mine : k.walk.what b ≡ Does t (Joins u) = is ∙ ap₂ (λ x y. Does x (Joins y)) z.0 z.1 in record {
                step = b;
                below = omega arith;
                is = mine;
                asks = asks_at t u b (omega arith) mine (times_none (joins (layout_of m bound p)) (t * length p.threads + u) k.events b none);
              }

  ended_joined : (t u v : ℕ) → v < k.walk.size → k.walk.what v ≡ Does t (Joins u) → ended_of (slice_get (k.walk.at v).state.threads u) ≡ true
  ended_joined t u v l e = let q = (told m bound p k v t (Joins u) l e).2 in ap ended_of q.1 ∙ q.2

  -- what settles the thread, with no drained step of it behind, leads to the join
  settled_way : (t u v y : ℕ) (l : v < k.walk.size) (e : k.walk.what v ≡ Does t (Joins u)) → (b : FirstJoin t u v) → y < b.step → Has m bound p k settles u y → ((j : ℕ) → y < j → j < b.step → is_key u (by drains k.events j) ≡ false) → R m bound p k y v
  settled_way t u v y l e b l2 h none = go (cases_eq b.step v)
    where
      lb : b.step ≤ v
      lb = b.below

      to_first : R m bound p k y b.step
      to_first = edge m bound p k Join y b.step (span_at (by settles k.events) (by drains k.events) (at (joins_first (layout_of m bound p)) k.events) u y b.step l2 h (is_key_at u (at (joins_first (layout_of m bound p)) k.events b.step) b.asks) none)

      go : (b.step ≡ v) ⊎ (b.step ≡ v → ⊥) → R m bound p k y v
      go (inl same) = subst (R m bound p k y) same to_first
      go (inr other) = trans m bound p k y b.step v to_first (program m bound p k t b.step v (omega (arith, lb, other)) (runs_it m bound p k t b.step (Joins u) (omega (arith, lb, l)) b.is) (runs_it m bound p k t v (Joins u) l e))

  no_drain : (u i j : ℕ) → i ≤ j → j < k.walk.size → ended_of (slice_get (k.walk.at i).state.threads u) ≡ true → is_key u (by drains k.events j) ≡ false
  no_drain u i j l l2 h = ⊎_elim
      (λ d. absurd (let r = runs_by m bound p k u j (k.walk.what j) refl (ap (is_key u) (sym (by_is m bound p k runs j l2)) ∙ drain_runs m bound p k u j d) in ended_still m bound p k u i j r.0 l l2 h r.1))
      (λ d. d)
      (cases_Bool (is_key u (by drains k.events j)))

  -- the end of the thread leads to the join
  end_way : (t u v n : ℕ) → v < k.walk.size → k.walk.what v ≡ Does t (Joins u) → (b : FirstJoin t u v) → n < b.step → k.walk.what n ≡ Does u Ends → R m bound p k n v
  end_way t u v n l e b l2 d =
      let lb : b.step ≤ v = b.below in
      settled_way t u v n l e b l2 (has m bound p k settles u n (omega (arith, l, l2, lb)) (ap settles d)) (λ j x y. no_drain u (suc n) j x (omega (arith, y, lb, l)) (ends_at m bound p k u n (omega (arith, l, l2, lb)) d))

  -- the thread ended before the first join
  record Ended (t u v : ℕ) : Type 0 where
    joined : FirstJoin t u v
    step : ℕ
    before : step < joined.step
    is : k.walk.what step ≡ Does u Ends

  ended_first : (t u v : ℕ) → v < k.walk.size → k.walk.what v ≡ Does t (Joins u) → Ended t u v
  ended_first t u v l e =
      let b = first_join t u v l e in
      let lb : b.step ≤ v = b.below in
      let n = ended_by m bound p k u b.step (omega (arith, lb, l)) (ended_joined t u b.step (omega (arith, lb, l)) b.is) in
      record { joined = b; step = n.0; before = n.1; is = n.2 }

  pub join_run : (t u v y : ℕ) (a : Act) → y < v → v < k.walk.size → k.walk.what v ≡ Does t (Joins u) → k.walk.what y ≡ Does u a → R m bound p k y v
  join_run t u v y a l l2 e d = go (ended_first t u v l2 e)
    where
      go : Ended t u v → R m bound p k y v
      go n = order (cases_order y n.step)
        where
          bound_step : n.step < v
          bound_step = let x : n.step < n.joined.step = n.before in let z : n.joined.step ≤ v = n.joined.below in omega (arith, x, z)

          way : R m bound p k n.step v
          way = end_way t u v n.step l2 e n.joined n.before n.is

          order : (y ≡ n.step) ⊎ ((y < n.step) ⊎ (n.step < y)) → R m bound p k y v
          order (inl same) = subst (λ i. R m bound p k i v) (sym same) way
          order (inr (inl less)) = trans m bound p k y n.step v (program m bound p k u y n.step less (runs_it m bound p k u y a (omega arith) d) (runs_it m bound p k u n.step Ends (omega (arith, bound_step, l2)) n.is)) way
          order (inr (inr more)) = absurd (ended_still m bound p k u (suc n.step) y a more (omega arith) (ends_at m bound p k u n.step (omega (arith, bound_step, l2)) n.is) d)

  pub join_start : (t u v y t2 : ℕ) → y < v → v < k.walk.size → k.walk.what v ≡ Does t (Joins u) → k.walk.what y ≡ Does t2 (Starts u) → R m bound p k y v
  join_start t u v y t2 l l2 e d = go (ended_first t u v l2 e)
    where
      other : (n : ℕ) → k.walk.what n ≡ Does u Ends → y ≡ n → ⊥
      other n is same = clash (sym d ∙ ap k.walk.what same ∙ is)
        where
          clash : Does t2 (Starts u) ≡ Does u Ends → ⊥
          clash h = cc

      go : Ended t u v → R m bound p k y v
      go n = order (cases_order y n.step)
        where
          bound_step : n.step < v
          bound_step = let x : n.step < n.joined.step = n.before in let z : n.joined.step ≤ v = n.joined.below in omega (arith, x, z)

          order : (y ≡ n.step) ⊎ ((y < n.step) ⊎ (n.step < y)) → R m bound p k y v
          order (inl same) = absurd (other n.step n.is same)
          order (inr (inl less)) = trans m bound p k y n.step v (starting m bound p k u y n.step less (starts_it m bound p k u y t2 (omega arith) d) (runs_it m bound p k u n.step Ends (omega (arith, bound_step, l2)) n.is)) (end_way t u v n.step l2 e n.joined n.before n.is)
          order (inr (inr more)) = absurd (start_first m bound p k u y n.step t2 Ends (omega arith) (omega (arith, bound_step, l2)) d n.is more)

  -- no flush of the thread comes behind a join of it
  pub no_flush_behind : (t u v y d : ℕ) (x : ℤ) → v ≤ y → y < k.walk.size → k.walk.what v ≡ Does t (Joins u) → k.walk.what y ≡ Flushes u d x → ⊥
  no_flush_behind t u v y d x l l2 e f =
      let z = store_of m bound p k y u d x l2 f in
      let below : z.store < y = z.before in
      let behind : v ≤ z.store = made_behind m bound p k u d y v x l l2 (told m bound p k v t (Joins u) (omega arith) e).1 f z in
      ended_still m bound p k u v z.store (Pushes z.cell z.value) behind (omega (arith, below, l2)) (ended_joined t u v (omega arith) e) z.made

  pub join_flush : (t u v y d : ℕ) (x : ℤ) → y < v → v < k.walk.size → k.walk.what v ≡ Does t (Joins u) → k.walk.what y ≡ Flushes u d x → R m bound p k y v
  join_flush t u v y d x l l2 e f = go (first_join t u v l2 e)
    where
      go : FirstJoin t u v → R m bound p k y v
      go b = next (first (λ n. is_key u (by drains k.events n)) y b.step)
        where
          lb : b.step ≤ v
          lb = b.below

          early : y < b.step
          early = ⊎_elim (λ z. z) (λ z. absurd (no_flush_behind t u b.step y d x z (omega arith) b.is f)) (cases_lt y b.step)

          next : First (λ n. is_key u (by drains k.events n)) y b.step → R m bound p k y v
          next (inr none) = settled_way t u v y l2 e b early (has m bound p k settles u y (omega arith) (ap settles f)) none
          next (inl (j, x1, x2, h, none)) =
              let lj : j < k.walk.size = omega (arith, x2, lb, l2) in
              let r = runs_by m bound p k u j (k.walk.what j) refl (ap (is_key u) (sym (by_is m bound p k runs j lj)) ∙ drain_runs m bound p k u j h) in
              trans m bound p k y j v (draining m bound p k u y j x1 (has m bound p k flushes u y (omega arith) (ap flushes f)) h) (join_run t u v j r.0 (omega (arith, x2, lb)) l2 e r.1)

  -- ---- all that changes what a join reads of the thread

  pub joined_frame : (t u v y : ℕ) → v < k.walk.size → y < k.walk.size → k.walk.what v ≡ Does t (Joins u) → changes m (k.walk.what y) (FrameOf u) ≡ true → (y < v → R m bound p k y v) × (v < y → R m bound p k v y)
  joined_frame t u v y l l2 e h = go (frame_changed m bound p k u y h)
    where
      started : started_of (slice_get (k.walk.at v).state.threads u) ≡ true
      started =
          let n = ended_first t u v l e in
          let x : n.step < n.joined.step = n.before in
          let z : n.joined.step ≤ v = n.joined.below in
          started_up m bound p k u n.step v (omega (arith, x, z)) (omega arith) (started_at m bound p k n.step u Ends (omega (arith, x, z, l)) n.is)

      go : Runs m bound p k u y ⊎ StartsIt m bound p k u y → (y < v → R m bound p k y v) × (v < y → R m bound p k v y)
      go (inl (a, d)) = (λ b. join_run t u v y a b l e d, λ b. absurd (ended_still m bound p k u v y a (omega arith) l2 (ended_joined t u v l e) d))
      go (inr (t2, d)) = (λ b. join_start t u v y t2 b l e d, λ b. absurd (not_again m bound p k u v y t2 (omega arith) l2 started d))

  pub joined_pushed : (t u v y q : ℕ) → v < k.walk.size → y < k.walk.size → k.walk.what v ≡ Does t (Joins u) → changes m (k.walk.what y) (PushedOf u q) ≡ true → (y < v → R m bound p k y v) × (v < y → R m bound p k v y)
  joined_pushed t u v y q l l2 e h =
      let z = push_is m (k.walk.what y) u q h in
      (λ b. join_run t u v y (Pushes z.0 z.1) b l e z.2, λ b. absurd (ended_still m bound p k u v y (Pushes z.0 z.1) (omega arith) l2 (ended_joined t u v l e) z.2))

  pub joined_popped : (t u v y q : ℕ) → v < k.walk.size → y < k.walk.size → k.walk.what v ≡ Does t (Joins u) → changes m (k.walk.what y) (PoppedOf u q) ≡ true → (y < v → R m bound p k y v) × (v < y → R m bound p k v y)
  joined_popped t u v y q l l2 e h =
      let z = pop_is m (k.walk.what y) u q h in
      (λ b. join_flush t u v y z.0 z.1 b l e z.2, λ b. absurd (no_flush_behind t u v y z.0 z.1 (omega arith) l2 e z.2))
