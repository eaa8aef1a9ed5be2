-- What each step of a run is in the partial machine.
use Rattle.std.proofs.Common.{arith, ◌≡◌, ℕ, suc, ◌<◌, ◌≤◌, ℤ, List, [], ◌∷◌, length, take, Option, Some, None, refl, Bool, true, false, sym, ◌∙◌, ap, ap₂, subst, slice_get, ◌⊎◌, inl, inr, ⊎_elim}
use Rattle.std.proofs.lemmas.Bool.{cases_lt, cases_order, cases_Bool, false≢true}
use Rattle.std.proofs.lemmas.Option.{same_Some, slice_get_within}
use Rattle.mm_goto.specs.Bounds.{Bounding}
use Rattle.mm_goto.specs.declared.model.Model.{Model}
use Rattle.mm_goto.specs.Listing.{Listing}
use Rattle.mm_sched.specs.declared.entry.Act.TheVariants.{Goes, Fails, Pushes, Puts}
use Rattle.mm_sched.specs.declared.entry.Entry.{Entry}
use Rattle.mm_sched.specs.declared.entry.Event.{Event}
use Rattle.mm_sched.specs.declared.entry.Event.TheVariants.{Does, Flushes}
use Rattle.mm_sched.specs.State.{State, frame_of, pending_of}
use Rattle.mm_sched.specs.Buffer.{is_empty, is_in}
use Rattle.mm_runkeys.specs.declared.graph.EdgeKind.{EdgeKind}
use Rattle.mm_runkeys.specs.declared.graph.EdgeKind.TheVariants.{Program, Issue, Fifo, Reads, Coherence, FromRead, Drain, Mutex, Start, Join, Room}
use Rattle.mm_rungraph.specs.declared.graph.RunGraph.{RunGraph}
use Rattle.mm_runkeys.specs.declared.keys.Layout.{Layout}
use Rattle.mm_rungraph.specs.Edges.{by, IsNth, IsIssued, IsEdge}
use Rattle.mm_runkeys.specs.Keys.{key, queue, pushes, pops, writes, only_reads, reads_own, flushes, gives, starts, settles}
use Rattle.mm_runkeys.specs.Keys as keys
use Rattle.mm_rungraph.specs.RunGraph.{layout_of}
use Rattle.mm_runkeys.specs.Spans.{Key, at, times}
use Rattle.mm_rungraph.proofs.Forward.{issued_is}
use Rattle.mm_rungraph.proofs.Nths.{within}
use Rattle.mm_rungraph.proofs.Whole.{times_up}
use Rattle.mm_reorder.specs.AddedEdges.{place_before, IsDirect, IsAdded}
use Rattle.mm_reorder.specs.Orders.{Taken, Stands, moved, at_once, kept}
use Rattle.mm_reorder.proofs.Counting.{IsPop, pop_of, pushed_up, pushed_hit, pushes_it, head_is}
use Rattle.mm_reorder.proofs.Course.{Course, Edge, at_is, by_is}
use Rattle.mm_reorder.proofs.Issuing.{store_of, store_cell, issue_is, all_out}
use Rattle.mm_reorder.proofs.Reordering.{IsPair, Lays, place_at}
use Rattle.mm_reorder.proofs.Settle.{Kind, Held, Frees, Other}

-- ---- one step of a number

pub nth_once : (key : Event → Option ℕ) (es : List Event) (x i a b : ℕ) → IsNth key es x i a → IsNth key es x i b → a ≡ b
nth_once key es x i a b p q = go (cases_order a b)
  where
    go : (a ≡ b) ⊎ ((a < b) ⊎ (b < a)) → a ≡ b
    go (inl e) = e
    go (inr (inl l)) = absurd (let n : b < length es = within key es x b q.is in let u = times_up key es x a b p.is l (omega arith) in let c : times key x (take a es) ≡ i = p.nth in let d : times key x (take b es) ≡ i = q.nth in omega (arith, u, c, d))
    go (inr (inr l)) = absurd (let n : a < length es = within key es x a p.is in let u = times_up key es x b a q.is l (omega arith) in let c : times key x (take a es) ≡ i = p.nth in let d : times key x (take b es) ≡ i = q.nth in omega (arith, u, c, d))

some_same : (x y : ℕ) → Some x ≡ Some y → x ≡ y
some_same x y e = cc

-- a flush has one store, and a store one flush
pub one_store : (s : Layout) (es : List Event) (a b n : ℕ) → IsIssued s es a n → IsIssued s es b n → a ≡ b
one_store s es a b n i j =
    let q : i.queue ≡ j.queue = some_same i.queue j.queue (sym i.flushed.is ∙ j.flushed.is) in
    let c : i.nth ≡ j.nth = sym i.flushed.nth ∙ ap (λ z. times (pops s) z (take n es)) q ∙ j.flushed.nth in
    nth_once (pushes s) es j.queue j.nth a b (subst (λ z. IsNth (pushes s) es z j.nth a) q (subst (λ z. IsNth (pushes s) es i.queue z a) c i.made)) j.made

pub one_flush : (s : Layout) (es : List Event) (a m n : ℕ) → IsIssued s es a m → IsIssued s es a n → m ≡ n
one_flush s es a m n i j =
    let q : i.queue ≡ j.queue = some_same i.queue j.queue (sym i.made.is ∙ j.made.is) in
    let c : i.nth ≡ j.nth = sym i.made.nth ∙ ap (λ z. times (pushes s) z (take a es)) q ∙ j.made.nth in
    nth_once (pops s) es j.queue j.nth m n (subst (λ z. IsNth (pops s) es z j.nth m) q (subst (λ z. IsNth (pops s) es i.queue z m) c i.flushed)) j.flushed

no_key : (x : ℕ) → None ≡ Some x → ⊥
no_key x h = cc

module _ (m : Model) (bound : Bounding) (p : Listing) (k : Course m bound p) (set : List (List Bool)) where
  abbrev pub Direct : ℕ → Type 0
  Direct = IsDirect p set k.events

  abbrev pub Issued : ℕ → ℕ → Type 0
  Issued = IsIssued (layout_of m bound p) k.events

  pub below : (n : ℕ) (v : Event) → slice_get k.events n ≡ Some v → n < k.walk.size
  below n v h = subst (λ i. n < i) k.size (slice_get_within k.events n v h)

  pub what_is : (n : ℕ) (v : Event) → slice_get k.events n ≡ Some v → k.walk.what n ≡ v
  what_is n v h = same_Some (k.walk.what n) v (sym (k.each n (below n v h)) ∙ h)

  pub issued_below : (a n : ℕ) → Issued a n → n < k.walk.size
  issued_below a n i = subst (λ j. n < j) k.size (within (pops (layout_of m bound p)) k.events i.queue n i.flushed.is)

  -- ---- the kinds

  abbrev pub Is : Kind → ℕ → Type 0
  Is Held n = IsDirect p set k.events n
  Is (Frees a) n = IsDirect p set k.events a × IsIssued (layout_of m bound p) k.events a n
  Is Other n = (IsDirect p set k.events n → ⊥) × ((a : ℕ) → IsDirect p set k.events a → IsIssued (layout_of m bound p) k.events a n → ⊥)

  store_there : (n t c u d : ℕ) (x y : ℤ) → slice_get k.events n ≡ Some (Does t (Pushes c x)) → slice_get k.events n ≡ Some (Does u (Pushes d y)) → t ≡ u
  store_there n t c u d x y e f = threads (same_Some (Does t (Pushes c x)) (Does u (Pushes d y)) (sym e ∙ f))
    where
      threads : Does t (Pushes c x) ≡ Does u (Pushes d y) → t ≡ u
      threads h = cc

  abbrev pub Decided : ℕ → Type 0
  Decided n = IsDirect p set k.events n ⊎ (IsDirect p set k.events n → ⊥)

  pub direct_or : (n : ℕ) → Decided n
  direct_or n = go (slice_get k.events n) refl
    where
      no : (v : Event) → slice_get k.events n ≡ Some v → ((t c : ℕ) (x : ℤ) → v ≡ Does t (Pushes c x) → ⊥) → Decided n
      no v e h = inr (λ d. h d.thread d.cell d.value (same_Some v (Does d.thread (Pushes d.cell d.value)) (sym e ∙ d.stores)))

      go : (o : Option Event) → slice_get k.events n ≡ o → Decided n
      go None e = inr (λ d. clash (sym e ∙ d.stores))
        where
          clash : {v : Event} → None ≡ Some v → ⊥
          clash h = cc
      go (Some (Flushes t c x)) e = no (Flushes t c x) e (λ u d y h. cc)
      go (Some (Does t (Pushes c x))) e = ⊎_elim
          (λ b. inr (λ d. false≢true (sym d.outside ∙ ap (λ u. is_in set u (place_before p k.events n u)) (store_there n d.thread d.cell t c d.value x d.stores e) ∙ b)))
          (λ b. inl (record { thread = t; cell = c; value = x; stores = e; outside = b }))
          (cases_Bool (is_in set t (place_before p k.events n t)))
      go (Some (Does t (Goes j))) e = no (Does t (Goes j)) e (λ u d y h. cc)
      go (Some (Does t a)) e = no (Does t a) e (λ u d y h. cc)

  pub store_or : (n : ℕ) → ((a : ℕ) × IsIssued (layout_of m bound p) k.events a n) ⊎ ((a : ℕ) → IsIssued (layout_of m bound p) k.events a n → ⊥)
  store_or n = ⊎_elim some (λ l. inr (λ a i. let b : n < k.walk.size = issued_below a n i in omega (arith, b, l))) (cases_lt n k.walk.size)
    where
      some : n < k.walk.size → ((a : ℕ) × IsIssued (layout_of m bound p) k.events a n) ⊎ ((a : ℕ) → IsIssued (layout_of m bound p) k.events a n → ⊥)
      some l = go (k.walk.what n) refl
        where
          go : (v : Event) → k.walk.what n ≡ v → ((a : ℕ) × IsIssued (layout_of m bound p) k.events a n) ⊎ ((a : ℕ) → IsIssued (layout_of m bound p) k.events a n → ⊥)
          go (Flushes t c x) e = let f = store_of m bound p k n t c x l e in inl (f.store, f.issued)
          go (Does t a) e = inr (λ b i. no_key i.queue (sym (by_is m bound p k (pops (layout_of m bound p)) n l ∙ ap (pops (layout_of m bound p)) e) ∙ i.flushed.is))

  classify : (n : ℕ) → (kk : Kind) × Is kk n
  classify n = ⊎_elim (λ d. (Held, d)) (λ nd. ⊎_elim (λ r. freed nd r.0 r.1 (direct_or r.0)) (λ none. (Other, (nd, λ a d i. none a i))) (store_or n)) (direct_or n)
    where
      freed : (IsDirect p set k.events n → ⊥) → (a : ℕ) → IsIssued (layout_of m bound p) k.events a n → Decided a → (kk : Kind) × Is kk n
      freed nd a i (inl d) = (Frees a, (d, i))
      freed nd a i (inr na) = (Other, (nd, λ b d j. na (subst (IsDirect p set k.events) (one_store (layout_of m bound p) k.events b a n j i) d)))

  pub kind : ℕ → Kind
  kind n = (classify n).0

  pub kind_is : (kk : Kind) (n : ℕ) → kind n ≡ kk → Is kk n
  unfolding kind
  kind_is kk n e = subst (λ z. Is z n) e (classify n).1

  is_own : (n : ℕ) → Is (kind n) n
  is_own n = kind_is (kind n) n refl

  -- a direct store is no flush
  pub apart : (n a : ℕ) → IsDirect p set k.events n → IsIssued (layout_of m bound p) k.events a n → ⊥
  apart n a d i = no_key i.queue (sym (by_is m bound p k (pops (layout_of m bound p)) n (below n (Does d.thread (Pushes d.cell d.value)) d.stores) ∙ ap (pops (layout_of m bound p)) (what_is n (Does d.thread (Pushes d.cell d.value)) d.stores)) ∙ i.flushed.is)

  pub held_is : (n : ℕ) → IsDirect p set k.events n → kind n ≡ Held
  held_is n d = go (kind n) refl (is_own n)
    where
      go : (kk : Kind) → kind n ≡ kk → Is kk n → kind n ≡ Held
      go Held e h = e
      go (Frees a) e h = absurd (apart n a d h.1)
      go Other e h = absurd (h.0 d)

  pub frees_is : (a n : ℕ) → IsDirect p set k.events a → IsIssued (layout_of m bound p) k.events a n → kind n ≡ Frees a
  frees_is a n d i = go (kind n) refl (is_own n)
    where
      go : (kk : Kind) → kind n ≡ kk → Is kk n → kind n ≡ Frees a
      go Held e h = absurd (apart n a h i)
      go (Frees b) e h = e ∙ ap Frees (one_store (layout_of m bound p) k.events b a n h.1 i)
      go Other e h = absurd (h.1 a d i)

  -- ---- pairs

  pub pair_of : (a n : ℕ) (d : IsDirect p set k.events a) → IsIssued (layout_of m bound p) k.events a n → (pair : IsPair m bound p set k.walk a n) × (Does pair.thread (Puts pair.cell pair.value) ≡ Does d.thread (Puts d.cell d.value))
  pair_of a n d i =
      let z = issued_is p k.valid (layout_of m bound p) bound refl k.entries k.events k.happen a n i in
      let same : Does z.thread (Pushes z.cell z.value) ≡ Does d.thread (Pushes d.cell d.value) = same_Some (Does z.thread (Pushes z.cell z.value)) (Does d.thread (Pushes d.cell d.value)) (sym z.made ∙ d.stores) in
      let parts = threads z.thread d.thread z.cell d.cell z.value d.value same in
      let la : a < k.walk.size = below a (Does d.thread (Pushes d.cell d.value)) d.stores in
      let ln : n < k.walk.size = issued_below a n i in
      let made : k.walk.what a ≡ Does d.thread (Pushes d.cell d.value) = what_is a (Does d.thread (Pushes d.cell d.value)) d.stores in
      let flushed : k.walk.what n ≡ Flushes d.thread d.cell d.value = what_is n (Flushes d.thread d.cell d.value) (z.flushed ∙ ap₂ (λ t (y : ℕ × ℤ). Some (Flushes t y.0 y.1)) parts.0 (pairs z.cell d.cell z.value d.value parts.1 parts.2)) in
      let q : i.queue ≡ queue (layout_of m bound p) d.thread d.cell = some_same i.queue (queue (layout_of m bound p) d.thread d.cell) (sym i.made.is ∙ by_is m bound p k (pushes (layout_of m bound p)) a la ∙ ap (pushes (layout_of m bound p)) made) in
      let cell = store_cell m bound p k a d.thread d.cell d.value la made in (
        record {
          thread = d.thread;
          cell = d.cell;
          value = d.value;
          made = made;
          flushed = flushed;
          counts = k.out n (omega arith) d.thread d.cell cell ∙ ap (λ j. times (pops (layout_of m bound p)) j (take n k.events)) (sym q) ∙ i.flushed.nth ∙ sym i.made.nth ∙ ap (λ j. times (pushes (layout_of m bound p)) j (take a k.events)) q ∙ sym (k.into a (omega arith) d.thread d.cell cell);
          outside = ap (λ (s : State). is_in set d.thread (frame_of s d.thread).place) (k.states a (omega arith)) ∙ d.outside;
        },
        refl,
      )
    where
      threads : (t u c b : ℕ) (x y : ℤ) → Does t (Pushes c x) ≡ Does u (Pushes b y) → (t ≡ u) × (c ≡ b) × (x ≡ y)
      threads t u c b x y h = let e : t ≡ u = cc in let f : c ≡ b = cc in let g : x ≡ y = cc in (e, f, g)

      pairs : (c b : ℕ) (x y : ℤ) → c ≡ b → x ≡ y → ◌≡◌ {A = ℕ × ℤ} (c, x) (b, y)
      pairs c b x y e f = ap₂ (λ (i : ℕ) (j : ℤ). (i, j)) e f

  -- ---- what stands for a step

  module _ (s : RunGraph) (entries : s.entries ≡ k.entries) where
    entry_is : (n : ℕ) (e : Entry) → n < k.walk.size → slice_get s.entries n ≡ Some e → e ≡ k.walk.by n
    entry_is n e l h = same_Some e (k.walk.by n) (sym h ∙ ap (λ es. slice_get es n) entries ∙ k.taken n l)

    pub lays : (n : ℕ) → n < k.walk.size → (here : List Taken) → Stands (layout_of m bound p) p set s k.events n here → Lays m bound p set k.walk (kind n) n here
    lays n l here stands = go (kind n) (is_own n) stands
      where
        go : (kk : Kind) → Is kk n → {list : List Taken} → Stands (layout_of m bound p) p set s k.events n list → Lays m bound p set k.walk kk n list
        go Held h (moved d) = refl
        go Held h (at_once a d i e x) = absurd (apart n a h i)
        go Held h (kept nd ns e v x y) = absurd (nd h)
        go (Frees b) h (moved d) = absurd (apart n b d h.1)
        go (Frees b) h (at_once a d i e x) =
            let pair = pair_of a n d i in
            let la : a < k.walk.size = below a (Does d.thread (Pushes d.cell d.value)) d.stores in
            subst (λ z. Lays m bound p set k.walk (Frees z) n ((e, Does d.thread (Puts d.cell d.value)) ∷ [])) (one_store (layout_of m bound p) k.events a b n i h.1)
            (pair.0, ap₂ (λ (y : Entry) (v : Event). (y, v) ∷ []) (entry_is a e la x) (sym pair.1))
        go (Frees b) h (kept nd ns e v x y) = absurd (ns b h.0 h.1)
        go Other h (moved d) = absurd (h.0 d)
        go Other h (at_once a d i e x) = absurd (h.1 a d i)
        go Other h (kept nd ns e v x y) = ap₂ (λ (z : Entry) (w : Event). (z, w) ∷ []) (entry_is n e l x) (sym (what_is n v y))

  -- ---- what reordering asks of the kinds

  pub frees_below : (a n : ℕ) → kind n ≡ Frees a → a < k.walk.size
  frees_below a n e = let d = (kind_is (Frees a) n e).0 in below a (Does d.thread (Pushes d.cell d.value)) d.stores

  pub frees_other : (fail t i : ℕ) → k.walk.what fail ≡ Does t (Fails i) → (a n : ℕ) → kind n ≡ Frees a → fail ≡ a → ⊥
  frees_other fail t i ef a n e same = let d = (kind_is (Frees a) n e).0 in clash d.thread d.cell d.value (sym ef ∙ ap k.walk.what same ∙ what_is a (Does d.thread (Pushes d.cell d.value)) d.stores)
    where
      clash : (u c : ℕ) (x : ℤ) → Does t (Fails i) ≡ Does u (Pushes c x) → ⊥
      clash u c x h = cc

  pub inside : (n : ℕ) → n < k.walk.size → kind n ≡ Other → (t c : ℕ) (x : ℤ) → k.walk.what n ≡ Does t (Pushes c x) → is_in set t (place_at m bound p set k.walk n t) ≡ true
  inside n l e t c x w = ⊎_elim (λ b. b) (λ b. absurd ((kind_is Other n e).0 (record { thread = t; cell = c; value = x; stores = k.each n l ∙ ap Some w; outside = ap (λ (s : State). is_in set t (frame_of s t).place) (sym (k.states n (omega arith))) ∙ b }))) (cases_Bool (is_in set t (place_at m bound p set k.walk n t)))

  pub held : (a n : ℕ) → kind n ≡ Frees a → kind a ≡ Held
  held a n e = held_is a (kind_is (Frees a) n e).0

  pub once : (a n b : ℕ) → kind n ≡ Frees a → kind b ≡ Frees a → n ≡ b
  once a n b e f = one_flush (layout_of m bound p) k.events a n b (kind_is (Frees a) n e).1 (kind_is (Frees a) b f).1

  -- the edges of the run and those that the set adds
  abbrev pub All : ℕ → ℕ → Type 0
  All a b = Edge m bound p k a b ⊎ IsAdded (layout_of m bound p) p set k.events a b

  pub issue : (a n : ℕ) → kind n ≡ Frees a → All a n
  issue a n e = inl (Issue, (kind_is (Frees a) n e).1)

  module _ (empty_end : (t : ℕ) → is_empty (pending_of (k.walk.at k.walk.size).state t) ≡ true) where
    -- each store reaches memory
    flush_of : (a t c : ℕ) (x : ℤ) → a < k.walk.size → k.walk.what a ≡ Does t (Pushes c x) → (n : ℕ) × IsIssued (layout_of m bound p) k.events a n
    flush_of a t c x l e =
        let hit : (k.walk.at (suc a)).pushed t (key m c) ≡ suc ((k.walk.at a).pushed t (key m c)) = pushed_hit m bound p k.walk t (key m c) a l (pushes_it m (k.walk.what a) t c x e) in
        let up : (k.walk.at (suc a)).pushed t (key m c) ≤ (k.walk.at k.walk.size).pushed t (key m c) = pushed_up m bound p k.walk t (key m c) (suc a) k.walk.size l (omega arith) in
        let out : (k.walk.at k.walk.size).pushed t (key m c) ≤ (k.walk.at k.walk.size).popped t (key m c) = all_out m bound p k t c k.walk.size (omega arith) (empty_end t) in
        go (pop_of m bound p k.walk t (key m c) k.walk.size ((k.walk.at a).pushed t (key m c)) (omega arith) (omega (arith, hit, up, out)))
      where
        go : (u : ℕ) × (u < k.walk.size) × ((k.walk.at u).popped t (key m c) ≡ (k.walk.at a).pushed t (key m c)) × IsPop m (k.walk.what u) t (key m c) → (n : ℕ) × IsIssued (layout_of m bound p) k.events a n
        go (u, l2, n, (d, y, is, same)) = (u, issue_is m bound p k a u t c d x y later l2 e is (sym same) (sym n ∙ ap (λ z. (k.walk.at u).popped t z) (sym same)))
          where
            later : a < u
            later = ⊎_elim (λ b. b) (λ b. absurd (
                let less : (k.walk.at u).popped t (key m c) < (k.walk.at u).pushed t (key m c) = subst (λ z. (k.walk.at u).popped t z < (k.walk.at u).pushed t z) same (head_is m bound p k.walk u t d y l2 is).0 in
                let back : (k.walk.at u).pushed t (key m c) ≤ (k.walk.at a).pushed t (key m c) = pushed_up m bound p k.walk t (key m c) u a b (omega arith) in
                omega (arith, less, back, n))) (cases_lt a u)

    abbrev Released : ℕ → ℕ → Type 0
    Released a v = (kind v ≡ Frees a) ⊎ ((n : ℕ) × (kind n ≡ Frees a) × All n v)

    -- an edge from a direct store leads to its flush, or where its flush leads by an added edge
    pub release : (a v : ℕ) → Edge m bound p k a v → kind a ≡ Held → (kind v ≡ Frees a) ⊎ ((n : ℕ) × (kind n ≡ Frees a) × All n v)
    release a v (kk, e) h = go kk e
      where
        d : IsDirect p set k.events a
        d = kind_is Held a h

        la : a < k.walk.size
        la = below a (Does d.thread (Pushes d.cell d.value)) d.stores

        made : k.walk.what a ≡ Does d.thread (Pushes d.cell d.value)
        made = what_is a (Does d.thread (Pushes d.cell d.value)) d.stores

        none : (key : Event → Option ℕ) (x : ℕ) → key (Does d.thread (Pushes d.cell d.value)) ≡ None → by key k.events a ≡ Some x → Released a v
        none key x z y = absurd (no_key x (sym (by_is m bound p k key a la ∙ ap key made ∙ z) ∙ y))

        none_at : (key : Key) (x : ℕ) → key (take a k.events) (Does d.thread (Pushes d.cell d.value)) ≡ None → at key k.events a ≡ Some x → Released a v
        none_at key x z y = absurd (no_key x (sym (at_is m bound p k key a la ∙ ap (key (take a k.events)) made ∙ z) ∙ y))

        go : (kk : EdgeKind) → IsEdge (layout_of m bound p) k.events kk a v → Released a v
        go Program e = let f = flush_of a d.thread d.cell d.value la made in inr (f.0, frees_is a f.0 d f.1, inr (record { store = a; direct = d; flush = f.1; next = e }))
        go Issue e = inl (frees_is a v d e)
        go Fifo e = none (pops (layout_of m bound p)) e.key refl e.from
        go Reads e = none writes e.key refl e.from
        go Coherence e = none writes e.key refl e.from
        go FromRead (inl e) = none_at (only_reads (layout_of m bound p)) e.key (no_read (keys.is_own (layout_of m bound p) (take a k.events) (Does d.thread (Pushes d.cell d.value)))) e.from
          where
            no_read : (b : Bool) → keys.only_reads_by b (Does d.thread (Pushes d.cell d.value)) ≡ None
            no_read true = refl
            no_read false = refl
        go FromRead (inr e) = none_at (reads_own (layout_of m bound p)) e.took.key refl e.took.to
        go Drain e = none flushes e.key refl e.from
        go Mutex e = none gives e.key refl e.from
        go Start e = none starts e.key refl e.from
        go Join e = none settles e.key refl e.from
        go Room e = none (pops (layout_of m bound p)) e.queue refl e.flushed.is
