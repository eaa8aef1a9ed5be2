-- What a load reads: the writes of its cell before it lead to it, and it leads to those behind it.
use Rattle.std.proofs.Common.{arith, ◌≡◌, ◌≢◌, ℕ, suc, ◌<◌, ◌≤◌, ℤ, take, Option, Some, None, refl, Bool, true, false, sym, ◌∙◌, ap, ap₂, subst, slice_get, inl, inr, ⊎_elim}
use Rattle.std.specs.Prelude.{is_some, length}
use Rattle.std.proofs.lemmas.Bool.{cases_lt, cases_eq, false≢true, eq-eqb}
use Rattle.std.proofs.lemmas.Option.{same_Some}
use Rattle.mm_goto.specs.Bounds.{Bounding}
use Rattle.mm_goto.specs.declared.model.Model.{Model}
use Rattle.mm_goto.specs.Listing.{Listing}
use Rattle.mm_sched.specs.declared.entry.Act.TheVariants.{Goes, Loads, Pushes, Misses}
use Rattle.mm_sched.specs.declared.entry.Event.{Event}
use Rattle.mm_sched.specs.declared.entry.Event.TheVariants.{Does, Flushes}
use Rattle.mm_sched.specs.State.{State, Pending, pending_of}
use Rattle.mm_sched.specs.Buffer as buffer
use Rattle.mm_runkeys.specs.declared.graph.EdgeKind.TheVariants.{FromRead}
use Rattle.mm_runkeys.specs.declared.keys.Layout.{Layout}
use Rattle.mm_rungraph.specs.Edges.{by, IsOverwritten}
use Rattle.mm_runkeys.specs.Keys.{key, own, makes, writes, reads, reads_by, only_reads, only_reads_by, reads_own, own_by, is_own}
use Rattle.mm_rungraph.specs.RunGraph.{layout_of}
use Rattle.mm_runkeys.specs.Spans.{at, is_key}
use Rattle.mm_rungraph.proofs.ForOrders.{span_at}
use Rattle.mm_rungraph.proofs.Queues.{digits}
use Rattle.mm_rungraph.proofs.Remarks.{own_is}
use Rattle.mm_rungraph.proofs.Spanning.{is_key_at}
use Rattle.mm_reorder.proofs.Counting.{pushed_up, pushed_hit, pushes_it, store_is}
use Rattle.mm_reorder.proofs.Course.{Course, R, Has, has, has_key, at_is, by_is, edge, trans, coherence, reading, from_reading}
use Rattle.mm_reorder.proofs.Issuing.{StoreOf, store_of, store_cell, flush_cell}
use Rattle.mm_reorder.proofs.Newest.{newest, newest_is, IsLast, last_newest}
use Rattle.mm_reorder.proofs.Nexts.{First, first}
use Rattle.mm_reorder.proofs.Parts.{CellOf, changes}
use Rattle.mm_reorder.proofs.Seeing.{newest_queued}
use Rattle.mm_reorder.proofs.Walking.{Cuts}

-- the event makes a store pending
pub makes_by : (s : Layout) (v : Event) (x : ℕ) → makes s v ≡ Some x → (t : ℕ) × (c : ℕ) × (y : ℤ) × (v ≡ Does t (Pushes c y)) × (own s t c ≡ x)
makes_by s (Flushes t c y) x h = cc
makes_by s (Does t (Pushes c y)) x h = (t, c, y, refl, same_Some (own s t c) x h)
makes_by s (Does t (Goes j)) x h = cc
makes_by s (Does t a) x h = cc

module _ (m : Model) (bound : Bounding) (p : Listing) (k : Course m bound p) where
  -- the steps that write the cell
  pub cell_ordered : (c a b : ℕ) → a < b → b < k.walk.size → changes m (k.walk.what a) (CellOf c) ≡ true → changes m (k.walk.what b) (CellOf c) ≡ true → R m bound p k a b
  cell_ordered c a b l l2 h d = coherence m bound p k c a b l (has_key m bound p k writes c a (omega arith) h) (has_key m bound p k writes c b l2 d)

  -- a read of memory
  read_ordered : (c v y : ℕ) → v < k.walk.size → y < k.walk.size → at (reads (layout_of m bound p)) k.events v ≡ Some c → at (only_reads (layout_of m bound p)) k.events v ≡ Some c → changes m (k.walk.what y) (CellOf c) ≡ true → (y < v → R m bound p k y v) × (v < y → R m bound p k v y)
  read_ordered c v y l l2 r o h = (
    λ b. reading m bound p k c y v b (has_key m bound p k writes c y l2 h) (is_key_at c (at (reads (layout_of m bound p)) k.events v) r),
    λ b. from_reading m bound p k c v y b (is_key_at c (at (only_reads (layout_of m bound p)) k.events v) o) (has_key m bound p k writes c y l2 h),
  )

  pub missed_ordered : (t i c v y : ℕ) → v < k.walk.size → y < k.walk.size → k.walk.what v ≡ Does t (Misses i c) → changes m (k.walk.what y) (CellOf c) ≡ true → (y < v → R m bound p k y v) × (v < y → R m bound p k v y)
  missed_ordered t i c v y l l2 e h = read_ordered c v y l l2
      (at_is m bound p k (reads (layout_of m bound p)) v l ∙ ap (reads (layout_of m bound p) (take v k.events)) e)
      (at_is m bound p k (only_reads (layout_of m bound p)) v l ∙ ap (only_reads (layout_of m bound p) (take v k.events)) e)
      h

  -- a load takes its own thread's store exactly where one is pending
  pub owns : (t i c v : ℕ) (x : ℤ) (o : Option ℤ) → v < k.walk.size → k.walk.what v ≡ Does t (Loads i c x) → newest (pending_of (k.walk.at v).state t) c ≡ o → is_own (layout_of m bound p) (take v k.events) (Does t (Loads i c x)) ≡ is_some o
  owns t i c v x o l e h =
      own_is p k.valid (layout_of m bound p) bound refl k.entries k.events k.happen v t i c x (k.each v l ∙ ap Some e)
      ∙ ap (λ (z : State). is_some (buffer.newest (pending_of z t) c)) (sym (k.states v (omega arith)))
      ∙ ap is_some (newest_is (pending_of (k.walk.at v).state t) c ∙ h)

  pub loaded_ordered : (t i c v y : ℕ) (x : ℤ) → v < k.walk.size → y < k.walk.size → k.walk.what v ≡ Does t (Loads i c x) → newest (pending_of (k.walk.at v).state t) c ≡ None → changes m (k.walk.what y) (CellOf c) ≡ true → (y < v → R m bound p k y v) × (v < y → R m bound p k v y)
  loaded_ordered t i c v y x l l2 e none h = read_ordered c v y l l2
      (at_is m bound p k (reads (layout_of m bound p)) v l ∙ ap (reads (layout_of m bound p) (take v k.events)) e ∙ ap (λ b. reads_by b (Does t (Loads i c x))) (owns t i c v x None l e none))
      (at_is m bound p k (only_reads (layout_of m bound p)) v l ∙ ap (only_reads (layout_of m bound p) (take v k.events)) e ∙ ap (λ b. only_reads_by b (Does t (Loads i c x))) (owns t i c v x None l e none))
      h

  -- ---- a load of its thread's own store, that step u brings to memory

  module _ (t i c v u : ℕ) (x y : ℤ) (l : v < k.walk.size) (e : k.walk.what v ≡ Does t (Loads i c x)) (lu : u < k.walk.size) (flush : k.walk.what u ≡ Flushes t c y)
      (pending : (k.walk.at v).popped t (key m c) ≤ (k.walk.at u).popped t (key m c)) (last : IsLast (k.walk.stores t (key m c)) ((k.walk.at v).pushed t (key m c)) c y ((k.walk.at u).popped t (key m c))) where
    f : StoreOf m bound p k u t c
    f = store_of m bound p k u t c y lu flush

    lf : f.store < k.walk.size
    lf = let b : f.store < u = f.before in omega (arith, b, lu)

    number : (k.walk.at f.store).pushed t (key m c) ≡ (k.walk.at u).popped t (key m c)
    number = f.number

    made : k.walk.what f.store ≡ Does t (Pushes c y)
    made =
        let at_store : slice_get (k.walk.stores t (key m c)) ((k.walk.at f.store).pushed t (key m c)) ≡ Some (f.cell, f.value) = subst (λ z. slice_get (k.walk.stores t z) ((k.walk.at f.store).pushed t z) ≡ Some (f.cell, f.value)) f.same (store_is m bound p k.walk f.store t f.cell f.value lf f.made) in
        let same : ◌≡◌ {A = Pending} (f.cell, f.value) (c, y) = same_Some (f.cell, f.value) (c, y) (sym at_store ∙ ap (slice_get (k.walk.stores t (key m c))) f.number ∙ last.1) in
        f.made ∙ ap (λ (z : Pending). Does t (Pushes z.0 z.1)) same

    store_before : f.store < v
    store_before = ⊎_elim (λ b. b) (λ b. absurd (let up : (k.walk.at v).pushed t (key m c) ≤ (k.walk.at f.store).pushed t (key m c) = pushed_up m bound p k.walk t (key m c) v f.store b (omega (arith, lf)) in let under : (k.walk.at u).popped t (key m c) < (k.walk.at v).pushed t (key m c) = last.0 in omega (arith, up, under, number))) (cases_lt f.store v)

    -- no store to the cell is made between
    none_between : (j : ℕ) → f.store < j → j < v → by (makes (layout_of m bound p)) k.events j ≢ Some (own (layout_of m bound p) t c)
    none_between j b b2 h = clash (makes_by (layout_of m bound p) (k.walk.what j) (own (layout_of m bound p) t c) (sym (by_is m bound p k (makes (layout_of m bound p)) j (omega (arith, b2, l))) ∙ h))
      where
        clash : (t2 : ℕ) × (c2 : ℕ) × (z : ℤ) × (k.walk.what j ≡ Does t2 (Pushes c2 z)) × (own (layout_of m bound p) t2 c2 ≡ own (layout_of m bound p) t c) → ⊥
        clash (t2, c2, z, is, same) =
            let lj : j < k.walk.size = omega (arith, b2, l) in
            let q = digits (length p.cells) t2 t c2 c (store_cell m bound p k j t2 c2 z lj is) (flush_cell m bound p k u t c y lu flush) same in
            let mine : k.walk.what j ≡ Does t (Pushes c z) = is ∙ ap₂ (λ a d. Does a (Pushes d z)) q.0 q.1 in
            let at_j = store_is m bound p k.walk j t c z lj mine in
            let one : (k.walk.at (suc f.store)).pushed t (key m c) ≡ suc ((k.walk.at f.store).pushed t (key m c)) = pushed_hit m bound p k.walk t (key m c) f.store lf (pushes_it m (k.walk.what f.store) t c y made) in
            let up : (k.walk.at (suc f.store)).pushed t (key m c) ≤ (k.walk.at j).pushed t (key m c) = pushed_up m bound p k.walk t (key m c) (suc f.store) j b (omega (arith, lj)) in
            let two : (k.walk.at (suc j)).pushed t (key m c) ≡ suc ((k.walk.at j).pushed t (key m c)) = pushed_hit m bound p k.walk t (key m c) j lj (pushes_it m (k.walk.what j) t c z mine) in
            let on : (k.walk.at (suc j)).pushed t (key m c) ≤ (k.walk.at v).pushed t (key m c) = pushed_up m bound p k.walk t (key m c) (suc j) v b2 (omega (arith, l)) in
            false≢true (sym (last.2 ((k.walk.at j).pushed t (key m c)) (omega (arith, number, one, up)) (omega (arith, two, on)) (c, z) at_j) ∙ eq-eqb c c refl)

    asks : at (reads_own (layout_of m bound p)) k.events v ≡ Some (own (layout_of m bound p) t c)
    asks =
        at_is m bound p k (reads_own (layout_of m bound p)) v l
        ∙ ap (reads_own (layout_of m bound p) (take v k.events)) e
        ∙ ap (λ b. own_by (layout_of m bound p) b (Does t (Loads i c x))) (owns t i c v x (Some y) l e
        (newest_queued m bound p k.walk (k.walk.at v) t c (k.walk.queued v (omega (arith, l))) ∙ last_newest (k.walk.stores t (key m c)) ((k.walk.at v).popped t (key m c)) ((k.walk.at v).pushed t (key m c)) c y ((k.walk.at u).popped t (key m c)) pending last))

    overwritten : (b : ℕ) → u < b → Has m bound p k writes c b → ((j : ℕ) → u < j → j < b → is_key c (by writes k.events j) ≡ false) → IsOverwritten (layout_of m bound p) k.events v b
    overwritten b lb h none = record {
      store = f.store;
      flush = u;
      took = record {
        key = own (layout_of m bound p) t c;
        before = store_before;
        from = by_is m bound p k (makes (layout_of m bound p)) f.store lf ∙ ap (makes (layout_of m bound p)) made;
        to = asks;
        none = none_between;
      };
      issued = f.issued;
      next = span_at (by writes k.events) (by writes k.events) (by writes k.events) c u b lb (has m bound p k writes c u lu (ap writes flush)) h none;
    }

    -- the load leads to each write behind the flush
    behind_flush : (b : ℕ) → u < b → b < k.walk.size → changes m (k.walk.what b) (CellOf c) ≡ true → R m bound p k v b
    behind_flush b lb l2 h = go (first (λ n. is_key c (by writes k.events n)) u b)
      where
        hb : Has m bound p k writes c b
        hb = has_key m bound p k writes c b l2 h

        go : First (λ n. is_key c (by writes k.events n)) u b → R m bound p k v b
        go (inr none) = edge m bound p k FromRead v b (inr (overwritten b lb hb none))
        go (inl (j, a, d, q, none)) = trans m bound p k v j b (edge m bound p k FromRead v j (inr (overwritten j a q none))) (coherence m bound p k c j b d q hb)

    pub own_cut : (done : ℕ → Bool) → done v ≡ false → ((a b : ℕ) → R m bound p k a b → done b ≡ true → done a ≡ true) → done u ≡ true → Cuts m bound p k.walk done (CellOf c) (suc u)
    own_cut done fresh closed is_done = λ b l2 h. (
      λ d. ⊎_elim (λ a. absurd (false≢true (sym fresh ∙ closed v b (behind_flush b a l2 h) d))) (λ a. omega (arith, a)) (cases_lt u b),
      λ a. ⊎_elim (λ q. subst (λ z. done z ≡ true) (sym q) is_done) (λ n. closed b u (cell_ordered c b u (omega (arith, a, n)) lu h (ap (λ z. changes m z (CellOf c)) flush ∙ eq-eqb c c refl)) is_done) (cases_eq b u),
    )
