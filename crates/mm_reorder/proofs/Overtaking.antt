-- Where an edge leads from behind a store outside the set: on in the thread, to where the store's flush leads too, or to
-- another thread, which sees that the store is late.
use Rattle.std.proofs.Common.{arith, ◌≡◌, ◌≢◌, ℕ, ◌<◌, ℤ, List, length, take, Option, Some, None, refl, Bool, true, false, sym, ◌∙◌, ap, ap₂, subst, if◌then◌else◌, ◌⊎◌, inl, inr, ⊎_elim}
use Rattle.std.specs.Prelude.{is_some, ◌||◌}
use Rattle.std.proofs.lemmas.Bool.{cases_lt, cases_eq, cases_order, false≢true, eq-eqb}
use Rattle.mm_goto.specs.Bounds.{Bounding}
use Rattle.mm_goto.specs.declared.model.Model.{Model}
use Rattle.mm_goto.specs.Listing.{Listing}
use Rattle.mm_sched.specs.declared.entry.Act.{Act}
use Rattle.mm_sched.specs.declared.entry.Act.TheVariants.{Goes, Loads, Pushes, Puts, Gives, Updates, Misses, Starts, Joins}
use Rattle.mm_sched.specs.declared.entry.Event.{Event}
use Rattle.mm_sched.specs.declared.entry.Event.TheVariants.{Does, Flushes}
use Rattle.mm_sched.specs.State.{pending_of}
use Rattle.mm_sched.proofs.Happens.{HasNames}
use Rattle.mm_runkeys.specs.declared.graph.EdgeKind.{EdgeKind}
use Rattle.mm_runkeys.specs.declared.graph.EdgeKind.TheVariants.{Program, Issue, Fifo, Reads, Coherence, FromRead, Drain, Mutex, Start, Join, Room}
use Rattle.mm_runkeys.specs.declared.keys.Layout.{Layout}
use Rattle.mm_rungraph.specs.Edges.{by, IsIssued, IsEdge, IsOverwritten}
use Rattle.mm_runkeys.specs.Keys.{key, queue, own, runs, drains, flushes, settles, starts, gives, pushes, pops, makes, writes, reads, reads_by, only_reads, only_reads_by, reads_own, own_by, joins_by, joins_first, is_new, joins, is_own, deed}
use Rattle.mm_rungraph.specs.RunGraph.{layout_of}
use Rattle.mm_runkeys.specs.Spans.{is_key}
use Rattle.mm_rungraph.proofs.Forward.{leads_on}
use Rattle.mm_rungraph.proofs.Concluding.{ends_within}
use Rattle.mm_rungraph.proofs.Queues.{same_queue, digits}
use Rattle.mm_rungraph.proofs.Spanning.{is_key_at}
use Rattle.mm_reorder.specs.Cycles.{Undrained, thread_of, IsCommunication}
use Rattle.mm_reorder.proofs.Classes.{one_store, one_flush, issued_below}
use Rattle.mm_reorder.proofs.Closing as closing
use Rattle.mm_reorder.proofs.Counting.{pushes_it, pops_it}
use Rattle.mm_reorder.proofs.Course.{Course, Edge, R, Has, has, at_is, by_is, edge, trans, coherence, told}
use Rattle.mm_reorder.proofs.Issuing.{StoreOf, store_of, store_cell, flush_cell}
use Rattle.mm_reorder.proofs.Joining.{join_flush, no_flush_behind}
use Rattle.mm_reorder.proofs.Lateness.{Late, made, flush_below, flushed, flush_is, store_made, number, flushed_first, stored_first, out_before, pso_apart, LaterRun, LaterFlush, Later, Clear, Leads, past_by, run_goes, flush_goes}
use Rattle.mm_reorder.proofs.Loading.{owns, makes_by}
use Rattle.mm_reorder.proofs.Newest.{newest}

no_key : (x : ℕ) → None ≡ Some x → ⊥
no_key x h = cc

some_same : (x y : ℕ) → Some x ≡ Some y → x ≡ y
some_same x y h = cc

-- ---- what an event with a key is

pub runs_as : (v : Event) (t : ℕ) → runs v ≡ Some t → (a : Act) × (v ≡ Does t a)
runs_as (Does u a) t h = (a, ap (λ y. Does y a) (some_same u t h))
runs_as (Flushes u c x) t h = absurd (no_key t h)

drains_as : (v : Event) (t : ℕ) → drains v ≡ Some t → (a : Act) × (v ≡ Does t a)
drains_as (Does u a) t h = (a, ap (λ y. Does y a) (go (deed a).drained h))
  where
    go : (b : Bool) → (if b then Some u else None) ≡ Some t → u ≡ t
    go true y = some_same u t y
    go false y = absurd (no_key t y)
drains_as (Flushes u c x) t h = absurd (no_key t h)

pops_as : (s : Layout) (v : Event) (q : ℕ) → pops s v ≡ Some q → (t : ℕ) × (c : ℕ) × (x : ℤ) × (v ≡ Flushes t c x) × (queue s t c ≡ q)
pops_as s (Does u a) q h = absurd (no_key q h)
pops_as s (Flushes u c x) q h = (u, c, x, refl, some_same (queue s u c) q h)

pushes_as : (s : Layout) (v : Event) (q : ℕ) → pushes s v ≡ Some q → (t : ℕ) × (c : ℕ) × (x : ℤ) × (v ≡ Does t (Pushes c x)) × (queue s t c ≡ q)
pushes_as s (Flushes u c x) q h = absurd (no_key q h)
pushes_as s (Does u (Pushes c x)) q h = (u, c, x, refl, some_same (queue s u c) q h)
pushes_as s (Does u (Goes j)) q h = absurd (no_key q h)
pushes_as s (Does u a) q h = absurd (no_key q h)

-- a write in memory: by an instruction, or by a flush to the cell
abbrev Writes : Event → ℕ → Type 0
Writes v c = ((t : ℕ) × (a : Act) × (v ≡ Does t a)) ⊎ ((t : ℕ) × (x : ℤ) × (v ≡ Flushes t c x))

writes_as : (v : Event) (c : ℕ) → writes v ≡ Some c → Writes v c
writes_as (Does t a) c h = inl (t, a, refl)
writes_as (Flushes t d x) c h = inr (t, x, ap (λ y. Flushes t y x) (some_same d c h))

reads_as : (s : Layout) (b : Bool) (v : Event) (c : ℕ) → reads_by b v ≡ Some c → (t : ℕ) × (a : Act) × (v ≡ Does t a)
reads_as s b (Does t a) c h = (t, a, refl)
reads_as s b (Flushes t d x) c h = absurd (no_key c h)

joins_as : (b : Bool) (v : Event) (u : ℕ) → joins_by b v ≡ Some u → (t : ℕ) × (v ≡ Does t (Joins u))
joins_as b (Flushes t c x) u h = absurd (no_key u h)
joins_as true (Does t (Joins x)) u h = (t, ap (λ y. Does t (Joins y)) (some_same x u h))
joins_as true (Does t (Goes j)) u h = absurd (no_key u h)
joins_as true (Does t a) u h = absurd (no_key u h)
joins_as false (Does t a) u h = absurd (no_key u h)

-- ---- an instruction behind the store

-- what a load reads
record Reader (s : Layout) (t : ℕ) (a : Act) (o : Bool) (c : ℕ) : Type 0 where
  local : ℕ
  value : ℤ
  is : a ≡ Loads local c value
  from_memory : o ≡ false

no_read : (o w : Bool) (c : ℕ) → (if o || w then None else None) ≡ Some c → ⊥
no_read true w c h = no_key c h
no_read false true c h = no_key c h
no_read false false c h = no_key c h

only_reads_as : (s : Layout) (o : Bool) (t : ℕ) (a : Act) (c : ℕ) → is_key t (drains (Does t a)) ≡ false → only_reads_by o (Does t a) ≡ Some c → Reader s t a o c
only_reads_as s o t (Loads l d x) c n h = go o refl h
  where
    go : (b : Bool) → o ≡ b → (if b || false then None else Some d) ≡ Some c → Reader s t (Loads l d x) o c
    go false e y = record { local = l; value = x; is = ap (λ z. Loads l z x) (some_same d c y); from_memory = e }
    go true e y = absurd (no_key c y)
only_reads_as s o t (Misses l d) c n h = absurd (false≢true (sym n ∙ eq-eqb t t refl))
only_reads_as s o t (Updates l x d y) c n h = absurd (false≢true (sym n ∙ eq-eqb t t refl))
only_reads_as s o t (Goes j) c n h = absurd (no_read o false c h)
only_reads_as s o t (Puts d x) c n h = absurd (no_read o true c h)
only_reads_as s o t a c n h = absurd (no_read o false c h)

-- a load of its own thread's store
own_as : (s : Layout) (o : Bool) (t : ℕ) (a : Act) (x : ℕ) → own_by s o (Does t a) ≡ Some x → (l : ℕ) × (c : ℕ) × (v : ℤ) × (a ≡ Loads l c v) × (own s t c ≡ x) × (o ≡ true)
own_as s false t a x h = absurd (no_key x h)
own_as s true t (Loads l c v) x h = (l, c, v, refl, some_same (own s t c) x h, refl)
own_as s true t (Goes j) x h = absurd (no_key x h)
own_as s true t a x h = absurd (no_key x h)

no_write : (t : ℕ) (a : Act) (c : ℕ) → is_key t (drains (Does t a)) ≡ false → ((d : ℕ) (x : ℤ) → a ≡ Puts d x → ⊥) → (deed a).writes ≡ Some c → ⊥
no_write t (Puts d x) c n p h = p d x refl
no_write t (Updates l x d y) c n p h = false≢true (sym n ∙ eq-eqb t t refl)
no_write t (Goes j) c n p h = no_key c h
no_write t a c n p h = no_key c h

no_gift : (t : ℕ) (a : Act) (c : ℕ) → is_key t (drains (Does t a)) ≡ false → (deed a).gives ≡ Some c → ⊥
no_gift t (Gives q) c n h = false≢true (sym n ∙ eq-eqb t t refl)
no_gift t (Goes j) c n h = no_key c h
no_gift t a c n h = no_key c h

no_start : (t : ℕ) (a : Act) (c : ℕ) → is_key t (drains (Does t a)) ≡ false → (deed a).starts ≡ Some c → ⊥
no_start t (Starts q) c n h = false≢true (sym n ∙ eq-eqb t t refl)
no_start t (Goes j) c n h = no_key c h
no_start t a c n h = no_key c h

settles_as : (t : ℕ) (a : Act) (u : ℕ) → settles (Does t a) ≡ Some u → t ≡ u
settles_as t a u h = go (deed a).ends h
  where
    go : (b : Bool) → (if b then Some t else None) ≡ Some u → t ≡ u
    go true y = some_same t u y
    go false y = absurd (no_key u y)

none_of : (o : Option ℤ) → is_some o ≡ false → o ≡ None
none_of None h = refl
none_of (Some x) h = absurd (false≢true (sym h))

module _ (m : Model) (bound : Bounding) (p : Listing) (k : Course m bound p) (set : List (List Bool)) where
  key_at : (key : Event → Option ℕ) (n : ℕ) (v : Event) (x : ℕ) → n < k.walk.size → k.walk.what n ≡ v → by key k.events n ≡ Some x → key v ≡ Some x
  key_at key n v x l e h = sym (by_is m bound p k key n l ∙ ap key e) ∙ h

  -- ---- the thread is seen to be late

  undrained : (w : Late m bound p k set) (b : ℕ) → Clear m bound p k set w.direct.thread w.at b → Undrained k.events w.direct.thread w.at b
  undrained w b h = λ j l n d. false≢true (sym (h j l n) ∙ is_key_at w.direct.thread (by drains k.events j) d)

  -- the instruction or the flush of another thread
  other_event : (w : Late m bound p k set) (y : ℕ) (v : Event) → k.walk.what y ≡ v → (thread_of v ≡ w.direct.thread → ⊥) → thread_of (k.walk.what y) ≢ w.direct.thread
  other_event w y v e n h = n (ap thread_of (sym e) ∙ h)

  load_escapes : (w : Late m bound p k set) (x y i c : ℕ) (v : ℤ) → k.walk.what x ≡ Does w.direct.thread (Loads i c v) → w.at < x → x < k.walk.size → Clear m bound p k set w.direct.thread w.at x → y < k.walk.size → IsEdge (layout_of m bound p) k.events FromRead x y → c ≢ w.direct.cell → thread_of (k.walk.what y) ≢ w.direct.thread → Leads m bound p k set w y
  load_escapes w x y i c v e l lx clear ly out apart leaves = closing.leaves (record {
    direct = w.direct;
    access = x;
    act = Loads i c v;
    does = k.each x lx ∙ ap Some e;
    later = l;
    undrained = undrained w x clear;
    overtakes = apart;
    from = x;
    shows = inl refl;
    kind = FromRead;
    communicates = tt;
    out = out;
    event = k.walk.what y;
    at_other = k.each y ly;
    leaves = leaves;
  })

  flush_escapes : (w : Late m bound p k set) (x y : ℕ) (kind : EdgeKind) → (f : LaterFlush m bound p k set w x) → x < k.walk.size → y < k.walk.size → IsCommunication kind → IsEdge (layout_of m bound p) k.events kind x y → thread_of (k.walk.what y) ≢ w.direct.thread → Leads m bound p k set w y
  flush_escapes w x y kind f lx ly through out leaves =
      let below : f.of.store < x = f.of.before in
      let made_it : k.walk.what f.of.store ≡ Does w.direct.thread (Pushes f.cell f.value) = store_made m bound p k set f.of.store x w.direct.thread f.cell f.value lx f.is f.of.issued in
      closing.leaves (record {
        direct = w.direct;
        access = f.of.store;
        act = Pushes f.cell f.value;
        does = k.each f.of.store (omega (arith, below, lx)) ∙ ap Some made_it;
        later = f.behind;
        undrained = undrained w f.of.store f.clear;
        overtakes = pso_apart m f.cell w.direct.cell f.apart;
        from = x;
        shows = inr f.of.issued;
        kind = kind;
        communicates = through;
        out = out;
        event = k.walk.what y;
        at_other = k.each y ly;
        leaves = leaves;
      })

  -- a join of the thread waits for the store's flush too
  join_past : (w : Late m bound p k set) (y t : ℕ) → y < k.walk.size → w.at < y → k.walk.what y ≡ Does t (Joins w.direct.thread) → Leads m bound p k set w y
  join_past w y t ly l e = past_by m bound p k set w y (join_flush m bound p k t w.direct.thread y w.flush w.direct.cell w.direct.value first ly e (flushed m bound p k set w))
    where
      first : w.flush < y
      first = ⊎_elim (λ z. z) (λ z. absurd (no_flush_behind m bound p k t w.direct.thread y w.flush w.direct.cell w.direct.value z (flush_below m bound p k set w) e (flushed m bound p k set w))) (cases_lt w.flush y)

  has_write : (c n : ℕ) → n < k.walk.size → writes (k.walk.what n) ≡ Some c → Has m bound p k writes c n
  has_write c n l e = has m bound p k writes c n l e

  -- ---- a load

  module _ (w : Late m bound p k set) (x y i c : ℕ) (v : ℤ) (e : k.walk.what x ≡ Does w.direct.thread (Loads i c v)) (l : w.at < x) (lx : x < k.walk.size) (clear : Clear m bound p k set w.direct.thread w.at x) (ly : y < k.walk.size) (xy : x < y) (out : IsEdge (layout_of m bound p) k.events FromRead x y)
      (to : by writes k.events y ≡ Some c)
      -- a store of the thread that y brings to memory is made behind the load
      (own_later : (z : ℤ) (f : StoreOf m bound p k y w.direct.thread c) → k.walk.what y ≡ Flushes w.direct.thread c z → x < f.store)
      -- a store to the same cell leads there too
      (same_cell : c ≡ w.direct.cell → R m bound p k w.flush y) where
    load_leaves : thread_of (k.walk.what y) ≢ w.direct.thread → Leads m bound p k set w y
    load_leaves n = ⊎_elim (λ d. past_by m bound p k set w y (same_cell d)) (λ d. load_escapes w x y i c v e l lx clear ly out d n) (cases_eq c w.direct.cell)

    load_goes : Leads m bound p k set w y
    load_goes = go (writes_as (k.walk.what y) c (sym (by_is m bound p k writes y ly) ∙ to))
      where
        go : Writes (k.walk.what y) c → Leads m bound p k set w y
        go (inl (t, a, d)) = ⊎_elim
            (λ same. run_goes m bound p k set w y a (d ∙ ap (λ u. Does u a) same) (omega (arith, l, xy)) ly)
            (λ n. load_leaves (other_event w y (Does t a) d n))
            (cases_eq t w.direct.thread)
        go (inr (t, z, d)) = ⊎_elim own_flush (λ n. load_leaves (other_event w y (Flushes t c z) d n)) (cases_eq t w.direct.thread)
          where
            own_flush : t ≡ w.direct.thread → Leads m bound p k set w y
            own_flush same =
                let mine : k.walk.what y ≡ Flushes w.direct.thread c z = d ∙ ap (λ u. Flushes u c z) same in
                let f = store_of m bound p k y w.direct.thread c z ly mine in
                let late : x < f.store = own_later z f mine in
                flush_goes m bound p k set w y c z mine ly f (omega (arith, l, late))

  -- a load of memory
  module _ (w : Late m bound p k set) (x y i c : ℕ) (v : ℤ) (e : k.walk.what x ≡ Does w.direct.thread (Loads i c v)) (l : w.at < x) (lx : x < k.walk.size) (clear : Clear m bound p k set w.direct.thread w.at x) (ly : y < k.walk.size) (xy : x < y) (out : IsEdge (layout_of m bound p) k.events FromRead x y)
      (to : by writes k.events y ≡ Some c) (memory : is_own (layout_of m bound p) (take x k.events) (Does w.direct.thread (Loads i c v)) ≡ false) where
    nothing : newest (pending_of (k.walk.at x).state w.direct.thread) c ≡ None
    nothing = none_of (newest (pending_of (k.walk.at x).state w.direct.thread) c) (sym (owns m bound p k w.direct.thread i c x v (newest (pending_of (k.walk.at x).state w.direct.thread) c) lx e refl) ∙ memory)

    memory_later : (z : ℤ) (f : StoreOf m bound p k y w.direct.thread c) → k.walk.what y ≡ Flushes w.direct.thread c z → x < f.store
    memory_later z f is = go (cases_order x f.store)
      where
        is_store : k.walk.what f.store ≡ Does w.direct.thread (Pushes c z)
        is_store = store_made m bound p k set f.store y w.direct.thread c z ly is f.issued

        differ : Does w.direct.thread (Loads i c v) ≡ Does w.direct.thread (Pushes c z) → ⊥
        differ h = cc

        go : (x ≡ f.store) ⊎ ((x < f.store) ⊎ (f.store < x)) → x < f.store
        go (inl same) = absurd (differ (sym e ∙ ap k.walk.what same ∙ is_store))
        go (inr (inl less)) = less
        go (inr (inr more)) = absurd (let before : y < x = out_before m bound p k set w.direct.thread c f.store y x z more lx ly is_store f.number nothing in omega (arith, before, xy))

    memory_same : c ≡ w.direct.cell → R m bound p k w.flush y
    memory_same d =
        let is_store : k.walk.what w.at ≡ Does w.direct.thread (Pushes c w.direct.value) = made m bound p k set w ∙ ap (λ z. Does w.direct.thread (Pushes z w.direct.value)) (sym d) in
        let counts : (k.walk.at w.at).pushed w.direct.thread (key m c) ≡ (k.walk.at w.flush).popped w.direct.thread (key m c) = subst (λ z. (k.walk.at w.at).pushed w.direct.thread (key m z) ≡ (k.walk.at w.flush).popped w.direct.thread (key m z)) (sym d) (number m bound p k set w) in
        let before : w.flush < x = out_before m bound p k set w.direct.thread c w.at w.flush x w.direct.value l lx (flush_below m bound p k set w) is_store counts nothing in
        coherence m bound p k c w.flush y (omega (arith, before, xy)) (has_write c w.flush (flush_below m bound p k set w) (ap writes (flushed m bound p k set w) ∙ ap Some (sym d))) (has_write c y ly (sym (by_is m bound p k writes y ly) ∙ to))

    memory_goes : Leads m bound p k set w y
    memory_goes = load_goes w x y i c v e l lx clear ly xy out to memory_later memory_same

  -- a load of the thread's own store
  module _ (w : Late m bound p k set) (x y i c : ℕ) (v : ℤ) (e : k.walk.what x ≡ Does w.direct.thread (Loads i c v)) (l : w.at < x) (lx : x < k.walk.size) (clear : Clear m bound p k set w.direct.thread w.at x) (ly : y < k.walk.size) (xy : x < y) (o : IsOverwritten (layout_of m bound p) k.events x y)
      (own_key : own (layout_of m bound p) w.direct.thread c ≡ o.took.key) where
    -- a store of the thread to the cell has the key
    store_key : (j : ℕ) (z : ℤ) → j < k.walk.size → k.walk.what j ≡ Does w.direct.thread (Pushes c z) → by (makes (layout_of m bound p)) k.events j ≡ Some o.took.key
    store_key j z lj is = by_is m bound p k (makes (layout_of m bound p)) j lj ∙ ap (makes (layout_of m bound p)) is ∙ ap Some own_key

    taken_below : o.store < x
    taken_below = o.took.before

    -- the store that it took is to the cell
    took_it : (z : ℤ) × (k.walk.what o.store ≡ Does w.direct.thread (Pushes c z))
    took_it = go (makes_by (layout_of m bound p) (k.walk.what o.store) o.took.key (sym (by_is m bound p k (makes (layout_of m bound p)) o.store (omega (arith, taken_below, lx))) ∙ o.took.from))
      where
        go : (t : ℕ) × (d : ℕ) × (z : ℤ) × (k.walk.what o.store ≡ Does t (Pushes d z)) × (own (layout_of m bound p) t d ≡ o.took.key) → (z : ℤ) × (k.walk.what o.store ≡ Does w.direct.thread (Pushes c z))
        go (t, d, z, is, same) =
            let q = digits (length p.cells) t w.direct.thread d c (store_cell m bound p k o.store t d z (omega (arith, taken_below, lx)) is) (load_cell i) (same ∙ sym own_key) in
            (z, is ∙ ap₂ (λ a b. Does a (Pushes b z)) q.0 q.1)
          where
            load_cell : ℕ → c < length p.cells
            load_cell j = subst (λ n. c < n) (k.cells x lx) (subst (HasNames (k.walk.at x).state) e (k.walk.names x lx)).1

    flush_it : k.walk.what o.flush ≡ Flushes w.direct.thread c took_it.0
    flush_it = flush_is m bound p k set o.store o.flush w.direct.thread c took_it.0 (omega (arith, taken_below, lx)) took_it.1 o.issued

    below_flush : o.flush < k.walk.size
    below_flush = issued_below m bound p k set o.store o.flush o.issued

    its_number : (k.walk.at o.store).pushed w.direct.thread (key m c) ≡ (k.walk.at o.flush).popped w.direct.thread (key m c)
    its_number =
        let f = store_of m bound p k o.flush w.direct.thread c took_it.0 below_flush flush_it in
        subst (λ a. (k.walk.at a).pushed w.direct.thread (key m c) ≡ (k.walk.at o.flush).popped w.direct.thread (key m c)) (one_store (layout_of m bound p) k.events f.store o.store o.flush f.issued o.issued) f.number

    own_later : (z : ℤ) (f : StoreOf m bound p k y w.direct.thread c) → k.walk.what y ≡ Flushes w.direct.thread c z → x < f.store
    own_later z f is = go (cases_order x f.store)
      where
        is_store : k.walk.what f.store ≡ Does w.direct.thread (Pushes c z)
        is_store = store_made m bound p k set f.store y w.direct.thread c z ly is f.issued

        below_y : f.store < y
        below_y = f.before

        differ : Does w.direct.thread (Loads i c v) ≡ Does w.direct.thread (Pushes c z) → ⊥
        differ h = cc

        after_it : o.store < f.store
        after_it = stored_first m bound p k set w.direct.thread (key m c) o.store f.store o.flush y o.next.before ly (omega (arith, taken_below, lx)) (pops_it m (k.walk.what o.flush) w.direct.thread c took_it.0 flush_it) its_number f.number

        go : (x ≡ f.store) ⊎ ((x < f.store) ⊎ (f.store < x)) → x < f.store
        go (inl same) = absurd (differ (sym e ∙ ap k.walk.what same ∙ is_store))
        go (inr (inl less)) = less
        go (inr (inr more)) = absurd (o.took.none f.store after_it more (store_key f.store z (omega (arith, below_y, ly)) is_store))

    own_same : c ≡ w.direct.cell → R m bound p k w.flush y
    own_same d = go (cases_order w.at o.store)
      where
        is_store : k.walk.what w.at ≡ Does w.direct.thread (Pushes c w.direct.value)
        is_store = made m bound p k set w ∙ ap (λ z. Does w.direct.thread (Pushes z w.direct.value)) (sym d)

        counts : (k.walk.at w.at).pushed w.direct.thread (key m c) ≡ (k.walk.at w.flush).popped w.direct.thread (key m c)
        counts = subst (λ z. (k.walk.at w.at).pushed w.direct.thread (key m z) ≡ (k.walk.at w.flush).popped w.direct.thread (key m z)) (sym d) (number m bound p k set w)

        last : R m bound p k o.flush y
        last = edge m bound p k Coherence o.flush y o.next

        go : (w.at ≡ o.store) ⊎ ((w.at < o.store) ⊎ (o.store < w.at)) → R m bound p k w.flush y
        go (inl same) = subst (λ a. R m bound p k a y) (sym (one_flush (layout_of m bound p) k.events o.store w.flush o.flush (subst (λ a. IsIssued (layout_of m bound p) k.events a w.flush) same w.issued) o.issued)) last
        go (inr (inl less)) =
            let before : w.flush < o.flush = flushed_first m bound p k set w.direct.thread (key m c) w.at o.store w.flush o.flush less (omega (arith, taken_below, lx)) (flush_below m bound p k set w) below_flush (pushes_it m (k.walk.what w.at) w.direct.thread c w.direct.value is_store) counts its_number in
            trans m bound p k w.flush o.flush y (coherence m bound p k c w.flush o.flush before (has_write c w.flush (flush_below m bound p k set w) (ap writes (flushed m bound p k set w) ∙ ap Some (sym d))) (has_write c o.flush below_flush (ap writes flush_it))) last
        go (inr (inr more)) = absurd (o.took.none w.at more l (store_key w.at w.direct.value (omega (arith, l, lx)) is_store))

    own_to : by writes k.events y ≡ Some c
    own_to = o.next.to ∙ ap Some (some_same o.next.key c (sym o.next.from ∙ by_is m bound p k writes o.flush below_flush ∙ ap writes flush_it))

    own_goes : Leads m bound p k set w y
    own_goes = load_goes w x y i c v e l lx clear ly xy (inr o) own_to own_later own_same

  -- ---- an instruction

  module _ (w : Late m bound p k set) (x y : ℕ) (r : LaterRun m bound p k set w x) (lx : x < k.walk.size) (ly : y < k.walk.size) (xy : x < y) where
    no_drain : is_key w.direct.thread (drains (Does w.direct.thread r.act)) ≡ false
    no_drain = sym (ap (is_key w.direct.thread) (by_is m bound p k drains x lx ∙ ap drains r.is)) ∙ r.clear x r.behind (omega arith)

    no_put : (d : ℕ) (z : ℤ) → r.act ≡ Puts d z → ⊥
    no_put d z h = told m bound p k x w.direct.thread (Puts d z) lx (r.is ∙ ap (Does w.direct.thread) h)

    key_x : (key : Event → Option ℕ) (q : ℕ) → by key k.events x ≡ Some q → key (Does w.direct.thread r.act) ≡ Some q
    key_x key q h = key_at key x (Does w.direct.thread r.act) q lx r.is h

    run_edge : (kind : EdgeKind) → IsEdge (layout_of m bound p) k.events kind x y → Leads m bound p k set w y
    run_edge Program e =
        let same : w.direct.thread ≡ e.key = some_same w.direct.thread e.key (key_x runs e.key e.from) in
        let a = runs_as (k.walk.what y) e.key (sym (by_is m bound p k runs y ly) ∙ e.to) in
        let b : w.at < x = r.behind in
        run_goes m bound p k set w y a.0 (a.1 ∙ ap (λ u. Does u a.0) (sym same)) (omega (arith, b, xy)) ly
    run_edge Issue e = go (pushes_as (layout_of m bound p) (Does w.direct.thread r.act) e.queue (key_x (pushes (layout_of m bound p)) e.queue e.made.is))
      where
        go : (t : ℕ) × (c : ℕ) × (z : ℤ) × (Does w.direct.thread r.act ≡ Does t (Pushes c z)) × (queue (layout_of m bound p) t c ≡ e.queue) → Leads m bound p k set w y
        go (t, c, z, is, q) =
            let same : t ≡ w.direct.thread = some_same t w.direct.thread (sym (ap runs is)) in
            let stores : k.walk.what x ≡ Does w.direct.thread (Pushes c z) = r.is ∙ is ∙ ap (λ u. Does u (Pushes c z)) same in
            let flush : k.walk.what y ≡ Flushes w.direct.thread c z = flush_is m bound p k set x y w.direct.thread c z lx stores e in
            let f = store_of m bound p k y w.direct.thread c z ly flush in
            flush_goes m bound p k set w y c z flush ly f (subst (λ a. w.at < a) (one_store (layout_of m bound p) k.events x f.store y e f.issued) r.behind)
    run_edge Fifo e = absurd (no_key e.key (key_x (pops (layout_of m bound p)) e.key e.from))
    run_edge Reads e = absurd (no_write w.direct.thread r.act e.key no_drain no_put (key_x writes e.key e.from))
    run_edge Coherence e = absurd (no_write w.direct.thread r.act e.key no_drain no_put (key_x writes e.key e.from))
    run_edge FromRead (inl e) =
        let read : only_reads_by (is_own (layout_of m bound p) (take x k.events) (Does w.direct.thread r.act)) (Does w.direct.thread r.act) ≡ Some e.key = sym (at_is m bound p k (only_reads (layout_of m bound p)) x lx ∙ ap (only_reads (layout_of m bound p) (take x k.events)) r.is) ∙ e.from in
        let z = only_reads_as (layout_of m bound p) (is_own (layout_of m bound p) (take x k.events) (Does w.direct.thread r.act)) w.direct.thread r.act e.key no_drain read in
        memory_goes w x y z.local e.key z.value (r.is ∙ ap (Does w.direct.thread) z.is) r.behind lx r.clear ly xy (inl e) e.to (ap (λ a. is_own (layout_of m bound p) (take x k.events) (Does w.direct.thread a)) (sym z.is) ∙ z.from_memory)
    run_edge FromRead (inr o) =
        let read : own_by (layout_of m bound p) (is_own (layout_of m bound p) (take x k.events) (Does w.direct.thread r.act)) (Does w.direct.thread r.act) ≡ Some o.took.key = sym (at_is m bound p k (reads_own (layout_of m bound p)) x lx ∙ ap (reads_own (layout_of m bound p) (take x k.events)) r.is) ∙ o.took.to in
        let z = own_as (layout_of m bound p) (is_own (layout_of m bound p) (take x k.events) (Does w.direct.thread r.act)) w.direct.thread r.act o.took.key read in
        own_goes w x y z.0 z.1 z.2 (r.is ∙ ap (Does w.direct.thread) z.3) r.behind lx r.clear ly xy o z.4
    run_edge Drain e = absurd (no_key e.key (key_x flushes e.key e.from))
    run_edge Mutex e = absurd (no_gift w.direct.thread r.act e.key no_drain (key_x gives e.key e.from))
    run_edge Start e = absurd (no_start w.direct.thread r.act e.key no_drain (key_x starts e.key e.from))
    run_edge Join e =
        let same : w.direct.thread ≡ e.key = settles_as w.direct.thread r.act e.key (key_x settles e.key e.from) in
        let j = joins_as (is_new (joins (layout_of m bound p)) (joins (layout_of m bound p) (k.walk.what y)) (take y k.events)) (k.walk.what y) e.key (sym (at_is m bound p k (joins_first (layout_of m bound p)) y ly) ∙ e.to) in
        let b : w.at < x = r.behind in
        join_past w y j.0 ly (omega (arith, b, xy)) (j.1 ∙ ap (λ u. Does j.0 (Joins u)) (sym same))
    run_edge Room e = absurd (no_key e.queue (key_x (pops (layout_of m bound p)) e.queue e.flushed.is))

  -- ---- a flush

  module _ (w : Late m bound p k set) (x y : ℕ) (r : LaterFlush m bound p k set w x) (lx : x < k.walk.size) (ly : y < k.walk.size) (xy : x < y) where
    key_f : (key : Event → Option ℕ) (q : ℕ) → by key k.events x ≡ Some q → key (Flushes w.direct.thread r.cell r.value) ≡ Some q
    key_f key q h = key_at key x (Flushes w.direct.thread r.cell r.value) q lx r.is h

    behind_y : w.at < y
    behind_y = let a : w.at < r.of.store = r.behind in let b : r.of.store < x = r.of.before in omega (arith, a, b, xy)

    -- a flush of the queue that comes later is of a later store
    next_flush : (d : ℕ) (z : ℤ) → k.walk.what y ≡ Flushes w.direct.thread d z → key m d ≡ key m r.cell → Leads m bound p k set w y
    next_flush d z is same =
        let f = store_of m bound p k y w.direct.thread d z ly is in
        let below_x : r.of.store < x = r.of.before in
        let later : r.of.store < f.store = stored_first m bound p k set w.direct.thread (key m r.cell) r.of.store f.store x y xy ly (omega (arith, below_x, lx)) (pops_it m (k.walk.what x) w.direct.thread r.cell r.value r.is) r.of.number (subst (λ q. (k.walk.at f.store).pushed w.direct.thread q ≡ (k.walk.at y).popped w.direct.thread q) same f.number) in
        let first : w.at < r.of.store = r.behind in
        flush_goes m bound p k set w y d z is ly f (omega (arith, later, first))

    cell_of_flush : (u d : ℕ) (z : ℤ) → k.walk.what y ≡ Flushes u d z → d < length p.cells
    cell_of_flush u d z is = flush_cell m bound p k y u d z ly is

    own_cell : r.cell < length p.cells
    own_cell = flush_cell m bound p k x w.direct.thread r.cell r.value lx r.is

    run_or_leave : (kind : EdgeKind) → IsCommunication kind → IsEdge (layout_of m bound p) k.events kind x y → (t : ℕ) (a : Act) → k.walk.what y ≡ Does t a → Leads m bound p k set w y
    run_or_leave kind through e t a is = ⊎_elim
        (λ same. run_goes m bound p k set w y a (is ∙ ap (λ u. Does u a) same) behind_y ly)
        (λ n. flush_escapes w x y kind r lx ly through e (other_event w y (Does t a) is n))
        (cases_eq t w.direct.thread)

    flush_edge : (kind : EdgeKind) → IsEdge (layout_of m bound p) k.events kind x y → Leads m bound p k set w y
    flush_edge Program e = absurd (no_key e.key (key_f runs e.key e.from))
    flush_edge Issue e = absurd (no_key e.queue (key_f (pushes (layout_of m bound p)) e.queue e.made.is))
    flush_edge Fifo e = go (pops_as (layout_of m bound p) (k.walk.what y) e.key (sym (by_is m bound p k (pops (layout_of m bound p)) y ly) ∙ e.to))
      where
        go : (t : ℕ) × (d : ℕ) × (z : ℤ) × (k.walk.what y ≡ Flushes t d z) × (queue (layout_of m bound p) t d ≡ e.key) → Leads m bound p k set w y
        go (t, d, z, is, q) =
            let own_q : queue (layout_of m bound p) w.direct.thread r.cell ≡ e.key = some_same (queue (layout_of m bound p) w.direct.thread r.cell) e.key (key_f (pops (layout_of m bound p)) e.key e.from) in
            let same = same_queue (layout_of m bound p) t w.direct.thread d r.cell (cell_of_flush t d z is) own_cell (q ∙ sym own_q) in
            next_flush d z (is ∙ ap (λ u. Flushes u d z) same.0) same.1
    flush_edge Reads e =
        let z = reads_as (layout_of m bound p) (is_own (layout_of m bound p) (take y k.events) (k.walk.what y)) (k.walk.what y) e.key (sym (at_is m bound p k (reads (layout_of m bound p)) y ly) ∙ e.to) in
        run_or_leave Reads tt e z.0 z.1 z.2
    flush_edge Coherence e = go (writes_as (k.walk.what y) e.key (sym (by_is m bound p k writes y ly) ∙ e.to))
      where
        cell_is : r.cell ≡ e.key
        cell_is = some_same r.cell e.key (key_f writes e.key e.from)

        go : Writes (k.walk.what y) e.key → Leads m bound p k set w y
        go (inl (t, a, is)) = run_or_leave Coherence tt e t a is
        go (inr (t, z, is)) = ⊎_elim
            (λ same. next_flush e.key z (is ∙ ap (λ u. Flushes u e.key z) same) (ap (key m) (sym cell_is)))
            (λ n. flush_escapes w x y Coherence r lx ly tt e (other_event w y (Flushes t e.key z) is n))
            (cases_eq t w.direct.thread)
    flush_edge FromRead (inl e) = absurd (no_key e.key (sym (at_is m bound p k (only_reads (layout_of m bound p)) x lx ∙ ap (only_reads (layout_of m bound p) (take x k.events)) r.is) ∙ e.from))
    flush_edge FromRead (inr o) = absurd (no_key o.took.key (sym (at_is m bound p k (reads_own (layout_of m bound p)) x lx ∙ ap (reads_own (layout_of m bound p) (take x k.events)) r.is ∙ not_loaded (is_own (layout_of m bound p) (take x k.events) (Flushes w.direct.thread r.cell r.value))) ∙ o.took.to))
      where
        not_loaded : (b : Bool) → own_by (layout_of m bound p) b (Flushes w.direct.thread r.cell r.value) ≡ None
        not_loaded true = refl
        not_loaded false = refl
    flush_edge Drain e =
        let same : w.direct.thread ≡ e.key = some_same w.direct.thread e.key (key_f flushes e.key e.from) in
        let a = drains_as (k.walk.what y) e.key (sym (by_is m bound p k drains y ly) ∙ e.to) in
        run_goes m bound p k set w y a.0 (a.1 ∙ ap (λ u. Does u a.0) (sym same)) behind_y ly
    flush_edge Mutex e = absurd (no_key e.key (key_f gives e.key e.from))
    flush_edge Start e = absurd (no_key e.key (key_f starts e.key e.from))
    flush_edge Join e =
        let same : w.direct.thread ≡ e.key = some_same w.direct.thread e.key (key_f settles e.key e.from) in
        let j = joins_as (is_new (joins (layout_of m bound p)) (joins (layout_of m bound p) (k.walk.what y)) (take y k.events)) (k.walk.what y) e.key (sym (at_is m bound p k (joins_first (layout_of m bound p)) y ly) ∙ e.to) in
        join_past w y j.0 ly behind_y (j.1 ∙ ap (λ u. Does j.0 (Joins u)) (sym same))
    flush_edge Room e = go (pushes_as (layout_of m bound p) (k.walk.what y) e.queue (sym (by_is m bound p k (pushes (layout_of m bound p)) y ly) ∙ e.made.is))
      where
        go : (t : ℕ) × (d : ℕ) × (z : ℤ) × (k.walk.what y ≡ Does t (Pushes d z)) × (queue (layout_of m bound p) t d ≡ e.queue) → Leads m bound p k set w y
        go (t, d, z, is, q) =
            let own_q : queue (layout_of m bound p) w.direct.thread r.cell ≡ e.queue = some_same (queue (layout_of m bound p) w.direct.thread r.cell) e.queue (key_f (pops (layout_of m bound p)) e.queue e.flushed.is) in
            let same = same_queue (layout_of m bound p) t w.direct.thread d r.cell (store_cell m bound p k y t d z ly is) own_cell (q ∙ sym own_q) in
            run_goes m bound p k set w y (Pushes d z) (is ∙ ap (λ u. Does u (Pushes d z)) same.0) behind_y ly

  -- ---- all edges

  pub edge_forward : (a b : ℕ) → Edge m bound p k a b → a < b
  edge_forward a b e = leads_on p k.valid (layout_of m bound p) bound refl k.entries k.events k.happen e.0 a b e.1

  pub edge_below : (a b : ℕ) → Edge m bound p k a b → b < k.walk.size
  edge_below a b e = subst (λ n. b < n) k.size (ends_within (layout_of m bound p) k.events e.0 a b e.1)

  pub goes : (w : Late m bound p k set) (x y : ℕ) → Later m bound p k set w x → Edge m bound p k x y → Leads m bound p k set w y
  goes w x y (lx, inl r) e = run_edge w x y r lx (edge_below x y e) (edge_forward x y e) e.0 e.1
  goes w x y (lx, inr r) e = flush_edge w x y r lx (edge_below x y e) (edge_forward x y e) e.0 e.1
