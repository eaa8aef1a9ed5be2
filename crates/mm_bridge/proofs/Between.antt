-- An edge of a run from a step of a site to a step of a site is an edge of the program's text, but for the one from a store to
-- its own flush.
use Rattle.std.proofs.Common.{arith, ◌≡◌, ℕ, ◌<◌, ◌⊎◌, inl, inr, ⊎_elim, ℤ, length, take, Option, Some, None, refl, sym, ◌∙◌, ap, subst}
use Rattle.std.proofs.lemmas.Bool.{cases_eq}
use Rattle.std.proofs.lemmas.Option.{none-some, same_Some}
use Rattle.mm_goto.specs.Bounds.{Bounding}
use Rattle.mm_goto.specs.declared.model.Model.{Model}
use Rattle.mm_goto.specs.declared.program.Instr.{Instr}
use Rattle.mm_goto.specs.declared.program.Instr.TheVariants.{Join}
use Rattle.mm_goto.specs.declared.spot.Spot.{Spot}
use Rattle.mm_goto.specs.DelayCycles.{Edge}
use Rattle.mm_goto.specs.Listing.{Listing}
use Rattle.mm_goto.specs.PointsTo.{instr_at}
use Rattle.mm_goto.specs.Sites.{Com, Handles, Po, mutex, join}
use Rattle.mm_goto.specs.Sourcelike.{IsSourcelike}
use Rattle.mm_sched.specs.declared.entry.Act.{Act}
use Rattle.mm_sched.specs.declared.entry.Act.TheVariants.{Pushes, Takes, Gives, Starts, Joins}
use Rattle.mm_sched.specs.declared.entry.Event.{Event}
use Rattle.mm_sched.specs.declared.entry.Event.TheVariants.{Does, Flushes}
use Rattle.mm_runkeys.specs.declared.graph.EdgeKind.{EdgeKind}
use Rattle.mm_runkeys.specs.declared.graph.EdgeKind.TheVariants.{Program, Issue, Fifo, Reads, Coherence, FromRead, Drain, Mutex, Start, Join as Joining, Room}
use Rattle.mm_runkeys.specs.Keys.{deed, queue, runs, drains, flushes, settles, starts, joins_first, joins, is_new, takes, gives, pushes, pops}
use Rattle.mm_runkeys.specs.Spans.{Span, Next, at}
use Rattle.mm_rungraph.specs.Edges.{by, IsIssued, IsRoomFor, IsEdge}
use Rattle.mm_rungraph.specs.RunGraph.{layout_of}
use Rattle.mm_rungraph.proofs.Forward.{has_cell}
use Rattle.mm_rungraph.proofs.Queues.{same_queue}
use Rattle.mm_reorder.proofs.Course.{Course}
use Rattle.mm_keeping.specs.Executions.{Executes}
use Rattle.mm_bridge.specs.Steps.{IsOf}
use Rattle.mm_bridge.proofs.Suiting.{Suits, is_there}
use Rattle.mm_bridge.proofs.Showing.{instr_of, po_edge, arrives}
use Rattle.mm_bridge.proofs.Later.{queue_order}
use Rattle.mm_bridge.proofs.Quiet.{key_if, key_where, mapped, starts_as, joins_as, stores_as, takes_as, gives_as}
use Rattle.mm_bridge.proofs.Meeting.{Shown, flush_as, key_at, key_behind, may_follow}
use Rattle.mm_bridge.proofs.Communicating.{of_reads, of_coherence, of_from_read}

handles_taken : (i : Instr) (a : Act) (n : ℕ) → Suits i a → a ≡ Takes n → Handles n i
handles_taken i a n h e = subst (Handles n) (sym (subst (Suits i) e h)) refl

handles_given : (i : Instr) (a : Act) (n : ℕ) → Suits i a → a ≡ Gives n → Handles n i
handles_given i a n h e = subst (Handles n) (sym (subst (Suits i) e h)) refl

module _ (m : Model) (bound : Bounding) (p : Listing) (source : IsSourcelike p) (k : Course m bound p) where
  abbrev Seen : ℕ → Spot → Type 0
  Seen n s = IsOf (layout_of m bound p) p k.events n s

  -- ---- keys of steps that show a spot

  -- a key that no flush has is one of an instruction
  executed : (key : Event → Option ℕ) → ((t c : ℕ) (v : ℤ) → key (Flushes t c v) ≡ None) → (n : ℕ) (s : Spot) → Shown m bound p source k n s → (x : ℕ) → by key k.events n ≡ Some x → (e : Executes p k.events n s) × (key (Does s.thread e.act) ≡ Some x)
  executed key none n s (inl e) x h = (e, key_at m bound p source k key n (Does s.thread e.act) x e.does h)
  executed key none n s (inr (a, i, e)) x h = let f = flush_as m bound p source k a n s i e in absurd (none-some x (sym (none s.thread f.cell f.value) ∙ key_at m bound p source k key n (Flushes s.thread f.cell f.value) x f.flush h))

  -- an instruction's thread
  pub runs_of : (n : ℕ) (s : Spot) (h : Shown m bound p source k n s) (x : ℕ) → by runs k.events n ≡ Some x → Executes p k.events n s × (s.thread ≡ x)
  runs_of n s h x e = let f = executed runs (λ t c v. refl) n s h x e in (f.0, same_Some s.thread x f.1)

  -- a flush and its store
  pub record FlushedFrom (n : ℕ) (s : Spot) : Type 0 where
    pub store : ℕ
    pub issued : IsIssued (layout_of m bound p) k.events store n
    pub stores : Executes p k.events store s

  pops_of : (n : ℕ) (s : Spot) (h : Shown m bound p source k n s) (x : ℕ) → by (pops (layout_of m bound p)) k.events n ≡ Some x → FlushedFrom n s
  pops_of n s (inl e) x h = absurd (none-some x (key_at m bound p source k (pops (layout_of m bound p)) n (Does s.thread e.act) x e.does h))
  pops_of n s (inr (a, i, e)) x h = record { store = a; issued = i; stores = e }

  pub flushes_of : (n : ℕ) (s : Spot) (h : Shown m bound p source k n s) (x : ℕ) → by flushes k.events n ≡ Some x → FlushedFrom n s × (s.thread ≡ x)
  flushes_of n s (inl e) x h = absurd (none-some x (key_at m bound p source k flushes n (Does s.thread e.act) x e.does h))
  flushes_of n s (inr (a, i, e)) x h =
      let f = flush_as m bound p source k a n s i e in
      (record { store = a; issued = i; stores = e }, same_Some s.thread x (key_at m bound p source k flushes n (Flushes s.thread f.cell f.value) x f.flush h))

  drains_of : (n : ℕ) (s : Spot) (h : Shown m bound p source k n s) (x : ℕ) → by drains k.events n ≡ Some x → Executes p k.events n s × (s.thread ≡ x)
  drains_of n s h x e = let f = executed drains (λ t c v. refl) n s h x e in (f.0, (key_if (deed f.0.act).drained s.thread x f.1).1)

  settles_of : (n : ℕ) (s : Spot) (h : Shown m bound p source k n s) (x : ℕ) → by settles k.events n ≡ Some x → s.thread ≡ x
  settles_of n s (inl e) x h = (key_if (deed e.act).ends s.thread x (key_at m bound p source k settles n (Does s.thread e.act) x e.does h)).1
  settles_of n s (inr (a, i, e)) x h = let f = flush_as m bound p source k a n s i e in same_Some s.thread x (key_at m bound p source k settles n (Flushes s.thread f.cell f.value) x f.flush h)

  -- an act of a thread, told by a key of its deed
  abbrev pub Acts : ℕ → Spot → Act → Type 0
  Acts n s a = (e : Executes p k.events n s) × (e.act ≡ a)

  pub starts_of : (n : ℕ) (s : Spot) (h : Shown m bound p source k n s) (x : ℕ) → by starts k.events n ≡ Some x → Acts n s (Starts x)
  starts_of n s h x e = let f = executed starts (λ t c v. refl) n s h x e in (f.0, starts_as f.0.act x f.1)

  takes_of : (n : ℕ) (s : Spot) (h : Shown m bound p source k n s) (x : ℕ) → by takes k.events n ≡ Some x → Acts n s (Takes x)
  takes_of n s h x e = let f = executed takes (λ t c v. refl) n s h x e in (f.0, takes_as f.0.act x f.1)

  gives_of : (n : ℕ) (s : Spot) (h : Shown m bound p source k n s) (x : ℕ) → by gives k.events n ≡ Some x → Acts n s (Gives x)
  gives_of n s h x e = let f = executed gives (λ t c v. refl) n s h x e in (f.0, gives_as f.0.act x f.1)

  pub joins_of : (n : ℕ) (s : Spot) (h : Shown m bound p source k n s) (x : ℕ) → at (joins_first (layout_of m bound p)) k.events n ≡ Some x → Acts n s (Joins x)
  joins_of n s (inl e) x h = (e, joins_as e.act x (key_where (is_new (joins (layout_of m bound p)) (joins (layout_of m bound p) (Does s.thread e.act)) (take n k.events)) (deed e.act).joins x (key_behind m bound p source k (joins_first (layout_of m bound p)) n (Does s.thread e.act) x e.does h)).1)
  joins_of n s (inr (a, i, e)) x h = let f = flush_as m bound p source k a n s i e in absurd (none-some x (key_behind m bound p source k (joins_first (layout_of m bound p)) n (Flushes s.thread f.cell f.value) x f.flush h))

  -- ---- program order, threads and mutexes

  of_program : (a b : ℕ) (s t : Spot) → Seen a s → Seen b t → Next (by runs k.events) (by runs k.events) a b → Edge p s t
  of_program a b s t x y e =
      let f = runs_of a s x.shows e.key e.from in
      let g = runs_of b t y.shows e.key e.to in
      po_edge m bound p source k a b s t f.0 g.0 (f.1 ∙ sym g.1) e.before

  -- two stores into one queue are of one thread
  one_thread : (a b : ℕ) (s t : Spot) → Executes p k.events a s → Executes p k.events b t → (q : ℕ) → by (pushes (layout_of m bound p)) k.events a ≡ Some q → by (pushes (layout_of m bound p)) k.events b ≡ Some q → s.thread ≡ t.thread
  one_thread a b s t x y q e h =
      let f = store_in a s x e in
      let g = store_in b t y h in
      (same_queue (layout_of m bound p) s.thread t.thread f.0 g.0 f.1 g.1 (f.2 ∙ sym g.2)).0
    where
      store_in : (n : ℕ) (u : Spot) → Executes p k.events n u → by (pushes (layout_of m bound p)) k.events n ≡ Some q → (c : ℕ) × (c < length p.cells) × (queue (layout_of m bound p) u.thread c ≡ q)
      store_in n u z i =
          let c = mapped (queue (layout_of m bound p) u.thread) (deed z.act).stores q (key_at m bound p source k (pushes (layout_of m bound p)) n (Does u.thread z.act) q z.does i) in
          let v = stores_as z.act c.0 c.1 in
          (c.0, has_cell p k.valid (layout_of m bound p) bound refl k.entries k.events k.happen n (Does u.thread (Pushes c.0 v.0)) (z.does ∙ ap (λ w. Some (Does u.thread w)) v.1), c.2)

  of_room : (a b : ℕ) (s t : Spot) → Seen a s → Seen b t → IsRoomFor (layout_of m bound p) k.events a b → Edge p s t
  of_room a b s t x y e =
      let f = pops_of a s x.shows e.queue e.flushed.is in
      let g = runs_of b t y.shows e.thread e.runs_it in
      let same : f.issued.queue ≡ e.queue = same_Some f.issued.queue e.queue (sym f.issued.flushed.is ∙ e.flushed.is) in
      po_edge m bound p source k f.store b s t f.stores g.0 (one_thread f.store b s t f.stores g.0 e.queue (f.issued.made.is ∙ ap Some same) e.made.is) (let l : f.store < a = f.issued.before in let n = e.before in omega (arith, l, n))

  of_fifo : (a b : ℕ) (s t : Spot) → Seen a s → Seen b t → Next (by (pops (layout_of m bound p)) k.events) (by (pops (layout_of m bound p)) k.events) a b → Edge p s t
  of_fifo a b s t x y e =
      let f = pops_of a s x.shows e.key e.from in
      let g = pops_of b t y.shows e.key e.to in
      let same : f.issued.queue ≡ g.issued.queue = same_Some f.issued.queue g.issued.queue (sym f.issued.flushed.is ∙ e.from ∙ sym e.to ∙ g.issued.flushed.is) in
      po_edge m bound p source k f.store g.store s t f.stores g.stores (one_thread f.store g.store s t f.stores g.stores f.issued.queue f.issued.made.is (g.issued.made.is ∙ ap Some (sym same))) (queue_order m bound p k f.store g.store a b f.issued g.issued same e.before)

  of_drain : (a b : ℕ) (s t : Spot) → Seen a s → Seen b t → Next (by flushes k.events) (by drains k.events) a b → Edge p s t
  of_drain a b s t x y e =
      let f = flushes_of a s x.shows e.key e.from in
      let g = drains_of b t y.shows e.key e.to in
      po_edge m bound p source k f.0.store b s t f.0.stores g.0 (f.1 ∙ sym g.1) (let l : f.0.store < a = f.0.issued.before in let n = e.before in omega (arith, l, n))

  of_start : (a b : ℕ) (s t : Spot) → Seen a s → Seen b t → Next (by starts k.events) (by runs k.events) a b → Edge p s t
  of_start a b s t x y e =
      let f = starts_of a s x.shows e.key e.from in
      let g = runs_of b t y.shows e.key e.to in
      arrives m bound p source k s t b (inr (record { from = a; runs = f.0; thread = e.key; starts = f.1; act = g.0.act; does = g.0.does ∙ ap (λ u. Some (Does u g.0.act)) g.1; before = e.before })) y

  pub joined_edge : (b u : ℕ) (s t : Spot) → Acts b t (Joins u) → s.thread ≡ u → Edge p s t
  joined_edge b u s t f same =
      let i = instr_of m bound p source k b t f.0 in
      inr (inr (join (i.at ∙ ap Some (subst (Suits i.it) f.1 i.suits ∙ ap Join (sym same)))))

  of_join : (a b : ℕ) (s t : Spot) → Seen a s → Seen b t → Span (by settles k.events) (by drains k.events) (at (joins_first (layout_of m bound p)) k.events) a b → Edge p s t
  of_join a b s t x y e = joined_edge b e.key s t (joins_of b t y.shows e.key e.to) (settles_of a s x.shows e.key e.from)

  of_mutex : (a b : ℕ) (s t : Spot) → Seen a s → Seen b t → Next (by gives k.events) (by takes k.events) a b → Edge p s t
  of_mutex a b s t x y e =
      let f = gives_of a s x.shows e.key e.from in
      let g = takes_of b t y.shows e.key e.to in
      let i = instr_of m bound p source k a s f.0 in
      let j = instr_of m bound p source k b t g.0 in
      ⊎_elim
      (λ same. po_edge m bound p source k a b s t f.0 g.0 same e.before)
      (λ apart. inr (inr (mutex e.key
      (is_there (Handles e.key) (instr_at p s.thread s.index) i.it i.at (handles_given i.it f.0.act e.key i.suits f.1))
      (is_there (Handles e.key) (instr_at p t.thread t.index) j.it j.at (handles_taken j.it g.0.act e.key j.suits g.1))
      apart (may_follow m bound p source k a b s t x y e.before))))
      (cases_eq s.thread t.thread)

  -- ---- the kinds of edges

  met : (s t : Spot) → Po p s t ⊎ Com p s t → Edge p s t
  met s t (inl po) = inl po
  met s t (inr c) = inr (inl c)

  pub one_edge : (kind : EdgeKind) (a b : ℕ) (s t : Spot) → Seen a s → Seen b t → IsEdge (layout_of m bound p) k.events kind a b → Edge p s t ⊎ (kind ≡ Issue)
  one_edge Program a b s t x y e = inl (of_program a b s t x y e)
  one_edge Issue a b s t x y e = inr refl
  one_edge Fifo a b s t x y e = inl (of_fifo a b s t x y e)
  one_edge Reads a b s t x y e = inl (met s t (of_reads m bound p source k a b s t x y e))
  one_edge Coherence a b s t x y e = inl (met s t (of_coherence m bound p source k a b s t x y e))
  one_edge FromRead a b s t x y e = inl (met s t (of_from_read m bound p source k a b s t x y e))
  one_edge Drain a b s t x y e = inl (of_drain a b s t x y e)
  one_edge Mutex a b s t x y e = inl (of_mutex a b s t x y e)
  one_edge Start a b s t x y e = inl (of_start a b s t x y e)
  one_edge Joining a b s t x y e = inl (of_join a b s t x y e)
  one_edge Room a b s t x y e = inl (of_room a b s t x y e)
