-- Edges that lead from a step of a site to a step of no site, between such steps, and on to a step of a site.
use Rattle.std.proofs.Common.{arith, ◌≡◌, ℕ, zero, suc, ◌<◌, ◌⊎◌, inl, inr, ⊎_elim, List, [], length, take, Option, Some, None, refl, sym, ◌∙◌, ap, subst, slice_get}
use Rattle.std.specs.Prelude.{◌≢◌, ◌||◌, is_some}
use Rattle.std.proofs.lemmas.Bool.{eq-eqb}
use Rattle.std.proofs.lemmas.Option.{slice_get_within, none-some, same_Some}
use Rattle.mm_goto.specs.Bounds.{Bounding}
use Rattle.mm_goto.specs.declared.model.Model.{Model}
use Rattle.mm_goto.specs.declared.program.Instr.{Instr}
use Rattle.mm_goto.specs.declared.program.Instr.TheVariants as i
use Rattle.mm_goto.specs.declared.program.Thread.{Thread}
use Rattle.mm_goto.specs.declared.spot.Spot.{Spot}
use Rattle.mm_goto.specs.DelayCycles.{Edge}
use Rattle.mm_goto.specs.Listing.{Listing}
use Rattle.mm_goto.specs.PointsTo.{instr_at}
use Rattle.mm_goto.specs.Sourcelike.{IsSourcelike}
use Rattle.mm_goto.specs.Valid.{code_of, is_start, is_join}
use Rattle.mm_sched.specs.declared.entry.Act.{Act}
use Rattle.mm_sched.specs.declared.entry.Act.TheVariants.{Joins}
use Rattle.mm_sched.specs.declared.entry.Event.{Event}
use Rattle.mm_sched.specs.declared.entry.Event.TheVariants.{Does}
use Rattle.mm_runkeys.specs.declared.graph.EdgeKind.{EdgeKind}
use Rattle.mm_runkeys.specs.declared.graph.EdgeKind.TheVariants.{Program, Issue, Fifo, Reads, Coherence, FromRead, Drain, Mutex, Start, Join, Room}
use Rattle.mm_runkeys.specs.Keys.{deed, queue, own, runs, drains, flushes, settles, starts, joins_first, joins, is_new, takes, gives, pushes, pops, writes, reads, only_reads, reads_own, is_own}
use Rattle.mm_runkeys.specs.Spans.{Span, Next, at}
use Rattle.mm_rungraph.specs.Edges.{by, IsEdge}
use Rattle.mm_rungraph.specs.RunGraph.{layout_of}
use Rattle.mm_reorder.proofs.Course.{Course}
use Rattle.mm_keeping.proofs.Before.{count_zero}
use Rattle.mm_keeping.proofs.Stepping.{doing, state}
use Rattle.mm_bridge.specs.Steps.{IsOf}
use Rattle.mm_bridge.proofs.Suiting.{Suits}
use Rattle.mm_bridge.proofs.Showing.{Plain, Into, instr_of, po_edge, arrives}
use Rattle.mm_bridge.proofs.Quiet.{key_if, key_unless, key_where, mapped, IsQuiet, quiet}
use Rattle.mm_bridge.proofs.Meeting.{Shown, key_at, key_behind}
use Rattle.mm_bridge.proofs.Between.{Acts, runs_of, flushes_of, starts_of, joins_of, joined_edge}

-- ---- who starts and joins threads

module _ (p : Listing) (source : IsSourcelike p) where
  not_main : (t n : ℕ) (it : Instr) → instr_at p t n ≡ Some it → (it ≢ i.Start 0) × (it ≢ i.Join 0)
  not_main t n it h = go (slice_get p.threads t) refl
    where
      no_code : List Instr
      no_code = []

      nowhere : slice_get no_code n ≡ Some it → ⊥
      nowhere e = cc

      go : (o : Option Thread) → slice_get p.threads t ≡ o → (it ≢ i.Start 0) × (it ≢ i.Join 0)
      go None e = absurd (nowhere (rw e at h))
      go (Some thread) e = (source.each t n thread it e (rw e at h)).not_main

  main_starts : (t n u : ℕ) → instr_at p t n ≡ Some (i.Start u) → u < length p.threads → t ≡ 0
  main_starts zero n u h l = refl
  main_starts (suc t) n zero h l = absurd ((not_main (suc t) n (i.Start 0) h).0 refl)
  main_starts (suc t) n (suc u) h l = absurd (count_zero (is_start (suc u)) (code_of p (suc t)) n (i.Start (suc u)) h (eq-eqb (suc u) (suc u) refl) ((source.valid.each_start (suc u) (omega arith) l).no_other (suc t) (omega arith)).0)

  main_joins : (t n u : ℕ) → instr_at p t n ≡ Some (i.Join u) → u < length p.threads → t ≡ 0
  main_joins zero n u h l = refl
  main_joins (suc t) n zero h l = absurd ((not_main (suc t) n (i.Join 0) h).1 refl)
  main_joins (suc t) n (suc u) h l = absurd (count_zero (is_join (suc u)) (code_of p (suc t)) n (i.Join (suc u)) h (eq-eqb (suc u) (suc u) refl) ((source.valid.each_start (suc u) (omega arith) l).no_other (suc t) (omega arith)).1)

module _ (m : Model) (bound : Bounding) (p : Listing) (source : IsSourcelike p) (k : Course m bound p) where
  -- ---- the keys that a step of no site has not

  module _ (n : ℕ) (plain : Plain m bound p source k n) where
    abbrev is_quiet : IsQuiet (deed plain.1)
    is_quiet = quiet plain.1 plain.3

    abbrev now : Event
    now = Does plain.0 plain.1

    no_pushes : (x : ℕ) → by (pushes (layout_of m bound p)) k.events n ≡ Some x → ⊥
    no_pushes x h = let y = mapped (queue (layout_of m bound p) plain.0) (deed plain.1).stores x (key_at m bound p source k (pushes (layout_of m bound p)) n now x plain.2 h) in none-some y.0 (sym is_quiet.stores ∙ y.1)

    no_pops : (x : ℕ) → by (pops (layout_of m bound p)) k.events n ≡ Some x → ⊥
    no_pops x h = none-some x (key_at m bound p source k (pops (layout_of m bound p)) n now x plain.2 h)

    no_writes : (x : ℕ) → by writes k.events n ≡ Some x → ⊥
    no_writes x h = none-some x (sym is_quiet.writes ∙ key_at m bound p source k writes n now x plain.2 h)

    no_flushes : (x : ℕ) → by flushes k.events n ≡ Some x → ⊥
    no_flushes x h = none-some x (key_at m bound p source k flushes n now x plain.2 h)

    no_takes : (x : ℕ) → by takes k.events n ≡ Some x → ⊥
    no_takes x h = none-some x (sym is_quiet.takes ∙ key_at m bound p source k takes n now x plain.2 h)

    no_gives : (x : ℕ) → by gives k.events n ≡ Some x → ⊥
    no_gives x h = none-some x (sym is_quiet.gives ∙ key_at m bound p source k gives n now x plain.2 h)

    no_starts : (x : ℕ) → by starts k.events n ≡ Some x → ⊥
    no_starts x h = none-some x (sym is_quiet.starts ∙ key_at m bound p source k starts n now x plain.2 h)

    no_joins : (x : ℕ) → at (joins_first (layout_of m bound p)) k.events n ≡ Some x → ⊥
    no_joins x h = none-some x (sym is_quiet.joins ∙ (key_where (is_new (joins (layout_of m bound p)) (joins (layout_of m bound p) now) (take n k.events)) (deed plain.1).joins x (key_behind m bound p source k (joins_first (layout_of m bound p)) n now x plain.2 h)).1)

    no_reads : (x : ℕ) → at (reads (layout_of m bound p)) k.events n ≡ Some x → ⊥
    no_reads x h = none-some x (sym is_quiet.reads ∙ (key_unless (is_own (layout_of m bound p) (take n k.events) now) (deed plain.1).reads x (key_behind m bound p source k (reads (layout_of m bound p)) n now x plain.2 h)).1)

    no_only_reads : (x : ℕ) → at (only_reads (layout_of m bound p)) k.events n ≡ Some x → ⊥
    no_only_reads x h = none-some x (sym is_quiet.reads ∙ (key_unless (is_own (layout_of m bound p) (take n k.events) now || is_some (deed plain.1).writes) (deed plain.1).reads x (key_behind m bound p source k (only_reads (layout_of m bound p)) n now x plain.2 h)).1)

    no_reads_own : (x : ℕ) → at (reads_own (layout_of m bound p)) k.events n ≡ Some x → ⊥
    no_reads_own x h =
        let o = key_where (is_own (layout_of m bound p) (take n k.events) now) _ x (key_behind m bound p source k (reads_own (layout_of m bound p)) n now x plain.2 h) in
        let y = mapped (own (layout_of m bound p) plain.0) (deed plain.1).loads x o.1 in
        none-some y.0 (sym is_quiet.loads ∙ y.1)

    -- ---- what leads from such a step, and to it

    -- program order, or the wait for its thread
    from_plain : (kind : EdgeKind) (b : ℕ) → IsEdge (layout_of m bound p) k.events kind n b → Next (by runs k.events) (by runs k.events) n b ⊎ Span (by settles k.events) (by drains k.events) (at (joins_first (layout_of m bound p)) k.events) n b
    from_plain Program b e = inl e
    from_plain Issue b e = absurd (no_pushes e.queue e.made.is)
    from_plain Fifo b e = absurd (no_pops e.key e.from)
    from_plain Reads b e = absurd (no_writes e.key e.from)
    from_plain Coherence b e = absurd (no_writes e.key e.from)
    from_plain FromRead b (inl e) = absurd (no_only_reads e.key e.from)
    from_plain FromRead b (inr e) = absurd (no_reads_own e.took.key e.took.to)
    from_plain Drain b e = absurd (no_flushes e.key e.from)
    from_plain Mutex b e = absurd (no_gives e.key e.from)
    from_plain Start b e = absurd (no_starts e.key e.from)
    from_plain Join b e = inr e
    from_plain Room b e = absurd (no_pops e.queue e.flushed.is)

    -- program order, a flush of its thread, or the start of its thread
    abbrev IntoPlain : ℕ → Type 0
    IntoPlain a = Next (by runs k.events) (by runs k.events) a n ⊎ (Next (by flushes k.events) (by drains k.events) a n ⊎ Next (by starts k.events) (by runs k.events) a n)

    to_plain : (kind : EdgeKind) (a : ℕ) → IsEdge (layout_of m bound p) k.events kind a n → IntoPlain a
    to_plain Program a e = inl e
    to_plain Issue a e = absurd (no_pops e.queue e.flushed.is)
    to_plain Fifo a e = absurd (no_pops e.key e.to)
    to_plain Reads a e = absurd (no_reads e.key e.to)
    to_plain Coherence a e = absurd (no_writes e.key e.to)
    to_plain FromRead a (inl e) = absurd (no_writes e.key e.to)
    to_plain FromRead a (inr e) = absurd (no_writes e.next.key e.next.to)
    to_plain Drain a e = inr (inl e)
    to_plain Mutex a e = absurd (no_takes e.key e.to)
    to_plain Start a e = inr (inr e)
    to_plain Join a e = absurd (no_joins e.key e.to)
    to_plain Room a e = absurd (no_pushes e.queue e.made.is)

    -- the first step behind one of a site
    pub first : (kind : EdgeKind) (a : ℕ) (s : Spot) → Shown m bound p source k a s → IsEdge (layout_of m bound p) k.events kind a n → Into m bound p source k s n
    first kind a s x e = go (to_plain kind a e)
      where
        -- this step is of the thread
        mine : (u : ℕ) → plain.0 ≡ u → slice_get k.events n ≡ Some (Does u plain.1)
        mine u same = plain.2 ∙ ap (λ w. Some (Does w plain.1)) same

        runs_here : (x : ℕ) → by runs k.events n ≡ Some x → plain.0 ≡ x
        runs_here x h = same_Some plain.0 x (key_at m bound p source k runs n now x plain.2 h)

        go : IntoPlain a → Into m bound p source k s n
        go (inl h) =
            let f = runs_of m bound p source k a s x h.key h.from in
            inl (record { from = a; runs = f.0; act = plain.1; does = mine s.thread (runs_here h.key h.to ∙ sym f.1); before = h.before })
        go (inr (inl h)) =
            let f = flushes_of m bound p source k a s x h.key h.from in
            let same = (key_if (deed plain.1).drained plain.0 h.key (key_at m bound p source k drains n now h.key plain.2 h.to)).1 in
            inl (record { from = f.0.store; runs = f.0.stores; act = plain.1; does = mine s.thread (same ∙ sym f.1); before = (let l : f.0.store < a = f.0.issued.before in let r = h.before in omega (arith, l, r)) })
        go (inr (inr h)) =
            let f = starts_of m bound p source k a s x h.key h.from in
            inr (record { from = a; runs = f.0; thread = h.key; starts = f.1; act = plain.1; does = mine h.key (runs_here h.key h.to); before = h.before })

  -- ---- on to the thread's next step

  onward : (s : Spot) (n c u : ℕ) (a : Act) → Into m bound p source k s n → Next (by runs k.events) (by runs k.events) n c → slice_get k.events c ≡ Some (Does u a) → Into m bound p source k s c
  onward s n c u a into e at_c = go into
    where
      mine : (w : ℕ) (b : Act) → slice_get k.events n ≡ Some (Does w b) → slice_get k.events c ≡ Some (Does w a)
      mine w b h =
          let one = same_Some w e.key (key_at m bound p source k runs n (Does w b) e.key h e.from) in
          let two = same_Some u e.key (key_at m bound p source k runs c (Does u a) e.key at_c e.to) in
          at_c ∙ ap (λ z. Some (Does z a)) (two ∙ sym one)

      l : n < c
      l = e.before

      go : Into m bound p source k s n → Into m bound p source k s c
      go (inl b) = inl (record { from = b.from; runs = b.runs; act = a; does = mine s.thread b.act b.does; before = (let r = b.before in omega (arith, r, l)) })
      go (inr b) = inr (record { from = b.from; runs = b.runs; thread = b.thread; starts = b.starts; act = a; does = mine b.thread b.act b.does; before = (let r = b.before in omega (arith, r, l)) })

  pub next : (kind : EdgeKind) (n c : ℕ) (s : Spot) → Plain m bound p source k n → Plain m bound p source k c → Into m bound p source k s n → IsEdge (layout_of m bound p) k.events kind n c → Into m bound p source k s c
  next kind n c s plain other into e = ⊎_elim
      (λ h. onward s n c other.0 other.1 into h other.2)
      (λ h. absurd (no_joins c other h.key h.to))
      (from_plain n plain kind c e)

  -- ---- to a step of a site

  -- a thread that runs is one of the program
  is_thread : (n u : ℕ) (a : Act) → slice_get k.events n ≡ Some (Does u a) → u < length p.threads
  is_thread n u a h =
      let d = doing m bound p source.valid k.entries k.events k.happen n u a h in
      subst (λ w. u < w) d.fits.threads (slice_get_within (state m bound p source.valid k.entries k.events k.happen n).threads u d.frame d.at.frame)

  -- main starts the thread, and waits for its end
  around : (n b : ℕ) (s t : Spot) (h : Span (by settles k.events) (by drains k.events) (at (joins_first (layout_of m bound p)) k.events) n b) → Acts m bound p source k b t (Joins h.key) → Into m bound p source k s n → Edge p s t
  around n b s t h waits (inl x) = joined_edge m bound p source k b h.key s t waits (key_if (deed x.act).ends s.thread h.key (key_at m bound p source k settles n (Does s.thread x.act) h.key x.does h.from)).1
  around n b s t h waits (inr x) =
      let same : x.thread ≡ h.key = (key_if (deed x.act).ends x.thread h.key (key_at m bound p source k settles n (Does x.thread x.act) h.key x.does h.from)).1 in
      let there : x.thread < length p.threads = is_thread n x.thread x.act x.does in
      let starter = instr_of m bound p source k x.from s x.runs in
      let waiter = instr_of m bound p source k b t waits.0 in
      let of_start = main_starts p source s.thread s.index x.thread (starter.at ∙ ap Some (subst (Suits starter.it) x.starts starter.suits)) there in
      let of_join = main_joins p source t.thread t.index h.key (waiter.at ∙ ap Some (subst (Suits waiter.it) waits.1 waiter.suits)) (subst (λ w. w < length p.threads) same there) in
      po_edge m bound p source k x.from b s t x.runs waits.0 (of_start ∙ sym of_join) (let l = x.before in let r = h.before in omega (arith, l, r))

  pub last : (kind : EdgeKind) (n b : ℕ) (s t : Spot) → Plain m bound p source k n → IsOf (layout_of m bound p) p k.events b t → Into m bound p source k s n → IsEdge (layout_of m bound p) k.events kind n b → Edge p s t
  last kind n b s t plain y into e = ⊎_elim
      (λ h. let f = runs_of m bound p source k b t y.shows h.key h.to in arrives m bound p source k s t b (onward s n b t.thread f.0.act into h f.0.does) y)
      (λ h. around n b s t h (joins_of m bound p source k b t y.shows h.key h.to) into)
      (from_plain n plain kind b e)
