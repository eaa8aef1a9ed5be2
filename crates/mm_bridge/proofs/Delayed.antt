-- A store that is overtaken in a run has a delay cycle.
use Rattle.std.proofs.Common.{arith, ◌≡◌, ◌≢◌, ℕ, ℤ, ◌⊎◌, inl, inr, List, ◌∷◌, Some, refl, Bool, true, false, sym, ◌∙◌, ap, subst, slice_get}
use Rattle.std.specs.Prelude.{take}
use Rattle.std.proofs.lemmas.Option.{same_Some, none-some}
use Rattle.mm_goto.specs.Bounds.{Bounding}
use Rattle.mm_goto.specs.declared.model.Model.{Model}
use Rattle.mm_goto.specs.declared.program.Instr.{Instr}
use Rattle.mm_goto.specs.declared.program.Instr.TheVariants.{Store}
use Rattle.mm_goto.specs.declared.spot.Spot.{Spot}
use Rattle.mm_goto.specs.DelayCycles.{Edge, IsStore, Overtakes, Unsafe, IsCycle}
use Rattle.mm_goto.specs.Listing.{Listing}
use Rattle.mm_goto.specs.Paths.{IsPath}
use Rattle.mm_goto.specs.PointsTo.{instr_at}
use Rattle.mm_goto.specs.Sites.{Between, Com, Po, sites}
use Rattle.mm_goto.specs.Sourcelike.{IsSourcelike}
use Rattle.mm_sched.specs.declared.entry.Act.{Act}
use Rattle.mm_sched.specs.declared.entry.Act.TheVariants.{Goes, Assigns, Fails, Ends, Loads, Pushes, Puts, Fences, Takes, Gives, Updates, Misses, Starts, Joins, Enters, Leaves}
use Rattle.mm_sched.specs.declared.entry.Event.{Event}
use Rattle.mm_sched.specs.declared.entry.Event.TheVariants.{Does, Flushes}
use Rattle.mm_runkeys.specs.declared.graph.EdgeKind.{EdgeKind}
use Rattle.mm_runkeys.specs.declared.graph.EdgeKind.TheVariants.{Program, Issue, Fifo, Reads, Coherence, FromRead, Drain, Mutex, Start, Join as Joining, Room}
use Rattle.mm_runkeys.specs.Keys.{deed, reads, writes, is_own}
use Rattle.mm_rungraph.specs.Edges.{by, IsIssued, IsEdge}
use Rattle.mm_rungraph.specs.RunGraph.{layout_of}
use Rattle.mm_reorder.specs.Cycles.{Link, IsCommunication, IsOvertaken, IsOvertakenAt, thread_of}
use Rattle.mm_reorder.specs.Cycles as run_cycles
use Rattle.mm_reorder.proofs.Course.{Course}
use Rattle.mm_keeping.specs.Executions.{Executes, touched}
use Rattle.mm_keeping.proofs.Flowing.{undrained}
use Rattle.mm_keeping.proofs.Naming.{names}
use Rattle.mm_bridge.specs.Steps.{Lacks, Shows}
use Rattle.mm_bridge.proofs.Suiting.{Suits, is_visible}
use Rattle.mm_bridge.proofs.Quiet.{quiet, key_unless}
use Rattle.mm_bridge.proofs.Showing.{run, Instr_of, instr_of, spot_at, executes, Seen, Plain, classified, site_of_run}
use Rattle.mm_bridge.proofs.Meeting.{key_at, key_behind, flush_as}
use Rattle.mm_bridge.proofs.Communicating.{of_reads, of_coherence, of_from_read}
use Rattle.mm_bridge.proofs.WaysBack.{of_there, flush_site, number_of, between, Reaches, walk_back}

-- a store and what may overtake it
store_kind : (i : Instr) (c : ℕ) (v : ℤ) → Suits i (Pushes c v) → IsStore i
store_kind i c v (to, e, is) = subst IsStore (sym is) tt

overtaking : (m : Model) (i : Instr) (a : Act) (c : ℕ) → run_cycles.Overtakes m a c → Suits i a → Overtakes m i × (is_visible a ≡ true) × ((d : ℕ) × (touched a ≡ Some d) × (d ≢ c))
overtaking m i (Goes n) c h s = absurd h
overtaking m i (Assigns l v) c h s = absurd h
overtaking m i (Fails n) c h s = absurd h
overtaking m i Ends c h s = absurd h
overtaking m i (Puts d v) c h s = absurd h
overtaking m i Fences c h s = absurd h
overtaking m i (Takes n) c h s = absurd h
overtaking m i (Gives n) c h s = absurd h
overtaking m i (Updates l v d x) c h s = absurd h
overtaking m i (Misses l d) c h s = absurd h
overtaking m i (Starts u) c h s = absurd h
overtaking m i (Joins u) c h s = absurd h
overtaking m i Enters c h s = absurd h
overtaking m i Leaves c h s = absurd h
overtaking m i (Loads l d v) c h (to, is) = (subst (Overtakes m) (sym is) tt, refl, (d, refl, h))
overtaking m i (Pushes d v) c h (to, e, is) = (subst (Overtakes m) (sym is) (subst (λ n. Overtakes n (Store to e)) (sym h.0) tt), refl, (d, refl, h.1))

module _ (m : Model) (bound : Bounding) (p : Listing) (source : IsSourcelike p) (k : Course m bound p) where
  abbrev Site : ℕ → Spot → Type 0
  Site n x = Seen m bound p source k n x

  -- the thread of a step is that of its site
  thread_is : (n : ℕ) (x : Spot) (v : Event) → Site n x → slice_get k.events n ≡ Some v → thread_of v ≡ x.thread
  thread_is n x v a e = by a.shows
    where
      by : Shows (layout_of m bound p) p k.events n x → thread_of v ≡ x.thread
      by (inl f) = ap thread_of (same_Some v (Does x.thread f.act) (sym e ∙ f.does))
      by (inr (d, i, f)) = let u = flush_as m bound p source k d n x i f in ap thread_of (same_Some v (Flushes x.thread u.cell u.value) (sym e ∙ u.flush))

  -- what a communication edge leads to is a step of a site
  met_site : (kind : EdgeKind) (a b : ℕ) → IsCommunication kind → IsEdge (layout_of m bound p) k.events kind a b → (v : Event) → slice_get k.events b ≡ Some v → (y : Spot) × Site b y
  met_site kind a b c e v at = by (classified m bound p source k b v at)
    where
      written : (t : ℕ) (x : Act) (q : ℕ) → slice_get k.events b ≡ Some (Does t x) → is_visible x ≡ false → by writes k.events b ≡ Some q → ⊥
      written t x q does hidden w = none-some q (sym (quiet x hidden).writes ∙ key_at m bound p source k writes b (Does t x) q does w)

      unmet : (n : EdgeKind) → IsCommunication n → IsEdge (layout_of m bound p) k.events n a b → (t : ℕ) (x : Act) → slice_get k.events b ≡ Some (Does t x) → is_visible x ≡ false → ⊥
      unmet Program c e t x does hidden = absurd c
      unmet Issue c e t x does hidden = absurd c
      unmet Fifo c e t x does hidden = absurd c
      unmet Drain c e t x does hidden = absurd c
      unmet Mutex c e t x does hidden = absurd c
      unmet Start c e t x does hidden = absurd c
      unmet Joining c e t x does hidden = absurd c
      unmet Room c e t x does hidden = absurd c
      unmet Reads c e t x does hidden = none-some e.key (sym (quiet x hidden).reads ∙ (key_unless (is_own (layout_of m bound p) (take b k.events) (Does t x)) (deed x).reads e.key (key_behind m bound p source k (reads (layout_of m bound p)) b (Does t x) e.key does e.to)).1)
      unmet Coherence c e t x does hidden = written t x e.key does hidden e.to
      unmet FromRead c (inl e) t x does hidden = written t x e.key does hidden e.to
      unmet FromRead c (inr o) t x does hidden = written t x o.next.key does hidden o.next.to

      by : ((y : Spot) × Site b y) ⊎ Plain m bound p source k b → (y : Spot) × Site b y
      by (inl site) = site
      by (inr (t, x, does, hidden)) = absurd (unmet kind c e t x does hidden)

  -- between two threads it is communication of the text
  communicates : (kind : EdgeKind) (a b : ℕ) (x y : Spot) → IsCommunication kind → IsEdge (layout_of m bound p) k.events kind a b → Site a x → Site b y → Po p x y ⊎ Com p x y
  communicates Program a b x y c e f g = absurd c
  communicates Issue a b x y c e f g = absurd c
  communicates Fifo a b x y c e f g = absurd c
  communicates Drain a b x y c e f g = absurd c
  communicates Mutex a b x y c e f g = absurd c
  communicates Start a b x y c e f g = absurd c
  communicates Joining a b x y c e f g = absurd c
  communicates Room a b x y c e f g = absurd c
  communicates Reads a b x y c e f g = of_reads m bound p source k a b x y f g e
  communicates Coherence a b x y c e f g = of_coherence m bound p source k a b x y f g e
  communicates FromRead a b x y c e f g = of_from_read m bound p source k a b x y f g e

  module _ (set : List (List Bool)) (w : ℕ) (o : IsOvertaken (layout_of m bound p) p set k.events w) where
    abbrev at : IsOvertakenAt (layout_of m bound p) p set k.events w o.other
    at = o.at

    abbrev thread : ℕ
    thread = at.direct.thread

    abbrev made : Act
    made = Pushes at.direct.cell at.direct.value

    -- the store
    abbrev store : Spot
    store = spot_at m bound p source k w thread

    abbrev store_runs : Executes p k.events w store
    store_runs = executes m bound p source k w thread made at.direct.stores

    store_seen : Site w store
    store_seen = site_of_run m bound p source k w thread made at.direct.stores refl

    -- what overtakes it
    abbrev later : Spot
    later = spot_at m bound p source k at.access thread

    abbrev later_runs : Executes p k.events at.access later
    later_runs = executes m bound p source k at.access thread at.act at.does

    later_is : (i : Instr) → Suits i at.act → Overtakes m i × (is_visible at.act ≡ true) × ((d : ℕ) × (touched at.act ≡ Some d) × (d ≢ at.direct.cell))
    later_is i s = overtaking m i at.act at.direct.cell at.overtakes s

    later_instr : Instr_of m bound p source k later at.act
    later_instr = instr_of m bound p source k at.access later later_runs

    later_fact : Overtakes m later_instr.it × (is_visible at.act ≡ true) × ((d : ℕ) × (touched at.act ≡ Some d) × (d ≢ at.direct.cell))
    later_fact = later_is later_instr.it later_instr.suits

    later_seen : Site at.access later
    later_seen = site_of_run m bound p source k at.access thread at.act at.does later_fact.1

    from_seen : Site at.from later
    from_seen = go at.shows
      where
        go : (at.from ≡ at.access) ⊎ IsIssued (layout_of m bound p) k.events at.access at.from → Site at.from later
        go (inl same) = subst (λ n. Site n later) (sym same) later_seen
        go (inr i) = flush_site m bound p source k at.access at.from later i later_seen

    -- the step of another thread that sees it
    other_site : (y : Spot) × Site o.other y
    other_site = met_site at.kind at.from o.other at.communicates at.out at.event at.at_other

    abbrev other : Spot
    other = other_site.0

    other_thread : other.thread ≢ thread
    other_thread e = at.leaves (thread_is o.other other at.event other_site.1 at.at_other ∙ e)

    meets : Com p later other
    meets = go (communicates at.kind at.from o.other later other at.communicates at.out from_seen other_site.1)
      where
        go : Po p later other ⊎ Com p later other → Com p later other
        go (inl po) = absurd (other_thread (sym po.thread))
        go (inr c) = c

    is_unsafe : Unsafe p m store later
    is_unsafe =
        let i = instr_of m bound p source k w store store_runs in
        let f = later_fact in
        record {
          store = of_there IsStore (instr_at p store.thread store.index) i.it i.at (store_kind i.it at.direct.cell at.direct.value i.suits);
          later = of_there (Overtakes m) (instr_at p later.thread later.index) later_instr.it later_instr.at f.0;
          undrained = undrained m bound p k.entries (run m bound p source k) source.valid w at.access store later store_runs later_runs refl at.later (λ j low high. at.undrained j low (let h = high in omega (arith, h)));
          apart = λ c a b.
              let x : at.direct.cell ≡ c = (a at.direct.cell).0 (names m bound p source k.entries k.events k.happen w store store_runs at.direct.cell refl) in
              let y : f.2.0 ≡ c = (b f.2.0).0 (names m bound p source k.entries k.events k.happen at.access later later_runs f.2.0 f.2.1) in
              f.2.2 (y ∙ sym x);
        }

    flush_seen : Site o.flush store
    flush_seen = flush_site m bound p source k w o.flush store o.issued store_seen

    pub lacks : Lacks p m set
    lacks =
        let a = number_of m bound p source k w store store_seen in
        let b = number_of m bound p source k at.access later later_seen in
        let c = number_of m bound p source k o.other other other_site.1 in
        let way = back (walk_back m bound p source k set o.flush store flush_seen o.other other (inl other_site.1) o.back) a.0 a.1 c.0 c.1 in
        record {
          number = a.0;
          site = store;
          at = a.1;
          outside = at.direct.outside;
          cycle = (
            b.0 ∷ way.0,
            IsCycle.cycle
                (between m bound p source k (Unsafe p m) a.0 b.0 store later a.1 b.1 is_unsafe)
                (between m bound p source k (Com p) b.0 c.0 later other b.1 c.1 meets)
                way.1,
          );
        }
      where
        back : Reaches m bound p source k other store → (i : ℕ) → slice_get (sites p) i ≡ Some store → (j : ℕ) → slice_get (sites p) j ≡ Some other → (path : List ℕ) × IsPath (Between p (Edge p)) j path i
        back (inl same) i at_i j at_j = absurd (other_thread (ap (λ (x : Spot). x.thread) same))
        back (inr f) i at_i j at_j = f j i at_j at_i
