-- What the machine's work gives is the run graph.
use Rattle.std.proofs.Common.{arith, ◌≡◌, ℕ, zero, suc, ◌+◌, ◌^◌, ◌<◌, ◌≤◌, ◌↔◌, inl, inr, List, [], ◌∷◌, ◌++◌, length, take, Option, Some, None, option_map, refl, sym, ◌∙◌, ap, subst, slice_get}
use Rattle.std.specs.Prelude.{Contains, Result, Ok, Err, IsErr, IsErrAnd, MatchResult}
use Rattle.std.proofs.lemmas.Bool.{false≢true}
use Rattle.mm_goto.specs.Bounds.{Bounding}
use Rattle.mm_goto.specs.declared.model.Model.{Model}
use Rattle.mm_goto.specs.Listing.{Listing}
use Rattle.mm_goto.specs.Valid.{IsValid}
use Rattle.mm_sched.specs.declared.entry.Event.{Event}
use Rattle.mm_sched.specs.declared.entry.Entry.{Entry}
use Rattle.mm_sched.specs.declared.entry.Rules.{Rules}
use Rattle.mm_sched.specs.declared.entry.Rules.TheVariants.{Buffered}
use Rattle.mm_sched.specs.Guarded.{◌>>=◌}
use Rattle.mm_sched.specs.State.{State, initial, pending_of}
use Rattle.mm_sched.specs.Event.{event, after, next}
use Rattle.mm_sched.specs.Runs.{run}
use Rattle.mm_runkeys.specs.declared.graph.EdgeKind.{EdgeKind}
use Rattle.mm_runkeys.specs.declared.graph.EdgeKind.TheVariants.{Program, Issue, Fifo, Reads, Coherence, FromRead, Drain, Mutex, Start, Join, Room}
use Rattle.mm_runkeys.specs.declared.graph.RunEdge.{RunEdge}
use Rattle.mm_rungraph.specs.declared.graph.RunFault.{RunFault}
use Rattle.mm_rungraph.specs.declared.graph.RunFault.TheVariants.{Stuck, NotFailing, NoMemory}
use Rattle.mm_runkeys.specs.declared.graph.RunNode.{RunNode}
use Rattle.mm_runkeys.specs.declared.keys.Layout.{Layout}
use Rattle.mm_runkeys.specs.Spans.{always}
use Rattle.mm_runkeys.specs.Keys.{runs, drains, pushes, pops, takes, writes, reads, joins_first}
use Rattle.mm_rungraph.specs.Edges.{IsEdge}
use Rattle.mm_rungraph.specs.Extension.{extension}
use Rattle.mm_rungraph.specs.Traces.{events_of, after_all}
use Rattle.mm_rungraph.specs.RunGraph.{layout_of, Once, IsRunGraph, IsFault}
use Rattle.mm_runkeys.specs.reading.Tables.{edge}
use Rattle.mm_runkeys.specs.reading.Marks.{Marks, start}
use Rattle.mm_runkeys.specs.reading.Behind.{Given, behind}
use Rattle.mm_rungraph.specs.reading.Walking.{marked_all, Walking, Leads, StopsAt, Stops, Goes, Ends, Extends, Lacks}
use Rattle.mm_rungraph.proofs.Whole.{AreEdges, at_within, whole}
use Rattle.mm_rungraph.proofs.Marking.{AreMarks, marks_run}
use Rattle.mm_rungraph.proofs.Starting.{start_marks}
use Rattle.mm_rungraph.proofs.Distinct.{all_distinct}
use Rattle.mm_rungraph.proofs.Flushing.{AllFlushed, all_threads, events_both}
use Rattle.mm_rungraph.proofs.Totals.{events_length, extension_few}

-- ---- runs with their events

module _ (r : Rules) (p : Listing) where
  split : (w : Event) (o : Option (List Event)) (vs : List Event) → (o >>= λ us. Some (w ∷ us)) ≡ Some vs → (us : List Event) × (o ≡ Some us) × (w ∷ us ≡ vs)
  split w None vs h = cc
  split w (Some us) vs h = (us, refl, cc)

  -- what happens leads to the state that the entries lead to
  pub run_is : (es : List Entry) (st : State) (vs : List Event) → events_of r p st es ≡ Some vs → run r p st es ≡ Some (after_all st vs)
  run_is [] st vs h = let same : [] ≡ vs = cc in ap (λ us. Some (after_all st us)) same
  run_is (e ∷ es) st vs h = go (event r p st e) vs h (λ w us. run_is es (after st w) us)
    where
      go : (o : Option Event) (vs : List Event) → (o >>= λ w. events_of r p (after st w) es >>= λ us. Some (w ∷ us)) ≡ Some vs → ((w : Event) (us : List Event) → events_of r p (after st w) es ≡ Some us → run r p (after st w) es ≡ Some (after_all (after st w) us))
          → (option_map (after st) o >>= λ mid. run r p mid es) ≡ Some (after_all st vs)
      go None vs h ih = cc
      go (Some w) vs h ih = let b = split w (events_of r p (after st w) es) vs h in ih w b.0 b.1 ∙ ap (λ us. Some (after_all st us)) b.2

  -- entries that all happen do not stop
  never : (es : List Entry) (st : State) (vs : List Event) (i : ℕ) (us : List Event) (e : Entry) → events_of r p st es ≡ Some vs → events_of r p st (take i es) ≡ Some us → slice_get es i ≡ Some e → event r p (after_all st us) e ≡ None → ⊥
  never [] st vs i us e h k at none = cc
  never (d ∷ es) st vs zero us e h k at none =
      let empty : [] ≡ us = cc in
      let here : d ≡ e = cc in
      let stop : event r p st d ≡ None = ap (event r p st) here ∙ subst (λ ws. event r p (after_all st ws) e ≡ None) (sym empty) none in
      clash (ap (λ o. o >>= λ w. events_of r p (after st w) es >>= λ ws. Some (w ∷ ws)) stop) h
    where
      clash : {o : Option (List Event)} → o ≡ None → o ≡ Some vs → ⊥
      clash a b = cc
  never (d ∷ es) st vs (suc i) us e h k at none = go (event r p st d) vs us h k none (λ w ws xs. never es (after st w) ws i xs e)
    where
      go : (o : Option Event) (vs us : List Event) → (o >>= λ w. events_of r p (after st w) es >>= λ ws. Some (w ∷ ws)) ≡ Some vs → (o >>= λ w. events_of r p (after st w) (take i es) >>= λ ws. Some (w ∷ ws)) ≡ Some us → event r p (after_all st us) e ≡ None
          → ((w : Event) (ws xs : List Event) → events_of r p (after st w) es ≡ Some ws → events_of r p (after st w) (take i es) ≡ Some xs → slice_get es i ≡ Some e → event r p (after_all (after st w) xs) e ≡ None → ⊥)
          → ⊥
      go None vs us h k none ih = cc
      go (Some w) vs us h k none ih =
          let b = split w (events_of r p (after st w) es) vs h in
          let c = split w (events_of r p (after st w) (take i es)) us k in
          ih w b.0 c.0 b.1 c.1 at (subst (λ ws. event r p (after_all st ws) e ≡ None) (sym c.2) none)

  pub never_stops : (es : List Entry) (st : State) (vs : List Event) (k : ℕ) → events_of r p st es ≡ Some vs → StopsAt r p st es k → ⊥
  never_stops es st vs k h z = never es st vs z.before z.happens z.entry h z.are z.at z.stuck

-- the extension is never stuck
pub extension_runs : (m : Model) (bound : Bounding) (p : Listing) (st : State) → AllFlushed m bound p st (extension m st) 0 (0 + length st.pending)
extension_runs m bound p st = all_threads m bound p st.pending st 0 (omega arith) (λ i l. ap (pending_of st) (let e : 0 + i ≡ i = omega arith in e))

pub extension_goes_on : (m : Model) (bound : Bounding) (p : Listing) (st : State) (f : RunFault) → Stops (Buffered m bound) p st (extension m st) f → f ≡ NoMemory
extension_goes_on m bound p st (Stuck k) z = let runs = extension_runs m bound p st in absurd (never_stops (Buffered m bound) p (extension m st) st runs.happens k runs.are z)
extension_goes_on m bound p st NotFailing z = absurd z
extension_goes_on m bound p st NoMemory z = refl

pub extension_short : (m : Model) (bound : Bounding) (p : Listing) (s : Layout) (old mid : Walking) (es : List Entry) → old.state ≡ initial p → Leads (Buffered m bound) p s old es mid → length (extension m mid.state) ≤ length es
extension_short m bound p s old mid es start l =
    let few : length (extension m (after_all (initial p) l.happens)) ≤ length es = extension_few (Buffered m bound) m p es l.happens (ap (λ (z : State). events_of (Buffered m bound) p z es) (sym start) ∙ l.are) in
    subst (λ (z : State). length (extension m z) ≤ length es) (sym (l.state ∙ ap (λ (z : State). after_all z l.happens) start)) few

-- an answer that is passed on
pub refused : {A : Type 0} (P : A → Type 0) (Q : RunFault → Type 0) (r : Result A RunFault) (x : RunFault) → IsErr r × IsErrAnd r (λ e. e ≡ x) → Q x → MatchResult r P Q
refused P Q (Ok a) x h q = absurd (false≢true h.0)
refused P Q (Err e) x h q = subst Q (sym h.1) q

-- why the first entries stop is why all do
pub first_lacks : (m : Model) (bound : Bounding) (p : Listing) (s : Layout) (old : Walking) (es : List Entry) (f : RunFault) → Stops (Buffered m bound) p old.state es f → Lacks m bound p s old es f
first_lacks m bound p s old es (Stuck k) z = z
first_lacks m bound p s old es NotFailing z = absurd z
first_lacks m bound p s old es NoMemory z = tt

pub second_lacks : (m : Model) (bound : Bounding) (p : Listing) (s : Layout) (old mid : Walking) (es : List Entry) (f : RunFault) → Stops (Buffered m bound) p mid.state (extension m mid.state) f → Lacks m bound p s old es f
second_lacks m bound p s old mid es f z = subst (Lacks m bound p s old es) (sym (extension_goes_on m bound p mid.state f z)) tt

pub none_lacks : (m : Model) (bound : Bounding) (p : Listing) (s : Layout) (old mid : Walking) (es : List Entry) (f : RunFault) → Leads (Buffered m bound) p s old es mid → Ends mid.state (Err f) → Lacks m bound p s old es f
none_lacks m bound p s old mid es f l e = subst (Lacks m bound p s old es) (sym e.1) (mid, l, e.0)

-- how many threads have lists of pending stores
pub as_many : (m : Model) (bound : Bounding) (p : Listing) (s : Layout) (w : Walking) → Goes (Buffered m bound) p s w → (length p.threads ≡ length w.state.pending) × (length p.threads < 2 ^ 32)
as_many m bound p s w g = (sym g.fits.pending, (let few : length p.threads ≤ 16 = g.fits.valid.threads in omega (arith, few)))

-- ---- edges end within the run

pub ends_within : (s : Layout) (es : List Event) (k : EdgeKind) (a b : ℕ) → IsEdge s es k a b → b < length es
ends_within s es Program a b i = at_within (always runs) es b i.key i.to
ends_within s es Issue a b i = at_within (always (pops s)) es b i.queue i.flushed.is
ends_within s es Fifo a b i = at_within (always (pops s)) es b i.key i.to
ends_within s es Reads a b i = at_within (reads s) es b i.key i.to
ends_within s es Coherence a b i = at_within (always writes) es b i.key i.to
ends_within s es FromRead a b (inl i) = at_within (always writes) es b i.key i.to
ends_within s es FromRead a b (inr i) = at_within (always writes) es b i.next.key i.next.to
ends_within s es Drain a b i = at_within (always drains) es b i.key i.to
ends_within s es Mutex a b i = at_within (always takes) es b i.key i.to
ends_within s es Start a b i = at_within (always runs) es b i.key i.to
ends_within s es Join a b i = at_within (joins_first s) es b i.key i.to
ends_within s es Room a b i = at_within (always (pushes s)) es b i.queue i.made.is

-- ---- the whole

module _ (m : Model) (bound : Bounding) (p : Listing) (valid : IsValid p) where
  abbrev r : Rules
  r = Buffered m bound

  abbrev s : Layout
  s = layout_of m bound p

  -- what the marks give of the events of all entries
  module _ (es : List Entry) (n : ℕ) (vs us : List Event) (happens : events_of r p (initial p) es ≡ Some vs) (verdict : (after_all (initial p) vs).verdict ≡ Some n) (on : events_of r p (after_all (initial p) vs) (extension m (after_all (initial p) vs)) ≡ Some us) where
    abbrev g : Marks
    g = marked_all s (marked_all s (start s (length p.mutexes)) vs) us

    marks : AreMarks p s bound (vs ++ us) (after_all (after_all (initial p) vs) us) g
    marks = marks_run p s bound (extension m (after_all (initial p) vs)) (after_all (initial p) vs) (marked_all s (start s (length p.mutexes)) vs) vs us on
        (marks_run p s bound es (initial p) (start s (length p.mutexes)) [] vs happens (start_marks p s bound valid refl refl))

    abbrev all : List Entry
    all = es ++ extension m (after_all (initial p) vs)

    both : events_of r p (initial p) all ≡ Some (vs ++ us)
    both = events_both m bound p es (extension m (after_all (initial p) vs)) (initial p) vs us happens on

    graph_is : (nodes : List RunNode) (edges : List RunEdge) → Given g nodes edges → IsRunGraph m bound p es (record { nodes = nodes; entries = all; edges = edges; verdict = n })
    graph_is nodes edges gives = record {
      fails = record { last = after_all (initial p) vs; runs = run_is r p es (initial p) vs happens; verdict = verdict };
      entries = refl;
      trace = record { events = vs ++ us; happen = both };
      size = ap length gives.nodes_are ∙ marks.nodes.size ∙ events_length r p (initial p) all (vs ++ us) both;
      nodes = λ k z h. marks.nodes.each k z (ap (λ xs. slice_get xs k) (sym gives.nodes_are) ∙ h);
      edges = λ kind a b. edge_is kind a b;
      once = subst Once (sym gives.edges_are) (all_distinct s (vs ++ us) g gives.flushes gives.nexts marks.graph marks.distinct);
    }
      where
        exact : AreEdges s (vs ++ us) (g.edges ++ behind gives.flushes gives.nexts g.taken)
        exact = whole s (vs ++ us) g g.count gives.flushes gives.nexts marks.graph marks.graph.count marks.distinct.kinds gives.are_flushes gives.are_nexts

        edge_is : (kind : EdgeKind) (a b : ℕ) → Contains edges (edge b kind a) ↔ IsEdge s (vs ++ us) kind a b
        edge_is kind a b = (
          λ c. ((exact kind a b).0 (subst (λ ds. Contains ds (edge b kind a)) gives.edges_are c)).1,
          λ i. subst (λ ds. Contains ds (edge b kind a)) (sym gives.edges_are) ((exact kind a b).1 (ends_within s (vs ++ us) kind a b i, i)),
        )

  -- the work of a machine from the start
  pub conclude : (w new : Walking) (es whole_es : List Entry) (n : ℕ) (nodes : List RunNode) (edges : List RunEdge) → w.state ≡ initial p → w.marks ≡ start s (length p.mutexes) → Extends m bound p s w es n new whole_es → Given new.marks nodes edges
      → IsRunGraph m bound p es (record { nodes = nodes; entries = whole_es; edges = edges; verdict = n })
  conclude w new es whole_es n nodes edges state marks e gives =
      subst (λ xs. IsRunGraph m bound p es (record { nodes = nodes; entries = xs; edges = edges; verdict = n })) (sym (e.entries ∙ ap (λ (z : State). es ++ extension m z) mid))
      (graph_is es n e.first.happens e.second.happens first (ap (λ (z : State). z.verdict) (sym mid) ∙ e.verdict) second nodes edges (subst (λ (g : Marks). Given g nodes edges) marked gives))
    where
      first : events_of r p (initial p) es ≡ Some e.first.happens
      first = ap (λ (z : State). events_of r p z es) (sym state) ∙ e.first.are

      mid : e.mid.state ≡ after_all (initial p) e.first.happens
      mid = e.first.state ∙ ap (λ (z : State). after_all z e.first.happens) state

      second : events_of r p (after_all (initial p) e.first.happens) (extension m (after_all (initial p) e.first.happens)) ≡ Some e.second.happens
      second = ap (λ (z : State). events_of r p z (extension m z)) (sym mid) ∙ e.second.are

      marked : new.marks ≡ marked_all s (marked_all s (start s (length p.mutexes)) e.first.happens) e.second.happens
      marked = e.second.marks ∙ ap (λ (g : Marks). marked_all s g e.second.happens) (e.first.marks ∙ ap (λ (g : Marks). marked_all s g e.first.happens) marks)

  pub refuse : (w : Walking) (es : List Entry) (f : RunFault) → w.state ≡ initial p → Lacks m bound p s w es f → IsFault r p es f
  refuse w es (Stuck k) state z = record {
    before = z.before;
    number = z.number;
    mid = after_all (initial p) z.happens;
    runs_to = run_is r p (take z.before es) (initial p) z.happens (ap (λ (x : State). events_of r p x (take z.before es)) (sym state) ∙ z.are);
    entry = z.entry;
    at = z.at;
    stuck = ap (λ (x : State). next r p x z.entry) (ap (λ (x : State). after_all x z.happens) (sym state)) ∙ ap (option_map (after (after_all w.state z.happens))) z.stuck;
  }
  refuse w es NotFailing state z = record {
    last = z.0.state;
    runs_to = run_is r p es (initial p) z.1.happens (ap (λ (x : State). events_of r p x es) (sym state) ∙ z.1.are) ∙ ap (λ (x : State). Some x) (sym (z.1.state ∙ ap (λ (x : State). after_all x z.1.happens) state));
    none = z.2;
  }
  refuse w es NoMemory state z = tt

-- the same, as code has it
pub conclude_from : (m : Model) (bound : Bounding) (p : Listing) (s : Layout) (w new : Walking) (es fs whole_es : List Entry) (n : ℕ) (nodes : List RunNode) (edges : List RunEdge) → s ≡ layout_of m bound p → es ≡ fs → IsValid p → w.state ≡ initial p → w.marks ≡ start s (length p.mutexes) → Extends m bound p s w es n new whole_es → Given new.marks nodes edges
    → IsRunGraph m bound p fs (record { nodes = nodes; entries = whole_es; edges = edges; verdict = n })
conclude_from m bound p s w new es fs whole_es n nodes edges layout same valid state marks e gives =
    subst (λ xs. IsRunGraph m bound p xs (record { nodes = nodes; entries = whole_es; edges = edges; verdict = n })) same
    (conclude m bound p valid w new es whole_es n nodes edges state (marks ∙ ap (λ (t : Layout). start t (length p.mutexes)) layout) (subst (λ (t : Layout). Extends m bound p t w es n new whole_es) layout e) gives)

pub refuse_from : (m : Model) (bound : Bounding) (p : Listing) (s : Layout) (w : Walking) (es fs : List Entry) (f : RunFault) → s ≡ layout_of m bound p → es ≡ fs → IsValid p → w.state ≡ initial p → Lacks m bound p s w es f → IsFault (Buffered m bound) p fs f
refuse_from m bound p s w es fs f layout same valid state l =
    subst (λ xs. IsFault (Buffered m bound) p xs f) same (refuse m bound p valid w es f state (subst (λ (t : Layout). Lacks m bound p t w es f) layout l))
