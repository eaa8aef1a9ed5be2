-- What is known behind each step of a run is exact.
use Rattle.std.proofs.Common.{◌≡◌, List, [], ◌∷◌, ◌++◌, length, Option, Some, None, refl, sym, ◌∙◌, subst, append_assoc, append-nil}
use Rattle.mm_goto.specs.Bounds.{Bounding}
use Rattle.mm_goto.specs.Listing.{Listing}
use Rattle.mm_sched.specs.declared.entry.Event.{Event}
use Rattle.mm_sched.specs.declared.entry.Entry.{Entry}
use Rattle.mm_sched.specs.declared.entry.Rules.{Rules}
use Rattle.mm_sched.specs.declared.entry.Rules.TheVariants.{Buffered}
use Rattle.mm_sched.specs.Guarded.{◌>>=◌}
use Rattle.mm_sched.specs.State.{State}
use Rattle.mm_sched.specs.Event.{event, after}
use Rattle.mm_sched.specs.Invariant.{Fits}
use Rattle.mm_sched.proofs.Happens.{HasNames, has_names}
use Rattle.mm_sched.proofs.Fitting.{event_fits}
use Rattle.mm_runkeys.specs.declared.keys.Layout.{Layout}
use Rattle.mm_rungraph.specs.Traces.{events_of, after_all}
use Rattle.mm_runkeys.specs.reading.Marks.{Marks, marked}
use Rattle.mm_rungraph.specs.reading.Walking.{marked_all, IsSized}
use Rattle.mm_rungraph.proofs.Sized.{in_range, sized_step}
use Rattle.mm_rungraph.proofs.Exact.{IsGraph, graph_step}
use Rattle.mm_rungraph.proofs.Queues.{AreQueued, queued_step, takes_first, has_store}
use Rattle.mm_rungraph.proofs.Naming.{AreNodes, nodes_step}
use Rattle.mm_rungraph.proofs.Distinct.{AreDistinct, distinct_step}

module _ (p : Listing) (s : Layout) (bound : Bounding) where
  abbrev r : Rules
  r = Buffered s.model bound

  -- the marks are those of the events, which lead to the state
  pub record AreMarks (es : List Event) (st : State) (g : Marks) : Type 0 where
    pub fits : Fits r p st
    pub sized : IsSized p s g
    pub graph : IsGraph s es g
    pub distinct : AreDistinct g
    pub nodes : AreNodes s es g.nodes
    pub queues : AreQueued s st es

  marks_step : (es : List Event) (st : State) (g : Marks) (e : Entry) (v : Event) → event r p st e ≡ Some v → AreMarks es st g → AreMarks (es ++ v ∷ []) (after st v) (marked s g v)
  marks_step es st g e v is h =
      let names : HasNames st v = has_names r p st h.fits e v is in
      let range = in_range r p st s g v h.fits h.sized names in
      let cells : length st.memory ≡ s.cells = h.fits.memory ∙ sym h.sized.cells in
      let first = takes_first s.model bound p st e v is in
      record {
        fits = event_fits r p st h.fits e v is;
        sized = sized_step p s g v h.sized;
        graph = graph_step s es g h.graph v range;
        distinct = distinct_step s es g h.graph h.distinct v range;
        nodes = nodes_step s es g h.graph h.nodes v range (has_store s st es v h.queues names cells first);
        queues = queued_step s st es h.queues v names cells (h.fits.threads ∙ sym h.fits.pending) first;
      }

  -- along the entries
  pub marks_run : (es : List Entry) (st : State) (g : Marks) (before vs : List Event) → events_of r p st es ≡ Some vs → AreMarks before st g → AreMarks (before ++ vs) (after_all st vs) (marked_all s g vs)
  marks_run [] st g before [] h k = subst (λ us. AreMarks us st g) (sym (append-nil before)) k
  marks_run [] st g before (v ∷ vs) h k = cc
  marks_run (e ∷ es) st g before vs h k = go (event r p st e) refl vs h (λ v us. marks_run es (after st v) (marked s g v) (before ++ v ∷ []) us)
    where
      both : (w : Event) (o : Option (List Event)) (vs : List Event) → (o >>= λ us. Some (w ∷ us)) ≡ Some vs → (us : List Event) × (o ≡ Some us) × (w ∷ us ≡ vs)
      both w None vs h = cc
      both w (Some us) vs h = (us, refl, cc)

      go : (o : Option Event) → event r p st e ≡ o → (vs : List Event) → (o >>= λ w. events_of r p (after st w) es >>= λ us. Some (w ∷ us)) ≡ Some vs
          → ((v : Event) (us : List Event) → events_of r p (after st v) es ≡ Some us → AreMarks (before ++ v ∷ []) (after st v) (marked s g v) → AreMarks (before ++ v ∷ [] ++ us) (after_all (after st v) us) (marked_all s (marked s g v) us))
          → AreMarks (before ++ vs) (after_all st vs) (marked_all s g vs)
      go None x vs h ih = cc
      go (Some v) x vs h ih =
          let b = both v (events_of r p (after st v) es) vs h in
          let rest = ih v b.0 b.1 (marks_step before st g e v x k) in
          subst (λ us. AreMarks (before ++ us) (after_all st us) (marked_all s g us)) b.2 (subst (λ us. AreMarks us (after_all (after st v) b.0) (marked_all s (marked s g v) b.0)) (append_assoc before (v ∷ []) b.0) rest)
