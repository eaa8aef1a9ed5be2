-- What holds of every run graph.
use Rattle.std.proofs.Common.{arith, ◌≡◌, ℕ, zero, suc, ◌+◌, ◌<◌, ◌≤◌, ℤ, ◌⊎◌, inl, inr, List, [], ◌∷◌, ◌++◌, length, Option, Some, None, refl, sym, ◌∙◌, ap, subst, slice_get, slice_index_or}
use Rattle.std.specs.Prelude.{Contains}
use Rattle.std.proofs.lemmas.Bool.{cases_lt}
use Rattle.mm_goto.specs.Bounds.{Bounding}
use Rattle.mm_goto.specs.declared.model.Model.{Model}
use Rattle.mm_goto.specs.Listing.{Listing}
use Rattle.mm_goto.specs.Valid.{IsValid}
use Rattle.mm_sched.specs.declared.entry.Act.TheVariants.{Pushes}
use Rattle.mm_sched.specs.declared.entry.Entry.{Entry}
use Rattle.mm_sched.specs.declared.entry.Event.{Event}
use Rattle.mm_sched.specs.declared.entry.Event.TheVariants.{Does, Flushes}
use Rattle.mm_sched.specs.declared.entry.Rules.{Rules}
use Rattle.mm_sched.specs.declared.entry.Rules.TheVariants.{Buffered}
use Rattle.mm_sched.specs.Guarded.{◌>>=◌}
use Rattle.mm_sched.specs.State.{State, Pending, initial, pending_of}
use Rattle.mm_sched.specs.Event.{event, after}
use Rattle.mm_sched.specs.Runs.{run}
use Rattle.mm_runkeys.specs.declared.graph.RunEdge.{RunEdge}
use Rattle.mm_rungraph.specs.declared.graph.RunGraph.{RunGraph}
use Rattle.mm_rungraph.specs.Edges.{IsIssued}
use Rattle.mm_rungraph.specs.Extension.{extension}
use Rattle.mm_rungraph.specs.RunGraph.{layout_of, IsRunGraph}
use Rattle.mm_rungraph.specs.Traces.{Trace, events_of, after_all}
use Rattle.mm_rungraph.proofs.Concluding.{ends_within, run_is, extension_runs}
use Rattle.mm_rungraph.proofs.Flushing.{AllFlushed, after_both}
use Rattle.mm_rungraph.proofs.Forward.{issued_is, leads_on}
use Rattle.mm_rungraph.proofs.Totals.{events_length}

pub forward : (m : Model) (bound : Bounding) (p : Listing) (es : List Entry) (g : RunGraph) → IsValid p → IsRunGraph m bound p es g → (e : RunEdge) → Contains g.edges e → (e.from < e.to) × (e.to < length g.nodes)
forward m bound p es g valid graph e c =
    let is = (graph.edges e.kind e.from e.to).0 c in
    let size : length graph.trace.events ≡ length g.entries = events_length (Buffered m bound) p (initial p) g.entries graph.trace.events graph.trace.happen in
    let within : e.to < length graph.trace.events = ends_within (layout_of m bound p) graph.trace.events e.kind e.from e.to is in
    (leads_on p valid (layout_of m bound p) bound refl g.entries graph.trace.events graph.trace.happen e.kind e.from e.to is, omega (arith, size, within, graph.size))

pub issued : (m : Model) (bound : Bounding) (p : Listing) (es : List Entry) (run : Trace (Buffered m bound) p es) → IsValid p → (a b : ℕ) → IsIssued (layout_of m bound p) run.events a b
    → (t : ℕ) × (c : ℕ) × (v : ℤ) × (slice_get run.events a ≡ Some (Does t (Pushes c v))) × (slice_get run.events b ≡ Some (Flushes t c v))
issued m bound p es run valid a b i = let z = issued_is p valid (layout_of m bound p) bound refl es run.events run.happen a b i in (z.thread, z.cell, z.value, z.made, z.flushed)

-- ---- the end of the run

module _ (r : Rules) (p : Listing) where
  both : (w : Event) (o : Option (List Event)) (vs : List Event) → (o >>= λ us. Some (w ∷ us)) ≡ Some vs → (us : List Event) × (o ≡ Some us) × (w ∷ us ≡ vs)
  both w None vs h = cc
  both w (Some us) vs h = (us, refl, cc)

  -- what happens by two lists of entries
  pub record InTwo (s : State) (es fs : List Entry) (ws : List Event) : Type 0 where
    pub front : List Event
    pub back : List Event
    pub all : ws ≡ front ++ back
    pub one : events_of r p s es ≡ Some front
    pub two : events_of r p (after_all s front) fs ≡ Some back

  in_two : (es fs : List Entry) (s : State) (ws : List Event) → events_of r p s (es ++ fs) ≡ Some ws → InTwo s es fs ws
  in_two [] fs s ws h = record { front = []; back = ws; all = refl; one = refl; two = h }
  in_two (e ∷ es) fs s ws h = go (event r p s e) refl ws h (λ w us. in_two es fs (after s w) us)
    where
      go : (o : Option Event) → event r p s e ≡ o → (ws : List Event) → (o >>= λ w. events_of r p (after s w) (es ++ fs) >>= λ us. Some (w ∷ us)) ≡ Some ws → ((w : Event) (us : List Event) → events_of r p (after s w) (es ++ fs) ≡ Some us → InTwo (after s w) es fs us) → InTwo s (e ∷ es) fs ws
      go None x ws h ih = cc
      go (Some w) x ws h ih =
          let b = both w (events_of r p (after s w) (es ++ fs)) ws h in
          let rest = ih w b.0 b.1 in
          record {
            front = w ∷ rest.front;
            back = rest.back;
            all = sym b.2 ∙ ap (λ us. w ∷ us) rest.all;
            one = ap (λ o. o >>= λ y. events_of r p (after s y) es >>= λ us. Some (y ∷ us)) x ∙ ap (λ o. o >>= λ us. Some (w ∷ us)) rest.one;
            two = rest.two;
          }

index_past : (lists : List (List Pending)) (k : ℕ) → length lists ≤ k → slice_index_or lists k [] ≡ []
index_past [] k l = refl
index_past (ps ∷ lists) zero l = absurd (omega (arith, l))
index_past (ps ∷ lists) (suc k) l = index_past lists k (omega (arith, l))

-- behind the flushes of all that is pending nothing is
flushed_out : (m : Model) (bound : Bounding) (p : Listing) (s : State) (us : List Event) → events_of (Buffered m bound) p s (extension m s) ≡ Some us → (t : ℕ) → pending_of (after_all s us) t ≡ []
flushed_out m bound p s us h t = subst (λ xs. pending_of (after_all s xs) t ≡ []) same (go (cases_lt t (length s.pending)))
  where
    f : AllFlushed m bound p s (extension m s) 0 (0 + length s.pending)
    f = extension_runs m bound p s

    same : f.happens ≡ us
    same = some f.happens us (sym f.are ∙ h)
      where
        some : (a b : List Event) → Some a ≡ Some b → a ≡ b
        some a b h = cc

    go : (t < length s.pending) ⊎ (length s.pending ≤ t) → pending_of (after_all s f.happens) t ≡ []
    go (inl l) = f.empty t (omega arith) (omega (arith, l))
    go (inr l) = f.behind t (omega (arith, l)) ∙ index_past s.pending t l

pub emptied : (m : Model) (bound : Bounding) (p : Listing) (es : List Entry) (g : RunGraph) (graph : IsRunGraph m bound p es g) (t : ℕ) → pending_of (after_all (initial p) graph.trace.events) t ≡ []
emptied m bound p es g graph t =
    ap (λ xs. pending_of (after_all (initial p) xs) t) parts.all
    ∙ ap (λ (z : State). pending_of z t) (after_both m bound p (initial p) parts.front parts.back)
    ∙ flushed_out m bound p (after_all (initial p) parts.front) parts.back (ap (λ (z : State). events_of (Buffered m bound) p (after_all (initial p) parts.front) (extension m z)) last ∙ parts.two) t
  where
    parts : InTwo (Buffered m bound) p (initial p) es (extension m graph.fails.last) graph.trace.events
    parts = in_two (Buffered m bound) p es (extension m graph.fails.last) (initial p) graph.trace.events (ap (events_of (Buffered m bound) p (initial p)) (sym graph.entries) ∙ graph.trace.happen)

    last : after_all (initial p) parts.front ≡ graph.fails.last
    last = some (after_all (initial p) parts.front) graph.fails.last (sym (run_is (Buffered m bound) p es (initial p) parts.front parts.one) ∙ graph.fails.runs)
      where
        some : (a b : State) → Some a ≡ Some b → a ≡ b
        some a b h = cc
