-- Every failing run has a run graph.
use Rattle.std.proofs.Common.{arith, take, ◌≡◌, ℕ, zero, suc, ◌+◌, ◌<◌, List, [], ◌∷◌, ◌++◌, length, Some, None, refl, sym, ◌∙◌, ap, subst, slice_get}
use Rattle.std.specs.Prelude.{option_and_then}
use Rattle.std.proofs.lemmas.Option.{same_Some}
use Rattle.mm_goto.specs.Bounds.{Bounding}
use Rattle.mm_goto.specs.declared.model.Model.{Model}
use Rattle.mm_goto.specs.Listing.{Listing}
use Rattle.mm_goto.specs.Valid.{IsValid}
use Rattle.mm_sched.specs.declared.entry.Entry.{Entry}
use Rattle.mm_sched.specs.declared.entry.Event.{Event}
use Rattle.mm_sched.specs.declared.entry.Event.TheVariants.{Does, Flushes}
use Rattle.mm_sched.specs.declared.entry.Rules.TheVariants.{Buffered}
use Rattle.mm_sched.specs.Runs.{Fails}
use Rattle.mm_sched.specs.Sections.{HasNoSection}
use Rattle.mm_sched.specs.State.{initial}
use Rattle.mm_runkeys.specs.declared.graph.EdgeKind.{EdgeKind}
use Rattle.mm_runkeys.specs.declared.graph.RunEdge.{RunEdge}
use Rattle.mm_runkeys.specs.declared.graph.RunNode.{RunNode}
use Rattle.mm_runkeys.specs.declared.graph.RunNode.TheVariants.{Run, Flush}
use Rattle.mm_runkeys.specs.Keys.{runs}
use Rattle.mm_runkeys.specs.Spans.{times}
use Rattle.mm_rungraph.specs.declared.graph.RunGraph.{RunGraph}
use Rattle.mm_rungraph.specs.Edges.{IsEdge}
use Rattle.mm_rungraph.specs.Extension.{extension}
use Rattle.mm_rungraph.specs.RunGraph.{layout_of, IsNode, IsRunGraph}
use Rattle.mm_rungraph.specs.Traces.{events_of}
use Rattle.mm_rungraph.proofs.Concluding.{ends_within, extension_runs}
use Rattle.mm_rungraph.proofs.Flushing.{events_both}
use Rattle.mm_rungraph.proofs.Forward.{leads_on}
use Rattle.mm_rungraph.proofs.Totals.{events_length}
use Rattle.mm_reorder.proofs.Classes.{below, what_is}
use Rattle.mm_reorder.proofs.Course.{Course}
use Rattle.mm_reorder.proofs.Coursing.{run_of}
use Rattle.mm_reorder.proofs.Issuing.{store_of}
use Rattle.mm_keeping.proofs.Guarded.{happens_in}
use Rattle.mm_keeping.proofs.Stepping.{get_there}
use Rattle.mm_enough.proofs.Gathering.{Gathered}
use Rattle.mm_enough.proofs.Edges.{all_edges}

module _ (m : Model) (bound : Bounding) (p : Listing) (k : Course m bound p) where
  -- what a step is
  node_of : (n : ℕ) (v : Event) → slice_get k.events n ≡ Some v → (node : RunNode) × IsNode (layout_of m bound p) k.events n node
  node_of n (Does t a) e = (Run t (times runs t (take n k.events)), record { is = ap (option_and_then runs) e; nth = refl })
  node_of n (Flushes t c v) e =
      let f = store_of m bound p k n t c v (below m bound p k [] n (Flushes t c v) e) (what_is m bound p k [] n (Flushes t c v) e) in
      let before = f.before in
      let low : n < k.walk.size = below m bound p k [] n (Flushes t c v) e in
      let made = k.each f.store (omega (arith, before, low)) ∙ ap Some f.made in
      (Flush t (times runs t (take f.store k.events)), (f.store, f.issued, record { is = ap (option_and_then runs) made; nth = refl }))

  pub record Nodes (n d : ℕ) : Type 0 where
    pub list : List RunNode
    pub count : length list ≡ d
    pub each : (j : ℕ) (x : RunNode) → slice_get list j ≡ Some x → IsNode (layout_of m bound p) k.events (n + j) x

  -- the steps from number n on, so many
  pub nodes_from : (d n : ℕ) → n + d ≡ length k.events → Nodes n d
  nodes_from zero n e = record { list = []; count = refl; each = λ j x at. absurd (nothing x at) }
    where
      nothing : (x : RunNode) → None ≡ Some x → ⊥
      nothing x q = cc
  nodes_from (suc d) n e =
      let v = get_there k.events n (omega (arith, e)) in
      let first = node_of n v.0 v.1 in
      let rest = nodes_from d (n + 1) (omega (arith, e)) in
      record {
        list = first.0 ∷ rest.list;
        count = (let many = rest.count in omega (arith, many));
        each = each first.0 first.1 rest.list rest.each;
      }
    where
      each : (y : RunNode) → IsNode (layout_of m bound p) k.events n y → (ys : List RunNode) → ((j : ℕ) (x : RunNode) → slice_get ys j ≡ Some x → IsNode (layout_of m bound p) k.events ((n + 1) + j) x)
          → (j : ℕ) (x : RunNode) → slice_get (y ∷ ys) j ≡ Some x → IsNode (layout_of m bound p) k.events (n + j) x
      each y is ys more zero x at = subst (λ q. IsNode (layout_of m bound p) k.events q x) (let q : n ≡ n + 0 = omega arith in q) (subst (IsNode (layout_of m bound p) k.events n) (same_Some y x at) is)
      each y is ys more (suc j) x at = subst (λ q. IsNode (layout_of m bound p) k.events q x) (let q : (n + 1) + j ≡ n + suc j = omega arith in q) (more j x at)

-- the graph of a run that is extended
graph_of : (m : Model) (bound : Bounding) (p : Listing) (n : ℕ) (es : List Entry) → IsValid p → (fails : Fails (Buffered m bound) p n es) → (vs : List Event)
    → events_of (Buffered m bound) p (initial p) (es ++ extension m fails.last) ≡ Some vs → (k : Course m bound p) → k.events ≡ vs → (g : RunGraph) × IsRunGraph m bound p es g × (g.verdict ≡ n)
graph_of m bound p n es valid fails vs happen k same =
    let entries : List Entry = es ++ extension m fails.last in
    let edges : Gathered (λ (e : RunEdge). IsEdge (layout_of m bound p) vs e.kind e.from e.to) = all_edges (layout_of m bound p) vs within in
    let nodes : Nodes m bound p k 0 (length k.events) = nodes_from m bound p k (length k.events) 0 (omega arith) in (
      record { nodes = nodes.list; entries = entries; edges = edges.list; verdict = n },
      record {
        fails = fails;
        entries = refl;
        trace = record { events = vs; happen = happen };
        size = nodes.count ∙ ap length same ∙ events_length (Buffered m bound) p (initial p) entries vs happen;
        nodes = λ j x at. subst (λ us. IsNode (layout_of m bound p) us j x) same (subst (λ q. IsNode (layout_of m bound p) k.events q x) (let q : 0 + j ≡ j = omega arith in q) (nodes.each j x at));
        edges = λ kind a b. edges.each (record { from = a; to = b; kind = kind });
        once = edges.once;
      },
      refl,
    )
  where
    within : (kind : EdgeKind) (a b : ℕ) → IsEdge (layout_of m bound p) vs kind a b → (a < length vs) × (b < length vs)
    within kind a b e =
        let low = leads_on p valid (layout_of m bound p) bound refl (es ++ extension m fails.last) vs happen kind a b e in
        let high = ends_within (layout_of m bound p) vs kind a b e in
        (omega (arith, low, high), high)

pub a_graph : (m : Model) (bound : Bounding) (p : Listing) (n : ℕ) (es : List Entry) → IsValid p → HasNoSection p → Fails (Buffered m bound) p n es → (g : RunGraph) × IsRunGraph m bound p es g × (g.verdict ≡ n)
a_graph m bound p n es valid calm fails =
    let it = happens_in (Buffered m bound) p es (initial p) fails.last fails.runs in
    let more = extension_runs m bound p fails.last in
    let happen = events_both m bound p es (extension m fails.last) (initial p) it.events more.happens it.happen
    (subst (λ s. events_of (Buffered m bound) p s (extension m fails.last) ≡ Some more.happens) (sym it.comes) more.are) in
    let r = run_of m bound p valid calm (es ++ extension m fails.last) (it.events ++ more.happens) happen in
    graph_of m bound p n es valid fails (it.events ++ more.happens) happen r.0 r.2
