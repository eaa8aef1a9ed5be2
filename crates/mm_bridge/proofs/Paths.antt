-- A path of a run's edges between steps of sites, which passes only steps of no site.
use Rattle.std.proofs.Common.{ℕ, ◌⊎◌, inl, inr, List, subst}
use Rattle.mm_goto.specs.Bounds.{Bounding}
use Rattle.mm_goto.specs.declared.model.Model.{Model}
use Rattle.mm_goto.specs.declared.spot.Spot.{Spot}
use Rattle.mm_goto.specs.DelayCycles.{Edge}
use Rattle.mm_goto.specs.Listing.{Listing}
use Rattle.mm_goto.specs.Sourcelike.{IsSourcelike}
use Rattle.mm_sched.specs.declared.entry.Entry.{Entry}
use Rattle.mm_sched.specs.declared.entry.Event.{Event}
use Rattle.mm_sched.specs.declared.entry.Rules.TheVariants.{Buffered}
use Rattle.mm_runkeys.specs.declared.graph.EdgeKind.{EdgeKind}
use Rattle.mm_rungraph.specs.Edges.{IsEdge}
use Rattle.mm_rungraph.specs.RunGraph.{layout_of}
use Rattle.mm_rungraph.specs.Traces.{Trace}
use Rattle.mm_rungraph.proofs.Concluding.{ends_within}
use Rattle.mm_reorder.proofs.Course.{Course}
use Rattle.mm_reorder.proofs.Coursing.{run_of}
use Rattle.mm_keeping.proofs.Stepping.{get_there}
use Rattle.mm_bridge.specs.Steps.{IsOf, IsOfNone, Path, edge, on, IsIssue}
use Rattle.mm_bridge.proofs.Showing.{calm, Plain, Into, classified}
use Rattle.mm_bridge.proofs.Between.{one_edge}
use Rattle.mm_bridge.proofs.Passing.{first, next, last}

-- the law, told of what happens
abbrev PathsAreEdges : Model → Bounding → Listing → List Event → Type 0
PathsAreEdges m bound p vs =
    (a b : ℕ) (s t : Spot) → IsOf (layout_of m bound p) p vs a s → IsOf (layout_of m bound p) p vs b t →
    (path : Path (IsEdge (layout_of m bound p) vs) (IsOfNone (layout_of m bound p) p vs) b a) → Edge p s t ⊎ IsIssue path

module _ (m : Model) (bound : Bounding) (p : Listing) (source : IsSourcelike p) (k : Course m bound p) where
  -- a step of no site at the end of an edge
  plain_of : (kind : EdgeKind) (a c : ℕ) → IsEdge (layout_of m bound p) k.events kind a c → IsOfNone (layout_of m bound p) p k.events c → Plain m bound p source k c
  plain_of kind a c e none = let v = get_there k.events c (ends_within (layout_of m bound p) k.events kind a c e) in go (classified m bound p source k c v.0 v.1)
    where
      go : ((s : Spot) × IsOf (layout_of m bound p) p k.events c s) ⊎ Plain m bound p source k c → Plain m bound p source k c
      go (inl seen) = absurd (none seen.0 seen.1)
      go (inr plain) = plain

  goes_on : (b n : ℕ) (s t : Spot) → Plain m bound p source k n → IsOf (layout_of m bound p) p k.events b t → Into m bound p source k s n →
      Path (IsEdge (layout_of m bound p) k.events) (IsOfNone (layout_of m bound p) p k.events) b n → Edge p s t
  goes_on b n s t plain y into (edge kind e) = last m bound p source k kind n b s t plain y into e
  goes_on b n s t plain y into (on kind c e none rest) =
      let other = plain_of kind n c e none in
      goes_on b c s t other y (next m bound p source k kind n c s plain other into e) rest

  path_edge : PathsAreEdges m bound p k.events
  path_edge a b s t x y (edge kind e) = one_edge m bound p source k kind a b s t x y e
  path_edge a b s t x y (on kind c e none rest) =
      let plain = plain_of kind a c e none in
      inl (goes_on b c s t plain y (first m bound p source k c plain kind a s x.shows e) rest)

pub paths_are_edges : (m : Model) (bound : Bounding) (p : Listing) (es : List Entry) (run : Trace (Buffered m bound) p es) → IsSourcelike p → PathsAreEdges m bound p run.events
paths_are_edges m bound p es run source =
    let r = run_of m bound p source.valid (calm p source) es run.events run.happen in
    subst (PathsAreEdges m bound p) r.2 (path_edge m bound p source r.0)
