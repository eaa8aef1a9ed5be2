-- A cycle of a run's edges gives a store with a delay cycle, and where the set has all of these a failing run is carried.
use Rattle.std.proofs.Common.{◌≡◌, ℕ, ⊎_elim, List, refl, Bool, sym, ◌∙◌, subst, slice_get}
use Rattle.std.proofs.lemmas.Bool.{false≢true}
use Rattle.mm_goto.specs.Bounds.{Bounding}
use Rattle.mm_goto.specs.declared.model.Model.{Model}
use Rattle.mm_goto.specs.declared.shape.Head.{Head}
use Rattle.mm_goto.specs.declared.shape.Shape.{Shape}
use Rattle.mm_goto.specs.declared.spot.Spot.{Spot}
use Rattle.mm_goto.specs.Listing.{Listing}
use Rattle.mm_goto.specs.Sites.{sites}
use Rattle.mm_goto.specs.Sourcelike.{IsSourcelike}
use Rattle.mm_delay.specs.Plans.{IsPlanOf}
use Rattle.mm_sched.specs.declared.entry.Entry.{Entry}
use Rattle.mm_sched.specs.declared.entry.Rules.TheVariants.{Buffered, Partial}
use Rattle.mm_sched.specs.Runs.{FailAlike}
use Rattle.mm_rungraph.specs.declared.graph.RunGraph.{RunGraph}
use Rattle.mm_rungraph.specs.RunGraph.{layout_of, IsRunGraph}
use Rattle.mm_rungraph.specs.Traces.{Trace}
use Rattle.mm_reorder.specs.Cycles.{Cycle, Link, IsOvertaken}
use Rattle.mm_reorder.specs.Orders.{KeepsEdges}
use Rattle.mm_reorder.proofs.Carrying.{carried}
use Rattle.mm_reorder.proofs.Coursing.{run_of}
use Rattle.mm_reorder.proofs.Cycling.{cycle_law}
use Rattle.mm_reorder.proofs.Deciding.{order_or_overtaken}
use Rattle.mm_bridge.specs.Steps.{Lacks, HasDelayed}
use Rattle.mm_bridge.proofs.Delayed.{lacks}
use Rattle.mm_bridge.proofs.Showing.{calm}
use Rattle.mm_bridge.proofs.WaysBack.{of_there}

module _ (m : Model) (bound : Bounding) (p : Listing) (source : IsSourcelike p) (set : List (List Bool)) where
  -- an overtaken store has a delay cycle
  overtaken_lacks : (es : List Entry) (run : Trace (Buffered m bound) p es) (store : ℕ) → IsOvertaken (layout_of m bound p) p set run.events store → Lacks p m set
  overtaken_lacks es run store o =
      let r = run_of m bound p source.valid (calm p source) es run.events run.happen in
      lacks m bound p source r.0 set store (subst (λ vs. IsOvertaken (layout_of m bound p) p set vs store) (sym r.2) o)

  pub cycle_lacks : (es : List Entry) (run : Trace (Buffered m bound) p es) (a : ℕ) → Cycle (Link (layout_of m bound p) p set run.events) a → Lacks p m set
  cycle_lacks es run a cycle =
      let r = run_of m bound p source.valid (calm p source) es run.events run.happen in
      let o = cycle_law m bound p r.0 set a (subst (λ vs. Cycle (Link (layout_of m bound p) p set vs) a) (sym r.2) cycle) in
      lacks m bound p source r.0 set o.0 o.1

  pub none_lacking : HasDelayed p m set → Lacks p m set → ⊥
  none_lacking has l = false≢true (sym l.outside ∙ has l.number l.site l.at l.cycle)

  module _ (es : List Entry) (g : RunGraph) (graph : IsRunGraph m bound p es g) (has : HasDelayed p m set) where
    never_overtaken : (store : ℕ) → IsOvertaken (layout_of m bound p) p set graph.trace.events store → ⊥
    never_overtaken store o = none_lacking has (overtaken_lacks g.entries graph.trace store o)

    pub an_order : (order : List ℕ) × KeepsEdges (layout_of m bound p) p set g graph.trace.events order
    an_order = ⊎_elim (λ q. q) (λ q. absurd (never_overtaken q.0 q.1)) (order_or_overtaken m bound p es g graph source.valid (calm p source) set)

    pub a_run : (fs : List Entry) × FailAlike (Buffered m bound) (Partial m bound set) p p g.verdict es fs
    a_run = ⊎_elim (λ q. q) (λ q. absurd (never_overtaken q.0 q.1)) (carried m bound p es g graph source.valid (calm p source) set)

-- the set of a plan
pub planned : (p : Listing) (m : Model) (bound : Bounding) (shape : Shape) (head : Head) → IsPlanOf p m bound shape head → HasDelayed p m shape.buffered
planned p m bound shape head plan number site at cycle = (plan.buffered site.thread site.index).1 (number, of_there (λ (x : Spot). (x.thread ≡ site.thread) × (x.index ≡ site.index)) (slice_get (sites p) number) site at (refl, refl), cycle)
