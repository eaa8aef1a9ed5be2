-- What fails with store buffers fails with those of a plan alone, and the other way.
use Rattle.std.proofs.Common.{◌↔◌, ℕ, List, subst}
use Rattle.mm_goto.specs.Bounds.{Bounding, IsBound}
use Rattle.mm_goto.specs.declared.model.Model.{Model}
use Rattle.mm_goto.specs.declared.shape.Head.{Head}
use Rattle.mm_goto.specs.declared.shape.Shape.{Shape}
use Rattle.mm_goto.specs.Listing.{Listing}
use Rattle.mm_goto.specs.Sourcelike.{IsSourcelike}
use Rattle.mm_delay.specs.Plans.{IsPlanOf}
use Rattle.mm_sched.specs.declared.entry.Entry.{Entry}
use Rattle.mm_sched.specs.declared.entry.Rules.TheVariants.{Buffered, Partial}
use Rattle.mm_sched.specs.Runs.{Fails, FailAlike, Reaches}
use Rattle.mm_bridge.proofs.Cycles.{a_run, planned}
use Rattle.mm_bridge.proofs.Showing.{calm}
use Rattle.mm_part.proofs.Failing.{fails_alike}
use Rattle.mm_enough.proofs.Graphs.{a_graph}

module _ (m : Model) (bound : Bounding) (p : Listing) (shape : Shape) (head : Head) (source : IsSourcelike p) (plan : IsPlanOf p m bound shape head) where
  pub found : (n : ℕ) (es : List Entry) → Fails (Buffered m bound) p n es → (fs : List Entry) × FailAlike (Buffered m bound) (Partial m bound shape.buffered) p p n es fs
  found n es fails =
      let g = a_graph m bound p n es source.valid (calm p source) fails in
      subst (λ v. (fs : List Entry) × FailAlike (Buffered m bound) (Partial m bound shape.buffered) p p v es fs) g.2
      (a_run m bound p source shape.buffered es g.0 g.1 (planned p m bound shape head plan))

  pub same : IsBound bound → (n : ℕ) → Reaches (Buffered m bound) p n ↔ Reaches (Partial m bound shape.buffered) p n
  same b n = (
    λ r. let it = found n r.0 r.1 in (it.0, it.1.other),
    λ r. let it = fails_alike m bound shape.buffered p n r.0 source.valid b r.1 in (it.0, it.1.other),
  )
