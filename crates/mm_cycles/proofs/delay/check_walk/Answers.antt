use Rattle.std.proofs.Common.{ℕ}
use Rattle.mm_goto.specs.DelayCycles.{Unsafe, Edge}
use Rattle.mm_goto.specs.Sites.{Com, Between}
use Rattle.mm_graph.specs.Graphs.{ComIn, EdgeIn}
use Rattle.mm_cycles.specs.Links.{UnsafeIn}
use Rattle.mm_cycles.specs.Walks.{walked}
use Rattle.mm_cycles.proofs.Transfer.{cycle_same, agree_turn}
use Rattle.mm_cycles.proofs.UnsafePairs.{agree}
use Rattle.mm_cycles.proofs.delay.check_walk.Goals as goal

pub returns : goal.returns
returns c = λ p is.
    let U : ℕ → ℕ → Type 0 = UnsafeIn c.args.graph.now c.args.model in
    let C : ℕ → ℕ → Type 0 = ComIn c.args.graph.now in
    let E : ℕ → ℕ → Type 0 = EdgeIn c.args.graph.now in
    let V : ℕ → ℕ → Type 0 = Between p (Unsafe p c.args.model) in
    let D : ℕ → ℕ → Type 0 = Between p (Com p) in
    let F : ℕ → ℕ → Type 0 = Between p (Edge p) in
    let same = agree p c.args.graph.now c.args.model is in (
      λ h. cycle_same U C E V D F same (walked c.args.walk.now) (c.is_cycle.ensures.0 h),
      λ cycle. c.is_cycle.ensures.1 (cycle_same V D F U C E (agree_turn U C E V D F same) (walked c.args.walk.now) cycle),
    )
