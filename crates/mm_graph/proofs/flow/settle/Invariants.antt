use Rattle.std.proofs.Common.{◌≡◌, ℕ, ◌<◌, false, length, slice_index_or}
use Rattle.mm_goto.specs.Flow.{IsSuccessor}
use Rattle.mm_goto.specs.Sites.{FlowsBy}
use Rattle.mm_bits.proofs.Missing.{missing}
use Rattle.mm_graph.specs.reading.Marks.{Marked, passes_where}
use Rattle.mm_graph.proofs.flow.settle.Given as goal

abbrev pub invariant-sweeps : goal.invariant-sweeps
invariant-sweeps l = record {
  places : length l.seen ≡ length l.code;
  sound : (m : ℕ) → Marked l.seen m → FlowsBy (passes_where l.all) l.code l.from m;
  first : (m : ℕ) → IsSuccessor l.code l.from m → m < length l.code → Marked l.seen m;
}

abbrev pub decreases-sweeps : goal.decreases-sweeps
decreases-sweeps l = missing (λ k. slice_index_or l.seen k false) (length l.code)
