use Rattle.std.proofs.Common.{◌≡◌, ℕ, ◌<◌, true, false, length}
use Rattle.mm_goto.specs.Flow.{IsSuccessor}
use Rattle.mm_goto.specs.Sites.{FlowsBy, PassesAt}
use Rattle.mm_graph.specs.reading.Marks.{Marked, passes_where}
use Rattle.mm_graph.proofs.flow.sweep.Given as goal

abbrev pub invariant-places : goal.invariant-places
invariant-places l = record {
  places : length l.seen ≡ length l.code;
  sound : (m : ℕ) → Marked l.seen m → FlowsBy (passes_where l.all) l.code l.from m;
  keeps : (m : ℕ) → Marked l.fn.seen m → Marked l.seen m;
  stays : l.grew ≡ false → (m : ℕ) → Marked l.seen m → Marked l.fn.seen m;
  grows : l.grew ≡ true → (m : ℕ) × (m < length l.code) × Marked l.seen m × ¬ (Marked l.fn.seen m);
  closed : l.grew ≡ false → (i m : ℕ) → i < l.j → Marked l.fn.seen i → PassesAt (passes_where l.all) l.code i → IsSuccessor l.code i m → m < length l.code → Marked l.fn.seen m;
}
