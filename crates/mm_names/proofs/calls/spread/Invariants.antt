use Rattle.std.proofs.Common.{◌≡◌, ℕ, ◌<◌, ◌≤◌, true, false, sum_by, slice_index_or}
use Rattle.mm_names.specs.reading.Marks.{unmarked, AreReached, IsClosedAt}
use Rattle.mm_names.proofs.calls.spread.Given as goal

abbrev pub invariant-loop-call : goal.invariant-loop-call
invariant-loop-call l = record {
  reached : AreReached l.calls l.from l.marks;
  start : slice_index_or l.initial.marks l.from false ≡ true → slice_index_or l.marks l.from false ≡ true;
  more : l.changed ≡ true → sum_by unmarked l.marks < sum_by unmarked l.initial.marks;
  fewer : sum_by unmarked l.marks ≤ sum_by unmarked l.initial.marks;
  same : l.changed ≡ false → l.marks ≡ l.initial.marks;
  closed : l.changed ≡ false → ((k : ℕ) → k < l.call-index → IsClosedAt l.marks l.calls k);
}
