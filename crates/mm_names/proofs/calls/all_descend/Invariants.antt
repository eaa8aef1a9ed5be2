use Rattle.std.proofs.Common.{ℕ, ◌<◌}
use Rattle.mm_names.specs.reading.Marks.{DescendsAt}
use Rattle.mm_names.proofs.calls.all_descend.Given as goal

abbrev pub invariant-loop-call : goal.invariant-loop-call
invariant-loop-call l = (k : ℕ) → k < l.call-index → DescendsAt l.limit l.ranks l.calls k
