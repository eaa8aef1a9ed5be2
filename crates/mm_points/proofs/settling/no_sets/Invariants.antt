use Rattle.std.proofs.Common.{◌≡◌, ℕ, length}
use Rattle.mm_points.specs.Sets.{Linked}
use Rattle.mm_points.proofs.settling.no_sets.Given as goal

abbrev pub invariant-holders : goal.invariant-holders
invariant-holders l = record {
  size : length l.sets.items ≡ l.counter;
  none : (a b : ℕ) → ¬ (Linked l.sets.items a b);
}
