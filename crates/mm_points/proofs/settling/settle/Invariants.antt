use Rattle.std.proofs.Common.{◌≡◌, ℕ, length}
use Rattle.mm_points.specs.Sets.{Linked}
use Rattle.mm_points.specs.reading.Rules.{Holds, holder}
use Rattle.mm_points.proofs.settling.settle.Given as goal

abbrev pub invariant-sweeps : goal.invariant-sweeps
invariant-sweeps l = record {
  size : length l.sets ≡ length l.fn.sets;
  sound : (a b : ℕ) → Linked l.sets a b → Holds l.rules l.pointers (holder a) b;
}
