use Rattle.std.proofs.Common.{◌≡◌}
use Rattle.mm_flat.specs.reading.Nesting.{deep_after}
use Rattle.mm_flat.proofs.limits.deep_after.Given as goal

abbrev pub invariant-loop-i : goal.invariant-loop-i
invariant-loop-i l = l.deep.items ≡ deep_after l.graph l.i
