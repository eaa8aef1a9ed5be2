use Rattle.std.proofs.Common.{◌≡◌, ◌++◌, drop, map}
use Rattle.mm_flat.specs.reading.Nesting.{has_deep}
use Rattle.mm_flat.proofs.limits.deep_next.Given as goal

abbrev pub invariant-loop-called : goal.invariant-loop-called
invariant-loop-called l = map (has_deep l.deep) l.graph ≡ l.out.items ++ map (has_deep l.deep) (drop l.called-index l.graph)
