use Rattle.std.proofs.Common.{◌≡◌, ◌++◌, drop, map}
use Rattle.mm_flat.specs.reading.Nesting.{not_empty}
use Rattle.mm_flat.proofs.limits.deep_first.Given as goal

abbrev pub invariant-loop-called : goal.invariant-loop-called
invariant-loop-called l = map not_empty l.graph ≡ l.out.items ++ map not_empty (drop l.called-index l.graph)
