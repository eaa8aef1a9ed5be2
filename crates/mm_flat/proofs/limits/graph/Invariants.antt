use Rattle.std.proofs.Common.{◌≡◌, ◌++◌, drop, map}
use Rattle.mm_flat.specs.reading.Nesting.{called_by}
use Rattle.mm_flat.proofs.limits.graph.Given as goal

abbrev pub invariant-loop-item : goal.invariant-loop-item
invariant-loop-item l = map (called_by l.items) l.items ≡ l.out.items ++ map (called_by l.items) (drop l.item-index l.item-items)
