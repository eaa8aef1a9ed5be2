use Rattle.std.proofs.Common.{◌≡◌, ◌++◌, drop}
use Rattle.mm_flow.specs.Programs.{mutexes_in}
use Rattle.mm_flat.proofs.gather.mutexes_in.Given as goal

abbrev pub invariant-loop-item : goal.invariant-loop-item
invariant-loop-item l = mutexes_in l.items ≡ l.out.items ++ mutexes_in (drop l.item-index l.items)
