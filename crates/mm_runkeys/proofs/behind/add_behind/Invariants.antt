use Rattle.std.proofs.Common.{◌≡◌, ◌++◌, take}
use Rattle.mm_runkeys.specs.reading.Behind.{behind}
use Rattle.mm_runkeys.proofs.behind.add_behind.Given as goal

abbrev pub invariant-loop-t : goal.invariant-loop-t
invariant-loop-t l = l.edges.items ≡ l.initial.edges.items ++ behind l.flushes l.nexts (take l.t-index l.taken)
