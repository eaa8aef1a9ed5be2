use Rattle.std.proofs.Common.{◌≡◌, ◌++◌, map, take}
use Rattle.mm_rungraph.specs.Extension.{flush_entry}
use Rattle.mm_rungraph.proofs.entries.add_flushes.Given as goal

abbrev pub invariant-loop-store : goal.invariant-loop-store
invariant-loop-store l = l.entries.items ≡ l.initial.entries.items ++ map (flush_entry l.model l.t) (take l.store-index l.stores)
