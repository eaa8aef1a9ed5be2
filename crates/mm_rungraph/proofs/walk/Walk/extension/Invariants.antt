use Rattle.std.proofs.Common.{◌≡◌, take}
use Rattle.mm_rungraph.specs.Extension.{thread_flushes}
use Rattle.mm_rungraph.proofs.walk.Walk.extension.Given as goal

abbrev pub invariant-loop-t : goal.invariant-loop-t
invariant-loop-t l = l.entries.items ≡ thread_flushes l.model (take l.t l.self.state.pending) 0
