use Rattle.std.proofs.Common.{◌≡◌, ◌++◌, false, map, take}
use Rattle.mm_sched.specs.State.{at_start}
use Rattle.mm_sched.proofs.interpreter.add_at_start.Given as goal

abbrev pub invariant-loop-thread : goal.invariant-loop-thread
invariant-loop-thread l = l.frames.items ≡ l.initial.frames.items ++ map (at_start false) (take l.thread-index l.others)
