use Rattle.std.proofs.Common.{◌≡◌, ◌++◌, length}
use Rattle.mm_instr.specs.Woven.{thread_items}
use Rattle.mm_instr.proofs.functions.put_threads.Given as goal

abbrev pub decreases-loop-rest : goal.decreases-loop-rest
decreases-loop-rest l = length l.rest

abbrev pub invariant-loop-rest : goal.invariant-loop-rest
invariant-loop-rest l =
    l.out.items ++ thread_items l.program l.shape l.buffers l.addresses l.u l.rest
    ≡ l.initial.out.items ++ thread_items l.program l.shape l.buffers l.addresses 1 l.threads
