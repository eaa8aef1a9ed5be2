use Rattle.std.proofs.Common.{◌≡◌, ◌++◌, length}
use Rattle.mm_instr.specs.Woven.{woven_code}
use Rattle.mm_instr.proofs.functions.put_code.Given as goal

abbrev pub decreases-loop-rest : goal.decreases-loop-rest
decreases-loop-rest l = length l.rest

abbrev pub invariant-loop-rest : goal.invariant-loop-rest
invariant-loop-rest l =
    l.out.items ++ woven_code l.program l.shape l.buffers l.addresses l.t l.i l.rest
    ≡ l.initial.out.items ++ woven_code l.program l.shape l.buffers l.addresses l.t 0 l.code
