use Rattle.std.proofs.Common.{◌≡◌, ◌++◌, map, length}
use Rattle.mm_words.specs.Words.{mutex}
use Rattle.mm_instr.proofs.items.put_mutexes.Given as goal

abbrev pub decreases-loop-rest : goal.decreases-loop-rest
decreases-loop-rest l = length l.rest

abbrev pub invariant-loop-rest : goal.invariant-loop-rest
invariant-loop-rest l = l.out.items ++ map mutex l.rest ≡ l.initial.out.items ++ map mutex l.mutexes
