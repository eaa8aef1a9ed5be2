use Rattle.std.proofs.Common.{◌≡◌, None, map, take}
use Rattle.mm_sched.proofs.interpreter.owners_at_start.Given as goal

abbrev pub invariant-loop : goal.invariant-loop
invariant-loop l = l.owners.items ≡ map (λ name. None) (take l.index l.mutexes)
