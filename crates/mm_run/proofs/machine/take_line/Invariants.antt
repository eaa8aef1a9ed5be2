use Rattle.std.proofs.Common.{◌≡◌, ◌-◌, replicate}
use Rattle.mm_run.proofs.Replaying.{HasTaken}
use Rattle.mm_run.proofs.machine.take_line.Given as goal

abbrev pub invariant-loop-taken : goal.invariant-loop-taken
invariant-loop-taken g l = (g.M.Machine.rules l.machine ≡ g.M.Machine.rules l.fn.machine) × (g.M.Machine.program l.machine ≡ g.M.Machine.program l.fn.machine)
    × HasTaken (g.M.Machine.rules l.fn.machine) (g.M.Machine.program l.fn.machine) (g.M.Machine.state l.fn.machine) (replicate l.line.count l.line.item) (g.M.Machine.state l.machine) l.taken (replicate (l.line.count - l.taken) l.line.item)
