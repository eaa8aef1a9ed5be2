use Rattle.std.proofs.Common.{◌≡◌, drop}
use Rattle.mm_sched.specs.ScheduleText.{entries_in}
use Rattle.mm_run.proofs.Replaying.{HasTaken}
use Rattle.mm_run.proofs.machine.take_lines.Given as goal

abbrev pub invariant-loop-line : goal.invariant-loop-line
invariant-loop-line g l = (g.M.Machine.rules l.machine ≡ g.M.Machine.rules l.fn.machine) × (g.M.Machine.program l.machine ≡ g.M.Machine.program l.fn.machine)
    × HasTaken (g.M.Machine.rules l.fn.machine) (g.M.Machine.program l.fn.machine) (g.M.Machine.state l.fn.machine) (entries_in l.lines) (g.M.Machine.state l.machine) l.taken (entries_in (drop l.line-index l.lines))
