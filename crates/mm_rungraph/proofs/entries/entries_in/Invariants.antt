use Rattle.std.proofs.Common.{◌≡◌, take}
use Rattle.mm_sched.specs.ScheduleText.{entries_in}
use Rattle.mm_rungraph.proofs.entries.entries_in.Given as goal

abbrev pub invariant-loop-line : goal.invariant-loop-line
invariant-loop-line l = l.entries.items ≡ entries_in (take l.line-index l.lines)
