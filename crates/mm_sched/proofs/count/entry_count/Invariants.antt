use Rattle.std.proofs.Common.{◌≡◌, ◌-◌, ◌^◌, min, take, length}
use Rattle.mm_sched.specs.ScheduleText.{entries_in}
use Rattle.mm_sched.proofs.count.entry_count.Given as goal

abbrev pub invariant-loop-line : goal.invariant-loop-line
invariant-loop-line l = l.entries ≡ min (length (entries_in (take l.line-index l.lines))) (2 ^ 64 - 1)
