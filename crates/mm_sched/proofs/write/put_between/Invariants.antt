use Rattle.std.proofs.Common.{◌≡◌, ◌<◌, ◌++◌, drop, string_bytes}
use Rattle.mm_sched.specs.declared.schedule.TheConstants.{FULL}
use Rattle.mm_sched.specs.ScheduleText.{entries_in}
use Rattle.mm_sched.specs.Spelling.{spelled_lines}
use Rattle.mm_sched.specs.reading.Writing.{lines_text}
use Rattle.mm_sched.proofs.Spelled.{spelled_with}
use Rattle.mm_sched.proofs.write.put_between.Given as goal

abbrev pub invariant-loop-line : goal.invariant-loop-line
invariant-loop-line l = (string_bytes l.out ++ lines_text (spelled_with l.held (entries_in (drop l.line-index l.lines))) ≡ string_bytes l.fn.out ++ lines_text (spelled_lines (entries_in l.lines))) × (l.held.steps < FULL)
