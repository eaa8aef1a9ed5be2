use Rattle.std.proofs.Common.{◌≡◌, ◌++◌, replicate, string_bytes}
use Rattle.mm_sched.specs.ScheduleText.{times}
use Rattle.mm_sched.specs.reading.Writing.{lines_text}
use Rattle.mm_sched.proofs.write.put_lines.Given as goal

abbrev pub invariant-loop-written : goal.invariant-loop-written
invariant-loop-written l = string_bytes l.out ≡ string_bytes l.fn.out ++ lines_text (replicate l._written (times l.item 1))
