use Rattle.std.proofs.Common.{◌≡◌, length}
use denote.Shadow.{shadow}
use denote.Text.{Utf8}
use Rattle.mm_sched.specs.declared.read.Stage.TheVariants.{First}
use Rattle.mm_sched.specs.reading.Reading.{onto, read_text}
use Rattle.mm_sched.proofs.InTime.{IsInTime}
use Rattle.mm_sched.proofs.read.read_text.Given as goal

abbrev pub invariant-loop-line : goal.invariant-loop-line
invariant-loop-line l = (onto l.lines.items (read_text l.stage l.number l.rest) ≡ read_text First 1 l.text) × IsInTime l.stage l.number × shadow (Utf8 l.rest)

abbrev pub decreases-loop-line : goal.decreases-loop-line
decreases-loop-line l = length l.rest
