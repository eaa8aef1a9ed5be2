use Rattle.mm_delay.proofs.Noting.{notes_within}
use Rattle.mm_run.specs.Answer.{ReportsCycles}
use Rattle.mm_run.proofs.cycles.reported.Goals as goal

pub report-requires-clause-notes : goal.report-requires-clause-notes
report-requires-clause-notes c = notes_within c.args.program.now c.args.model c.in_ok-head.head.notes (c.in_ok-head.ensures c.args.program.now c.requires).notes

pub returns : goal.returns
returns c = rw c.in_ok-push_str.ensures.bytes (ReportsCycles.reported c.in_ok-head.head c.requires.small (c.in_ok-head.ensures c.args.program.now c.requires) c.in_ok-output.ensures)
