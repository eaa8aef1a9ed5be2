use Rattle.std.proofs.Common.{map, take}
use Rattle.serde_json.specs.View.{view}
use Rattle.mm_report.specs.Reports.{AreReported}
use Rattle.mm_report.proofs.reporting.notes_values.Given as goal

abbrev pub invariant-notes : goal.invariant-notes
invariant-notes l = AreReported l.program (take l.note-index l.notes) (map view l.values.items)
