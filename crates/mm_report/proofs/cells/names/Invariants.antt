use Rattle.std.proofs.Common.{◌≡◌, map, take}
use Rattle.serde_json.specs.View.{view}
use Rattle.mm_report.specs.Reports.{name_data}
use Rattle.mm_report.proofs.cells.names.Given as goal

abbrev pub invariant-numbers : goal.invariant-numbers
invariant-numbers l = map view l.names.items ≡ map (name_data l.cells) (take l.number-index l.numbers)
