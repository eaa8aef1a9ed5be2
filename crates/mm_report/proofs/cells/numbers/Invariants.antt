use Rattle.std.proofs.Common.{◌≡◌, map, take}
use Rattle.serde_json.specs.View.{view}
use Rattle.mm_report.specs.Reports.{number_data}
use Rattle.mm_report.proofs.cells.numbers.Given as goal

abbrev pub invariant-numbers : goal.invariant-numbers
invariant-numbers l = map view l.values.items ≡ map number_data (take l.number-index l.numbers)
