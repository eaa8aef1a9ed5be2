use Rattle.std.proofs.Common.{◌≡◌, true, false, length, sum_by, slice_index_or}
use Rattle.mm_names.specs.reading.Marks.{unmarked, AreReached}
use Rattle.mm_names.proofs.calls.reaches.Given as goal

abbrev pub decreases-loop : goal.decreases-loop
decreases-loop l = sum_by unmarked l.marks.items

abbrev pub invariant-loop : goal.invariant-loop
invariant-loop l = record {
  reached : AreReached l.calls l.from l.marks.items;
  start : slice_index_or l.marks.items l.from false ≡ true;
  long : length l.marks.items ≡ l.functions;
}
