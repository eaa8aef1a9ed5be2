use Rattle.std.proofs.Common.{◌≡◌, ◌+◌, take}
use Rattle.mm_rungraph.specs.reading.Walking.{Leads, Goes}
use Rattle.mm_rungraph.proofs.walk.Walk.take.Given as goal

abbrev pub invariant-loop-i : goal.invariant-loop-i
invariant-loop-i l = record {
  goes : Goes l.rules l.program l.layout l.self;
  count : l.self.marks.count ≡ l.initial.self.marks.count + l.i;
  leads : Leads l.rules l.program l.layout l.initial.self (take l.i l.entries) l.self;
}
