use Rattle.std.proofs.Common.{◌≡◌, drop}
use Rattle.mm_flow.specs.reading.Assembling.{with_flow}
use Rattle.mm_flow.specs.Statements.{sets}
use Rattle.mm_flat_stmt.proofs.calls.set_all.Given as goal

abbrev pub invariant-loop-e : goal.invariant-loop-e
invariant-loop-e l = with_flow l.context (sets l.fn.at l.pures l.fn.first) l.fn.code ≡ with_flow l.context (sets l.fn.at (drop l.e-index l.pures) l.number) l.code
