use Rattle.std.proofs.Common.{◌≡◌, length}
use Rattle.mm_run.proofs.Writing.{Writes}
use Rattle.mm_run.proofs.output.write_output.Given as goal

abbrev pub invariant-loop-rest : goal.invariant-loop-rest
invariant-loop-rest g l = (Writes (g.O.Sink.taken l.fn.output) (g.O.Sink.taken l.output) l.text l.rest) × (g.O.Sink.faults l.output ≡ g.O.Sink.faults l.fn.output)

abbrev pub decreases-loop-rest : goal.decreases-loop-rest
decreases-loop-rest g l = length l.rest
