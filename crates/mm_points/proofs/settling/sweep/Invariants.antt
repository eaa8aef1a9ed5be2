use Rattle.mm_points.proofs.Growing.{SoFar}
use Rattle.mm_points.proofs.settling.sweep.Given as goal

abbrev pub invariant-each : goal.invariant-each
invariant-each l = SoFar l.rules l.pointers l.fn.sets l.sets l.grew l.i
