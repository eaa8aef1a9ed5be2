use Rattle.mm_points.proofs.settling.solve.Goals as goal

pub settle-requires-clause-none : goal.settle-requires-clause-none
settle-requires-clause-none c = rw c.as_mut_slice.ensures.value c.in_ok-sets.ensures.none
