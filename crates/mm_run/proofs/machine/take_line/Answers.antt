use Rattle.mm_run.proofs.Replaying.{entry_stuck}
use Rattle.mm_run.proofs.machine.take_line.Goals as goal

pub returns-in-Err-clause-taken : goal.returns-in-Err-clause-taken
returns-in-Err-clause-taken g c = entry_stuck _ _ _ _ _ _ _ c.loop-taken.invariant.2 c.loop-taken-test.true _ _ c.loop-taken.invariant.0 c.loop-taken.invariant.1 c.in-Err.ensures.step.0
