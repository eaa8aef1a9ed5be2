use Rattle.mm_sched.proofs.Quiet.{run-quiet}
use Rattle.mm_sched.proofs.laws.runs.nothing_is_pending_under_sc.Goals as goal

pub returns : goal.returns
returns c = run-quiet
