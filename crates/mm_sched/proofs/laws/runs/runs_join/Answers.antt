use Rattle.mm_sched.proofs.Joins.{run-append}
use Rattle.mm_sched.proofs.laws.runs.runs_join.Goals as goal

pub returns : goal.returns
returns c = run-append
