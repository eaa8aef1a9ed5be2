use Rattle.mm_sched.proofs.Turns.{step_at, in_at}
use Rattle.mm_sched.proofs.laws.kinds.a_thread_steps_where_it_may.Goals as goal

pub returns-clause-step : goal.returns-clause-step
returns-clause-step c = step_at

pub returns-clause-input : goal.returns-clause-input
returns-clause-input c = in_at
