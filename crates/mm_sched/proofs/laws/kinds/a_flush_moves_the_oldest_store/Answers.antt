use Rattle.mm_sched.proofs.Kindwise.{flush_sc}
use Rattle.mm_sched.proofs.laws.kinds.a_flush_moves_the_oldest_store.Goals as goal

pub returns-clause-sc : goal.returns-clause-sc
returns-clause-sc c = flush_sc
