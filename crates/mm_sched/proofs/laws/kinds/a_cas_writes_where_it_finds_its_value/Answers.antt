use Rattle.mm_sched.proofs.Kindwise.{cas_misses}
use Rattle.mm_sched.proofs.laws.kinds.a_cas_writes_where_it_finds_its_value.Goals as goal

pub returns-clause-misses : goal.returns-clause-misses
returns-clause-misses c = cas_misses
