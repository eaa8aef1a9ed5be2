use Rattle.mm_sourcelike.proofs.Ordering.{joins_follow}
use Rattle.mm_sourcelike.proofs.laws.main_waits_for_started_threads.Goals as goal

pub returns : goal.returns
returns c = joins_follow
