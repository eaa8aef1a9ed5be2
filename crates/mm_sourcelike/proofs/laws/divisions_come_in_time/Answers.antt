use Rattle.mm_sourcelike.proofs.PlainThreads.{divides_in_time}
use Rattle.mm_sourcelike.proofs.laws.divisions_come_in_time.Goals as goal

pub returns : goal.returns
returns c = divides_in_time
