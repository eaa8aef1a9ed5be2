use Rattle.mm_sourcelike.proofs.PlainThreads.{checks_alone}
use Rattle.mm_sourcelike.proofs.laws.checks_stand_alone.Goals as goal

pub returns : goal.returns
returns c = checks_alone
