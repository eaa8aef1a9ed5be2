use Rattle.mm_rungraph.proofs.Holding.{emptied}
use Rattle.mm_rungraph.proofs.laws.nothing_is_pending_at_the_end.Goals as goal

pub returns : goal.returns
returns c = emptied
