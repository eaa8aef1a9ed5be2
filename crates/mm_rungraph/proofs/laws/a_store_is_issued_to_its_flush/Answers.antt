use Rattle.mm_rungraph.proofs.Holding.{issued}
use Rattle.mm_rungraph.proofs.laws.a_store_is_issued_to_its_flush.Goals as goal

pub returns : goal.returns
returns c = issued
