use Rattle.mm_rungraph.proofs.Holding.{forward}
use Rattle.mm_rungraph.proofs.laws.each_edge_leads_forward.Goals as goal

pub returns : goal.returns
returns c = forward
