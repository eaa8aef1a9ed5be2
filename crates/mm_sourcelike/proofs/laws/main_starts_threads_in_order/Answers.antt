use Rattle.mm_sourcelike.proofs.Ordering.{starts_rise}
use Rattle.mm_sourcelike.proofs.laws.main_starts_threads_in_order.Goals as goal

pub returns : goal.returns
returns c = starts_rise
