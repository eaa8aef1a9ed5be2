use Rattle.mm_reorder.proofs.Deciding.{order_or_overtaken}
use Rattle.mm_reorder.proofs.laws.an_order_is_there_or_a_store_is_overtaken.Goals as goal

pub returns : goal.returns
returns c = order_or_overtaken
