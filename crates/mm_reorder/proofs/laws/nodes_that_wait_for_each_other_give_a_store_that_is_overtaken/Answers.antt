use Rattle.mm_reorder.proofs.Waiting.{waiting}
use Rattle.mm_reorder.proofs.laws.nodes_that_wait_for_each_other_give_a_store_that_is_overtaken.Goals as goal

pub returns : goal.returns
returns c = λ m bound p es g graph valid calm set node others h. waiting m bound p es g graph valid calm set node others h
