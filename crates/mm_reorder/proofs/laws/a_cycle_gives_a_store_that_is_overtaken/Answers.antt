use Rattle.mm_reorder.proofs.Cycling.{overtaken}
use Rattle.mm_reorder.proofs.laws.a_cycle_gives_a_store_that_is_overtaken.Goals as goal

pub returns : goal.returns
returns c = overtaken
