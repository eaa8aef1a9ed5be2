use Rattle.mm_readable.proofs.Whole.{woven_roomy}
use Rattle.mm_readable.proofs.laws.a_woven_tree_has_room.Goals as goal

pub returns : goal.returns
returns c = woven_roomy
