use Rattle.mm_instr.specs.Woven.{woven}
use Rattle.mm_readable.proofs.laws.a_woven_text_is_read_as_its_tree.Goals as goal

pub returns : goal.returns
returns c = λ p shape head source few bound fits. c.a_roomy_text_is_accepted.ensures (woven p shape) head (c.a_woven_tree_has_room.ensures p shape source few bound fits)
