use Rattle.mm_pieces.proofs.CallsPart.{empty_part_law}
use Rattle.mm_pieces.proofs.pso.wm_empty_waits_for_the_last_flush_of_each_row.Goals as goal

pub returns : goal.returns
returns c = empty_part_law
