use Rattle.mm_pieces.proofs.CallsPart.{put_part_law}
use Rattle.mm_pieces.proofs.pso.wm_put_makes_a_store_pending_in_a_row_of_a_cell.Goals as goal

pub returns : goal.returns
returns c = put_part_law
