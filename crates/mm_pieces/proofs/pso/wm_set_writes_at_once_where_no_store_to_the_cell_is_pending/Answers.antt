use Rattle.mm_pieces.proofs.CallsPart.{set_part_law}
use Rattle.mm_pieces.proofs.pso.wm_set_writes_at_once_where_no_store_to_the_cell_is_pending.Goals as goal

pub returns : goal.returns
returns c = set_part_law
