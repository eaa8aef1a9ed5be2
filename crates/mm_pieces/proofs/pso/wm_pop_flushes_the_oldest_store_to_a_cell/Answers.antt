use Rattle.mm_pieces.proofs.CallsPart.{pop_part_law}
use Rattle.mm_pieces.proofs.pso.wm_pop_flushes_the_oldest_store_to_a_cell.Goals as goal

pub returns : goal.returns
returns c = pop_part_law
