use Rattle.mm_pieces.proofs.CallsPart.{get_part_law}
use Rattle.mm_pieces.proofs.pso.wm_get_gives_what_the_thread_reads_of_a_cell.Goals as goal

pub returns : goal.returns
returns c = get_part_law
