use Rattle.mm_pieces.proofs.CallsPart.{flush_part_law}
use Rattle.mm_pieces.proofs.pso.wm_flush_does_the_flushes_to_cells_that_inputs_ask_for.Goals as goal

pub returns : goal.returns
returns c = flush_part_law
