use Rattle.mm_pieces.proofs.Calls.{flush_law}
use Rattle.mm_pieces.proofs.laws.wm_flush_does_the_flushes_that_inputs_ask_for.Goals as goal

pub returns : goal.returns
returns c = flush_law
