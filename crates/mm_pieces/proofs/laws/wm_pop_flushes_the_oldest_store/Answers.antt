use Rattle.mm_pieces.proofs.Calls.{pop_law}
use Rattle.mm_pieces.proofs.laws.wm_pop_flushes_the_oldest_store.Goals as goal

pub returns : goal.returns
returns c = pop_law
