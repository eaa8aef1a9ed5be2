use Rattle.mm_pieces.proofs.Calls.{get_law}
use Rattle.mm_pieces.proofs.laws.wm_get_gives_what_the_thread_reads.Goals as goal

pub returns : goal.returns
returns c = get_law
