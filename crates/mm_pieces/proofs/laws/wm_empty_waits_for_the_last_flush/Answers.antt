use Rattle.mm_pieces.proofs.Calls.{empty_law}
use Rattle.mm_pieces.proofs.laws.wm_empty_waits_for_the_last_flush.Goals as goal

pub returns : goal.returns
returns c = empty_law
