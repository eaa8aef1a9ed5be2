use Rattle.mm_pieces.proofs.Calls.{put_law}
use Rattle.mm_pieces.proofs.laws.wm_put_makes_a_store_pending.Goals as goal

pub returns : goal.returns
returns c = put_law
