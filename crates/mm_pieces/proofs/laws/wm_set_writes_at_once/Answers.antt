use Rattle.mm_pieces.proofs.Calls.{set_law}
use Rattle.mm_pieces.proofs.laws.wm_set_writes_at_once.Goals as goal

pub returns : goal.returns
returns c = set_law
