use Rattle.mm_sourcelike.proofs.NotMain.{never_main}
use Rattle.mm_sourcelike.proofs.laws.main_is_never_started.Goals as goal

pub returns : goal.returns
returns c = never_main
