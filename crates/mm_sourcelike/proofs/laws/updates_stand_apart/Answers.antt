use Rattle.mm_sourcelike.proofs.Guarded.{updates_apart}
use Rattle.mm_sourcelike.proofs.laws.updates_stand_apart.Goals as goal

pub returns : goal.returns
returns c = updates_apart
