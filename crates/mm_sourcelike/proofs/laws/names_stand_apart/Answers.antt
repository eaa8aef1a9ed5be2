use Rattle.mm_sourcelike.proofs.Apartness.{names_apart}
use Rattle.mm_sourcelike.proofs.laws.names_stand_apart.Goals as goal

pub returns : goal.returns
returns c = names_apart
