use Rattle.mm_sensible.proofs.Sensible.{woven_sensible}
use Rattle.mm_sensible.proofs.laws.a_woven_tree_makes_sense.Goals as goal

pub returns : goal.returns
returns c = woven_sensible
