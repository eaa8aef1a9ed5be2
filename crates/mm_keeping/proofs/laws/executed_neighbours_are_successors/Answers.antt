use Rattle.mm_keeping.proofs.Flowing.{neighbours}
use Rattle.mm_keeping.proofs.laws.executed_neighbours_are_successors.Goals as goal

pub returns : goal.returns
returns c = neighbours
