use Rattle.mm_sourcelike.proofs.TypedThreads.{whole_arrays}
use Rattle.mm_sourcelike.proofs.laws.elements_are_of_whole_arrays.Goals as goal

pub returns : goal.returns
returns c = whole_arrays
