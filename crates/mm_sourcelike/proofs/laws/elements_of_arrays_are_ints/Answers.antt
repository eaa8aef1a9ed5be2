use Rattle.mm_sourcelike.proofs.CellsOf.{elements_are_ints}
use Rattle.mm_sourcelike.proofs.laws.elements_of_arrays_are_ints.Goals as goal

pub returns : goal.returns
returns c = elements_are_ints
