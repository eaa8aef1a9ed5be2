use Rattle.mm_sourcelike.proofs.TypedThreads.{single_cells}
use Rattle.mm_sourcelike.proofs.laws.single_cells_are_no_elements.Goals as goal

pub returns : goal.returns
returns c = single_cells
