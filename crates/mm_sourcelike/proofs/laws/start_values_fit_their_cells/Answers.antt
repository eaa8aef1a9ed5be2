use Rattle.mm_sourcelike.proofs.GlobalCells.{source_cells}
use Rattle.mm_sourcelike.proofs.laws.start_values_fit_their_cells.Goals as goal

pub returns : goal.returns
returns c = source_cells
