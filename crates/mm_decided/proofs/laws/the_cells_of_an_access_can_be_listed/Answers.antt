use Rattle.mm_decided.proofs.Cells.{cells_listed}
use Rattle.mm_decided.proofs.laws.the_cells_of_an_access_can_be_listed.Goals as goal

pub returns : goal.returns
returns c = cells_listed
