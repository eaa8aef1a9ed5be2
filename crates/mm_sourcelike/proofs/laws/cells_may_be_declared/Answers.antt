use Rattle.mm_sourcelike.proofs.Declared.{cells_declarable}
use Rattle.mm_sourcelike.proofs.laws.cells_may_be_declared.Goals as goal

pub returns : goal.returns
returns c = cells_declarable
