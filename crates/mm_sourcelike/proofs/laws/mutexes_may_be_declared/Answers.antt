use Rattle.mm_sourcelike.proofs.Declared.{mutexes_declarable}
use Rattle.mm_sourcelike.proofs.laws.mutexes_may_be_declared.Goals as goal

pub returns : goal.returns
returns c = mutexes_declarable
