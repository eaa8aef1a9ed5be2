use Rattle.mm_sourcelike.proofs.PlainThreads.{few_nodes}
use Rattle.mm_sourcelike.proofs.laws.instructions_are_small.Goals as goal

pub returns : goal.returns
returns c = few_nodes
