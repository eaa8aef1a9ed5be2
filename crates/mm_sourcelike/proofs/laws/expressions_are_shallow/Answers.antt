use Rattle.mm_sourcelike.proofs.PlainThreads.{few_levels}
use Rattle.mm_sourcelike.proofs.laws.expressions_are_shallow.Goals as goal

pub returns : goal.returns
returns c = few_levels
