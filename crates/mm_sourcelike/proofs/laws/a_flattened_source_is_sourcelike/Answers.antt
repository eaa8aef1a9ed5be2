use Rattle.mm_sourcelike.proofs.Whole.{source_like}
use Rattle.mm_sourcelike.proofs.laws.a_flattened_source_is_sourcelike.Goals as goal

pub returns : goal.returns
returns c = source_like
