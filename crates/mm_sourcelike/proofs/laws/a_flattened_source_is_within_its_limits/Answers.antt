use Rattle.mm_sourcelike.proofs.Sources.{within_source}
use Rattle.mm_sourcelike.proofs.laws.a_flattened_source_is_within_its_limits.Goals as goal

pub returns : goal.returns
returns c = within_source
