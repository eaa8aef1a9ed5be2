use Rattle.mm_sourcelike.proofs.Law.{flattened_valid}
use Rattle.mm_sourcelike.proofs.laws.a_flattened_program_is_valid.Goals as goal

pub returns : goal.returns
returns c = flattened_valid
