use Rattle.mm_small.proofs.SmallSourcelike.{listing_sourcelike}
use Rattle.mm_small.proofs.Validity.{listing_valid}
use Rattle.mm_small.proofs.laws.a_small_program_is_sourcelike.Goals as goal

pub returns-clause-valid : goal.returns-clause-valid
returns-clause-valid c = listing_valid

pub returns-clause-sourcelike : goal.returns-clause-sourcelike
returns-clause-sourcelike c = listing_sourcelike
