use Rattle.mm_sourcelike.proofs.TypedThreads.{addresses_of_ints}
use Rattle.mm_sourcelike.proofs.laws.addresses_are_of_ints.Goals as goal

pub returns : goal.returns
returns c = addresses_of_ints
