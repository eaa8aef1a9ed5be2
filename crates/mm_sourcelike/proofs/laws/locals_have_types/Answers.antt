use Rattle.mm_sourcelike.proofs.TypedThreads.{locals_typed}
use Rattle.mm_sourcelike.proofs.laws.locals_have_types.Goals as goal

pub returns : goal.returns
returns c = locals_typed
