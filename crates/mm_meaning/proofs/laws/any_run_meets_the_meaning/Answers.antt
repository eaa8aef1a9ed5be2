use Rattle.mm_meaning.proofs.Back.{flow_meets}
use Rattle.mm_meaning.proofs.laws.any_run_meets_the_meaning.Goals as goal

pub returns : goal.returns
returns c = flow_meets
