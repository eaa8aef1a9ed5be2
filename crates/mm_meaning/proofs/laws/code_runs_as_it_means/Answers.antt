use Rattle.mm_meaning.proofs.Machine.{runs_inside}
use Rattle.mm_meaning.proofs.laws.code_runs_as_it_means.Goals as goal

pub returns : goal.returns
returns c = runs_inside
