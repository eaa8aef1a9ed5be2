use Rattle.mm_quiet.proofs.Running.{quiet_runs}
use Rattle.mm_quiet.proofs.laws.quiet_code_runs.Goals as goal

pub returns : goal.returns
returns c = λ p t code is_code f quiet x n k v u stands e. quiet_runs p t code is_code f quiet x n k v u stands e
