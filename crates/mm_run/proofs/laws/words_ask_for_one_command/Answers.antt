use Rattle.mm_run.proofs.Wording.{one_command}
use Rattle.mm_run.proofs.laws.words_ask_for_one_command.Goals as goal

pub returns : goal.returns
returns c = one_command
