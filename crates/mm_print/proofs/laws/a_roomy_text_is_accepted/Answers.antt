use Rattle.mm_print.proofs.ReadBack.{is_accepted}
use Rattle.mm_print.proofs.laws.a_roomy_text_is_accepted.Goals as goal

pub returns : goal.returns
returns c = is_accepted
