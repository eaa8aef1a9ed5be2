use Rattle.mm_print.proofs.Whole.{one_program}
use Rattle.mm_print.proofs.laws.a_text_means_one_program.Goals as goal

pub returns : goal.returns
returns c = one_program
