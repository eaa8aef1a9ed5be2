use Rattle.mm_print.proofs.ReadBack.{is_cut, is_read, read_alone}
use Rattle.mm_print.proofs.laws.a_printed_text_is_read_again.Goals as goal

pub returns-clause-cut : goal.returns-clause-cut
returns-clause-cut c = is_cut

pub returns-clause-read : goal.returns-clause-read
returns-clause-read c = is_read

pub returns-clause-alone : goal.returns-clause-alone
returns-clause-alone c = read_alone
