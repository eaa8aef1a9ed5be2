use Rattle.mm_print.proofs.Whole.{accepted, woven_text}
use Rattle.mm_print.proofs.laws.printed_text_is_the_woven_program.Goals as goal

pub returns-clause-accepted : goal.returns-clause-accepted
returns-clause-accepted c = accepted

pub returns-clause-woven : goal.returns-clause-woven
returns-clause-woven c = woven_text
