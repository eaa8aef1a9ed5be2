use Rattle.mm_run.proofs.AnAnswer.{an_answer}
use Rattle.mm_run.proofs.OneAnswer.{one_answer}
use Rattle.mm_run.proofs.laws.an_input_has_one_answer.Goals as goal

pub returns-clause-answered : goal.returns-clause-answered
returns-clause-answered c = an_answer c.a_woven_text_is_accepted.ensures

pub returns-clause-one_status : goal.returns-clause-one_status
returns-clause-one_status c s input a b out text h k = (one_answer s input a b out text h k).0

pub returns-clause-one_output : goal.returns-clause-one_output
returns-clause-one_output c s input a b out text h k = (one_answer s input a b out text h k).1
