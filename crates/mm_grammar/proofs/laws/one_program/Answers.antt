use Rattle.mm_grammar.proofs.ProgramComplete.{one_program}
use Rattle.mm_grammar.proofs.laws.one_program.Goals as goal

pub returns : goal.returns
returns c = one_program
