use Rattle.mm_grammar.proofs.ProgramRuns.{program_fault}
use Rattle.mm_grammar.proofs.laws.faults_are_first.Goals as goal

pub returns : goal.returns
returns c = program_fault
