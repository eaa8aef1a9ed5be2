use Rattle.mm_grammar.proofs.ProgramComplete.{program_complete}
use Rattle.mm_grammar.proofs.ProgramSound.{program_sound}
use Rattle.mm_grammar.proofs.laws.programs_are_read.Goals as goal

pub returns : goal.returns
returns c = record { sound = program_sound; complete = λ n ts tree l d. program_complete ts tree d n l }
