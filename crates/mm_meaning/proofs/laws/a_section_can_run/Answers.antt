use Rattle.mm_meaning.proofs.Section.{section_runs}
use Rattle.mm_meaning.proofs.laws.a_section_can_run.Goals as goal

pub returns : goal.returns
returns c = section_runs
