use Rattle.mm_meaning.proofs.Section.{section_meets}
use Rattle.mm_meaning.proofs.laws.a_section_runs_alone.Goals as goal

pub returns : goal.returns
returns c = section_meets
