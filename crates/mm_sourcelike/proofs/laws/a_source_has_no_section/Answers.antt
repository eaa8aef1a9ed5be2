use Rattle.mm_sourcelike.proofs.Guarded.{no_section}
use Rattle.mm_sourcelike.proofs.laws.a_source_has_no_section.Goals as goal

pub returns : goal.returns
returns c = no_section
