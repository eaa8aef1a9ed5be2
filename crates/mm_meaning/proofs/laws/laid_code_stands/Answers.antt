use Rattle.mm_meaning.proofs.Laid.{lay_stands}
use Rattle.mm_meaning.proofs.laws.laid_code_stands.Goals as goal

pub returns : goal.returns
returns c = lay_stands
