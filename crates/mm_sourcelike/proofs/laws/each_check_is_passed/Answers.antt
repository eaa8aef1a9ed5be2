use Rattle.mm_sourcelike.proofs.Guarded.{checks_passed}
use Rattle.mm_sourcelike.proofs.laws.each_check_is_passed.Goals as goal

pub returns : goal.returns
returns c = checks_passed
