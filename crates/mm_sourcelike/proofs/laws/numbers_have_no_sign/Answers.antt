use Rattle.mm_sourcelike.proofs.PlainThreads.{unsigned_numbers}
use Rattle.mm_sourcelike.proofs.laws.numbers_have_no_sign.Goals as goal

pub returns : goal.returns
returns c = unsigned_numbers
