use Rattle.mm_bits.proofs.Wordwise.{has_tests}
use Rattle.mm_bits.proofs.numbers.Numbers.has.Goals as goal

pub returns : goal.returns
returns c = has_tests c.args.self.now.words c.args.n
