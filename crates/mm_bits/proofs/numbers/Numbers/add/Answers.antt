use Rattle.std.proofs.Common.{arith}
use Rattle.mm_bits.proofs.Wordwise.{has_added}
use Rattle.mm_bits.proofs.numbers.Numbers.add.Goals as goal

pub returns : goal.returns
returns c = λ m. has_added c.args.self.now.words c.args.n m (omega arith)
