use Rattle.std.proofs.Common.{arith}
use Rattle.mm_bits.proofs.Wordwise.{or_of_words}
use Rattle.mm_bits.proofs.numbers.join_words.Goals as goal

pub returns : goal.returns
returns c = λ m. or_of_words c.args.into.now c.args.other.now c.words.into (λ j h. c.words.invariant.1 j (omega arith)) (omega arith) (omega arith) c.words.invariant.0 m
