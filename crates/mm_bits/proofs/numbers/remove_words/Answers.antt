use Rattle.std.proofs.Common.{arith}
use Rattle.mm_bits.proofs.Wordwise.{without_words}
use Rattle.mm_bits.proofs.numbers.remove_words.Goals as goal

pub returns : goal.returns
returns c = λ m. without_words c.args.from.now c.args.other.now c.words.from (λ j h. c.words.invariant.fits j (omega arith)) (λ j h. c.words.invariant.below j (omega arith)) (omega arith) c.words.invariant.size m
