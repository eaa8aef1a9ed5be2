use Rattle.std.proofs.Common.{arith, refl, rules}
use Rattle.mm_bits.proofs.Wordwise.{first_bit, none_before, has_below}
use Rattle.mm_bits.proofs.numbers.first_common_word.Goals as goal

pub returns-then-both-ne0-clause-this : goal.returns-then-both-ne0-clause-this
returns-then-both-ne0-clause-this c = (first_bit c.args.a.now c.args.b.now c.words.k c.words.invariant _ refl (omega arith) (search rules)).1

pub returns-then-both-ne0-clause-that : goal.returns-then-both-ne0-clause-that
returns-then-both-ne0-clause-that c = (first_bit c.args.a.now c.args.b.now c.words.k c.words.invariant _ refl (omega arith) (search rules)).2

pub returns-then-both-ne0-clause-least : goal.returns-then-both-ne0-clause-least
returns-then-both-ne0-clause-least c = (first_bit c.args.a.now c.args.b.now c.words.k c.words.invariant _ refl (omega arith) (search rules)).3

pub returns-clause-none : goal.returns-clause-none
returns-clause-none c = λ m p q. none_before c.args.a.now c.args.b.now 16 (λ j h. c.words.invariant j (omega arith)) m (has_below c.args.a.now (omega arith) m p) p q
