use Rattle.mm_keeping.proofs.Closing.{both}
use Rattle.mm_keeping.proofs.laws.what_must_be_before_comes_before.Goals as goal

pub returns-clause-executed : goal.returns-clause-executed
returns-clause-executed c = λ m bound p es run source a b s t before site x y. (both m bound p es run source a b s t x y before site).0

pub returns-clause-flushed : goal.returns-clause-flushed
returns-clause-flushed c = λ m bound p es run source a b f s t before site x y i. (both m bound p es run source a b s t x y before site).1 f i
