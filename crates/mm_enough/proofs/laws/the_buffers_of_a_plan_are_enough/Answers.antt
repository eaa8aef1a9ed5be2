use Rattle.mm_enough.proofs.Enough.{found, same}
use Rattle.mm_enough.proofs.laws.the_buffers_of_a_plan_are_enough.Goals as goal

pub returns-clause-same : goal.returns-clause-same
returns-clause-same c = λ m bound p shape head source b plan n. same m bound p shape head source plan b n

pub returns-clause-found : goal.returns-clause-found
returns-clause-found c = λ m bound p shape head source plan n es fails. found m bound p shape head source plan n es fails
