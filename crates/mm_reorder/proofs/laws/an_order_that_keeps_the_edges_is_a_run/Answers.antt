use Rattle.mm_reorder.proofs.Law.{runs, alike}
use Rattle.mm_reorder.proofs.laws.an_order_that_keeps_the_edges_is_a_run.Goals as goal

pub returns-clause-runs : goal.returns-clause-runs
returns-clause-runs c = λ m bound p es g graph valid calm set order keeps steps reduced. runs m bound p es g graph valid calm set order keeps steps reduced

pub returns-clause-alike : goal.returns-clause-alike
returns-clause-alike c = λ m bound p es g graph valid calm set order keeps steps reduced. alike m bound p es g graph valid calm set order keeps steps reduced
