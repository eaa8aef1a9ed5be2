use Rattle.mm_bridge.proofs.Cycles.{an_order, a_run}
use Rattle.mm_bridge.proofs.laws.a_failing_run_is_carried.Goals as goal

pub returns-clause-order : goal.returns-clause-order
returns-clause-order c = λ m bound p es g graph source set has. an_order m bound p source set es g graph has

pub returns-clause-run : goal.returns-clause-run
returns-clause-run c = λ m bound p es g graph source set has. a_run m bound p source set es g graph has
