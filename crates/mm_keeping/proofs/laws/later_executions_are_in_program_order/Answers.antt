use Rattle.mm_keeping.proofs.Flowing.{ordered, undrained}
use Rattle.mm_keeping.proofs.laws.later_executions_are_in_program_order.Goals as goal

pub returns-clause-order : goal.returns-clause-order
returns-clause-order c = ordered

pub returns-clause-undrained : goal.returns-clause-undrained
returns-clause-undrained c = undrained
