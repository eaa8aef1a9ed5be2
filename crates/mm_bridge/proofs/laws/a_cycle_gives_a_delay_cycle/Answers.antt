use Rattle.mm_bridge.proofs.Cycles.{cycle_lacks, none_lacking}
use Rattle.mm_bridge.proofs.laws.a_cycle_gives_a_delay_cycle.Goals as goal

pub returns-clause-delayed : goal.returns-clause-delayed
returns-clause-delayed c = λ m bound p es run source set a cycle. cycle_lacks m bound p source set es run a cycle

pub returns-clause-none : goal.returns-clause-none
returns-clause-none c = λ m bound p es run source set has a cycle. none_lacking m bound p source set has (cycle_lacks m bound p source set es run a cycle)
