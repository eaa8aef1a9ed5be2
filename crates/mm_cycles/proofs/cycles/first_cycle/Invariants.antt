use Rattle.std.proofs.Common.{ℕ, ◌<◌}
use Rattle.mm_goto.specs.Paths.{Leads}
use Rattle.mm_cycles.specs.Links.{UnsafeIn}
use Rattle.mm_graph.specs.Graphs.{ComIn, EdgeIn}
use Rattle.mm_cycles.proofs.cycles.first_cycle.Given as goal

abbrev pub invariant-later : goal.invariant-later
invariant-later l = (k n : ℕ) → k < l.later → UnsafeIn l.graph l.model l.store k → ComIn l.graph k n → ¬ (Leads (EdgeIn l.graph) n l.store)
