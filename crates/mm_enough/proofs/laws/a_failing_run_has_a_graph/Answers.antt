use Rattle.mm_enough.proofs.Graphs.{a_graph}
use Rattle.mm_enough.proofs.laws.a_failing_run_has_a_graph.Goals as goal

pub returns : goal.returns
returns c = a_graph
