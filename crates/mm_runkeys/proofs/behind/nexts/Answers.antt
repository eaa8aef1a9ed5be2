use Rattle.std.proofs.Common.{arith}
use Rattle.mm_runkeys.proofs.Successors.{next_more}
use Rattle.mm_runkeys.proofs.behind.nexts.Goals as goal

pub loop-edge-preserved : goal.loop-edge-preserved
loop-edge-preserved c = rw c.note.ensures (next_more c.args.edges.now _ c.loop-edge.edge-index c.args.issue c.args.nodes c.loop-edge.xs.items (omega arith) c.loop-edge.invariant)
