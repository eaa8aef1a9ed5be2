use Rattle.std.proofs.Common.{arith}
use Rattle.mm_runkeys.proofs.Successors.{behind_next}
use Rattle.mm_runkeys.proofs.behind.add_behind.Goals as goal

pub loop-t-preserved : goal.loop-t-preserved
loop-t-preserved c = behind_next c.args.flushes.now c.args.nexts.now c.args.taken.now c.args.edges.now.items c.loop-t.edges.items c.behind_one.new.edges.items c.loop-t.t-index _ (omega arith) c.loop-t.invariant c.in_ok-behind_one.ensures
