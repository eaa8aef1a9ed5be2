use Rattle.std.proofs.Common.{arith}
use Rattle.mm_rungraph.proofs.Entering.{entries_next}
use Rattle.mm_rungraph.proofs.entries.entries_in.Goals as goal

pub loop-line-preserved : goal.loop-line-preserved
loop-line-preserved c = entries_next c.args.lines.now _ c.loop-line.line-index c.loop-line.entries.items c.add_line.new.entries.items (omega arith) c.loop-line.invariant c.in_ok-add_line.ensures
