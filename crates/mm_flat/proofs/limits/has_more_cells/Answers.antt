use Rattle.std.proofs.Common.{arith}
use Rattle.mm_flat.proofs.Tables.{next_globals}
use Rattle.mm_flat.proofs.limits.has_more_cells.Goals as goal

pub loop-item-preserved : goal.loop-item-preserved
loop-item-preserved c = record {
  within = omega arith;
  same = omega (arith, next_globals c.args.items.now c.loop-item.item-index c.item-item.result (omega arith) c.item-item.is);
}
