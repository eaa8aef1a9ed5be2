use Rattle.std.proofs.Common.{arith, ◌++◌}
use Rattle.mm_flow.specs.Programs.{elements}
use Rattle.mm_flat.proofs.Tables.{add_element}
use Rattle.mm_flat.proofs.cells.add_elements.Goals as goal

pub loop-i-preserved : goal.loop-i-preserved
loop-i-preserved c =
    add_element c.args.parts.now.spots c.args.global.now c.loop-i.i c.args.count
    (c.args.out.now.items ++ elements c.args.parts.now.spots c.args.global.now 0 c.args.count c.args.global.now.init)
    c.loop-i.out.items c.add_cell.new.out.items c.items.result.now c.in_ok-init.init
    (omega arith) c.items.ensures c.loop-i.invariant c.in_ok-init.ensures c.in_ok-add_cell.ensures
