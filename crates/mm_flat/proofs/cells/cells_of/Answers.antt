use Rattle.std.proofs.Common.{arith, ◌++◌, ◌∙◌, ap, sym, append_assoc}
use Rattle.mm_flow.specs.Programs.{cells_of, globals_of}
use Rattle.mm_flat.proofs.Tables.{next_cells}
use Rattle.mm_flat.proofs.cells.cells_of.Goals as goal

pub loop-item-preserved : goal.loop-item-preserved
loop-item-preserved c =
    rw c.in_ok-add_globals_of.ensures
    (c.loop-item.invariant ∙ ap (λ cs. c.loop-item.out.items ++ cs) (next_cells c.args.parts.now.spots c.args.items.now c.loop-item.item-index c.item-item.result (omega arith) c.item-item.is)
    ∙ sym (append_assoc c.loop-item.out.items (cells_of c.args.parts.now.spots (globals_of c.item-item.result)) _))
