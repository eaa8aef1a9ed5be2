use Rattle.std.proofs.Common.{sym, ◌∙◌}
use Rattle.mm_names.proofs.Tops.{after-items, behind-none}
use Rattle.mm_names.proofs.item.list_items.Goals as goal

pub returns : goal.returns
returns c =
    let side = c.args.side in
    let items = c.args.items.now in
    sym (behind-none side items c.loop-left.number c.loop-left.left.now c.loop-left.walk c.in_default.len_below)
    ∙ c.loop-left.invariant.walk
    ∙ sym (after-items side items 0 items c.args.walk.now)
