use Rattle.std.proofs.Common.{◌≡◌, ◌++◌, take, string_bytes}
use Rattle.mm_print.specs.Pieces.{text}
use Rattle.mm_print.specs.Items.{items_pieces}
use Rattle.mm_print.proofs.items.put_items.Given as goal

abbrev pub invariant-loop-item : goal.invariant-loop-item
invariant-loop-item l = string_bytes l.out ≡ string_bytes l.fn.out ++ text (items_pieces (take l.item-index l.items))
