use Rattle.std.proofs.Common.{◌≡◌, ◌+◌, length}
use Rattle.mm_names.proofs.Tops.{behind_items}
use Rattle.mm_names.proofs.item.list_items.Given as goal

abbrev pub decreases-loop-left : goal.decreases-loop-left
decreases-loop-left l = length l.left

abbrev pub invariant-loop-left : goal.invariant-loop-left
invariant-loop-left l = record {
  numbered : l.number + length l.left ≡ length l.items;
  walk : behind_items l.side l.items l.number l.left l.walk ≡ behind_items l.side l.items 0 l.items l.initial.walk;
}
