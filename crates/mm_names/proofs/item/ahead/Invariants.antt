use Rattle.std.proofs.Common.{◌≡◌, ◌+◌, [], length}
use Rattle.mm_names.specs.Items.{ahead}
use Rattle.mm_names.proofs.item.ahead.Given as goal

abbrev pub decreases-loop-left : goal.decreases-loop-left
decreases-loop-left l = length l.left

abbrev pub invariant-loop-left : goal.invariant-loop-left
invariant-loop-left l = record {
  numbered : l.number + length l.left ≡ length l.items;
  table : ahead l.table l.number l.left ≡ ahead [] 0 l.items;
}
