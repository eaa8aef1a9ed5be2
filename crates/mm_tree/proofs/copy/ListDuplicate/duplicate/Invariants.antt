use Rattle.std.proofs.Common.{◌≡◌, take}
use Rattle.mm_tree.proofs.copy.ListDuplicate.duplicate.Given as goal

abbrev pub invariant-loop-part : goal.invariant-loop-part
invariant-loop-part g l = l.copy.items ≡ take l.part-index l.self
