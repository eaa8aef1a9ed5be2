use Rattle.std.proofs.Common.{◌≡◌, take}
use Rattle.mm_part.proofs.flags.copy_flags.Given as goal

abbrev pub invariant-loop-row : goal.invariant-loop-row
invariant-loop-row l = l.copy.items ≡ take l.row-index l.row-items
