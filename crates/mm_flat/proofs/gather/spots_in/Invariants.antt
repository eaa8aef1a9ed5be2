use Rattle.std.proofs.Common.{◌≡◌, ◌++◌, drop}
use Rattle.mm_flow.specs.Programs.{globals_in, spots}
use Rattle.mm_flat.proofs.gather.spots_in.Given as goal

abbrev pub invariant-loop-item : goal.invariant-loop-item
invariant-loop-item l = spots (globals_in l.items) 0 ≡ l.out.items ++ spots (globals_in (drop l.item-index l.items)) l.next
