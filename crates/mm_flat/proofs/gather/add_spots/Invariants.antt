use Rattle.std.proofs.Common.{◌≡◌, ◌++◌, List, drop}
use Rattle.mm_tree.specs.declared.item.Global.{Global}
use Rattle.mm_flow.specs.Programs.{spots}
use Rattle.mm_flat.proofs.gather.add_spots.Given as goal

abbrev pub invariant-loop-global : goal.invariant-loop-global
invariant-loop-global l = (rest : List Global) → l.fn.out.items ++ spots (l.globals ++ rest) l.fn.first ≡ l.out.items ++ spots (drop l.global-index l.globals ++ rest) l.next
