use Rattle.std.proofs.Common.{◌≡◌, take, map}
use Rattle.mm_tree.proofs.same.same_all.Given as goal

abbrev pub invariant-loop-i : goal.invariant-loop-i
invariant-loop-i g l = map g.T.Same.bare (take l.i l.all) ≡ map g.T.Same.bare (take l.i l.others)
