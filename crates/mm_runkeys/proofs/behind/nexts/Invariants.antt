use Rattle.std.proofs.Common.{take}
use Rattle.mm_runkeys.specs.reading.Behind.{AreNext}
use Rattle.mm_runkeys.proofs.behind.nexts.Given as goal

abbrev pub invariant-loop-edge : goal.invariant-loop-edge
invariant-loop-edge l = AreNext (take l.edge-index l.edges) l.issue l.nodes l.xs.items
