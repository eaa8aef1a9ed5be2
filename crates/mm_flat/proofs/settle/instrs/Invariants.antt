use Rattle.std.proofs.Common.{◌≡◌, map}
use Rattle.mm_flow.specs.reading.Settling.{settled}
use Rattle.mm_flat.proofs.settle.instrs.Given as goal

abbrev pub invariant-loop-piece : goal.invariant-loop-piece
invariant-loop-piece l = l.out.items ≡ map (settled l.marks) l.yielded
