use Rattle.std.proofs.Common.{◌≡◌, ◌++◌, ◌-◌, drop}
use Rattle.mm_flow.specs.Programs.{elements}
use Rattle.mm_flat.proofs.cells.add_elements.Given as goal

abbrev pub invariant-loop-i : goal.invariant-loop-i
invariant-loop-i l = l.fn.out.items ++ elements l.parts.spots l.global 0 l.count l.global.init ≡ l.out.items ++ elements l.parts.spots l.global l.i (l.count - l.i) (drop l.i l.global.init)
