use Rattle.std.proofs.Common.{◌≡◌, ◌-◌, ◌≤◌, length}
use Rattle.std.specs.Io.KnownBytes.{Consumes}
use Rattle.mm_run.proofs.input.read_input.Given as goal

abbrev pub invariant-loop-piece : goal.invariant-loop-piece
invariant-loop-piece g l = (Consumes (g.I.Source.left l.fn.input) (g.I.Source.left l.input) l.bytes.items) × (g.I.Source.faults l.input ≡ g.I.Source.faults l.fn.input) × (length l.bytes.items ≤ 16777217)

abbrev pub decreases-loop-piece : goal.decreases-loop-piece
decreases-loop-piece g l = 16777217 - length l.bytes.items
