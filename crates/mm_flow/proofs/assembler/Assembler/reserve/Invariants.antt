use Rattle.std.proofs.Common.{◌≡◌, drop}
use Rattle.mm_flow.specs.reading.Assembling.{with_labels}
use Rattle.mm_flow.proofs.assembler.Assembler.reserve.Given as goal

abbrev pub invariant-loop-name : goal.invariant-loop-name
invariant-loop-name l = with_labels (drop l._name-index l.names) l.self ≡ with_labels l.names l.fn.self
