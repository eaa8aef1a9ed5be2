use Rattle.std.proofs.Common.{◌≡◌}
use Rattle.mm_grammar.specs.reading.ProgramReading.{items}
use Rattle.mm_parse.proofs.Joined.{joined}
use Rattle.mm_parse.proofs.reading.item.read_items.Given as goal

abbrev pub invariant-loop-left : goal.invariant-loop-left
invariant-loop-left l = joined l.items.items (items l.left l.rest) ≡ items l.fn.bound l.fn.ts

abbrev pub decreases-loop-left : goal.decreases-loop-left
decreases-loop-left l = l.left
