use Rattle.std.proofs.Common.{◌≡◌, [], ◌∷◌}
use Rattle.mm_grammar.specs.reading.StatementReading.{others}
use Rattle.mm_parse.proofs.Joined.{joined}
use Rattle.mm_parse.proofs.reading.list.read_others.Given as goal

abbrev pub invariant-loop-behind : goal.invariant-loop-behind
invariant-loop-behind g l = joined l.parts.items (others g.P.Part.item l.left l.rest) ≡ joined (l.fn.first ∷ []) (others g.P.Part.item l.fn.bound l.fn.ts)

abbrev pub decreases-loop-behind : goal.decreases-loop-behind
decreases-loop-behind g l = l.left
