use Rattle.std.proofs.Common.{◌≡◌, length, drop}
use Rattle.std.specs.Str.{chars, IsUtf8}
use Rattle.mm_lexer.proofs.front.skip.Given as goal

abbrev pub invariant-loop-behind : goal.invariant-loop-behind
invariant-loop-behind l = (drop l.left (chars l.rest) ≡ drop l.count (chars l.text)) × IsUtf8 l.rest

abbrev pub decreases-loop-behind : goal.decreases-loop-behind
decreases-loop-behind l = length l.rest
