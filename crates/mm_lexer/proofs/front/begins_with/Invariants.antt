use Rattle.std.proofs.Common.{◌≡◌, length, nat_eq}
use Rattle.std.specs.Str.{chars, IsUtf8}
use Rattle.std.specs.List.{starts_with}
use Rattle.mm_lexer.proofs.front.begins_with.Given as goal

abbrev pub invariant-loop-word : goal.invariant-loop-word
invariant-loop-word l = (starts_with nat_eq (chars l.rest) l.word ≡ starts_with nat_eq (chars l.text) l.initial.word) × IsUtf8 l.rest

abbrev pub decreases-loop-word : goal.decreases-loop-word
decreases-loop-word l = length l.word
