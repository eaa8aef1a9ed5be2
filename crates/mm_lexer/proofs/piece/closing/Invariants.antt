use Rattle.std.proofs.Common.{◌≡◌, ◌+◌, ◌≤◌, length}
use Rattle.std.specs.Prelude.{option_map}
use Rattle.std.specs.Str.{chars, IsUtf8}
use Rattle.mm_lexer.specs.Piece.{closing}
use Rattle.mm_lexer.proofs.piece.closing.Given as goal

abbrev pub invariant-loop-c : goal.invariant-loop-c
invariant-loop-c l = record {
  closing : option_map (λ n. l.len + n) (closing (chars l.rest)) ≡ closing (chars l.text);
  within : l.len + length l.rest ≤ length l.text;
  text : IsUtf8 l.rest;
}

abbrev pub decreases-loop-c : goal.decreases-loop-c
decreases-loop-c l = length l.rest
