use Rattle.std.proofs.Common.{◌≡◌, ◌≤◌, length, take}
use Rattle.std.specs.Str.{chars, IsUtf8}
use Rattle.std.specs.Str.Parse.{digits_value_after}
use Rattle.mm_lexer.specs.Class.{radix}
use Rattle.mm_lexer.specs.Piece.{digits_len, value_of}
use Rattle.mm_lexer.proofs.piece.value_of.Given as goal

abbrev pub invariant-loop-c : goal.invariant-loop-c
invariant-loop-c l = record {
  value : digits_value_after (radix l.base) l.value (take (digits_len l.base (chars l.rest)) (chars l.rest)) ≡ value_of l.base (chars l.digits);
  small : l.value ≤ 2147483647;
  text : IsUtf8 l.rest;
}

abbrev pub decreases-loop-c : goal.decreases-loop-c
decreases-loop-c l = length l.rest
