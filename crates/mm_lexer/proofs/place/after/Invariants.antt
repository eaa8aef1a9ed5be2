use Rattle.std.proofs.Common.{◌≡◌, length, take, drop}
use Rattle.std.specs.Str.{chars, IsUtf8}
use Rattle.mm_lexer.specs.Place.{past_all, HasRoom}
use Rattle.mm_lexer.proofs.place.after.Given as goal

abbrev pub invariant-loop-c : goal.invariant-loop-c
invariant-loop-c l = record {
  place : past_all l.place (take l.left (chars l.rest)) ≡ past_all l.fn.place (take l.count (chars l.text));
  rest : drop l.left (chars l.rest) ≡ drop l.count (chars l.text);
  room : HasRoom l.place (length l.rest);
  text : IsUtf8 l.rest;
}

abbrev pub decreases-loop-c : goal.decreases-loop-c
decreases-loop-c l = length l.rest
