use Rattle.std.proofs.Common.{length}
use Rattle.std.specs.Str.{chars, IsUtf8}
use Rattle.mm_lexer.specs.Place.{start, HasRoom}
use Rattle.mm_lexer.specs.Tokens.{Reads}
use Rattle.mm_lexer.proofs.lexing.lex.Given as goal

abbrev pub invariant-loop-tokens : goal.invariant-loop-tokens
invariant-loop-tokens l = record {
  read : Reads start (chars l.text) l.tokens.items l.place (chars l.rest);
  room : HasRoom l.place (length l.rest);
  text : IsUtf8 l.rest;
}

abbrev pub decreases-loop-tokens : goal.decreases-loop-tokens
decreases-loop-tokens l = length (chars l.rest)
