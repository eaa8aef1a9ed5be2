-- The tokens of a text.
use Rattle.std.specs.Prelude.{◌≡◌, ℕ, ◌+◌, ◌-◌, ◌<◌, ◌≤◌, List, [], ◌∷◌, take, drop, length, slice_range, Option, Some, None}
use Rattle.std.specs.Str.{chars, IsCharBoundary}
use Rattle.mm_goto.specs.declared.ident.At.{At}
use Rattle.mm_lexer.specs.declared.place.Place.{Place}
use Rattle.mm_lexer.specs.declared.piece.Piece.{Piece}
use Rattle.mm_lexer.specs.declared.piece.Piece.TheVariants as piece
use Rattle.mm_lexer.specs.declared.token.LexFault.{LexFault}
use Rattle.mm_lexer.specs.declared.token.LexFault.TheVariants.{BadToken, NumberTooLarge}
use Rattle.mm_lexer.specs.declared.token.Token.{Token}
use Rattle.mm_lexer.specs.declared.token.TokenKind.{TokenKind}
use Rattle.mm_lexer.specs.declared.token.TokenKind.TheVariants as kind
use Rattle.mm_lexer.specs.Place.{start, past_all}
use Rattle.mm_lexer.specs.Piece.{piece_at}

-- the token that these characters are, at a place
abbrev pub token_at : TokenKind → Place → List ℕ → Token
token_at kind p word = record { kind = kind; start = p.offset; end = (past_all p word).offset; at = p.at }

-- the bytes of a token
abbrev pub bytes_of : List ℕ → Token → List ℕ
bytes_of text t = slice_range text t.start t.end

-- the token has a quote at each end
pub record IsQuoted (text : List ℕ) (t : Token) : Type 0 where
  pub both : t.start + 2 ≤ t.end
  pub opened : IsCharBoundary text (t.start + 1)
  pub closed : IsCharBoundary text (t.end - 1)

-- the token is some of the text, cut between characters
pub record IsSpan (text : List ℕ) (t : Token) : Type 0 where
  pub some : t.start < t.end
  pub within : t.end ≤ length text
  pub begins : IsCharBoundary text t.start
  pub ends : IsCharBoundary text t.end
  pub quotes : t.kind ≡ kind.Text → IsQuoted text t

-- each token begins where the one before has ended, or later
abbrev pub AreInOrder : ℕ → List Token → Type 0
AreInOrder from [] = Unit {0}
AreInOrder from (t ∷ ts) = (from ≤ t.start) × AreInOrder t.end ts

-- From a place on, the characters of a text up to the rest are separators and these tokens.
pub data Reads : Place → List ℕ → List Token → Place → List ℕ → Type 0 where
  none : {p : Place} {cs : List ℕ} → Reads p cs [] p cs
  gap : {p q : Place} {cs rest : List ℕ} {ts : List Token} {n : ℕ}
      → piece_at p.is_head cs ≡ piece.Gap n
      → Reads (past_all p (take n cs)) (drop n cs) ts q rest
      → Reads p cs ts q rest
  token : {p q : Place} {cs rest : List ℕ} {t : Token} {ts : List Token} {kind : TokenKind} {n : ℕ}
      → piece_at p.is_head cs ≡ piece.Token kind n
      → t ≡ token_at kind p (take n cs)
      → Reads (past_all p (take n cs)) (drop n cs) ts q rest
      → Reads p cs (t ∷ ts) q rest

-- the text is separators and these tokens
pub record AreTokens (text : List ℕ) (ts : List Token) : Type 0 where
  pub end : Place
  pub read : Reads start (chars text) ts end []

-- what is wrong with a piece that is neither separator nor token
abbrev pub fault_of : Piece → At → Option LexFault
fault_of piece.End at = None
fault_of (piece.Gap n) at = None
fault_of (piece.Token kind n) at = None
fault_of piece.Bad at = Some (BadToken at)
fault_of piece.TooLarge at = Some (NumberTooLarge at)

-- the text is separators and tokens up to a place, and what stands there is neither
pub record IsFirstFault (text : List ℕ) (fault : LexFault) : Type 0 where
  pub before : List Token
  pub place : Place
  pub rest : List ℕ
  pub read : Reads start (chars text) before place rest
  pub fails : fault_of (piece_at place.is_head rest) place.at ≡ Some fault

-- the text begins with separators and at least one token
pub record HasToken (text : List ℕ) : Type 0 where
  pub first : Token
  pub others : List Token
  pub place : Place
  pub rest : List ℕ
  pub read : Reads start (chars text) (first ∷ others) place rest
