-- What a text says to a reader who does not ask where: its tokens by their kinds and bytes alone.
use Rattle.std.specs.Prelude.{◌≡◌, ℕ, ◌&&◌, ◌||◌, ◌==◌, Bool, if◌then◌else◌, List, [], ◌∷◌, take, drop}
use Rattle.std.specs.Str.{encode_utf8_all}
use Rattle.mm_lexer.specs.declared.piece.Piece.TheVariants as piece
use Rattle.mm_lexer.specs.declared.token.Token.{Token}
use Rattle.mm_lexer.specs.declared.token.TokenKind.{TokenKind}
use Rattle.mm_lexer.specs.Class.{is_blank}
use Rattle.mm_lexer.specs.Piece.{piece_at}
use Rattle.mm_lexer.specs.Tokens.{bytes_of}

pub record Lexeme : Type 0 where
  pub kind : TokenKind
  pub bytes : List ℕ

abbrev pub lexeme_of : List ℕ → Token → Lexeme
lexeme_of text t = record { kind = t.kind; bytes = bytes_of text t }

-- whether a line has had only blanks and tabs so far, behind these characters
abbrev pub head_after : Bool → List ℕ → Bool
head_after h [] = h
head_after h (c ∷ cs) = head_after ((c == 10) || (h && is_blank c)) cs

-- the characters are separators and these lexemes
pub data Spells : Bool → List ℕ → List Lexeme → Type 0 where
  none : {h : Bool} → Spells h [] []
  gap : {h : Bool} {cs : List ℕ} {ls : List Lexeme} {n : ℕ}
      → piece_at h cs ≡ piece.Gap n
      → Spells (head_after h (take n cs)) (drop n cs) ls
      → Spells h cs ls
  token : {h : Bool} {cs : List ℕ} {l : Lexeme} {ls : List Lexeme} {n : ℕ}
      → piece_at h cs ≡ piece.Token l.kind n
      → l.bytes ≡ encode_utf8_all (take n cs)
      → Spells (head_after h (take n cs)) (drop n cs) ls
      → Spells h cs (l ∷ ls)
