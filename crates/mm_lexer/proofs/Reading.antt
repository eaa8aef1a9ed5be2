-- A text that is read piece by piece.
use Rattle.std.proofs.Common.{◌≡◌, ℕ, List, [], ◌∷◌, ◌++◌, take, drop}
use Rattle.mm_lexer.specs.declared.place.Place.{Place}
use Rattle.mm_lexer.specs.declared.piece.Piece.TheVariants as piece
use Rattle.mm_lexer.specs.declared.token.Token.{Token}
use Rattle.mm_lexer.specs.declared.token.TokenKind.{TokenKind}
use Rattle.mm_lexer.specs.Place.{past_all}
use Rattle.mm_lexer.specs.Piece.{piece_at}
use Rattle.mm_lexer.specs.Tokens.{token_at, Reads}

-- what is read up to a place goes on with what is read from there
pub reads_on : {p q r : Place} {cs rest more : List ℕ} {ts us : List Token} → Reads p cs ts q rest → Reads q rest us r more → Reads p cs (ts ++ us) r more
reads_on Reads.none b = b
reads_on (Reads.gap e a) b = Reads.gap e (reads_on a b)
reads_on (Reads.token e t a) b = Reads.token e t (reads_on a b)

-- one separator more
pub gap_more : {p q : Place} {cs rest : List ℕ} {ts : List Token} {n : ℕ} → Reads p cs ts q rest → piece_at q.is_head rest ≡ piece.Gap n → Reads p cs ts (past_all q (take n rest)) (drop n rest)
gap_more Reads.none g = Reads.gap g Reads.none
gap_more (Reads.gap e a) g = Reads.gap e (gap_more a g)
gap_more (Reads.token e t a) g = Reads.token e t (gap_more a g)

-- one token more
pub token_more : {p q : Place} {cs rest : List ℕ} {ts : List Token} {t : Token} {kind : TokenKind} {n : ℕ} → Reads p cs ts q rest → piece_at q.is_head rest ≡ piece.Token kind n → t ≡ token_at kind q (take n rest) → Reads p cs (ts ++ t ∷ []) (past_all q (take n rest)) (drop n rest)
token_more Reads.none g u = Reads.token g u Reads.none
token_more (Reads.gap e a) g u = Reads.gap e (token_more a g u)
token_more (Reads.token e t a) g u = Reads.token e t (token_more a g u)
