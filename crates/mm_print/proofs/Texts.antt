-- The bytes of pieces that stand one after another.
use Rattle.std.proofs.Common.{◌≡◌, ℕ, zero, suc, ◌+◌, add-one, List, [], ◌∷◌, ◌++◌, refl, sym, ◌∙◌, ap, append_assoc}
use Rattle.std.specs.Prelude.{codes}
use Rattle.mm_parse_expr.specs.declared.symbol.Symbol.TheVariants as symbol
use Rattle.mm_print.specs.Pieces.{Piece, piece_text, text, indent, commas}

pub text_append : (ps qs : List Piece) → text (ps ++ qs) ≡ text ps ++ text qs
text_append [] qs = refl
text_append (p ∷ ps) qs = ap (λ t. piece_text p ++ t) (text_append ps qs) ∙ sym (append_assoc (piece_text p) (text ps) (text qs))

pub indent_more : (n : ℕ) → indent (n + 1) ≡ indent n ++ codes "  "
indent_more n = rw add-one (more n)
  where
    more : (n : ℕ) → indent (suc n) ≡ indent n ++ codes "  "
    more zero = refl
    more (suc n) = ap (λ t. codes "  " ++ t) (more n)

-- what is still to be written of a list
pub commas_more : (p : List Piece) (q : List Piece) (rest : List (List Piece)) → text (commas (p ∷ q ∷ rest)) ≡ text p ++ (codes ", " ++ text (commas (q ∷ rest)))
commas_more p q rest = text_append p (Piece.mark symbol.Comma ∷ Piece.blank ∷ commas (q ∷ rest))
