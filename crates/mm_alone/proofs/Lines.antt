-- Lines of text: a new line before each, or one behind each.
use Rattle.std.proofs.Common.{◌≡◌, ℕ, List, [], ◌∷◌, ◌++◌, refl, sym, ◌∙◌, ap, append_assoc}
use Rattle.std.specs.Prelude.{codes}
use Rattle.std.specs.List.{flat_map}
use Rattle.mm_print.specs.Pieces.{Piece, piece_text, text}
use Rattle.mm_print.specs.Statements.{Layout, lines, whole}

pub text_append : (ps qs : List Piece) → text (ps ++ qs) ≡ text ps ++ text qs
text_append [] qs = refl
text_append (p ∷ ps) qs = ap (λ t. piece_text p ++ t) (text_append ps qs) ∙ sym (append_assoc (piece_text p) (text ps) (text qs))

-- a statement's line within one block, without what ends it
abbrev pub line_of : Layout → List ℕ
line_of w = codes "  " ++ text (whole w 1)

-- the lines, each with its end
abbrev pub ended_lines : List Layout → List ℕ
ended_lines ws = flat_map (λ w. line_of w ++ codes "\n") ws

pub lines_end : (ws : List Layout) → text (lines 1 ws) ++ codes "\n" ≡ codes "\n" ++ ended_lines ws
lines_end [] = refl
lines_end (w ∷ ws) =
    ap (λ t. t ++ codes "\n") (text_append (Piece.line 1 ∷ whole w 1) (lines 1 ws))
    ∙ append_assoc (text (Piece.line 1 ∷ whole w 1)) (text (lines 1 ws)) (codes "\n")
    ∙ ap (λ t. text (Piece.line 1 ∷ whole w 1) ++ t) (lines_end ws)
    ∙ ap (λ t. codes "\n" ++ t) (sym (append_assoc (line_of w) (codes "\n") (ended_lines ws)))
