-- The text of each statement that a woven program of main alone has.
use Rattle.std.proofs.Common.{◌≡◌, ℕ, append-nil, List, [], ◌∷◌, ◌++◌, ◌∙◌, ap, append_assoc, arith}
use Rattle.std.specs.Prelude.{codes}
use Rattle.std.specs.Fmt.{decimal}
use Rattle.std.proofs.lemmas.Fmt.{decimal_digit}
use Rattle.mm_goto.specs.declared.ident.Ident.{Ident}
use Rattle.mm_goto.specs.declared.pure.Binary.TheVariants as binary
use Rattle.mm_tree.specs.declared.expr.Expr.{Expr}
use Rattle.mm_tree.specs.declared.stmt.Stmt.{Stmt}
use Rattle.mm_parse_expr.specs.declared.symbol.Symbol.TheVariants as symbol
use Rattle.mm_parse_expr.specs.declared.symbol.Keyword.TheVariants as keyword
use Rattle.mm_print.specs.Pieces.{Piece, text, semicolon, spaced, keyword_text}
use Rattle.mm_print.specs.Expressions.{Written, written, expr_pieces, operand}
use Rattle.mm_print.specs.Statements.{Layout, layout, whole}
use Rattle.mm_words.specs.Words.{num, var, bin, numbered, assign, declare, assert, go_to, return, label}
use Rattle.mm_alone.proofs.Forms.{written_num, written_var, written_bin, layout_assign, layout_declare, layout_assert, layout_goto, layout_return, layout_label}
use Rattle.mm_alone.proofs.Lines.{text_append}

-- the text of an expression by itself
abbrev pub shown : Expr → List ℕ
shown e = text (expr_pieces e)

-- the text of a statement in a block
abbrev pub told : Stmt → List ℕ
told s = text (whole (layout s) 1)

pub shown_num : (n : ℕ) → shown (num n) ≡ decimal n
shown_num n = ap (λ (w : Written). text w.pieces) (written_num n) ∙ simp append-nil

pub shown_var : (x : Ident) → shown (var x) ≡ x
shown_var x = ap (λ (w : Written). text w.pieces) (written_var x) ∙ simp append-nil

pub shown_equal : (x : Ident) (n : ℕ) → shown (bin binary.Eq (var x) (num n)) ≡ x ++ codes " == " ++ decimal n
shown_equal x n =
    ap (λ (w : Written). text w.pieces) (written_bin binary.Eq (var x) (num n))
    ∙ ap (λ (w : Written). text (operand w ++ spaced (symbol.Operator binary.Eq) (operand (written (num n))))) (written_var x)
    ∙ ap (λ (w : Written). text (Piece.name x ∷ spaced (symbol.Operator binary.Eq) (operand w))) (written_num n)
    ∙ simp (append_assoc, append-nil)

pub told_assign : (x : Ident) (e : Expr) → told (assign x e) ≡ x ++ codes " = " ++ shown e ++ codes ";"
told_assign x e =
    ap (λ (w : Layout). text (whole w 1)) (layout_assign x e)
    ∙ text_append (Piece.name x ∷ spaced symbol.Assign (expr_pieces e)) semicolon
    ∙ simp append_assoc

pub told_declare : (x : Ident) → told (declare x) ≡ codes "int " ++ x ++ codes ";"
unfolding keyword_text
told_declare x = ap (λ (w : Layout). text (whole w 1)) (layout_declare x) ∙ simp (append_assoc, append-nil)

pub told_assert : (e : Expr) (n : ℕ) → told (assert e n) ≡ codes "__CPROVER_assert(" ++ shown e ++ codes ", \"assertion " ++ decimal n ++ codes "\");"
unfolding keyword_text
told_assert e n =
    ap (λ (w : Layout). text (whole w 1)) (layout_assert e n)
    ∙ ap (λ t. codes "__CPROVER_assert(" ++ t) (regroup)
    ∙ simp append_assoc
  where
    rest : List Piece
    rest = Piece.mark symbol.Comma ∷ Piece.blank ∷ Piece.quoted (numbered (codes "assertion ") n) ∷ []

    regroup : text (((expr_pieces e ++ rest) ++ Piece.mark symbol.Close ∷ []) ++ semicolon) ≡ (shown e ++ text rest) ++ codes ");"
    regroup = text_append ((expr_pieces e ++ rest) ++ Piece.mark symbol.Close ∷ []) semicolon ∙ ap (λ t. t ++ codes ";") (text_append (expr_pieces e ++ rest) (Piece.mark symbol.Close ∷ []) ∙ ap (λ t. t ++ codes ")") (text_append (expr_pieces e) rest)) ∙ simp append_assoc

pub told_goto : (x : Ident) → told (go_to x) ≡ codes "goto " ++ x ++ codes ";"
unfolding keyword_text
told_goto x = ap (λ (w : Layout). text (whole w 1)) (layout_goto x) ∙ simp (append_assoc, append-nil)

pub told_return : told (return (num 0)) ≡ codes "return 0;"
unfolding keyword_text
told_return = ap (λ (w : Layout). text (whole w 1)) (layout_return (num 0)) ∙ text_append (Piece.word keyword.Return ∷ Piece.blank ∷ expr_pieces (num 0)) semicolon ∙ ap (λ t. (codes "return " ++ t) ++ codes ";") (shown_num 0 ∙ decimal_digit 0 (omega arith))

pub told_label : (x : Ident) (s : Stmt) → told (label x s) ≡ x ++ codes ": " ++ told s
told_label x s = ap (λ (w : Layout). text (whole w 1)) (layout_label x s) ∙ simp append_assoc
