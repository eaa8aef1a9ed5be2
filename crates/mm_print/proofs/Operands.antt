-- How the expressions of a small program are read.
use Rattle.std.proofs.Common.{◌≡◌, ℕ, suc, pos, ◌+◌, ◌≤◌, ◌<◌, ◌^◌, true, List, [], ◌∷◌, ◌++◌, refl, sym, ◌∙◌, ap, subst, arith, append-nil, append_assoc}
use Rattle.std.specs.Prelude.{codes}
use Rattle.std.specs.Fmt.{decimal}
use Rattle.std.proofs.lemmas.Bool.Decides.{nat_tests}
use Rattle.mm_goto.specs.declared.ident.At.{At}
use Rattle.mm_goto.specs.declared.pure.Pure.{Pure}
use Rattle.mm_goto.specs.declared.pure.Pure.TheOpen as pure
use Rattle.mm_goto.specs.declared.pure.Pure.TheFolds.{fold-Pure}
use Rattle.mm_goto.specs.declared.pure.Binary.TheVariants as binary
use Rattle.mm_goto.specs.declared.program.Cell.{Cell}
use Rattle.mm_goto.specs.Terms.{constant, the_local, combined}
use Rattle.mm_goto.proofs.Folding.{fold_constant, fold_local, fold_combined}
use Rattle.mm_tree.specs.declared.expr.Expr.{Expr}
use Rattle.mm_lexer.proofs.Characters.{is_ascii_name_char}
use Rattle.mm_small_code.specs.reading.Flattening.{Placed, Named, IsValue}
use Rattle.mm_parse_expr.specs.declared.symbol.Symbol.TheVariants as symbol
use Rattle.mm_parse_expr.specs.declared.terminal.Terminal.{Terminal}
use Rattle.mm_parse_expr.specs.Symbols.{word_symbol}
use Rattle.mm_parse_expr.specs.Grammar as g
use Rattle.mm_parse_expr.specs.Grammar.{IsExpr, IsLevel, IsPrimary, terminal, binary_tree}
use Rattle.mm_print.specs.SmallListing.{IsSmallExpr}
use Rattle.mm_print.specs.SmallText.{Written, written, written_step, operand, local_text, label_text}
use Rattle.mm_print.proofs.Lookup.{declared, local_found}
use Rattle.mm_print.proofs.Says.{Says, Stops, digits_all, ascii_says, number_says, equal_says, blank_says}
use Rattle.mm_print.proofs.Signs.{Sign, named, number, mark, behind, laid}

-- ---- the grammar's levels

lift : {n : ℕ} {ts rest : List Terminal} {e : Expr} → IsLevel n ts e rest → IsLevel (suc n) ts e rest
lift d = g.joined d g.done

below : {ts rest : List Terminal} {e : Expr} → IsPrimary ts e rest → IsLevel 4 ts e rest
below d = lift (lift (lift (lift (g.unary (g.primary d)))))

above : {ts rest : List Terminal} {e : Expr} → IsLevel 5 ts e rest → IsExpr ts e rest
above d = g.plain (lift (lift (lift (lift (lift d)))))

pub from_primary : {ts rest : List Terminal} {e : Expr} → IsPrimary ts e rest → IsExpr ts e rest
from_primary d = above (lift (below d))

equality : {ts us rest : List Terminal} {a b : Expr} {p : At} {x : List ℕ} → IsPrimary ts a (terminal (symbol.Operator binary.Eq) p x ∷ us) → IsPrimary us b rest → IsExpr ts (binary_tree binary.Eq a b) rest
equality d e = above (g.joined (below d) (g.more refl (below e) g.done))

-- ---- the text

digit_name : (d : ℕ) → d < 10 → is_ascii_name_char (48 + d) ≡ true
digit_name d h = grind (arith, nat_tests)

pub local_says : (l : ℕ) {bs : List ℕ} {ss : List Sign} → Stops bs → Says bs ss → Says (local_text l ++ bs) (named (local_text l) ∷ ss)
unfolding word_symbol
local_says l e s = ascii_says (local_text l) symbol.Name (digits_all is_ascii_name_char digit_name l) refl e s

pub label_says : (k : ℕ) {bs : List ℕ} {ss : List Sign} → Stops bs → Says bs ss → Says (label_text k ++ bs) (named (label_text k) ∷ ss)
unfolding word_symbol
label_says k e s = ascii_says (label_text k) symbol.Name (digits_all is_ascii_name_char digit_name k) refl e s

pub number_text : (n : ℕ) → (written (constant (pos n))).text ≡ decimal n
unfolding written
number_text n = ap (λ (w : Written). w.text) (fold_constant written_step (pos n))

text_of_local : (l : ℕ) → (written (the_local l)).text ≡ local_text l
unfolding written
text_of_local l = ap (λ (w : Written). w.text) (fold_local written_step l)

equal_text : (l n : ℕ) → (written (combined binary.Eq (the_local l) (constant (pos n)))).text ≡ local_text l ++ 32 ∷ 61 ∷ 61 ∷ 32 ∷ decimal n
unfolding written
equal_text l n =
    ap (λ (w : Written). w.text) (fold_combined written_step binary.Eq (the_local l) (constant (pos n)))
    ∙ ap (λ (w : Written). operand w ++ codes " " ++ codes "==" ++ codes " " ++ operand (fold-Pure Written written_step (constant (pos n)))) (fold_local written_step l)
    ∙ ap (λ (w : Written). operand (written_step (pure.Local l)) ++ codes " " ++ codes "==" ++ codes " " ++ operand w) (fold_constant written_step (pos n))
    ∙ joined (local_text l) (decimal n)
  where
    joined : (x y : List ℕ) → (x ++ []) ++ codes " " ++ codes "==" ++ codes " " ++ (y ++ []) ≡ x ++ 32 ∷ 61 ∷ 61 ∷ 32 ∷ y
    joined x y = simp (append_assoc, append-nil)

-- the tokens of an expression
abbrev pub expr_signs : {n : ℕ} {e : Pure} → IsSmallExpr n e → List Sign
expr_signs (IsSmallExpr.number n h) = number n ∷ []
expr_signs (IsSmallExpr.local l h) = named (local_text l) ∷ []
expr_signs (IsSmallExpr.equal l n h k) = named (local_text l) ∷ mark (symbol.Operator binary.Eq) (61 ∷ 61 ∷ []) ∷ number n ∷ []

pub expr_says : {m : ℕ} {e : Pure} (d : IsSmallExpr m e) {bs : List ℕ} {ss : List Sign} → Stops bs → Says bs ss → Says ((written e).text ++ bs) (expr_signs d ++ ss)
expr_says (IsSmallExpr.number n h) {bs = bs} {ss = ss} e s = subst (λ t. Says (t ++ bs) (number n ∷ ss)) (sym (number_text n)) (number_says n h e s)
expr_says (IsSmallExpr.local l h) {bs = bs} {ss = ss} e s = subst (λ t. Says (t ++ bs) (named (local_text l) ∷ ss)) (sym (text_of_local l)) (local_says l e s)
expr_says (IsSmallExpr.equal l n h k) {bs = bs} {ss = ss} e s =
    subst (λ t. Says t (expr_signs (IsSmallExpr.equal l n h k) ++ ss)) (sym (append_assoc (local_text l) (32 ∷ 61 ∷ 61 ∷ 32 ∷ decimal n) bs) ∙ ap (λ t. t ++ bs) (sym (equal_text l n)))
    (local_says l refl (blank_says (equal_says (blank_says (number_says n k e s)))))

-- ---- its reading

-- the tokens are the expression, and the rest is left
pub record ExprRead (locals : List Named) (ps : List At) (ss rest : List Sign) (e : Pure) : Type 0 where
  pub tree : Expr
  pub left : List At
  pub parsed : IsExpr (laid ps (ss ++ rest)) tree (laid left rest)
  pub value : (cells : List Cell) (n : ℕ) (is : List Placed) → IsValue cells locals n tree is e n is

pub expr_read : {m : ℕ} {e : Pure} (d : IsSmallExpr m e) → m ≤ 2 ^ 32 → (ps : List At) (rest : List Sign) → ExprRead (declared m) ps (expr_signs d) rest e
expr_read (IsSmallExpr.number n h) few ps rest = record { tree = _; left = behind ps; parsed = from_primary g.number; value = λ cells m is. IsValue.number }
expr_read {m = m} (IsSmallExpr.local l h) few ps rest = record { tree = _; left = behind ps; parsed = from_primary g.name; value = λ cells n is. IsValue.local (local_found m l few h) }
expr_read {m = m} (IsSmallExpr.equal l n h k) few ps rest = record { tree = _; left = behind (behind (behind ps)); parsed = equality g.name g.number; value = λ cells n is. IsValue.operation refl (IsValue.local (local_found m l few h)) IsValue.number }
