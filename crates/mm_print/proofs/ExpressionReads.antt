-- The pieces of a printable expression are tokens, and are read as the expression.
use Rattle.std.proofs.Common.{◌≡◌, ℕ, zero, suc, pos, ◌<◌, ◌^◌, true, false, List, ◌∷◌, ◌++◌, refl, sym, subst, append_assoc}
use Rattle.mm_goto.specs.declared.ident.At.{At}
use Rattle.mm_goto.specs.declared.pure.Unary.{Unary}
use Rattle.mm_goto.specs.declared.pure.Unary.TheVariants as unary
use Rattle.mm_goto.specs.declared.pure.Binary.{Binary}
use Rattle.mm_goto.specs.declared.pure.Binary.TheVariants as binary
use Rattle.mm_tree.specs.declared.expr.Expr.{Expr}
use Rattle.mm_tree.specs.declared.expr.Node.TheVariants as node
use Rattle.mm_tree.specs.declared.expr.Node.TheOpen as layer
use Rattle.mm_tree.specs.Places.{bare_expr}
use Rattle.mm_parse_expr.specs.declared.symbol.Symbol.TheVariants as symbol
use Rattle.mm_parse_expr.specs.declared.terminal.Terminal.{Terminal}
use Rattle.mm_parse_expr.specs.Grammar as g
use Rattle.mm_parse_expr.specs.Grammar.{looseness, IsExpr, IsLevel, IsUnary, IsPrimary}
use Rattle.mm_tree.specs.Trees.{expr as tree, word}
use Rattle.mm_print.specs.Pieces.{Piece, sign_of, spaced}
use Rattle.mm_print.specs.Expressions.{Written, written, written_step, operand}
use Rattle.mm_print.specs.Printable.{IsPrintableName, IsPrintableNumber, IsPrintable}
use Rattle.mm_print.proofs.Signs.{behind as past}
use Rattle.mm_print.proofs.Spelling.{Fit, ends_mark}
use Rattle.mm_print.proofs.Reading.{Read, Reads, behind}
use Rattle.mm_print.proofs.ExpressionForms.{written_null, written_pointee, written_address, written_element_address, bare_pointee, bare_address, bare_element_address, written_number, written_name, written_element, written_un, written_bin, written_cond, bare_at, bare_element, bare_un, bare_bin, bare_cond}

-- these pieces are read as the expression, and with parentheses where it needs them as a part of another
pub record ExprReads (e : Expr) (w : Written) : Type 0 where
  pub whole : Reads bare_expr IsExpr e w.pieces
  pub part : Reads bare_expr IsPrimary e (operand w)
  pub loose : (rest : List Piece) → ends_mark (operand w ++ rest) ≡ true

-- ---- the levels of the grammar

at_level : (n : ℕ) {ts rest : List Terminal} {e : Expr} → IsPrimary ts e rest → IsLevel n ts e rest
at_level zero d = g.unary (g.primary d)
at_level (suc n) d = g.joined (at_level n d) g.done

lift : {n : ℕ} {ts rest : List Terminal} {e : Expr} → IsLevel n ts e rest → IsLevel (suc n) ts e rest
lift d = g.joined d g.done

above : (op : Binary) {ts rest : List Terminal} {e : Expr} → IsLevel (suc (looseness op)) ts e rest → IsLevel 10 ts e rest
above binary.Mul d = lift (lift (lift (lift (lift (lift (lift (lift (lift d))))))))
above binary.Div d = lift (lift (lift (lift (lift (lift (lift (lift (lift d))))))))
above binary.Rem d = lift (lift (lift (lift (lift (lift (lift (lift (lift d))))))))
above binary.Add d = lift (lift (lift (lift (lift (lift (lift (lift d)))))))
above binary.Sub d = lift (lift (lift (lift (lift (lift (lift (lift d)))))))
above binary.Shl d = lift (lift (lift (lift (lift (lift (lift d))))))
above binary.Shr d = lift (lift (lift (lift (lift (lift (lift d))))))
above binary.Lt d = lift (lift (lift (lift (lift (lift d)))))
above binary.Le d = lift (lift (lift (lift (lift (lift d)))))
above binary.Gt d = lift (lift (lift (lift (lift (lift d)))))
above binary.Ge d = lift (lift (lift (lift (lift (lift d)))))
above binary.Eq d = lift (lift (lift (lift (lift d))))
above binary.Ne d = lift (lift (lift (lift (lift d))))
above binary.And d = lift (lift (lift (lift d)))
above binary.Xor d = lift (lift (lift d))
above binary.Or d = lift (lift d)
above binary.Land d = lift d
above binary.Lor d = d

from_unary : {ts rest : List Terminal} {e : Expr} → IsUnary ts e rest → IsExpr ts e rest
from_unary d = g.plain (lift (lift (lift (lift (lift (lift (lift (lift (lift (lift (g.unary d)))))))))))

-- ---- with parentheses and without

simple : {e : Expr} {us : List Piece} → ((rest : List Piece) → ends_mark (us ++ rest) ≡ true) → Reads bare_expr IsPrimary e us → ExprReads e (record { pieces = us; compound = false })
simple loose r = record {
  whole = record { fit = r.fit; read = λ ps rest. let i = r.read ps rest in record { tree = i.tree; left = i.left; parsed = from_unary (g.primary i.parsed); same = i.same } };
  part = r;
  loose = loose;
}

compound : {e : Expr} {us : List Piece} → Reads bare_expr IsExpr e us → ExprReads e (record { pieces = us; compound = true })
compound {e = e} {us = us} r = record {
  whole = r;
  part = record {
    fit = λ rest h f. (tt, refl, subst Fit (behind us rest symbol.Close) (r.fit (Piece.mark symbol.Close ∷ rest) refl (tt, refl, f)));
    read = λ ps rest. subst (λ vs. Read bare_expr IsPrimary ps (Piece.mark symbol.Open ∷ vs) rest e) (behind us rest symbol.Close) (grouped ps rest);
  };
  loose = λ rest. refl;
}
  where
    grouped : (ps : List At) (rest : List Piece) → Read bare_expr IsPrimary ps (Piece.mark symbol.Open ∷ (us ++ (Piece.mark symbol.Close ∷ rest))) rest e
    grouped ps rest = let i = r.read (past ps) (Piece.mark symbol.Close ∷ rest) in record { tree = i.tree; left = past i.left; parsed = g.group i.parsed; same = i.same }

-- ---- the forms

number_reads : (at : At) (n : ℕ) → n < 2 ^ 31 → ExprReads (tree at (node.Number (pos n))) (written_step (layer.Number (pos n)))
number_reads at n h = simple (λ rest. refl) (record { fit = λ rest k f. (h, k, f); read = λ ps rest. record { tree = _; left = past ps; parsed = g.number; same = bare_at _ at (node.Number (pos n)) } })

null_reads : (at : At) → ExprReads (tree at node.Null) (written_step layer.Null)
null_reads at = simple (λ rest. refl) (record { fit = λ rest k f. (tt, k, f); read = λ ps rest. record { tree = _; left = past ps; parsed = g.null; same = bare_at _ at node.Null } })

name_reads : (at : At) (x : List ℕ) → IsPrintableName x → ExprReads (tree at (node.Name x)) (written_step (layer.Name x))
name_reads at x h = simple (λ rest. refl) (record { fit = λ rest k f. (h, k, f); read = λ ps rest. record { tree = _; left = past ps; parsed = g.name; same = bare_at _ at (node.Name x) } })

element_reads : (at : At) (x : List ℕ) {e : Expr} {w : Written} → IsPrintableName x → ExprReads e w → ExprReads (tree at (node.Index x e)) (written_step (layer.Index x w))
element_reads at x {e = e} {w = w} h r = simple (λ rest. refl) (record {
  fit = λ rest k f. (h, refl, (tt, refl, subst Fit (behind w.pieces rest symbol.CloseBracket) (r.whole.fit (Piece.mark symbol.CloseBracket ∷ rest) refl (tt, refl, f))));
  read = λ ps rest. subst (λ us. Read bare_expr IsPrimary ps (Piece.name x ∷ Piece.mark symbol.OpenBracket ∷ us) rest (tree at (node.Index x e))) (behind w.pieces rest symbol.CloseBracket) (inner ps rest);
})
  where
    inner : (ps : List At) (rest : List Piece) → Read bare_expr IsPrimary ps (Piece.name x ∷ Piece.mark symbol.OpenBracket ∷ (w.pieces ++ (Piece.mark symbol.CloseBracket ∷ rest))) rest (tree at (node.Index x e))
    inner ps rest = let i = r.whole.read (past (past ps)) (Piece.mark symbol.CloseBracket ∷ rest) in record { tree = _; left = past i.left; parsed = g.element i.parsed; same = bare_element _ at x i.tree e i.same }

pointee_reads : (at : At) {e : Expr} {w : Written} → ExprReads e w → ExprReads (tree at (node.Deref e)) (written_step (layer.Deref w))
pointee_reads at {e = e} {w = w} r = compound (record {
  fit = λ rest k f. (tt, r.loose rest, r.part.fit rest k f);
  read = λ ps rest. let i = r.part.read (past ps) rest in record { tree = _; left = i.left; parsed = from_unary (g.deref (g.primary i.parsed)); same = bare_pointee _ at i.tree e i.same };
})

address_reads : (at p : At) (x : List ℕ) → IsPrintableName x → ExprReads (tree at (node.AddrName (word p x))) (written_step (layer.AddrName (word p x)))
address_reads at p x h = compound (record {
  fit = λ rest k f. (tt, refl, (h, k, f));
  read = λ ps rest. record { tree = _; left = past (past ps); parsed = from_unary g.address; same = bare_address _ _ at p x };
})

element_address_reads : (at p : At) (x : List ℕ) {e : Expr} {w : Written} → IsPrintableName x → ExprReads e w → ExprReads (tree at (node.AddrIndex (word p x) e)) (written_step (layer.AddrIndex (word p x) w))
element_address_reads at p x {e = e} {w = w} h r = compound (record {
  fit = λ rest k f. (tt, refl, (h, refl, (tt, refl, subst Fit (behind w.pieces rest symbol.CloseBracket) (r.whole.fit (Piece.mark symbol.CloseBracket ∷ rest) refl (tt, refl, f)))));
  read = λ ps rest. subst (λ us. Read bare_expr IsExpr ps (Piece.mark (symbol.Operator binary.And) ∷ Piece.name x ∷ Piece.mark symbol.OpenBracket ∷ us) rest (tree at (node.AddrIndex (word p x) e))) (behind w.pieces rest symbol.CloseBracket) (inner ps rest);
})
  where
    inner : (ps : List At) (rest : List Piece) → Read bare_expr IsExpr ps (Piece.mark (symbol.Operator binary.And) ∷ Piece.name x ∷ Piece.mark symbol.OpenBracket ∷ (w.pieces ++ (Piece.mark symbol.CloseBracket ∷ rest))) rest (tree at (node.AddrIndex (word p x) e))
    inner ps rest = let i = r.whole.read (past (past (past ps))) (Piece.mark symbol.CloseBracket ∷ rest) in record { tree = _; left = past i.left; parsed = from_unary (g.element_address i.parsed); same = bare_element_address _ _ at p x i.tree e i.same }

sign_fits : (op : Unary) (rest : List Piece) → ends_mark rest ≡ true → Fit rest → Fit (Piece.mark (sign_of op) ∷ rest)
sign_fits unary.Neg rest h f = (tt, h, f)
sign_fits unary.Plus rest h f = (tt, h, f)
sign_fits unary.Not rest h f = (tt, h, f)
sign_fits unary.Flip rest h f = (tt, refl, f)

sign_read : (op : Unary) {e : Expr} {p : At} {x : List ℕ} {ts rest : List Terminal} → IsUnary ts e rest → IsUnary (g.terminal (sign_of op) p x ∷ ts) (tree p (node.Un op e)) rest
sign_read unary.Neg d = g.minus d
sign_read unary.Plus d = g.plus d
sign_read unary.Not d = g.not d
sign_read unary.Flip d = g.flip d

un_reads : (at : At) (op : Unary) {e : Expr} {w : Written} → ExprReads e w → ExprReads (tree at (node.Un op e)) (written_step (layer.Un op w))
un_reads at op {e = e} {w = w} r = compound (record {
  fit = λ rest k f. sign_fits op (operand w ++ rest) (r.loose rest) (r.part.fit rest k f);
  read = λ ps rest. let i = r.part.read (past ps) rest in record { tree = _; left = i.left; parsed = from_unary (sign_read op (g.primary i.parsed)); same = bare_un _ at op i.tree e i.same };
})

bin_reads : (at : At) (op : Binary) {a b : Expr} {v w : Written} → ExprReads a v → ExprReads b w → ExprReads (tree at (node.Bin op a b)) (written_step (layer.Bin op v w))
bin_reads at op {a = a} {b = b} {v = v} {w = w} r s = compound (record {
  fit = λ rest k f. subst Fit (joined rest) (r.part.fit (spaced (symbol.Operator op) (operand w ++ rest)) refl (tt, refl, (tt, refl, (tt, refl, s.part.fit rest k f))));
  read = λ ps rest. subst (λ us. Read bare_expr IsExpr ps us rest (tree at (node.Bin op a b))) (joined rest) (inner ps rest);
})
  where
    joined : (rest : List Piece) → operand v ++ spaced (symbol.Operator op) (operand w ++ rest) ≡ (operand v ++ spaced (symbol.Operator op) (operand w)) ++ rest
    joined rest = sym (append_assoc (operand v) (spaced (symbol.Operator op) (operand w)) rest)

    inner : (ps : List At) (rest : List Piece) → Read bare_expr IsExpr ps (operand v ++ spaced (symbol.Operator op) (operand w ++ rest)) rest (tree at (node.Bin op a b))
    inner ps rest =
        let i = r.part.read ps (spaced (symbol.Operator op) (operand w ++ rest)) in
        let j = s.part.read (past i.left) rest in
        record { tree = _; left = j.left; parsed = g.plain (above op (g.joined (at_level (looseness op) i.parsed) (g.more refl (at_level (looseness op) j.parsed) g.done))); same = bare_bin _ at op i.tree j.tree a b i.same j.same }

cond_reads : (at : At) {c a b : Expr} {u v w : Written} → ExprReads c u → ExprReads a v → ExprReads b w → ExprReads (tree at (node.Cond c a b)) (written_step (layer.Cond u v w))
cond_reads at {c = c} {a = a} {b = b} {u = u} {v = v} {w = w} q r s = compound (record {
  fit = λ rest k f. subst Fit (joined rest) (q.part.fit (spaced symbol.Question (operand v ++ spaced symbol.Colon (operand w ++ rest))) refl (tt, refl, (tt, refl, (tt, refl, r.part.fit (spaced symbol.Colon (operand w ++ rest)) refl (tt, refl, (tt, refl, (tt, refl, s.part.fit rest k f)))))));
  read = λ ps rest. subst (λ us. Read bare_expr IsExpr ps us rest (tree at (node.Cond c a b))) (joined rest) (inner ps rest);
})
  where
    joined : (rest : List Piece) → operand u ++ spaced symbol.Question (operand v ++ spaced symbol.Colon (operand w ++ rest)) ≡ (operand u ++ spaced symbol.Question (operand v ++ spaced symbol.Colon (operand w))) ++ rest
    joined rest = simp append_assoc

    inner : (ps : List At) (rest : List Piece) → Read bare_expr IsExpr ps (operand u ++ spaced symbol.Question (operand v ++ spaced symbol.Colon (operand w ++ rest))) rest (tree at (node.Cond c a b))
    inner ps rest =
        let h = q.part.read ps (spaced symbol.Question (operand v ++ spaced symbol.Colon (operand w ++ rest))) in
        let i = r.part.read (past h.left) (spaced symbol.Colon (operand w ++ rest)) in
        let j = s.part.read (past i.left) rest in
        record { tree = _; left = j.left; parsed = g.choice (at_level 10 h.parsed) (from_unary (g.primary i.parsed)) (from_unary (g.primary j.parsed)); same = bare_cond _ at h.tree i.tree j.tree c a b h.same i.same j.same }

-- ---- all printable expressions

pub expr_reads : {e : Expr} → IsPrintable e → ExprReads e (written e)
expr_reads (IsPrintable.number (IsPrintableNumber.number {at = at} {n = n} h)) = subst (ExprReads (tree at (node.Number (pos n)))) (sym (written_number at (pos n))) (number_reads at n h)
expr_reads (IsPrintable.null {at = at}) = subst (ExprReads (tree at node.Null)) (sym (written_null at)) (null_reads at)
expr_reads (IsPrintable.pointee {at = at} {e = e} i) = subst (ExprReads (tree at (node.Deref e))) (sym (written_pointee at e)) (pointee_reads at (expr_reads i))
expr_reads (IsPrintable.address {at = at} {p = p} {x = x} h) = subst (ExprReads (tree at (node.AddrName (word p x)))) (sym (written_address at p x)) (address_reads at p x h)
expr_reads (IsPrintable.element_address {at = at} {p = p} {x = x} {e = e} h i) = subst (ExprReads (tree at (node.AddrIndex (word p x) e))) (sym (written_element_address at p x e)) (element_address_reads at p x h (expr_reads i))
expr_reads (IsPrintable.name {at = at} {x = x} h) = subst (ExprReads (tree at (node.Name x))) (sym (written_name at x)) (name_reads at x h)
expr_reads (IsPrintable.element {at = at} {x = x} {e = e} h i) = subst (ExprReads (tree at (node.Index x e))) (sym (written_element at x e)) (element_reads at x h (expr_reads i))
expr_reads (IsPrintable.un {at = at} {op = op} {e = e} i) = subst (ExprReads (tree at (node.Un op e))) (sym (written_un at op e)) (un_reads at op (expr_reads i))
expr_reads (IsPrintable.bin {at = at} {op = op} {a = a} {b = b} i j) = subst (ExprReads (tree at (node.Bin op a b))) (sym (written_bin at op a b)) (bin_reads at op (expr_reads i) (expr_reads j))
expr_reads (IsPrintable.cond {at = at} {c = c} {a = a} {b = b} h i j) = subst (ExprReads (tree at (node.Cond c a b))) (sym (written_cond at c a b)) (cond_reads at (expr_reads h) (expr_reads i) (expr_reads j))
