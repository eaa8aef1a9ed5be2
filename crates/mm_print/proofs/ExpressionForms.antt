-- What the pieces of an expression are, form by form, in front of others; and the expression without places.
use Rattle.std.proofs.Common.{rules, ◌≡◌, ℕ, ℤ, List}
use Rattle.mm_goto.specs.declared.ident.At.{At}
use Rattle.mm_goto.specs.declared.pure.Unary.{Unary}
use Rattle.mm_goto.specs.declared.pure.Binary.{Binary}
use Rattle.mm_tree.specs.declared.expr.Expr.{Expr}
use Rattle.mm_tree.specs.declared.expr.Node.{Node, the_lemmas as expr_lemmas}
use Rattle.mm_tree.specs.declared.expr.Node.TheVariants as node
use Rattle.mm_tree.specs.declared.expr.Node.TheOpen as layer
use Rattle.mm_tree.specs.Places.{bare_expr}
use Rattle.mm_tree.specs.Trees.{expr as tree, word}
use Rattle.mm_print.specs.Expressions.{written, written_step}

pub written_number : (at : At) (z : ℤ) → written (tree at (node.Number z)) ≡ written_step (layer.Number z)
unfolding written
written_number at z = search (rules, expr_lemmas)

pub written_null : (at : At) → written (tree at node.Null) ≡ written_step layer.Null
unfolding written
written_null at = search (rules, expr_lemmas)

pub written_pointee : (at : At) (e : Expr) → written (tree at (node.Deref e)) ≡ written_step (layer.Deref (written e))
unfolding written
written_pointee at e = search (rules, expr_lemmas)

pub written_address : (at p : At) (x : List ℕ) → written (tree at (node.AddrName (word p x))) ≡ written_step (layer.AddrName (word p x))
unfolding written
written_address at p x = search (rules, expr_lemmas)

pub written_element_address : (at p : At) (x : List ℕ) (e : Expr) → written (tree at (node.AddrIndex (word p x) e)) ≡ written_step (layer.AddrIndex (word p x) (written e))
unfolding written
written_element_address at p x e = search (rules, expr_lemmas)

pub written_name : (at : At) (x : List ℕ) → written (tree at (node.Name x)) ≡ written_step (layer.Name x)
unfolding written
written_name at x = search (rules, expr_lemmas)

pub written_element : (at : At) (x : List ℕ) (e : Expr) → written (tree at (node.Index x e)) ≡ written_step (layer.Index x (written e))
unfolding written
written_element at x e = search (rules, expr_lemmas)

pub written_un : (at : At) (op : Unary) (e : Expr) → written (tree at (node.Un op e)) ≡ written_step (layer.Un op (written e))
unfolding written
written_un at op e = search (rules, expr_lemmas)

pub written_bin : (at : At) (op : Binary) (a b : Expr) → written (tree at (node.Bin op a b)) ≡ written_step (layer.Bin op (written a) (written b))
unfolding written
written_bin at op a b = search (rules, expr_lemmas)

pub written_cond : (at : At) (c a b : Expr) → written (tree at (node.Cond c a b)) ≡ written_step (layer.Cond (written c) (written a) (written b))
unfolding written
written_cond at c a b = search (rules, expr_lemmas)

-- ---- without places

pub bare_at : (p q : At) (n : Node) → bare_expr (tree p n) ≡ bare_expr (tree q n)
bare_at p q n = search (rules, expr_lemmas)

pub bare_element : (p q : At) (x : List ℕ) (e f : Expr) → bare_expr e ≡ bare_expr f → bare_expr (tree p (node.Index x e)) ≡ bare_expr (tree q (node.Index x f))
bare_element p q x e f same = search (rules, expr_lemmas, same)

pub bare_pointee : (p q : At) (e f : Expr) → bare_expr e ≡ bare_expr f → bare_expr (tree p (node.Deref e)) ≡ bare_expr (tree q (node.Deref f))
bare_pointee p q e f same = search (rules, expr_lemmas, same)

pub bare_address : (p q r s : At) (x : List ℕ) → bare_expr (tree p (node.AddrName (word q x))) ≡ bare_expr (tree r (node.AddrName (word s x)))
bare_address p q r s x = search (rules, expr_lemmas)

pub bare_element_address : (p q r s : At) (x : List ℕ) (e f : Expr) → bare_expr e ≡ bare_expr f → bare_expr (tree p (node.AddrIndex (word q x) e)) ≡ bare_expr (tree r (node.AddrIndex (word s x) f))
bare_element_address p q r s x e f same = search (rules, expr_lemmas, same)

pub bare_un : (p q : At) (op : Unary) (e f : Expr) → bare_expr e ≡ bare_expr f → bare_expr (tree p (node.Un op e)) ≡ bare_expr (tree q (node.Un op f))
bare_un p q op e f same = search (rules, expr_lemmas, same)

pub bare_bin : (p q : At) (op : Binary) (a b c d : Expr) → bare_expr a ≡ bare_expr c → bare_expr b ≡ bare_expr d → bare_expr (tree p (node.Bin op a b)) ≡ bare_expr (tree q (node.Bin op c d))
bare_bin p q op a b c d e f = search (rules, expr_lemmas, e, f)

pub bare_cond : (p q : At) (c a b d e f : Expr) → bare_expr c ≡ bare_expr d → bare_expr a ≡ bare_expr e → bare_expr b ≡ bare_expr f → bare_expr (tree p (node.Cond c a b)) ≡ bare_expr (tree q (node.Cond d e f))
bare_cond p q c a b d e f g h i = search (rules, expr_lemmas, g, h, i)
