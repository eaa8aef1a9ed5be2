-- How the words of woven programs are printed.
use Rattle.std.specs.Prelude.{codes}
use Rattle.std.proofs.Common.{rules, ◌≡◌, ℕ, pos, [], ◌∷◌, Some, None, false}
use Rattle.mm_goto.specs.declared.ident.Ident.{Ident}
use Rattle.mm_goto.specs.declared.pure.Binary.{Binary}
use Rattle.mm_tree.specs.declared.expr.Expr.{Expr}
use Rattle.mm_tree.specs.declared.expr.Node.{the_lemmas as expr_lemmas}
use Rattle.mm_tree.specs.declared.expr.Node.TheOpen as node
use Rattle.mm_tree.specs.declared.stmt.Stmt.{Stmt}
use Rattle.mm_tree.specs.declared.stmt.StmtNode.{the_lemmas as stmt_lemmas}
use Rattle.mm_tree.specs.declared.stmt.StmtNode.TheOpen as stmt
use Rattle.mm_print.specs.Expressions.{written, written_step}
use Rattle.mm_print.specs.Statements.{layout, layout_step}
use Rattle.mm_tree.specs.Trees as tree
use Rattle.mm_tree.specs.Places.{nowhere}
use Rattle.mm_tree.specs.declared.stmt.Value.TheVariants as value
use Rattle.mm_words.specs.Words.{expr_of, stmt_of, num, var, bin, word, numbered, assign, declare, assert, go_to, return, label}

pub written_num : (n : ℕ) → written (num n) ≡ written_step (node.Number (pos n))
unfolding written expr_of
written_num n = search (rules, expr_lemmas)

pub written_var : (x : Ident) → written (var x) ≡ written_step (node.Name x)
unfolding written expr_of
written_var x = search (rules, expr_lemmas)

pub written_bin : (op : Binary) (a b : Expr) → written (bin op a b) ≡ written_step (node.Bin op (written a) (written b))
unfolding written expr_of
written_bin op a b = search (rules, expr_lemmas)

pub layout_assign : (x : Ident) (e : Expr) → layout (assign x e) ≡ layout_step (stmt.Assign (tree.named_left nowhere x) (value.Plain e))
unfolding layout stmt_of
layout_assign x e = search (rules, stmt_lemmas)

pub layout_declare : (x : Ident) → layout (declare x) ≡ layout_step (stmt.Declare (tree.local nowhere false x None ∷ []))
unfolding layout stmt_of
layout_declare x = search (rules, stmt_lemmas)

pub layout_assert : (e : Expr) (n : ℕ) → layout (assert e n) ≡ layout_step (stmt.Assert e (Some (numbered (codes "assertion ") n)))
unfolding layout stmt_of
layout_assert e n = search (rules, stmt_lemmas)

pub layout_goto : (x : Ident) → layout (go_to x) ≡ layout_step (stmt.Goto (word x))
unfolding layout stmt_of
layout_goto x = search (rules, stmt_lemmas)

pub layout_return : (e : Expr) → layout (return e) ≡ layout_step (stmt.Return (Some (value.Plain e)))
unfolding layout stmt_of
layout_return e = search (rules, stmt_lemmas)

pub layout_label : (x : Ident) (s : Stmt) → layout (label x s) ≡ layout_step (stmt.Label (word x) (layout s))
unfolding layout stmt_of
layout_label x s = search (rules, stmt_lemmas)
