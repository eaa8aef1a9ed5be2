-- Two expressions or statements that are equal without places are equal without places in their outermost layers.
use Rattle.std.proofs.Common.{rules, ◌≡◌, ap, sym, ◌∙◌}
use Rattle.mm_tree.specs.declared.expr.Expr.{Expr}
use Rattle.mm_tree.specs.declared.expr.Node.{Node, the_lemmas as expr_lemmas}
use Rattle.mm_tree.specs.declared.expr.Node.TheFolds.{map-Node}
use Rattle.mm_tree.specs.declared.expr.Node.TheOpen.{Node-F}
use Rattle.mm_tree.specs.declared.stmt.Stmt.{Stmt}
use Rattle.mm_tree.specs.declared.stmt.StmtNode.{StmtNode, the_lemmas as stmt_lemmas}
use Rattle.mm_tree.specs.declared.stmt.StmtNode.TheFolds.{map-StmtNode}
use Rattle.mm_tree.specs.declared.stmt.StmtNode.TheOpen.{StmtNode-F}
use Rattle.mm_tree.specs.Places.{bare_node, bare_expr, bare_layer, bare_stmt_node, bare_stmt, bare_stmt_layer}
use Rattle.mm_tree.specs.Trees.{node_of, statement_node}

-- the outermost layer of the expression without places
abbrev pub layer_of : Expr → Node-F Node Expr
layer_of e = bare_layer (map-Node Node Expr Node Expr bare_node bare_expr (node_of e))

pub same_layers : (e f : Expr) → bare_expr e ≡ bare_expr f → layer_of e ≡ layer_of f
same_layers e f same = sym (is e) ∙ ap node_of same ∙ is f
  where
    is : (e : Expr) → node_of (bare_expr e) ≡ layer_of e
    is e = search (rules, expr_lemmas)

pub ruleset expr_layers = (expr_lemmas, same_layers)

-- the outermost layer of the statement without places
abbrev pub stmt_layer_of : Stmt → StmtNode-F StmtNode Stmt
stmt_layer_of s = bare_stmt_layer (map-StmtNode StmtNode Stmt StmtNode Stmt bare_stmt_node bare_stmt (statement_node s))

pub same_stmt_layers : (s t : Stmt) → bare_stmt s ≡ bare_stmt t → stmt_layer_of s ≡ stmt_layer_of t
same_stmt_layers s t same = sym (is s) ∙ ap statement_node same ∙ is t
  where
    is : (s : Stmt) → statement_node (bare_stmt s) ≡ stmt_layer_of s
    is s = search (rules, stmt_lemmas)

pub ruleset stmt_layers = (stmt_lemmas, same_stmt_layers)
