-- The equations of flattening, for each tree that a word makes.
use Rattle.std.proofs.Common.{◌≡◌, ℕ, ◌∙◌, ap}
use Rattle.mm_goto.specs.declared.ident.At.{At}
use Rattle.mm_tree.specs.Places.{nowhere}
use Rattle.mm_tree.specs.declared.expr.Expr.{Expr}
use Rattle.mm_tree.specs.declared.expr.Node.{Node, roll-Node}
use Rattle.mm_tree.specs.declared.expr.Node.TheOpen.{Node-F}
use Rattle.mm_tree.specs.declared.expr.Node.TheFolds.{fold-Node, fold-roll-Node, fold-roll-Expr, map-Node}
use Rattle.mm_tree.specs.declared.stmt.Stmt.{Stmt}
use Rattle.mm_tree.specs.declared.stmt.StmtNode.{StmtNode, roll-StmtNode}
use Rattle.mm_tree.specs.declared.stmt.StmtNode.TheOpen.{StmtNode-F}
use Rattle.mm_tree.specs.declared.stmt.StmtNode.TheFolds.{fold-StmtNode, fold-roll-StmtNode, fold-roll-Stmt, map-StmtNode}
use Rattle.mm_words.specs.Words.{expr_of, stmt_of}
use Rattle.mm_flow.specs.Expressions.{Scope, Reading, reading, node_value, node_has_code, node_step, expr_step}
use Rattle.mm_flow.specs.Statements.{Within, Known, Doing, stmt_code, stmt_step, placed_step}

abbrev pub node_reading : Node → At → Reading
node_reading = fold-Node (At → Reading) Reading node_step expr_step

pub reading_is : (layer : Node-F Node Expr) → reading (expr_of layer) ≡ node_step (map-Node Node Expr (At → Reading) Reading node_reading reading layer) nowhere
unfolding reading expr_of
reading_is layer = fold-roll-Expr (At → Reading) Reading node_step expr_step (record { at = nowhere; node = roll-Node layer }) ∙ ap (λ (f : At → Reading). f nowhere) (fold-roll-Node (At → Reading) Reading node_step expr_step layer)

abbrev pub node_code : StmtNode → At → Doing
node_code = fold-StmtNode (At → Doing) Doing stmt_step placed_step

pub code_is : (layer : StmtNode-F StmtNode Stmt) → stmt_code (stmt_of layer) ≡ stmt_step (map-StmtNode StmtNode Stmt (At → Doing) Doing node_code stmt_code layer) nowhere
unfolding stmt_code stmt_of
code_is layer = fold-roll-Stmt (At → Doing) Doing stmt_step placed_step (record { at = nowhere; node = roll-StmtNode layer }) ∙ ap (λ (f : At → Doing). f nowhere) (fold-roll-StmtNode (At → Doing) Doing stmt_step placed_step layer)

-- with all that they take, as simp wants them
pub value_is : (layer : Node-F Node Expr) (s : Scope) (n : ℕ) → (reading (expr_of layer)).value s n ≡ node_value (map-Node Node Expr (At → Reading) Reading node_reading reading layer) nowhere s n
value_is layer s n = ap (λ (r : Reading). r.value s n) (reading_is layer)

pub has_code_is : (layer : Node-F Node Expr) (s : Scope) → (reading (expr_of layer)).has_code s ≡ node_has_code (map-Node Node Expr (At → Reading) Reading node_reading reading layer) s
has_code_is layer s = ap (λ (r : Reading). r.has_code s) (reading_is layer)

pub stmt_is : (layer : StmtNode-F StmtNode Stmt) (w : Within) (k : Known) → stmt_code (stmt_of layer) w k ≡ stmt_step (map-StmtNode StmtNode Stmt (At → Doing) Doing node_code stmt_code layer) nowhere w k
stmt_is layer w k = ap (λ (d : Doing). d w k) (code_is layer)

pub ruleset lowering = (value_is, has_code_is, stmt_is)
