-- The words that make the parts of a tree, and those that look into them.
use Rattle.std.specs.Prelude.{ℤ, Bool, List, Option}
use Rattle.mm_goto.specs.declared.ident.At.{At}
use Rattle.mm_goto.specs.declared.ident.Ident.{Ident}
use Rattle.mm_tree.specs.declared.expr.Word.{Word}
use Rattle.mm_tree.specs.declared.expr.Expr.{Expr, roll-Expr, out-Expr}
use Rattle.mm_tree.specs.declared.expr.Node.{Node, out-Node}
use Rattle.mm_tree.specs.declared.expr.Node.TheOpen.{Node-F}
use Rattle.mm_tree.specs.declared.stmt.Left.{Left}
use Rattle.mm_tree.specs.declared.stmt.LeftNode.{LeftNode}
use Rattle.mm_tree.specs.declared.stmt.LeftNode.TheVariants.{Name}
use Rattle.mm_tree.specs.declared.stmt.Local.{Local}
use Rattle.mm_tree.specs.declared.stmt.Value.{Value}
use Rattle.mm_tree.specs.declared.stmt.Stmt.{Stmt, roll-Stmt, out-Stmt}
use Rattle.mm_tree.specs.declared.stmt.StmtNode.{StmtNode, out-StmtNode}
use Rattle.mm_tree.specs.declared.stmt.StmtNode.TheOpen.{StmtNode-F}
use Rattle.mm_tree.specs.declared.item.Global.{Global}
use Rattle.mm_tree.specs.declared.item.Param.{Param}

-- a name at a place
abbrev pub word : At → Ident → Word
word at x = record { at = at; name = x }

-- ---- expressions

-- an expression at a place
abbrev pub expr : At → Node → Expr
expr at n = roll-Expr (record { at = at; node = n })

-- where an expression stands
abbrev pub place_of : Expr → At
place_of e = (out-Expr e).at

-- what an expression is made of
abbrev pub node_of : Expr → Node-F Node Expr
node_of e = out-Node (out-Expr e).node

-- ---- statements

-- a left side at a place
abbrev pub left_at : At → LeftNode → Left
left_at at n = record { at = at; node = n }

-- a variable as a left side
abbrev pub named_left : At → Ident → Left
named_left at x = left_at at (Name x)

-- a local variable that is declared at a place, by whether it is a pointer, its name and its value
abbrev pub local : At → Bool → Ident → Option Value → Local
local at pointer x v = record { at = at; pointer = pointer; name = x; value = v }

-- a statement at a place
abbrev pub statement : At → StmtNode → Stmt
statement at n = roll-Stmt (record { at = at; node = n })

-- where a statement stands
abbrev pub statement_place : Stmt → At
statement_place s = (out-Stmt s).at

-- what a statement is made of
abbrev pub statement_node : Stmt → StmtNode-F StmtNode Stmt
statement_node s = out-StmtNode (out-Stmt s).node

-- ---- items

-- a global variable at a place, by whether it is a pointer, its name, the length of an array and its start values
abbrev pub global : At → Bool → Ident → Option ℤ → List Expr → Global
global at pointer x len init = record { at = at; pointer = pointer; name = x; len = len; init = init }

-- a parameter, by whether it is a pointer, and the place and the name that it has
abbrev pub param : Bool → At → Ident → Param
param pointer at x = record { pointer = pointer; name = word at x }
