-- The numbers that stand in a tree.
use Rattle.std.specs.Prelude.{ℕ, ℤ, ◌+◌, ◌<◌, ◌^◌, List, [], ◌∷◌, ◌++◌, Option, Some, None}
use Rattle.std.specs.List.{AllByRecursion}
use Rattle.mm_goto.specs.Valid.{IsInt}
use Rattle.mm_tree.specs.declared.expr.Expr.{Expr, fold-Expr}
use Rattle.mm_tree.specs.declared.expr.Node.TheOpen as node
use Rattle.mm_tree.specs.declared.expr.Node.TheOpen.{Node-F, Expr-F}
use Rattle.mm_tree.specs.declared.stmt.LeftNode.{LeftNode}
use Rattle.mm_tree.specs.declared.stmt.LeftNode.TheVariants as left
use Rattle.mm_tree.specs.declared.stmt.Local.{Local}
use Rattle.mm_tree.specs.declared.stmt.Value.{Value}
use Rattle.mm_tree.specs.declared.stmt.Value.TheVariants as value
use Rattle.mm_tree.specs.declared.stmt.Stmt.{Stmt, fold-Stmt}
use Rattle.mm_tree.specs.declared.stmt.StmtNode.TheOpen as stmt
use Rattle.mm_tree.specs.declared.stmt.StmtNode.TheOpen.{StmtNode-F, Stmt-F}
use Rattle.mm_tree.specs.declared.item.Global.{Global}
use Rattle.mm_tree.specs.declared.item.Item.{Item}
use Rattle.mm_tree.specs.declared.item.Item.TheVariants as item
use Rattle.mm_tree.specs.declared.item.Tree.{Tree}
use Rattle.mm_flow.specs.Programs.{body_of}
use Rattle.mm_flow.specs.Text.{asserts_in}

-- ---- expressions

abbrev pub node_numbers : Node-F (List ℤ) (List ℤ) → List ℤ
node_numbers (node.Number z) = z ∷ []
node_numbers node.Null = []
node_numbers (node.Name x) = []
node_numbers (node.Index x e) = e
node_numbers (node.Deref e) = e
node_numbers (node.AddrName w) = []
node_numbers (node.AddrIndex w e) = e
node_numbers (node.Un op a) = a
node_numbers (node.Bin op a b) = a ++ b
node_numbers (node.Cond c a b) = c ++ (a ++ b)

abbrev pub expr_layer : Expr-F (List ℤ) (List ℤ) → List ℤ
expr_layer layer = layer.node

unfoldable pub numbers_of : Expr → List ℤ
numbers_of e = fold-Expr (List ℤ) (List ℤ) node_numbers expr_layer e

abbrev pub all_numbers : List Expr → List ℤ
all_numbers [] = []
all_numbers (e ∷ es) = numbers_of e ++ all_numbers es

-- ---- statements

abbrev pub of_value : Value → List ℤ
of_value (value.Plain e) = numbers_of e
of_value (value.Call at f es) = all_numbers es
of_value (value.FetchAdd at p e) = numbers_of p ++ numbers_of e
of_value (value.CompareSwap at p e f) = numbers_of p ++ (numbers_of e ++ numbers_of f)

abbrev pub of_optional : Option Value → List ℤ
of_optional None = []
of_optional (Some v) = of_value v

abbrev pub of_left : LeftNode → List ℤ
of_left (left.Name x) = []
of_left (left.Index x e) = numbers_of e
of_left (left.Deref e) = numbers_of e

abbrev pub of_locals : List Local → List ℤ
of_locals [] = []
of_locals (l ∷ ls) = of_optional l.value ++ of_locals ls

abbrev pub of_condition : Option Expr → List ℤ
of_condition None = []
of_condition (Some e) = numbers_of e

abbrev pub of_parts : List (List ℤ) → List ℤ
of_parts [] = []
of_parts (d ∷ ds) = d ++ of_parts ds

abbrev pub or_none : Option (List ℤ) → List ℤ
or_none None = []
or_none (Some d) = d

abbrev pub stmt_numbers : StmtNode-F (List ℤ) (List ℤ) → List ℤ
stmt_numbers stmt.Empty = []
stmt_numbers (stmt.Block ds) = of_parts ds
stmt_numbers (stmt.Declare ls) = of_locals ls
stmt_numbers (stmt.DeclareThread xs) = []
stmt_numbers (stmt.Assign l v) = of_left l.node ++ of_value v
stmt_numbers (stmt.Update l op e) = of_left l.node ++ numbers_of e
stmt_numbers (stmt.Do v) = of_value v
stmt_numbers (stmt.If c d e) = numbers_of c ++ (d ++ or_none e)
stmt_numbers (stmt.While c d) = numbers_of c ++ d
stmt_numbers (stmt.DoWhile d c) = d ++ numbers_of c
stmt_numbers (stmt.For i c j d) = or_none i ++ (of_condition c ++ (or_none j ++ d))
stmt_numbers stmt.Break = []
stmt_numbers stmt.Continue = []
stmt_numbers (stmt.Return v) = of_optional v
stmt_numbers (stmt.Assert e text) = numbers_of e
stmt_numbers (stmt.Assume e) = numbers_of e
stmt_numbers stmt.Fence = []
stmt_numbers (stmt.Lock x) = []
stmt_numbers (stmt.Unlock x) = []
stmt_numbers (stmt.Start x f) = []
stmt_numbers (stmt.Join x) = []
stmt_numbers (stmt.Goto x) = []
stmt_numbers (stmt.Label x d) = d
stmt_numbers stmt.AtomBegin = []
stmt_numbers stmt.AtomEnd = []

abbrev pub stmt_layer : Stmt-F (List ℤ) (List ℤ) → List ℤ
stmt_layer layer = layer.node

unfoldable pub of_stmt : Stmt → List ℤ
of_stmt s = fold-Stmt (List ℤ) (List ℤ) stmt_numbers stmt_layer s

abbrev pub of_stmts : List Stmt → List ℤ
of_stmts [] = []
of_stmts (s ∷ ss) = of_stmt s ++ of_stmts ss

-- ---- items

abbrev pub of_globals : List Global → List ℤ
of_globals [] = []
of_globals (g ∷ gs) = all_numbers g.init ++ of_globals gs

abbrev pub of_item : Item → List ℤ
of_item (item.Globals gs) = of_globals gs
of_item (item.Mutexes ws) = []
of_item (item.Threads ws) = []
of_item (item.InputDecl at x) = []
of_item (item.Function at gives x ps ss) = of_stmts ss

abbrev pub of_items : List Item → List ℤ
of_items [] = []
of_items (i ∷ is) = of_item i ++ of_items is

abbrev pub asserts_of : List Item → ℕ
asserts_of [] = 0
asserts_of (i ∷ is) = asserts_in (body_of i) + asserts_of is

-- the numbers in the expressions of a tree are ints of 32 bits, and so many bits have room for how many assertions it has
pub record AreInts (tree : Tree) : Type 0 where
  pub numbers : AllByRecursion IsInt (of_items tree.items)
  pub asserts : asserts_of tree.items < 2 ^ 32
