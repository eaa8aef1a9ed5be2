-- A tree without its places. What is bare has the place 1:1 everywhere, and bare_x makes an x bare.
use Rattle.std.specs.Prelude.{map}
use Rattle.std.specs.Option.{option_map}
use Rattle.mm_goto.specs.declared.ident.At.{At}
use Rattle.mm_tree.specs.declared.expr.Word.{Word}
use Rattle.mm_tree.specs.declared.expr.Expr.{Expr, roll-Expr, fold-Expr}
use Rattle.mm_tree.specs.declared.expr.Node.{Node, roll-Node, fold-Node}
use Rattle.mm_tree.specs.declared.expr.Node.TheOpen as node
use Rattle.mm_tree.specs.declared.expr.Node.TheOpen.{Node-F, Expr-F}
use Rattle.mm_tree.specs.declared.stmt.Left.{Left}
use Rattle.mm_tree.specs.declared.stmt.LeftNode.{LeftNode}
use Rattle.mm_tree.specs.declared.stmt.LeftNode.TheVariants as left
use Rattle.mm_tree.specs.declared.stmt.Value.{Value}
use Rattle.mm_tree.specs.declared.stmt.Value.TheVariants as value
use Rattle.mm_tree.specs.declared.stmt.Local.{Local}
use Rattle.mm_tree.specs.declared.stmt.Stmt.{Stmt, roll-Stmt, fold-Stmt}
use Rattle.mm_tree.specs.declared.stmt.StmtNode.{StmtNode, roll-StmtNode, fold-StmtNode}
use Rattle.mm_tree.specs.declared.stmt.StmtNode.TheOpen.{StmtNode-F, Stmt-F, Empty, Block, Declare, DeclareThread, Assign, Update, Do, If, While, DoWhile, For, Break, Continue, Return, Assert, Assume, Fence, Lock, Unlock, Start, Join, Goto, Label, AtomBegin, AtomEnd}
use Rattle.mm_tree.specs.declared.item.Param.{Param}
use Rattle.mm_tree.specs.declared.item.Global.{Global}
use Rattle.mm_tree.specs.declared.item.Item.{Item}
use Rattle.mm_tree.specs.declared.item.Item.TheVariants as item
use Rattle.mm_tree.specs.declared.item.Tree.{Tree}

abbrev pub nowhere : At
nowhere = record { line = 1; column = 1 }

abbrev pub bare_word : Word → Word
bare_word w = record w { at = nowhere }

-- the outermost layer of a node, whose parts are bare
abbrev pub bare_layer : Node-F Node Expr → Node-F Node Expr
bare_layer (node.Number n) = node.Number n
bare_layer node.Null = node.Null
bare_layer (node.Name x) = node.Name x
bare_layer (node.Index x e) = node.Index x e
bare_layer (node.Deref e) = node.Deref e
bare_layer (node.AddrName w) = node.AddrName (bare_word w)
bare_layer (node.AddrIndex w e) = node.AddrIndex (bare_word w) e
bare_layer (node.Un op e) = node.Un op e
bare_layer (node.Bin op e f) = node.Bin op e f
bare_layer (node.Cond e f g) = node.Cond e f g

abbrev pub bare_node_step : Node-F Node Expr → Node
bare_node_step layer = roll-Node (bare_layer layer)

abbrev pub bare_expr_step : Expr-F Node Expr → Expr
bare_expr_step layer = roll-Expr (record { at = nowhere; node = layer.node })

abbrev pub bare_node : Node → Node
bare_node = fold-Node Node Expr bare_node_step bare_expr_step

abbrev pub bare_expr : Expr → Expr
bare_expr = fold-Expr Node Expr bare_node_step bare_expr_step

abbrev pub bare_left_node : LeftNode → LeftNode
bare_left_node (left.Name x) = left.Name x
bare_left_node (left.Index x e) = left.Index x (bare_expr e)
bare_left_node (left.Deref e) = left.Deref (bare_expr e)

abbrev pub bare_left : Left → Left
bare_left l = record { at = nowhere; node = bare_left_node l.node }

abbrev pub bare_value : Value → Value
bare_value (value.Plain e) = value.Plain (bare_expr e)
bare_value (value.Call at x es) = value.Call nowhere x (map bare_expr es)
bare_value (value.FetchAdd at p e) = value.FetchAdd nowhere (bare_expr p) (bare_expr e)
bare_value (value.CompareSwap at p e f) = value.CompareSwap nowhere (bare_expr p) (bare_expr e) (bare_expr f)

abbrev pub bare_local : Local → Local
bare_local l = record l { at = nowhere; value = option_map bare_value l.value }

-- the outermost layer of a statement, whose statements are bare
abbrev pub bare_stmt_layer : StmtNode-F StmtNode Stmt → StmtNode-F StmtNode Stmt
bare_stmt_layer Empty = Empty
bare_stmt_layer (Block ss) = Block ss
bare_stmt_layer (Declare ls) = Declare (map bare_local ls)
bare_stmt_layer (DeclareThread ws) = DeclareThread (map bare_word ws)
bare_stmt_layer (Assign l v) = Assign (bare_left l) (bare_value v)
bare_stmt_layer (Update l op e) = Update (bare_left l) op (bare_expr e)
bare_stmt_layer (Do v) = Do (bare_value v)
bare_stmt_layer (If e s or_else) = If (bare_expr e) s or_else
bare_stmt_layer (While e s) = While (bare_expr e) s
bare_stmt_layer (DoWhile s e) = DoWhile s (bare_expr e)
bare_stmt_layer (For first e step s) = For first (option_map bare_expr e) step s
bare_stmt_layer Break = Break
bare_stmt_layer Continue = Continue
bare_stmt_layer (Return v) = Return (option_map bare_value v)
bare_stmt_layer (Assert e text) = Assert (bare_expr e) text
bare_stmt_layer (Assume e) = Assume (bare_expr e)
bare_stmt_layer Fence = Fence
bare_stmt_layer (Lock w) = Lock (bare_word w)
bare_stmt_layer (Unlock w) = Unlock (bare_word w)
bare_stmt_layer (Start w f) = Start (bare_word w) (bare_word f)
bare_stmt_layer (Join w) = Join (bare_word w)
bare_stmt_layer (Goto w) = Goto (bare_word w)
bare_stmt_layer (Label w s) = Label (bare_word w) s
bare_stmt_layer AtomBegin = AtomBegin
bare_stmt_layer AtomEnd = AtomEnd

abbrev pub bare_stmt_node_step : StmtNode-F StmtNode Stmt → StmtNode
bare_stmt_node_step layer = roll-StmtNode (bare_stmt_layer layer)

abbrev pub bare_stmt_step : Stmt-F StmtNode Stmt → Stmt
bare_stmt_step layer = roll-Stmt (record { at = nowhere; node = layer.node })

abbrev pub bare_stmt_node : StmtNode → StmtNode
bare_stmt_node = fold-StmtNode StmtNode Stmt bare_stmt_node_step bare_stmt_step

abbrev pub bare_stmt : Stmt → Stmt
bare_stmt = fold-Stmt StmtNode Stmt bare_stmt_node_step bare_stmt_step

abbrev pub bare_param : Param → Param
bare_param p = record p { name = bare_word p.name }

abbrev pub bare_global : Global → Global
bare_global g = record g { at = nowhere; init = map bare_expr g.init }

abbrev pub bare_item : Item → Item
bare_item (item.Globals gs) = item.Globals (map bare_global gs)
bare_item (item.Mutexes ws) = item.Mutexes (map bare_word ws)
bare_item (item.Threads ws) = item.Threads (map bare_word ws)
bare_item (item.InputDecl at x) = item.InputDecl nowhere x
bare_item (item.Function at gives x ps ss) = item.Function nowhere gives x (map bare_param ps) (map bare_stmt ss)

-- the tree with the place 1:1 everywhere
abbrev pub without_places : Tree → Tree
without_places tree = record { items = map bare_item tree.items }
