-- Names and types of statements.
use Rattle.std.specs.Prelude.{Bool, true, false, List, [], ◌∷◌, ◌++◌, is_some, Option, Some, None}
use Rattle.mm_goto.specs.declared.ident.At.{At}
use Rattle.mm_tree.specs.declared.expr.Expr.{Expr}
use Rattle.mm_tree.specs.declared.expr.Word.{Word}
use Rattle.mm_tree.specs.declared.stmt.Stmt.{Stmt, fold-Stmt}
use Rattle.mm_tree.specs.declared.stmt.StmtNode.{StmtNode, fold-StmtNode}
use Rattle.mm_tree.specs.declared.stmt.StmtNode.TheOpen.{StmtNode-F, Stmt-F, Empty, Block, Declare, DeclareThread, Assign, Update, Do, If, While, DoWhile, For, Break, Continue, Return, Assert, Assume, Fence, Lock, Unlock, Start, Join, Goto, Label, AtomBegin, AtomEnd}
use Rattle.mm_tree.specs.declared.item.Item.{Item}
use Rattle.mm_scope.specs.declared.fault.Rule.TheVariants.{UnknownName}
use Rattle.mm_scope.specs.declared.around.Around.{Around}
use Rattle.mm_scope.specs.Notes.{Note, refusal}
use Rattle.mm_scope.specs.Parts.{inner, guarded, in_loop, noted_expr, noted_value, noted_assign, noted_update, returned, asserted, refusal_unless, output_only}
use Rattle.mm_scope.specs.Declarations.{declared_local, declared_thread}
use Rattle.mm_scope.specs.Threads.{noted_mutex, noted_thread, started}
use Rattle.mm_scope.specs.Scopes.{Table, meaning_in}
use Rattle.mm_scope.specs.Steps.{Step, skip, noting, and_then, in_turn, if_there, closed}

-- ---- labels

abbrev pub known_label : At → Bool → List Note
known_label at true = []
known_label at false = refusal UnknownName at ∷ []

-- the labels of a function are known in all of its text
unfoldable pub noted_goto : Around → Table → At → Word → Step
noted_goto a labels at w names = noting (output_only a.side at ++ known_label w.at (is_some (meaning_in labels w.name)))

-- ---- statements with statements in them

abbrev pub Placed : Type 0
Placed = Around → Step

-- statements one behind another
unfoldable pub all_at : Around → List Placed → Step
all_at a ss = in_turn (λ s. s a) ss

abbrev pub if_some : Around → Option Placed → Step
if_some a None = skip
if_some a (Some s) = s a

unfoldable pub block : Around → List Placed → Step
block a ss names = closed (all_at (inner a names) ss) names

unfoldable pub choice : Around → Expr → Placed → Option Placed → Step
choice a e s or_else = and_then (noted_expr e) (and_then (s (guarded a)) (if_some (guarded a) or_else))

unfoldable pub while_loop : Around → Expr → Placed → Step
while_loop a e s = and_then (noted_expr e) (s (in_loop a))

unfoldable pub do_loop : Around → Placed → Expr → Step
do_loop a s e = and_then (s (in_loop a)) (noted_expr e)

abbrev pub for_parts : Around → Option Placed → Option Expr → Option Placed → Placed → Step
for_parts a first e next s = and_then (if_some a first) (and_then (if_there noted_expr e) (and_then (if_some a next) (s (in_loop a))))

unfoldable pub for_loop : Around → Option Placed → Option Expr → Option Placed → Placed → Step
for_loop a first e next s names = closed (for_parts (inner a names) first e next s) names

-- ---- statements

module _ (items : List Item) (labels : Table) where
  -- the outermost layer of a statement at this place
  abbrev pub said_node_step : StmtNode-F (At → Around → Step) (Around → Step) → At → Around → Step
  said_node_step Empty at a = skip
  said_node_step (Block ss) at a = block a ss
  said_node_step (Declare ls) at a = in_turn (declared_local items a) ls
  said_node_step (DeclareThread ws) at a = in_turn (declared_thread a) ws
  said_node_step (Assign l v) at a = noted_assign items a l v
  said_node_step (Update l op e) at a = noted_update l e
  said_node_step (Do v) at a = noted_value items a None v
  said_node_step (If e s or_else) at a = choice a e s or_else
  said_node_step (While e s) at a = while_loop a e s
  said_node_step (DoWhile s e) at a = do_loop a s e
  said_node_step (For first e next s) at a = for_loop a first e next s
  said_node_step Break at a = λ names. noting (refusal_unless a.looped at)
  said_node_step Continue at a = λ names. noting (refusal_unless a.looped at)
  said_node_step (Return v) at a = if_there (returned items a) v
  said_node_step (Assert e text) at a = asserted a.side at e text
  said_node_step (Assume e) at a = noted_expr e
  said_node_step Fence at a = skip
  said_node_step (Lock w) at a = noted_mutex w
  said_node_step (Unlock w) at a = noted_mutex w
  said_node_step (Start w f) at a = started items a at w f
  said_node_step (Join w) at a = noted_thread a None at w
  said_node_step (Goto w) at a = noted_goto a labels at w
  said_node_step (Label w s) at a = s a
  said_node_step AtomBegin at a = λ names. noting (output_only a.side at)
  said_node_step AtomEnd at a = λ names. noting (output_only a.side at)

  abbrev pub said_stmt_step : Stmt-F (At → Around → Step) (Around → Step) → Around → Step
  said_stmt_step layer = layer.node layer.at

  abbrev pub said_node : StmtNode → At → Around → Step
  said_node = fold-StmtNode (At → Around → Step) (Around → Step) said_node_step said_stmt_step

  abbrev pub said_stmt : Stmt → Around → Step
  said_stmt = fold-Stmt (At → Around → Step) (Around → Step) said_node_step said_stmt_step
