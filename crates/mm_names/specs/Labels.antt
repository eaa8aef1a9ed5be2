-- Labels. Those of a function are known in all of its text.
use Rattle.std.specs.Prelude.{Bool, true, false, List, [], ◌∷◌, ◌++◌, fold, is_some, Option, Some, None}
use Rattle.std.specs.List.{flat_map}
use Rattle.mm_goto.specs.declared.ident.At.{At}
use Rattle.mm_tree.specs.declared.expr.Word.{Word}
use Rattle.mm_tree.specs.declared.stmt.Stmt.{Stmt, fold-Stmt}
use Rattle.mm_tree.specs.declared.stmt.StmtNode.{StmtNode, fold-StmtNode}
use Rattle.mm_tree.specs.declared.stmt.StmtNode.TheOpen.{StmtNode-F, Stmt-F, Empty, Block, Declare, DeclareThread, Assign, Update, Do, If, While, DoWhile, For, Break, Continue, Return, Assert, Assume, Fence, Lock, Unlock, Start, Join, Goto, Label, AtomBegin, AtomEnd}
use Rattle.mm_tree.specs.declared.side.Side.{Side}
use Rattle.mm_scope.specs.declared.fault.Rule.TheVariants.{TwiceDeclared}
use Rattle.mm_scope.specs.declared.table.Meaning.TheVariants as meaning
use Rattle.mm_scope.specs.Notes.{Note, Noted, refusal, all_noted}
use Rattle.mm_scope.specs.Parts.{output_only}
use Rattle.mm_scope.specs.Scopes.{Table, meaning_in, with_name}
use Rattle.mm_scope.specs.Steps.{reserved}

-- ---- the labels in a statement

abbrev pub if_any : Option (List Word) → List Word
if_any None = []
if_any (Some ws) = ws

-- all of them, in their order
unfoldable pub all_labels : List (List Word) → List Word
all_labels = flat_map (λ ws. ws)

abbrev pub labels_node_step : StmtNode-F (List Word) (List Word) → List Word
labels_node_step (Block ss) = all_labels ss
labels_node_step (If e s or_else) = s ++ if_any or_else
labels_node_step (While e s) = s
labels_node_step (DoWhile s e) = s
labels_node_step (For first e next s) = if_any first ++ if_any next ++ s
labels_node_step (Label w s) = w ∷ s
labels_node_step Empty = []
labels_node_step (Declare ls) = []
labels_node_step (DeclareThread ws) = []
labels_node_step (Assign l v) = []
labels_node_step (Update l op e) = []
labels_node_step (Do v) = []
labels_node_step Break = []
labels_node_step Continue = []
labels_node_step (Return v) = []
labels_node_step (Assert e text) = []
labels_node_step (Assume e) = []
labels_node_step Fence = []
labels_node_step (Lock w) = []
labels_node_step (Unlock w) = []
labels_node_step (Start w f) = []
labels_node_step (Join w) = []
labels_node_step (Goto w) = []
labels_node_step AtomBegin = []
labels_node_step AtomEnd = []

abbrev pub labels_stmt_step : Stmt-F (List Word) (List Word) → List Word
labels_stmt_step layer = layer.node

abbrev pub labels_in_node : StmtNode → List Word
labels_in_node = fold-StmtNode (List Word) (List Word) labels_node_step labels_stmt_step

-- the labels of a statement and of those in it
abbrev pub labels_in : Stmt → List Word
labels_in = fold-Stmt (List Word) (List Word) labels_node_step labels_stmt_step

-- ---- what is declared by them

abbrev pub with_label : Table → Word → Table
with_label table w = with_name table w.name meaning.Label

-- these labels too
abbrev pub with_labels : Table → List Word → Table
with_labels = fold with_label

abbrev pub twice_if : Bool → At → List Note
twice_if true at = refusal TwiceDeclared at ∷ []
twice_if false at = []

-- a label is a name that is declared, once in its function, and in an output alone
abbrev pub label_notes : Side → Table → Word → List Note
label_notes side table w = reserved side w.at w.name ++ output_only side w.at ++ twice_if (is_some (meaning_in table w.name)) w.at

unfoldable pub labels_notes : Side → Table → List Word → List Note
labels_notes side table [] = []
labels_notes side table (w ∷ ws) = label_notes side table w ++ labels_notes side (with_label table w) ws

-- ---- the labels that are known and what is kept of the notes, behind these labels

abbrev pub Known : Type 0
Known = Table × Noted

unfoldable pub labelled : Side → List Word → Known → Known
labelled side ws k = (with_labels k.0 ws, all_noted k.1 (labels_notes side k.0 ws))
