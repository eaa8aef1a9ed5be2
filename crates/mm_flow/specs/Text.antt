-- What the statements of a text mention, in its order.
use Rattle.std.specs.Prelude.{ℕ, Bool, true, false, List, [], ◌∷◌, ◌++◌, map, count_by, Option, Some, None}
use Rattle.std.specs.List.{flat_map}
use Rattle.mm_goto.specs.declared.ident.Ident.{Ident}
use Rattle.mm_tree.specs.declared.stmt.Local.{Local}
use Rattle.mm_tree.specs.declared.stmt.Value.{Value}
use Rattle.mm_tree.specs.declared.stmt.Value.TheVariants as value
use Rattle.mm_tree.specs.declared.stmt.Stmt.{Stmt, fold-Stmt}
use Rattle.mm_tree.specs.declared.stmt.StmtNode.TheOpen as stmt
use Rattle.mm_tree.specs.declared.stmt.StmtNode.TheOpen.{StmtNode-F, Stmt-F}
use Rattle.mm_flow.specs.declared.mentions.Mention.{Mention}
use Rattle.mm_flow.specs.declared.mentions.Mention.TheVariants.{Assertion, Create, Label, Call}
use Rattle.mm_flow.specs.declared.names.Started.{Started}

abbrev pub of_value : Value → List Mention
of_value (value.Plain e) = []
of_value (value.Call at f es) = Call f ∷ []
of_value (value.FetchAdd at p e) = []
of_value (value.CompareSwap at p e f) = []

abbrev pub of_optional : Option Value → List Mention
of_optional None = []
of_optional (Some v) = of_value v

abbrev pub of_local : Local → List Mention
of_local l = of_optional l.value

abbrev pub of_parts : List (List Mention) → List Mention
of_parts [] = []
of_parts (d ∷ ds) = d ++ of_parts ds

abbrev pub or_none : Option (List Mention) → List Mention
or_none None = []
or_none (Some d) = d

abbrev pub mention_step : StmtNode-F (List Mention) (List Mention) → List Mention
mention_step stmt.Empty = []
mention_step (stmt.Block ds) = of_parts ds
mention_step (stmt.Declare ls) = flat_map of_local ls
mention_step (stmt.DeclareThread xs) = []
mention_step (stmt.Assign l v) = of_value v
mention_step (stmt.Update l op e) = []
mention_step (stmt.Do v) = of_value v
mention_step (stmt.If c d e) = d ++ or_none e
mention_step (stmt.While c d) = d
mention_step (stmt.DoWhile d c) = d
mention_step (stmt.For i c j d) = or_none i ++ (or_none j ++ d)
mention_step stmt.Break = []
mention_step stmt.Continue = []
mention_step (stmt.Return v) = of_optional v
mention_step (stmt.Assert e text) = Assertion ∷ []
mention_step (stmt.Assume e) = []
mention_step stmt.Fence = []
mention_step (stmt.Lock x) = []
mention_step (stmt.Unlock x) = []
mention_step (stmt.Start x f) = Create (record { variable = x.name; function = f.name }) ∷ []
mention_step (stmt.Join x) = []
mention_step (stmt.Goto x) = []
mention_step (stmt.Label x d) = Label x.name ∷ d
mention_step stmt.AtomBegin = []
mention_step stmt.AtomEnd = []

unfoldable pub mentions_of : Stmt → List Mention
mentions_of s = fold-Stmt (List Mention) (List Mention) mention_step (λ layer. layer.node) s

-- what the statements of a body mention, in the order of the text
abbrev pub mentions : List Stmt → List Mention
mentions ss = of_parts (map mentions_of ss)

abbrev pub is_assertion : Mention → Bool
is_assertion Assertion = true
is_assertion (Create s) = false
is_assertion (Label y) = false
is_assertion (Call f) = false

-- how many assertions stand in a body
abbrev pub asserts_in : List Stmt → ℕ
asserts_in ss = count_by is_assertion (mentions ss)

abbrev pub creates : List Mention → List Started
creates [] = []
creates (Assertion ∷ ms) = creates ms
creates (Create s ∷ ms) = s ∷ creates ms
creates (Label y ∷ ms) = creates ms
creates (Call f ∷ ms) = creates ms

-- the creates in a body
abbrev pub creates_in : List Stmt → List Started
creates_in ss = creates (mentions ss)

abbrev pub labels : List Mention → List Ident
labels [] = []
labels (Assertion ∷ ms) = labels ms
labels (Create s ∷ ms) = labels ms
labels (Label y ∷ ms) = y ∷ labels ms
labels (Call f ∷ ms) = labels ms

-- the labels in a body
abbrev pub labels_in : List Stmt → List Ident
labels_in ss = labels (mentions ss)

abbrev pub calls : List Mention → List Ident
calls [] = []
calls (Assertion ∷ ms) = calls ms
calls (Create s ∷ ms) = calls ms
calls (Label y ∷ ms) = calls ms
calls (Call f ∷ ms) = f ∷ calls ms

-- the functions that a body calls
abbrev pub calls_in : List Stmt → List Ident
calls_in ss = calls (mentions ss)
