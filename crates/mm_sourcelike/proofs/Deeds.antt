-- What the statements of a text do that asks for more than its own code: calls, and what only outputs have.
use Rattle.std.proofs.Common.{◌≡◌, ℕ, false, List, [], ◌∷◌, ◌++◌, length, map, Option, Some, None}
use Rattle.std.specs.List.{AllByRecursion}
use Rattle.mm_goto.specs.declared.ident.Ident.{Ident}
use Rattle.mm_tree.specs.declared.item.Item.{Item}
use Rattle.mm_tree.specs.declared.stmt.Local.{Local}
use Rattle.mm_tree.specs.declared.stmt.Value.{Value}
use Rattle.mm_tree.specs.declared.stmt.Value.TheVariants as value
use Rattle.mm_tree.specs.declared.stmt.Stmt.{Stmt, fold-Stmt}
use Rattle.mm_tree.specs.declared.stmt.StmtNode.TheOpen as stmt
use Rattle.mm_tree.specs.declared.stmt.StmtNode.TheOpen.{StmtNode-F, Stmt-F}
use Rattle.mm_flow.specs.declared.names.Parts.{Parts}
use Rattle.mm_flow.specs.Statements.{Function, function_of, is_input}

pub data Deed : Type 0 where
  -- a call with so many arguments
  Called : Ident → ℕ → Deed
  -- what no source has
  Foreign : Deed

abbrev pub of_value : Value → List Deed
of_value (value.Plain e) = []
of_value (value.Call at f es) = Called f (length es) ∷ []
of_value (value.FetchAdd at p e) = []
of_value (value.CompareSwap at p e f) = []

abbrev pub of_optional : Option Value → List Deed
of_optional None = []
of_optional (Some v) = of_value v

abbrev pub of_locals : List Local → List Deed
of_locals [] = []
of_locals (l ∷ ls) = of_optional l.value ++ of_locals ls

abbrev pub of_parts : List (List Deed) → List Deed
of_parts [] = []
of_parts (d ∷ ds) = d ++ of_parts ds

abbrev pub or_none : Option (List Deed) → List Deed
or_none None = []
or_none (Some d) = d

abbrev pub deed_step : StmtNode-F (List Deed) (List Deed) → List Deed
deed_step stmt.Empty = []
deed_step (stmt.Block ds) = of_parts ds
deed_step (stmt.Declare ls) = of_locals ls
deed_step (stmt.DeclareThread xs) = []
deed_step (stmt.Assign l v) = of_value v
deed_step (stmt.Update l op e) = []
deed_step (stmt.Do v) = of_value v
deed_step (stmt.If c d e) = d ++ or_none e
deed_step (stmt.While c d) = d
deed_step (stmt.DoWhile d c) = d
deed_step (stmt.For i c j d) = or_none i ++ (or_none j ++ d)
deed_step stmt.Break = []
deed_step stmt.Continue = []
deed_step (stmt.Return v) = of_optional v
deed_step (stmt.Assert e text) = []
deed_step (stmt.Assume e) = []
deed_step stmt.Fence = []
deed_step (stmt.Lock x) = []
deed_step (stmt.Unlock x) = []
deed_step (stmt.Start x f) = []
deed_step (stmt.Join x) = []
deed_step (stmt.Goto x) = Foreign ∷ []
deed_step (stmt.Label x d) = d
deed_step stmt.AtomBegin = Foreign ∷ []
deed_step stmt.AtomEnd = Foreign ∷ []

abbrev pub deed_layer : Stmt-F (List Deed) (List Deed) → List Deed
deed_layer layer = layer.node

unfoldable pub deeds_of : Stmt → List Deed
deeds_of s = fold-Stmt (List Deed) (List Deed) deed_step deed_layer s

-- what the statements of a body do
abbrev pub deeds_in : List Stmt → List Deed
deeds_in ss = of_parts (map deeds_of ss)

-- a call has as many arguments as the function has parameters, and the function is one of these
abbrev pub Fits : Parts → List Item → (Function → Type 0) → Deed → Type 0
Fits parts items G (Called x n) = is_input x ≡ false → (f : Function) → function_of items parts.asserts x ≡ Some f → (n ≡ length f.params) × G f
Fits parts items G Foreign = ⊥

abbrev pub AllFit : Parts → List Item → (Function → Type 0) → List Deed → Type 0
AllFit parts items G ds = AllByRecursion (Fits parts items G) ds
