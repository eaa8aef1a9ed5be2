-- Where declarations stand. The grammar takes them in a block and behind a label of a block, and as the first part of a `for`.
use Rattle.std.specs.Prelude.{◌≡◌, Bool, true, false, not, ◌&&◌, List, [], ◌∷◌, Option, Some, None}
use Rattle.mm_tree.specs.declared.stmt.Stmt.{Stmt, fold-Stmt}
use Rattle.mm_tree.specs.declared.stmt.StmtNode.TheOpen as stmt
use Rattle.mm_tree.specs.declared.stmt.StmtNode.TheOpen.{StmtNode-F, Stmt-F}
use Rattle.mm_tree.specs.declared.item.Item.{Item}
use Rattle.mm_tree.specs.declared.item.Tree.{Tree}
use Rattle.mm_flow.specs.Programs.{body_of}

-- whether a statement declares names for those behind it, and whether it is so only where the grammar has it
pub record Shape : Type 0 where
  pub declares : Bool
  pub is_scoped : Bool

abbrev pub plain : Shape
plain = record { declares = false; is_scoped = true }

abbrev pub are_scoped : List Shape → Bool
are_scoped [] = true
are_scoped (d ∷ ds) = d.is_scoped && are_scoped ds

-- it declares nothing for those behind it
abbrev pub is_closed : Shape → Bool
is_closed d = d.is_scoped && not d.declares

abbrev pub is_closed_if : Option Shape → Bool
is_closed_if None = true
is_closed_if (Some d) = is_closed d

abbrev pub is_scoped_if : Option Shape → Bool
is_scoped_if None = true
is_scoped_if (Some d) = d.is_scoped

abbrev pub whole : Bool → Shape
whole b = record { declares = false; is_scoped = b }

abbrev pub shape_step : StmtNode-F Shape Shape → Shape
shape_step stmt.Empty = plain
shape_step (stmt.Block ds) = whole (are_scoped ds)
shape_step (stmt.Declare ls) = record { declares = true; is_scoped = true }
shape_step (stmt.DeclareThread xs) = record { declares = true; is_scoped = true }
shape_step (stmt.Assign l v) = plain
shape_step (stmt.Update l op e) = plain
shape_step (stmt.Do v) = plain
shape_step (stmt.If c d e) = whole (is_closed d && is_closed_if e)
shape_step (stmt.While c d) = whole (is_closed d)
shape_step (stmt.DoWhile d c) = whole (is_closed d)
shape_step (stmt.For i c j d) = whole (is_scoped_if i && (is_closed_if j && is_closed d))
shape_step stmt.Break = plain
shape_step stmt.Continue = plain
shape_step (stmt.Return v) = plain
shape_step (stmt.Assert e text) = plain
shape_step (stmt.Assume e) = plain
shape_step stmt.Fence = plain
shape_step (stmt.Lock x) = plain
shape_step (stmt.Unlock x) = plain
shape_step (stmt.Start x f) = plain
shape_step (stmt.Join x) = plain
shape_step (stmt.Goto x) = plain
shape_step (stmt.Label x d) = d
shape_step stmt.AtomBegin = plain
shape_step stmt.AtomEnd = plain

abbrev pub shape_layer : Stmt-F Shape Shape → Shape
shape_layer layer = layer.node

unfoldable pub shape_of : Stmt → Shape
shape_of s = fold-Stmt Shape Shape shape_step shape_layer s

abbrev pub body_scoped : List Stmt → Bool
body_scoped [] = true
body_scoped (s ∷ ss) = (shape_of s).is_scoped && body_scoped ss

abbrev pub items_scoped : List Item → Bool
items_scoped [] = true
items_scoped (i ∷ is) = body_scoped (body_of i) && items_scoped is

-- declarations stand only where the grammar has them
abbrev pub IsScoped : Tree → Type 0
IsScoped tree = items_scoped tree.items ≡ true
