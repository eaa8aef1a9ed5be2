-- What is behind the text of a function.
use Rattle.std.proofs.Common.{◌≡◌, ℕ, List, [], length, take}
use Rattle.std.proofs.lemmas.Grind.{fold-append}
use Rattle.std.proofs.Math.Seq.{take-append_seam}
use Rattle.mm_tree.specs.declared.stmt.Stmt.{Stmt}
use Rattle.mm_tree.specs.declared.item.Gives.{Gives}
use Rattle.mm_tree.specs.declared.item.Item.{Item}
use Rattle.mm_tree.specs.declared.item.Param.{Param}
use Rattle.mm_tree.specs.declared.side.Side.{Side}
use Rattle.mm_scope.specs.declared.walk.Walk.{Walk}
use Rattle.mm_scope.specs.Notes.{all_noted}
use Rattle.mm_scope.specs.Steps.{after}
use Rattle.mm_names.specs.Labels.{with_labels, labels_notes}
use Rattle.mm_names.specs.Tops.{after_top, top_notes}
use Rattle.mm_names.specs.Items.{in_function, body_of, labels_of, function_notes}

-- the walk behind the labels of a function
abbrev pub behind_labels : Side → List Stmt → Walk → Walk
behind_labels side body w = record w { notes = all_noted w.notes (labels_notes side [] (labels_of body)) }

-- and behind its parameters and its body
abbrev pub behind_body : Side → List Item → ℕ → Item → Gives → List Param → List Stmt → Walk → Walk
behind_body side items k i gives params body w =
    after (body_of items (with_labels [] (labels_of body)) (in_function side k i gives (length w.scope.locals)) params body) (behind_labels side body w)

pub after-function : (side : Side) (items : List Item) (k : ℕ) (i : Item) (gives : Gives) (params : List Param) (body : List Stmt) (w : Walk) → after_top (top_notes (function_notes side items k i gives params body)) w ≡ record (behind_body side items k i gives params body w) { scope = record (behind_body side items k i gives params body w).scope { locals = take (length w.scope.locals) (behind_body side items k i gives params body w).scope.locals } }
unfolding after after_top top_notes function_notes
after-function side items k i gives params body w = simp (fold-append, take-append_seam)

pub ruleset in_functions = after-function
