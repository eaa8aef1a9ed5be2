-- How deep calls nest, by rounds over the items.
use Rattle.std.specs.Prelude.{ℕ, zero, suc, Bool, true, false, List, [], ◌∷◌, map, get_or, position, Option, Some, None}
use Rattle.std.specs.List.{list_any}
use Rattle.mm_goto.specs.declared.ident.Ident.{Ident}
use Rattle.mm_tree.specs.declared.item.Item.{Item}
use Rattle.mm_flow.specs.Programs.{body_of}
use Rattle.mm_flow.specs.Statements.{is_function}
use Rattle.mm_flow.specs.Text.{calls_in}

-- the item of a function
abbrev pub callee : List Item → Ident → Option ℕ
callee items f = position (is_function f) items

abbrev pub added : Option ℕ → List ℕ → List ℕ
added None js = js
added (Some j) js = j ∷ js

-- the items of functions that are called
abbrev pub callees : List Item → List Ident → List ℕ
callees items [] = []
callees items (f ∷ fs) = added (callee items f) (callees items fs)

abbrev pub called_by : List Item → Item → List ℕ
called_by items i = callees items (calls_in (body_of i))

-- for each item, those that it calls
abbrev pub graph : List Item → List (List ℕ)
graph items = map (called_by items) items

abbrev pub not_empty : List ℕ → Bool
not_empty [] = false
not_empty (j ∷ js) = true

abbrev pub has_deep : List Bool → List ℕ → Bool
has_deep deep js = list_any (λ j. get_or deep j false) js

-- for each item, whether calls nest in it deeper than so many
abbrev pub deep_after : List (List ℕ) → ℕ → List Bool
deep_after g zero = map not_empty g
deep_after g (suc d) = map (has_deep (deep_after g d)) g

abbrev pub deep_of : List Bool → Option ℕ → Bool
deep_of deep (Some j) = get_or deep j false
deep_of deep None = false
