-- Items beside main note no start of a thread and no wait for one.
use Rattle.std.proofs.Common.{◌≡◌, ℕ, ℤ, pos, nat_eq, Bool, true, false, not, if◌then◌else◌, is_some, List, [], ◌∷◌, ◌++◌, length, map, codes, refl, ◌∙◌, ap, Option, Some, None}
use Rattle.std.specs.Prelude.{int_lt}
use Rattle.std.specs.List.{starts_with}
use Rattle.mm_goto.specs.declared.ident.At.{At}
use Rattle.mm_goto.specs.declared.ident.Ident.{Ident}
use Rattle.mm_tree.specs.Trees.{node_of, place_of}
use Rattle.mm_tree.specs.declared.expr.Expr.{Expr}
use Rattle.mm_tree.specs.declared.expr.Node.{Node}
use Rattle.mm_tree.specs.declared.expr.Node.TheOpen as node
use Rattle.mm_tree.specs.declared.expr.Node.TheOpen.{Node-F}
use Rattle.mm_tree.specs.declared.expr.Word.{Word}
use Rattle.mm_tree.specs.declared.item.Gives.{Gives}
use Rattle.mm_tree.specs.declared.item.Global.{Global}
use Rattle.mm_tree.specs.declared.item.Item.{Item}
use Rattle.mm_tree.specs.declared.item.Item.TheVariants as item
use Rattle.mm_tree.specs.declared.item.Param.{Param}
use Rattle.mm_tree.specs.declared.side.Side.{Side}
use Rattle.mm_tree.specs.declared.side.Side.TheVariants.{Source, Output}
use Rattle.mm_tree.specs.declared.stmt.Stmt.{Stmt}
use Rattle.mm_scope.specs.declared.around.Around.{Around}
use Rattle.mm_scope.specs.declared.fault.Rule.TheVariants.{TwiceDeclared}
use Rattle.mm_scope.specs.declared.table.Meaning.{Meaning}
use Rattle.mm_scope.specs.declared.table.Meaning.TheVariants as meaning
use Rattle.mm_scope.specs.Expressions.{judged_expr}
use Rattle.mm_scope.specs.Notes.{Note, refusal}
use Rattle.mm_scope.specs.Operands.{fit}
use Rattle.mm_scope.specs.Parts.{output_only}
use Rattle.mm_scope.specs.Scopes.{Names, Table, meaning_in, meaning_of, with_name, is_declared}
use Rattle.mm_scope.specs.Statements.{all_at, said_stmt}
use Rattle.mm_scope.specs.Steps.{behind, and_then, in_turn, skip, reserved}
use Rattle.mm_scope.specs.Values.{kind_if_pointer}
use Rattle.mm_names.specs.Items.{meaning_of_global, refused_if, too_long, length_notes, is_index, index_notes, address_notes, start_notes, noted_length, listed_start, listed_global, is_main, declared_param, in_function, body_of as body_step, labels_of, function_notes, woven_prototype, unknown_prototype, input_notes, listed_input, listed_word, listed_item}
use Rattle.mm_names.specs.Labels.{twice_if, label_notes, with_label, with_labels, labels_notes}
use Rattle.mm_names.specs.Tops.{Top, Listed, no_more, top_notes, top_then, tops, listed, listed_name, reserved_at, with_globals}
use Rattle.mm_sourcelike.proofs.Idling.{reserved_idle, name_idle, both_idle, stmts_idle}
use Rattle.mm_sourcelike.proofs.Using.{uses, uses_append, Idle, idle_both, expr_idle, fit_kind_idle}

refused_idle : (b : Bool) (at : At) → Idle (refused_if b at)
refused_idle true at = refl
refused_idle false at = refl

long_idle : (b : Bool) (e : Option Expr) → Idle (too_long b e)
long_idle true (Some e) = refl
long_idle false (Some e) = refl
long_idle true None = refl
long_idle false None = refl

length_idle : (at : At) (es : List Expr) (n : Option ℤ) → Idle (length_notes at es n)
length_idle at es None = refl
length_idle at es (Some n) = idle_both (refused_if (int_lt n (pos 1)) at) _ (refused_idle (int_lt n (pos 1)) at) (long_idle (int_lt n (pos 0)) _)

index_idle : (i : Expr) (o : Option Meaning) → Idle (index_notes i o)
index_idle i None = refl
index_idle i (Some (meaning.Array n)) = refused_idle (not (is_index n (node_of i))) (place_of i)
index_idle i (Some meaning.Shared) = refl
index_idle i (Some meaning.Int) = refl
index_idle i (Some meaning.Pointer) = refl
index_idle i (Some meaning.Mutex) = refl
index_idle i (Some meaning.SharedThread) = refl
index_idle i (Some meaning.Thread) = refl
index_idle i (Some (meaning.Function k)) = refl
index_idle i (Some (meaning.Ahead k)) = refl
index_idle i (Some meaning.Input) = refl
index_idle i (Some meaning.Handed) = refl
index_idle i (Some meaning.Unready) = refl
index_idle i (Some meaning.Label) = refl

address_idle : (names : Names) (d : Node-F Node Expr) → Idle (address_notes names d)
address_idle names (node.AddrIndex w i) = index_idle i (meaning_of names w.name)
address_idle names (node.Number z) = refl
address_idle names node.Null = refl
address_idle names (node.Name x) = refl
address_idle names (node.Index x e) = refl
address_idle names (node.Deref e) = refl
address_idle names (node.AddrName w) = refl
address_idle names (node.Un op e) = refl
address_idle names (node.Bin op a b) = refl
address_idle names (node.Cond c a b) = refl

start_idle : (pointer : Bool) (e : Expr) (names : Names) → Idle (start_notes pointer e names)
unfolding start_notes
start_idle pointer e names =
    idle_both ((judged_expr names e).notes ++ (fit (kind_if_pointer pointer) (judged_expr names e).operand).notes) (address_notes names (node_of e))
    (idle_both (judged_expr names e).notes _ (expr_idle names e) (fit_kind_idle (kind_if_pointer pointer) (judged_expr names e).operand)) (address_idle names (node_of e))

abbrev listed_if : At → Ident → Meaning → Names → Bool → Listed
listed_if at x m names b = if b then record { globals = names.globals; notes = refusal TwiceDeclared at ∷ [] } else record { globals = with_name names.globals x m; notes = [] }

listed_if_idle : (at : At) (x : Ident) (m : Meaning) (names : Names) (b : Bool) → Idle (listed_if at x m names b).notes
listed_if_idle at x m names true = refl
listed_if_idle at x m names false = refl

listed_idle : (at : At) (x : Ident) (m : Meaning) (names : Names) → Idle (listed at x m names).notes
unfolding listed
listed_idle at x m names = listed_if_idle at x m names (is_declared (meaning_in names.globals x))

then_idle : (f g : Top) (names : Names) → Idle (f names).notes → ((more : Names) → Idle (g more).notes) → Idle (top_then f g names).notes
unfolding top_then
then_idle f g names h i = idle_both (f names).notes (g (with_globals names (f names).globals)).notes h (i (with_globals names (f names).globals))

name_noted : (side : Side) (at : At) (x : Ident) (m : Meaning) (names : Names) → Idle (listed_name side at x m names).notes
unfolding listed_name top_notes
name_noted side at x m names = then_idle (top_notes (reserved_at side at x)) (listed at x m) names (reserved_idle side at x) (listed_idle at x m)

tops_idle : {X : Type 0} (f : X → Top) → ((x : X) (names : Names) → Idle (f x names).notes) → (xs : List X) (names : Names) → Idle (tops f xs names).notes
unfolding tops no_more
tops_idle f h [] names = refl
tops_idle f h (x ∷ xs) names = then_idle (f x) (tops f xs) names (h x names) (tops_idle f h xs)

global_idle : (side : Side) (g : Global) (names : Names) → Idle (listed_global side g names).notes
unfolding listed_global top_notes listed_start
global_idle side g names =
    then_idle (listed_name side g.at g.name (meaning_of_global g.pointer g.len)) (top_then (top_notes (noted_length g)) (tops (listed_start g.pointer) g.init)) names (name_noted side g.at g.name _ names)
    (λ more. then_idle (top_notes (noted_length g)) (tops (listed_start g.pointer) g.init) more (length_idle g.at g.init g.len) (tops_idle (listed_start g.pointer) (λ e ns. start_idle g.pointer e ns) g.init))

word_noted : (side : Side) (m : Meaning) (w : Word) (names : Names) → Idle (listed_word side m w names).notes
unfolding listed_word
word_noted side m w names = name_noted side w.at w.name m names

woven_idle : (side : Side) (at : At) (b : Bool) → Idle (woven_prototype side at b)
woven_idle Source at true = refl
woven_idle Source at false = refl
woven_idle Output at b = refl

unknown_idle : (at : At) (b : Bool) → Idle (unknown_prototype at b)
unknown_idle at true = refl
unknown_idle at false = refl

input_idle : (side : Side) (at : At) (x : Ident) (names : Names) → Idle (listed_input side at x names).notes
unfolding listed_input top_notes
input_idle side at x names =
    then_idle (top_notes (input_notes side at x)) (listed at x meaning.Input) names (idle_both (woven_prototype side at (starts_with nat_eq x (codes "wm_"))) _ (woven_idle side at _) (unknown_idle at _)) (listed_idle at x meaning.Input)

twice_idle : (b : Bool) (at : At) → Idle (twice_if b at)
twice_idle true at = refl
twice_idle false at = refl

output_idle : (side : Side) (at : At) → Idle (output_only side at)
output_idle Source at = refl
output_idle Output at = refl

labels_idle : (side : Side) (table : Table) (ws : List Word) → Idle (labels_notes side table ws)
unfolding labels_notes
labels_idle side table [] = refl
labels_idle side table (w ∷ ws) =
    idle_both (label_notes side table w) (labels_notes side (with_label table w) ws)
    (idle_both (reserved side w.at w.name ++ output_only side w.at) (twice_if (is_some (meaning_in table w.name)) w.at) (idle_both (reserved side w.at w.name) (output_only side w.at) (reserved_idle side w.at w.name) (output_idle side w.at)) (twice_idle _ w.at))
    (labels_idle side (with_label table w) ws)

params_idle : (a : Around) (ps : List Param) (names : Names) → Idle (in_turn (declared_param a) ps names).notes
unfolding in_turn skip declared_param
params_idle a [] names = refl
params_idle a (q ∷ ps) names = both_idle (declared_param a q) (in_turn (declared_param a) ps) names (name_idle a q.name.at q.name.name _ names) (params_idle a ps _)

-- ---- functions

-- what idles before does not matter
uses_behind : (xs ys : List Note) → Idle xs → uses (xs ++ ys) ≡ uses ys
uses_behind xs ys h = uses_append xs ys ∙ ap (λ us. us ++ uses ys) h

module _ (side : Side) (items : List Item) (k : ℕ) (at : At) (g : Gives) (x : Ident) (ps : List Param) (ss : List Stmt) (names : Names) where
  abbrev it : Item
  it = item.Function at g x ps ss

  -- the notes of the statements of its body
  abbrev pub body_notes : List Note
  body_notes =
      let inside : Names = with_globals names (listed at x (meaning.Function k) names).globals in
      let a : Around = in_function side k it g (length inside.locals) in
      (all_at a (map (said_stmt items (with_labels [] (labels_of ss))) ss) (behind (in_turn (declared_param a) ps) inside)).notes

  pub function_uses : uses (listed_item side items k it names).notes ≡ uses body_notes
  unfolding listed_item top_then top_notes listed_name function_notes body_step and_then
  function_uses =
      let inside : Names = with_globals names (listed at x (meaning.Function k) names).globals in
      let a : Around = in_function side k it g (length inside.locals) in
      let labels : List Note = labels_notes side [] (labels_of ss) in
      let params : List Note = (in_turn (declared_param a) ps inside).notes in
      let first : List Note = reserved side at x ++ (listed at x (meaning.Function k) names).notes in
      uses_behind first (labels ++ (params ++ body_notes)) (idle_both (reserved side at x) _ (reserved_idle side at x) (listed_idle at x (meaning.Function k) names))
      ∙ (uses_behind labels (params ++ body_notes) (labels_idle side [] (labels_of ss)) ∙ uses_behind params body_notes (params_idle a ps inside))

  pub function_idle : is_main it ≡ false → Idle (listed_item side items k it names).notes
  function_idle e = function_uses ∙ stmts_idle items (with_labels [] (labels_of ss)) ss _ _ e

pub other_idle : (side : Side) (items : List Item) (k : ℕ) (i : Item) (names : Names) → is_main i ≡ false → Idle (listed_item side items k i names).notes
unfolding listed_item
other_idle side items k (item.Globals gs) names e = tops_idle (listed_global side) (global_idle side) gs names
other_idle side items k (item.Mutexes ws) names e = tops_idle (listed_word side meaning.Mutex) (word_noted side meaning.Mutex) ws names
other_idle side items k (item.Threads ws) names e = tops_idle (listed_word side meaning.SharedThread) (word_noted side meaning.SharedThread) ws names
other_idle side items k (item.InputDecl at x) names e = input_idle side at x names
other_idle side items k (item.Function at g x ps ss) names e = function_idle side items k at g x ps ss names e
