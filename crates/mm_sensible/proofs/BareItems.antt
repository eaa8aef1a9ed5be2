-- What is noted in a program without its places is what is noted in it, without places.
use Rattle.std.proofs.Common.{rules, ◌≡◌, ℕ, ℤ, pos, ◌+◌, nat_eq, Bool, true, false, not, ◌||◌, if◌then◌else◌, List, [], ◌∷◌, length, map, slice_get, codes, refl, ◌∙◌, ap, Option, Some, None}
use Rattle.std.specs.Prelude.{int_lt}
use Rattle.std.specs.List.{list_any, starts_with}
use Rattle.std.specs.Option.{option_map}
use Rattle.std.specs.Int.{w32, cast_unsigned}
use Rattle.std.proofs.lemmas.Option.{slice_get-map}
use Rattle.mm_goto.specs.declared.ident.At.{At}
use Rattle.mm_goto.specs.declared.ident.Ident.{Ident}
use Rattle.mm_tree.specs.Places.{nowhere, bare_word, bare_node, bare_expr, bare_layer, bare_stmt, bare_param, bare_global, bare_item, without_places}
use Rattle.mm_tree.specs.Trees.{node_of, place_of}
use Rattle.mm_tree.specs.declared.expr.Expr.{Expr}
use Rattle.mm_tree.specs.declared.expr.Node.{Node, the_lemmas as expr_lemmas}
use Rattle.mm_tree.specs.declared.expr.Node.TheFolds.{map-Node}
use Rattle.mm_tree.specs.declared.expr.Node.TheOpen as node
use Rattle.mm_tree.specs.declared.expr.Node.TheOpen.{Node-F}
use Rattle.mm_tree.specs.declared.expr.Word.{Word}
use Rattle.mm_tree.specs.declared.item.Gives.{Gives}
use Rattle.mm_tree.specs.declared.item.Gives.TheVariants as gives
use Rattle.mm_tree.specs.declared.item.Global.{Global}
use Rattle.mm_tree.specs.declared.item.Item.{Item}
use Rattle.mm_tree.specs.declared.item.Item.TheVariants as item
use Rattle.mm_tree.specs.declared.item.Param.{Param}
use Rattle.mm_tree.specs.declared.item.Tree.{Tree}
use Rattle.mm_tree.specs.declared.side.Side.{Side}
use Rattle.mm_tree.specs.declared.side.Side.TheVariants.{Source, Output}
use Rattle.mm_tree.specs.declared.stmt.Stmt.{Stmt}
use Rattle.mm_scope.specs.declared.around.Around.{Around}
use Rattle.mm_scope.specs.declared.fault.Rule.TheVariants.{TwiceDeclared, WrongType}
use Rattle.mm_scope.specs.declared.table.Meaning.{Meaning}
use Rattle.mm_scope.specs.declared.table.Meaning.TheVariants as meaning
use Rattle.mm_scope.specs.Expressions.{judged_expr}
use Rattle.mm_scope.specs.Notes.{Note, refusal}
use Rattle.mm_scope.specs.Operands.{Judged, fit, of_one}
use Rattle.mm_scope.specs.Scopes.{Names, Table, meaning_in, meaning_of, with_name, is_declared}
use Rattle.mm_scope.specs.Statements.{all_at, said_stmt}
use Rattle.mm_scope.specs.Steps.{Said, in_turn}
use Rattle.mm_scope.specs.Values.{kind_if_pointer}
use Rattle.mm_names.specs.Items.{meaning_of_global, refused_if, too_long, length_notes, is_index, index_notes, address_notes, start_notes, noted_length, listed_start, listed_global, is_main, declared_param, in_function, body_of, labels_of, function_notes, woven_prototype, unknown_prototype, input_notes, listed_input, listed_word, listed_item, listed_items, with_ahead, ahead}
use Rattle.mm_names.specs.Labels.{with_labels, labels_notes}
use Rattle.mm_names.specs.Programs.{notes_of, has_main}
use Rattle.mm_names.specs.Tops.{Top, Listed, no_more, top_notes, top_then, tops, listed, listed_name, with_globals, with_more, reserved_at}
use Rattle.mm_sensible.proofs.BareOperands.{bare_notes, bare_append, bare_both, bare_one, fit_bare, expr_bare}
use Rattle.mm_sensible.proofs.BareStatements.{Alike, alike_then, alike_turn, reserved_bare, name_bare, stmts_bare}
use Rattle.mm_sensible.proofs.BareLabels.{labels_bare, table_bare, labels_noted}

-- ---- parts one behind another

abbrev bare_listed : Listed → Listed
bare_listed l = record { globals = l.globals; notes = bare_notes l.notes }

-- the first part declares what the second declares, and notes what it notes, without places
abbrev AlikeTop : Top → Top → Type 0
AlikeTop f g = (names : Names) → f names ≡ bare_listed (g names)

alike_none : AlikeTop no_more no_more
unfolding no_more
alike_none names = refl

alike_notes : (f g : Names → List Note) → ((names : Names) → f names ≡ bare_notes (g names)) → AlikeTop (top_notes f) (top_notes g)
unfolding top_notes
alike_notes f g h names = ap (λ ns. record { globals = names.globals; notes = ns }) (h names)

alike_next : (f g h k : Top) → AlikeTop f g → AlikeTop h k → AlikeTop (top_then f h) (top_then g k)
unfolding top_then
alike_next f g h k p q names =
    let put : Listed → Listed = λ l. with_more l.notes (h (with_globals names l.globals)) in
    let behind : Listed = k (with_globals names (g names).globals) in
    ap put (p names)
    ∙ ap (with_more (bare_notes (g names).notes)) (q (with_globals names (g names).globals))
    ∙ ap (λ ns. record { globals = behind.globals; notes = ns }) (bare_append (g names).notes behind.notes)

alike_tops : {X : Type 0} (b : X → X) (f g : X → Top) → ((x : X) → AlikeTop (f (b x)) (g x)) → (xs : List X) → AlikeTop (tops f (map b xs)) (tops g xs)
unfolding tops
alike_tops b f g h [] = alike_none
alike_tops b f g h (x ∷ xs) = alike_next (f (b x)) (g x) (tops f (map b xs)) (tops g xs) (h x) (alike_tops b f g h xs)

listed_bare : (at : At) (x : Ident) (m : Meaning) → AlikeTop (listed nowhere x m) (listed at x m)
unfolding listed
listed_bare at x m names = by (is_declared (meaning_in names.globals x))
  where
    listed_if : At → Bool → Listed
    listed_if there b = if b then record { globals = names.globals; notes = refusal TwiceDeclared there ∷ [] } else record { globals = with_name names.globals x m; notes = [] }

    by : (b : Bool) → listed_if nowhere b ≡ bare_listed (listed_if at b)
    by true = refl
    by false = refl

listed_name_bare : (side : Side) (at : At) (x : Ident) (m : Meaning) → AlikeTop (listed_name side nowhere x m) (listed_name side at x m)
unfolding listed_name
listed_name_bare side at x m =
    alike_next (top_notes (reserved_at side nowhere x)) (top_notes (reserved_at side at x)) (listed nowhere x m) (listed at x m)
    (alike_notes (reserved_at side nowhere x) (reserved_at side at x) (λ names. reserved_bare side at x)) (listed_bare at x m)

-- ---- global variables

place_bare : (e : Expr) → place_of (bare_expr e) ≡ nowhere
place_bare e = search (rules, expr_lemmas)

-- the layer of an expression without places
abbrev layer_of : Expr → Node-F Node Expr
layer_of e = bare_layer (map-Node Node Expr Node Expr bare_node bare_expr (node_of e))

node_bare : (e : Expr) → node_of (bare_expr e) ≡ layer_of e
node_bare e = search (rules, expr_lemmas)

refused_bare : (b : Bool) (at : At) → refused_if b nowhere ≡ bare_notes (refused_if b at)
refused_bare true at = refl
refused_bare false at = refl

long_bare : (b : Bool) (e : Option Expr) → too_long b (option_map bare_expr e) ≡ bare_notes (too_long b e)
long_bare true None = refl
long_bare false None = refl
long_bare true (Some e) = refl
long_bare false (Some e) = ap (λ at. refusal WrongType at ∷ []) (place_bare e)

length_bare : (at : At) (es : List Expr) (n : Option ℤ) → length_notes nowhere (map bare_expr es) n ≡ bare_notes (length_notes at es n)
length_bare at es None = refl
length_bare at es (Some n) =
    let k : ℕ = cast_unsigned w32 n in
    bare_both (refused_if (int_lt n (pos 1)) at) (too_long (int_lt n (pos 0)) (slice_get es k)) (refused_bare (int_lt n (pos 1)) at)
    (ap (too_long (int_lt n (pos 0))) (slice_get-map bare_expr es k) ∙ long_bare (int_lt n (pos 0)) (slice_get es k))

is_index_bare : (n : ℤ) (z : Node-F Node Expr) → is_index n (bare_layer (map-Node Node Expr Node Expr bare_node bare_expr z)) ≡ is_index n z
is_index_bare n (node.Number z) = refl
is_index_bare n node.Null = refl
is_index_bare n (node.Name x) = refl
is_index_bare n (node.Index x e) = refl
is_index_bare n (node.Deref e) = refl
is_index_bare n (node.AddrName w) = refl
is_index_bare n (node.AddrIndex w e) = refl
is_index_bare n (node.Un op e) = refl
is_index_bare n (node.Bin op e f) = refl
is_index_bare n (node.Cond c e f) = refl

index_bare : (i : Expr) (o : Option Meaning) → index_notes (bare_expr i) o ≡ bare_notes (index_notes i o)
index_bare i None = refl
index_bare i (Some (meaning.Array n)) =
    ap (λ at. refused_if (not (is_index n (node_of (bare_expr i)))) at) (place_bare i)
    ∙ ap (λ b. refused_if (not b) nowhere) (ap (is_index n) (node_bare i) ∙ is_index_bare n (node_of i))
    ∙ refused_bare (not (is_index n (node_of i))) (place_of i)
index_bare i (Some meaning.Shared) = refl
index_bare i (Some meaning.Int) = refl
index_bare i (Some meaning.Pointer) = refl
index_bare i (Some meaning.Mutex) = refl
index_bare i (Some meaning.SharedThread) = refl
index_bare i (Some meaning.Thread) = refl
index_bare i (Some (meaning.Function k)) = refl
index_bare i (Some (meaning.Ahead k)) = refl
index_bare i (Some meaning.Input) = refl
index_bare i (Some meaning.Handed) = refl
index_bare i (Some meaning.Unready) = refl
index_bare i (Some meaning.Label) = refl

address_bare : (names : Names) (z : Node-F Node Expr) → address_notes names (bare_layer (map-Node Node Expr Node Expr bare_node bare_expr z)) ≡ bare_notes (address_notes names z)
address_bare names (node.AddrIndex w i) = index_bare i (meaning_of names w.name)
address_bare names (node.Number z) = refl
address_bare names node.Null = refl
address_bare names (node.Name x) = refl
address_bare names (node.Index x e) = refl
address_bare names (node.Deref e) = refl
address_bare names (node.AddrName w) = refl
address_bare names (node.Un op e) = refl
address_bare names (node.Bin op e f) = refl
address_bare names (node.Cond c e f) = refl

start_bare : (pointer : Bool) (e : Expr) (names : Names) → start_notes pointer (bare_expr e) names ≡ bare_notes (start_notes pointer e names)
unfolding start_notes
start_bare pointer e names =
    bare_both (of_one (fit (kind_if_pointer pointer)) (judged_expr names e)).notes (address_notes names (node_of e))
    (ap (λ (j : Judged). j.notes) (bare_one (fit (kind_if_pointer pointer)) (fit (kind_if_pointer pointer)) (judged_expr names (bare_expr e)) (judged_expr names e) (fit_bare (kind_if_pointer pointer)) (expr_bare names e)))
    (ap (address_notes names) (node_bare e) ∙ address_bare names (node_of e))

global_bare : (side : Side) (g : Global) → AlikeTop (listed_global side (bare_global g)) (listed_global side g)
unfolding listed_global listed_start
global_bare side g =
    alike_next (listed_name side nowhere g.name m) (listed_name side g.at g.name m) (top_then (top_notes (noted_length (bare_global g))) (tops (listed_start g.pointer) (map bare_expr g.init))) (top_then (top_notes (noted_length g)) (tops (listed_start g.pointer) g.init)) (listed_name_bare side g.at g.name m)
    (alike_next (top_notes (noted_length (bare_global g))) (top_notes (noted_length g)) (tops (listed_start g.pointer) (map bare_expr g.init)) (tops (listed_start g.pointer) g.init)
    (alike_notes (noted_length (bare_global g)) (noted_length g) (λ names. length_bare g.at g.init g.len))
    (alike_tops bare_expr (listed_start g.pointer) (listed_start g.pointer) (λ e. alike_notes (start_notes g.pointer (bare_expr e)) (start_notes g.pointer e) (start_bare g.pointer e)) g.init))
  where
    m : Meaning
    m = meaning_of_global g.pointer g.len

word_bare : (side : Side) (m : Meaning) (w : Word) → AlikeTop (listed_word side m (bare_word w)) (listed_word side m w)
unfolding listed_word
word_bare side m w = listed_name_bare side w.at w.name m

woven_bare : (side : Side) (at : At) (b : Bool) → woven_prototype side nowhere b ≡ bare_notes (woven_prototype side at b)
woven_bare Source at true = refl
woven_bare Source at false = refl
woven_bare Output at b = refl

unknown_bare : (at : At) (b : Bool) → unknown_prototype nowhere b ≡ bare_notes (unknown_prototype at b)
unknown_bare at true = refl
unknown_bare at false = refl

input_bare : (side : Side) (at : At) (x : Ident) → AlikeTop (listed_input side nowhere x) (listed_input side at x)
unfolding listed_input
input_bare side at x =
    alike_next (top_notes (input_notes side nowhere x)) (top_notes (input_notes side at x)) (listed nowhere x meaning.Input) (listed at x meaning.Input)
    (alike_notes (input_notes side nowhere x) (input_notes side at x)
    (λ names. bare_both (woven_prototype side at (starts_with nat_eq x (codes "wm_"))) (unknown_prototype at (starts_with nat_eq x (codes "nondet_"))) (woven_bare side at _) (unknown_bare at _)))
    (listed_bare at x meaning.Input)

-- ---- functions

main_bare : (i : Item) → is_main (bare_item i) ≡ is_main i
main_bare (item.Function at gives.Int x [] ss) = refl
main_bare (item.Function at gives.Int x (p ∷ ps) ss) = refl
main_bare (item.Function at gives.Pointer x ps ss) = refl
main_bare (item.Function at gives.Nothing x ps ss) = refl
main_bare (item.Function at gives.Thread x ps ss) = refl
main_bare (item.Globals gs) = refl
main_bare (item.Mutexes ws) = refl
main_bare (item.Threads ws) = refl
main_bare (item.InputDecl at x) = refl

param_bare : (a : Around) (p : Param) → Alike (declared_param a (bare_param p)) (declared_param a p)
unfolding declared_param
param_bare a p = name_bare a p.name.at p.name.name _

module _ (side : Side) (items : List Item) (k : ℕ) where
  body_bare : (labels : Table) (a : Around) (ps : List Param) (ss : List Stmt) → Alike (body_of (map bare_item items) labels a (map bare_param ps) (map bare_stmt ss)) (body_of items labels a ps ss)
  unfolding body_of
  body_bare labels a ps ss =
      alike_then (in_turn (declared_param a) (map bare_param ps)) (in_turn (declared_param a) ps) (all_at a (map (said_stmt (map bare_item items) labels) (map bare_stmt ss))) (all_at a (map (said_stmt items labels) ss))
      (alike_turn bare_param (declared_param a) (declared_param a) (param_bare a) ps) (stmts_bare items labels ss a)

  module _ (at : At) (g : Gives) (x : Ident) (ps : List Param) (ss : List Stmt) where
    abbrev it : Item
    it = item.Function at g x ps ss

    function_bare : (names : Names) → function_notes side (map bare_item items) k (bare_item it) g (map bare_param ps) (map bare_stmt ss) names ≡ bare_notes (function_notes side items k it g ps ss names)
    unfolding function_notes
    function_bare names =
        let from : ℕ = length names.locals in
        let labels : Table = with_labels [] (labels_of ss) in
        let body : Table → Around → List Note = λ t a. (body_of (map bare_item items) t a (map bare_param ps) (map bare_stmt ss) names).notes in
        bare_both (labels_notes side [] (labels_of ss)) (body_of items labels (in_function side k it g from) ps ss names).notes
        (ap (labels_notes side []) (labels_bare ss) ∙ labels_noted side [] (labels_of ss))
        (ap (λ ws. body (with_labels [] ws) (in_function side k (bare_item it) g from)) (labels_bare ss)
        ∙ ap (λ t. body t (in_function side k (bare_item it) g from)) (table_bare [] (labels_of ss))
        ∙ ap (λ b. body labels (record { side = side; caller = k; gives = g; from = from; looped = false; outermost = b })) (main_bare it)
        ∙ ap (λ (s : Said). s.notes) (body_bare labels (in_function side k it g from) ps ss names))

  item_bare : (i : Item) → AlikeTop (listed_item side (map bare_item items) k (bare_item i)) (listed_item side items k i)
  unfolding listed_item
  item_bare (item.Globals gs) = alike_tops bare_global (listed_global side) (listed_global side) (global_bare side) gs
  item_bare (item.Mutexes ws) = alike_tops bare_word (listed_word side meaning.Mutex) (listed_word side meaning.Mutex) (word_bare side meaning.Mutex) ws
  item_bare (item.Threads ws) = alike_tops bare_word (listed_word side meaning.SharedThread) (listed_word side meaning.SharedThread) (word_bare side meaning.SharedThread) ws
  item_bare (item.InputDecl at x) = input_bare side at x
  item_bare (item.Function at g x ps ss) =
      alike_next (listed_name side nowhere x (meaning.Function k)) (listed_name side at x (meaning.Function k)) (top_notes (function_notes side (map bare_item items) k (bare_item (item.Function at g x ps ss)) g (map bare_param ps) (map bare_stmt ss))) (top_notes (function_notes side items k (item.Function at g x ps ss) g ps ss))
      (listed_name_bare side at x (meaning.Function k))
      (alike_notes (function_notes side (map bare_item items) k (bare_item (item.Function at g x ps ss)) g (map bare_param ps) (map bare_stmt ss)) (function_notes side items k (item.Function at g x ps ss) g ps ss) (function_bare at g x ps ss))

-- ---- programs

items_bare : (side : Side) (items : List Item) (k : ℕ) (is : List Item) → AlikeTop (listed_items side (map bare_item items) k (map bare_item is)) (listed_items side items k is)
unfolding listed_items
items_bare side items k [] = alike_none
items_bare side items k (i ∷ is) = alike_next (listed_item side (map bare_item items) k (bare_item i)) (listed_item side items k i) (listed_items side (map bare_item items) (k + 1) (map bare_item is)) (listed_items side items (k + 1) is) (item_bare side items k i) (items_bare side items (k + 1) is)

ahead_one : (table : Table) (k : ℕ) (i : Item) → with_ahead table k (bare_item i) ≡ with_ahead table k i
ahead_one table k (item.Globals gs) = refl
ahead_one table k (item.Mutexes ws) = refl
ahead_one table k (item.Threads ws) = refl
ahead_one table k (item.InputDecl at x) = refl
ahead_one table k (item.Function at g x ps ss) = refl

ahead_bare : (table : Table) (k : ℕ) (is : List Item) → ahead table k (map bare_item is) ≡ ahead table k is
unfolding ahead
ahead_bare table k [] = refl
ahead_bare table k (i ∷ is) = ap (λ t. ahead t (k + 1) (map bare_item is)) (ahead_one table k i) ∙ ahead_bare (with_ahead table k i) (k + 1) is

pub notes_bare : (side : Side) (u : Tree) → notes_of side (without_places u) ≡ bare_notes (notes_of side u)
unfolding notes_of
notes_bare side u =
    ap (λ t. (listed_items side (map bare_item u.items) 0 (map bare_item u.items) (record { globals = t; locals = [] })).notes) (ahead_bare [] 0 u.items)
    ∙ ap (λ (l : Listed). l.notes) (items_bare side u.items 0 u.items (record { globals = ahead [] 0 u.items; locals = [] }))

pub main_kept : (u : Tree) → has_main (without_places u) ≡ has_main u
main_kept u = by u.items
  where
    by : (is : List Item) → list_any is_main (map bare_item is) ≡ list_any is_main is
    by [] = refl
    by (i ∷ is) = ap (λ b. b || list_any is_main (map bare_item is)) (main_bare i) ∙ ap (λ b. is_main i || b) (by is)
