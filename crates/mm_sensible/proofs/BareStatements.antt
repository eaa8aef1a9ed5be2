-- What is noted in a statement without its places is what is noted in it, without places.
use Rattle.std.proofs.Common.{rules, ◌≡◌, Bool, true, false, if◌then◌else◌, List, [], ◌∷◌, ◌++◌, map, slice_get, is_some, refl, ◌∙◌, sym, ap, subst, Option, Some, None}
use Rattle.std.specs.Option.{option_map}
use Rattle.std.proofs.lemmas.Option.{slice_get-map}
use Rattle.mm_goto.specs.declared.ident.At.{At}
use Rattle.mm_goto.specs.declared.ident.Ident.{Ident}
use Rattle.mm_tree.specs.Places.{nowhere, bare_word, bare_node, bare_expr, bare_layer, bare_left, bare_value, bare_local, bare_stmt_layer, bare_stmt_node_step, bare_stmt_step, bare_stmt_node, bare_stmt, bare_item}
use Rattle.mm_tree.specs.Trees.{node_of}
use Rattle.mm_tree.specs.declared.expr.Expr.{Expr}
use Rattle.mm_tree.specs.declared.expr.Node.{Node, the_lemmas as expr_lemmas}
use Rattle.mm_tree.specs.declared.expr.Node.TheFolds.{map-Node}
use Rattle.mm_tree.specs.declared.expr.Node.TheOpen as node
use Rattle.mm_tree.specs.declared.expr.Node.TheOpen.{Node-F}
use Rattle.mm_tree.specs.declared.expr.Word.{Word}
use Rattle.mm_tree.specs.declared.item.Gives.TheVariants as gives
use Rattle.mm_tree.specs.declared.item.Item.{Item}
use Rattle.mm_tree.specs.declared.item.Item.TheVariants as item
use Rattle.mm_tree.specs.declared.side.Side.{Side}
use Rattle.mm_tree.specs.declared.side.Side.TheVariants.{Source, Output}
use Rattle.mm_tree.specs.declared.stmt.Left.{Left}
use Rattle.mm_tree.specs.declared.stmt.Local.{Local}
use Rattle.mm_tree.specs.declared.stmt.Value.{Value}
use Rattle.mm_tree.specs.declared.stmt.Value.TheVariants as value
use Rattle.mm_tree.specs.declared.stmt.Stmt.{Stmt, roll-Stmt}
use Rattle.mm_tree.specs.declared.stmt.StmtNode.{StmtNode, roll-StmtNode}
use Rattle.mm_tree.specs.declared.stmt.StmtNode.TheOpen as stmt
use Rattle.mm_tree.specs.declared.stmt.StmtNode.TheOpen.{StmtNode-F, Stmt-F}
use Rattle.mm_tree.specs.declared.stmt.StmtNode.TheFolds.{ind-Stmt, fold-roll-StmtNode, fold-roll-Stmt, map-StmtNode, map-Stmt}
use Rattle.mm_scope.specs.declared.around.Around.{Around}
use Rattle.mm_scope.specs.declared.operand.Kind.{Kind}
use Rattle.mm_scope.specs.declared.operand.Kind.TheVariants as kind
use Rattle.mm_scope.specs.declared.table.Meaning.{Meaning}
use Rattle.mm_scope.specs.declared.table.Meaning.TheVariants as meaning
use Rattle.mm_scope.specs.declared.fault.Rule.TheVariants.{ReservedName}
use Rattle.mm_scope.specs.Declarations.{initialiser, declared_name, declared_local, declared_thread, meaning_of_local}
use Rattle.mm_scope.specs.Expressions.{judged_expr}
use Rattle.mm_scope.specs.Notes.{Note, refusal, an_assertion}
use Rattle.mm_scope.specs.Operands.{Judged, fit, of_one}
use Rattle.mm_scope.specs.Parts.{inner, guarded, in_loop, noted_expr, noted_value, noted_assign, noted_update, fit_return, returned, asserted, text_fits, refusal_unless, output_only, is_nothing, is_nothing_node}
use Rattle.mm_scope.specs.Scopes.{Names, Table, meaning_of, meaning_in, is_taken}
use Rattle.mm_scope.specs.Statements.{Placed, known_label, noted_goto, all_at, if_some, block, choice, while_loop, do_loop, for_loop, said_node_step, said_stmt_step, said_node, said_stmt}
use Rattle.mm_scope.specs.Steps.{Said, Step, skip, noting, with_both, behind, and_then, in_turn, if_there, closed, is_reserved_on, reserved, adding, declaring_where, declaring}
use Rattle.mm_scope.specs.Threads.{as_mutex, noted_mutex, used_where, use_of, as_thread, outside_main, noted_thread, as_function, gives_thread, as_body, noted_body, started}
use Rattle.mm_scope.specs.Values.{judged_value, judged_left, kind_if_pointer, fit_place}
use Rattle.mm_sensible.proofs.BareOperands.{bare_notes, bare_append, bare_both, bare_judged, bare_one, fit_bare, expr_bare}
use Rattle.mm_sensible.proofs.BareValues.{value_bare, left_bare, fit_place_bare, fit_return_bare}

-- ---- steps

-- what a part says, without places
abbrev pub bare_said : Said → Said
bare_said s = record { declared = s.declared; notes = bare_notes s.notes }

-- the first part says what the second says, without places
abbrev pub Alike : Step → Step → Type 0
Alike f g = (names : Names) → f names ≡ bare_said (g names)

pub alike_skip : Alike skip skip
unfolding skip
alike_skip names = refl

-- parts that declare nothing
pub alike_noting : (new old : Names → List Note) → ((names : Names) → new names ≡ bare_notes (old names)) → Alike (λ names. noting (new names)) (λ names. noting (old names))
alike_noting new old h names = ap noting (h names)

pub alike_then : (f g h k : Step) → Alike f g → Alike h k → Alike (and_then f h) (and_then g k)
unfolding and_then
alike_then f g h k p q names =
    let put : Said → Said = λ s. with_both s (h (record names { locals = names.locals ++ s.declared })) in
    ap put (p names)
    ∙ ap (with_both (bare_said (g names))) (q (behind g names))
    ∙ ap (λ ns. record { declared = (g names).declared ++ (k (behind g names)).declared; notes = ns }) (bare_append (g names).notes (k (behind g names)).notes)

pub alike_turn : {X Y : Type 0} (b : Y → X) (f : X → Step) (g : Y → Step) → ((y : Y) → Alike (f (b y)) (g y)) → (ys : List Y) → Alike (in_turn f (map b ys)) (in_turn g ys)
unfolding in_turn
alike_turn b f g h [] = alike_skip
alike_turn b f g h (y ∷ ys) = alike_then (f (b y)) (g y) (in_turn f (map b ys)) (in_turn g ys) (h y) (alike_turn b f g h ys)

alike_closed : (f g : Step) → Alike f g → Alike (closed f) (closed g)
unfolding closed
alike_closed f g h names = ap (λ (s : Said). noting s.notes) (h names)

-- ---- parts

unless_bare : (b : Bool) (at : At) → refusal_unless b nowhere ≡ bare_notes (refusal_unless b at)
unless_bare true at = refl
unless_bare false at = refl

pub output_bare : (side : Side) (at : At) → output_only side nowhere ≡ bare_notes (output_only side at)
output_bare Source at = refl
output_bare Output at = refl

label_bare : (at : At) (b : Bool) → known_label nowhere b ≡ bare_notes (known_label at b)
label_bare at true = refl
label_bare at false = refl

reserved_if : (b : Bool) (at : At) → (if b then refusal ReservedName nowhere ∷ [] else []) ≡ bare_notes (if b then refusal ReservedName at ∷ [] else [])
reserved_if true at = refl
reserved_if false at = refl

pub reserved_bare : (side : Side) (at : At) (x : Ident) → reserved side nowhere x ≡ bare_notes (reserved side at x)
unfolding reserved
reserved_bare side at x = reserved_if (is_reserved_on side x) at

declaring_bare : (b : Bool) (at : At) (x : Ident) (m : Meaning) → Alike (declaring_where b nowhere x m) (declaring_where b at x m)
unfolding declaring_where
declaring_bare true at x m names = refl
declaring_bare false at x m names = refl

pub name_bare : (a : Around) (at : At) (x : Ident) (m : Meaning) → Alike (declared_name a nowhere x m) (declared_name a at x m)
unfolding declaring
name_bare a at x m =
    alike_then (λ names. noting (reserved a.side nowhere x)) (λ names. noting (reserved a.side at x)) (declaring a.from nowhere x m) (declaring a.from at x m)
    (λ names. ap noting (reserved_bare a.side at x)) (λ names. declaring_bare (is_taken names a.from x) at x m names)

mutex_bare : (at : At) (o : Option Meaning) → as_mutex nowhere o ≡ bare_notes (as_mutex at o)
mutex_bare at None = refl
mutex_bare at (Some meaning.Unready) = refl
mutex_bare at (Some meaning.Mutex) = refl
mutex_bare at (Some meaning.Shared) = refl
mutex_bare at (Some meaning.Int) = refl
mutex_bare at (Some meaning.Pointer) = refl
mutex_bare at (Some (meaning.Array n)) = refl
mutex_bare at (Some meaning.SharedThread) = refl
mutex_bare at (Some meaning.Thread) = refl
mutex_bare at (Some (meaning.Function k)) = refl
mutex_bare at (Some (meaning.Ahead k)) = refl
mutex_bare at (Some meaning.Input) = refl
mutex_bare at (Some meaning.Handed) = refl
mutex_bare at (Some meaning.Label) = refl

use_bare : (b local : Bool) (f : Option Ident) (at : At) (w : Word) → used_where b (use_of f local nowhere (bare_word w)) ≡ bare_notes (used_where b (use_of f local at w))
use_bare true local f at w = refl
use_bare false local f at w = refl

thread_bare : (b : Bool) (f : Option Ident) (at : At) (w : Word) (o : Option Meaning) → as_thread b f nowhere (bare_word w) o ≡ bare_notes (as_thread b f at w o)
thread_bare b f at w None = refl
thread_bare b f at w (Some meaning.Unready) = refl
thread_bare b f at w (Some meaning.SharedThread) = use_bare b false f at w
thread_bare b f at w (Some meaning.Thread) = use_bare b true f at w
thread_bare b f at w (Some meaning.Mutex) = refl
thread_bare b f at w (Some meaning.Shared) = refl
thread_bare b f at w (Some meaning.Int) = refl
thread_bare b f at w (Some meaning.Pointer) = refl
thread_bare b f at w (Some (meaning.Array n)) = refl
thread_bare b f at w (Some (meaning.Function k)) = refl
thread_bare b f at w (Some (meaning.Ahead k)) = refl
thread_bare b f at w (Some meaning.Input) = refl
thread_bare b f at w (Some meaning.Handed) = refl
thread_bare b f at w (Some meaning.Label) = refl

outside_bare : (b : Bool) (at : At) → outside_main b nowhere ≡ bare_notes (outside_main b at)
outside_bare true at = refl
outside_bare false at = refl

noted_thread_bare : (a : Around) (f : Option Ident) (at : At) (w : Word) → Alike (noted_thread a f nowhere (bare_word w)) (noted_thread a f at w)
unfolding noted_thread
noted_thread_bare a f at w names =
    ap noting (bare_both (outside_main a.outermost at) (as_thread a.outermost f at w (meaning_of names w.name)) (outside_bare a.outermost at) (thread_bare a.outermost f at w (meaning_of names w.name)))

function_bare : (at : At) (b : Bool) → as_function nowhere b ≡ bare_notes (as_function at b)
function_bare at true = refl
function_bare at false = refl

gives_bare : (o : Option Item) → gives_thread (option_map bare_item o) ≡ gives_thread o
gives_bare None = refl
gives_bare (Some (item.Globals gs)) = refl
gives_bare (Some (item.Mutexes ws)) = refl
gives_bare (Some (item.Threads ws)) = refl
gives_bare (Some (item.InputDecl at x)) = refl
gives_bare (Some (item.Function at gives.Int x ps ss)) = refl
gives_bare (Some (item.Function at gives.Pointer x ps ss)) = refl
gives_bare (Some (item.Function at gives.Nothing x ps ss)) = refl
gives_bare (Some (item.Function at gives.Thread x ps ss)) = refl

module _ (items : List Item) where
  abbrev news : List Item
  news = map bare_item items

  at_bare : (at : At) (k : _) → as_function nowhere (gives_thread (slice_get news k)) ≡ bare_notes (as_function at (gives_thread (slice_get items k)))
  at_bare at k = ap (as_function nowhere) (ap gives_thread (slice_get-map bare_item items k) ∙ gives_bare (slice_get items k)) ∙ function_bare at (gives_thread (slice_get items k))

  body_bare : (at there : At) (o : Option Meaning) → as_body news nowhere nowhere o ≡ bare_notes (as_body items at there o)
  body_bare at there None = refl
  body_bare at there (Some meaning.Unready) = refl
  body_bare at there (Some (meaning.Function k)) = at_bare at k
  body_bare at there (Some (meaning.Ahead k)) = at_bare at k
  body_bare at there (Some meaning.Input) = refl
  body_bare at there (Some meaning.Mutex) = refl
  body_bare at there (Some meaning.Shared) = refl
  body_bare at there (Some meaning.Int) = refl
  body_bare at there (Some meaning.Pointer) = refl
  body_bare at there (Some (meaning.Array n)) = refl
  body_bare at there (Some meaning.SharedThread) = refl
  body_bare at there (Some meaning.Thread) = refl
  body_bare at there (Some meaning.Handed) = refl
  body_bare at there (Some meaning.Label) = refl

  started_bare : (a : Around) (at : At) (w f : Word) → Alike (started news a nowhere (bare_word w) (bare_word f)) (started items a at w f)
  unfolding started noted_body
  started_bare a at w f =
      alike_then (noted_thread a (Some f.name) nowhere (bare_word w)) (noted_thread a (Some f.name) at w) (noted_body news nowhere (bare_word f)) (noted_body items at f)
      (noted_thread_bare a (Some f.name) at w) (λ names. ap noting (body_bare at f.at (meaning_of names f.name)))

  -- a value where a type is wanted
  placed_bare : (a : Around) (k : Option Kind) (v : Value) (names : Names) → of_one (fit_place k) (judged_value news a.caller names (bare_value v)) ≡ bare_judged (of_one (fit_place k) (judged_value items a.caller names v))
  placed_bare a k v names = bare_one (fit_place k) (fit_place k) (judged_value news a.caller names (bare_value v)) (judged_value items a.caller names v) (fit_place_bare k) (value_bare items a.caller names v)

  noted_value_bare : (a : Around) (k : Option Kind) (v : Value) → Alike (noted_value news a k (bare_value v)) (noted_value items a k v)
  unfolding noted_value
  noted_value_bare a k v names = ap (λ (j : Judged). noting j.notes) (placed_bare a k v names)

  initialiser_bare : (a : Around) (l : Local) (v : Option Value) → Alike (initialiser news a (bare_local l) (option_map bare_value v)) (initialiser items a l v)
  unfolding adding
  initialiser_bare a l None = alike_skip
  initialiser_bare a l (Some v) =
      let k : Option Kind = Some (kind_if_pointer l.pointer) in
      let ready : Step = adding l.name meaning.Unready in
      alike_closed (and_then ready (noted_value news a k (bare_value v))) (and_then ready (noted_value items a k v))
      (alike_then ready ready (noted_value news a k (bare_value v)) (noted_value items a k v) (adding_bare l.name meaning.Unready) (noted_value_bare a k v))
    where
      adding_bare : (x : Ident) (m : Meaning) → Alike (adding x m) (adding x m)
      adding_bare x m names = refl

  local_bare : (a : Around) (l : Local) → Alike (declared_local news a (bare_local l)) (declared_local items a l)
  unfolding declared_local
  local_bare a l =
      let m : Meaning = meaning_of_local l.pointer in
      alike_then (initialiser news a (bare_local l) (option_map bare_value l.value)) (initialiser items a l l.value) (declared_name a nowhere l.name m) (declared_name a l.at l.name m)
      (initialiser_bare a l l.value) (name_bare a l.at l.name m)

  assign_bare : (a : Around) (l : Left) (v : Value) → Alike (noted_assign news a (bare_left l) (bare_value v)) (noted_assign items a l v)
  unfolding noted_assign
  assign_bare a l v names =
      let put : Judged → Said = λ j. noting (j.notes ++ (of_one (fit_place j.operand.kind) (judged_value news a.caller names (bare_value v))).notes) in
      let place : Judged = judged_left names l in
      ap put (left_bare names l)
      ∙ ap noting (bare_both place.notes (of_one (fit_place place.operand.kind) (judged_value items a.caller names v)).notes refl (ap (λ (j : Judged). j.notes) (placed_bare a place.operand.kind v names)))

  returned_bare : (a : Around) (v : Value) → Alike (returned news a (bare_value v)) (returned items a v)
  unfolding returned
  returned_bare a v names =
      ap (λ b. noting (of_one (fit_return a.gives b) (judged_value news a.caller names (bare_value v))).notes) (nothing_bare v)
      ∙ ap (λ (j : Judged). noting j.notes) (bare_one (fit_return a.gives (is_nothing v)) (fit_return a.gives (is_nothing v)) (judged_value news a.caller names (bare_value v)) (judged_value items a.caller names v) (fit_return_bare a.gives (is_nothing v)) (value_bare items a.caller names v))
    where
      node_nothing : (z : Node-F Node Expr) → is_nothing_node (bare_layer (map-Node Node Expr Node Expr bare_node bare_expr z)) ≡ is_nothing_node z
      node_nothing (node.Number z) = refl
      node_nothing node.Null = refl
      node_nothing (node.Name x) = refl
      node_nothing (node.Index x e) = refl
      node_nothing (node.Deref e) = refl
      node_nothing (node.AddrName w) = refl
      node_nothing (node.AddrIndex w e) = refl
      node_nothing (node.Un op e) = refl
      node_nothing (node.Bin op e f) = refl
      node_nothing (node.Cond c e f) = refl

      layer_of : (e : Expr) → node_of (bare_expr e) ≡ bare_layer (map-Node Node Expr Node Expr bare_node bare_expr (node_of e))
      layer_of e = search (rules, expr_lemmas)

      nothing_bare : (v : Value) → is_nothing (bare_value v) ≡ is_nothing v
      nothing_bare (value.Plain e) = ap is_nothing_node (layer_of e) ∙ node_nothing (node_of e)
      nothing_bare (value.Call at x es) = refl
      nothing_bare (value.FetchAdd at p e) = refl
      nothing_bare (value.CompareSwap at p e f) = refl

noted_expr_bare : (e : Expr) → Alike (noted_expr (bare_expr e)) (noted_expr e)
noted_expr_bare e names = ap (λ (j : Judged). noting j.notes) (expr_bare names e)

update_bare : (l : Left) (e : Expr) → Alike (noted_update (bare_left l) (bare_expr e)) (noted_update l e)
unfolding noted_update
update_bare l e names =
    ap noting (bare_both (of_one (fit kind.Int) (judged_left names l)).notes (of_one (fit kind.Int) (judged_expr names e)).notes
    (ap (λ (j : Judged). j.notes) (bare_one (fit kind.Int) (fit kind.Int) (judged_left names (bare_left l)) (judged_left names l) (fit_bare kind.Int) (left_bare names l)))
    (ap (λ (j : Judged). j.notes) (bare_one (fit kind.Int) (fit kind.Int) (judged_expr names (bare_expr e)) (judged_expr names e) (fit_bare kind.Int) (expr_bare names e))))

asserted_bare : (side : Side) (at : At) (e : Expr) (text : Option Ident) → Alike (asserted side nowhere (bare_expr e) text) (asserted side at e text)
unfolding asserted
asserted_bare side at e text names =
    ap noting (bare_both ((judged_expr names e).notes ++ refusal_unless (text_fits side text) at) (an_assertion ∷ [])
    (bare_both (judged_expr names e).notes (refusal_unless (text_fits side text) at) (ap (λ (j : Judged). j.notes) (expr_bare names e)) (unless_bare (text_fits side text) at)) refl)

noted_mutex_bare : (w : Word) → Alike (noted_mutex (bare_word w)) (noted_mutex w)
unfolding noted_mutex
noted_mutex_bare w names = ap noting (mutex_bare w.at (meaning_of names w.name))

goto_bare : (a : Around) (labels : Table) (at : At) (w : Word) → Alike (noted_goto a labels nowhere (bare_word w)) (noted_goto a labels at w)
unfolding noted_goto
goto_bare a labels at w names =
    ap noting (bare_both (output_only a.side at) (known_label w.at (is_some (meaning_in labels w.name))) (output_bare a.side at) (label_bare w.at (is_some (meaning_in labels w.name))))

condition_bare : (c : Option Expr) → Alike (if_there noted_expr (option_map bare_expr c)) (if_there noted_expr c)
condition_bare None = alike_skip
condition_bare (Some c) = noted_expr_bare c

declared_thread_bare : (a : Around) (w : Word) → Alike (declared_thread a (bare_word w)) (declared_thread a w)
unfolding declared_thread
declared_thread_bare a w = name_bare a w.at w.name meaning.Thread

-- ---- statements

-- a part and the same part without places, wherever they stand
abbrev AlikeAt : Placed → Placed → Type 0
AlikeAt s t = (a : Around) → Alike (s a) (t a)

-- parts that may be absent
data AlikeIf : Option Placed → Option Placed → Type 0 where
  none : AlikeIf None None
  some : {s t : Placed} → AlikeAt s t → AlikeIf (Some s) (Some t)

if_some_bare : (a : Around) (s t : Option Placed) → AlikeIf s t → Alike (if_some a s) (if_some a t)
if_some_bare a None None none = alike_skip
if_some_bare a (Some s) (Some t) (some h) = h a
if_some_bare a None (Some t) h = elim h [ ]
if_some_bare a (Some s) None h = elim h [ ]

choice_bare : (a : Around) (c : Expr) (s t : Placed) (o q : Option Placed) → AlikeAt s t → AlikeIf o q → Alike (choice a (bare_expr c) s o) (choice a c t q)
unfolding choice
choice_bare a c s t o q h k =
    let g : Around = guarded a in
    alike_then (noted_expr (bare_expr c)) (noted_expr c) (and_then (s g) (if_some g o)) (and_then (t g) (if_some g q)) (noted_expr_bare c)
    (alike_then (s g) (t g) (if_some g o) (if_some g q) (h g) (if_some_bare g o q k))

while_bare : (a : Around) (c : Expr) (s t : Placed) → AlikeAt s t → Alike (while_loop a (bare_expr c) s) (while_loop a c t)
unfolding while_loop
while_bare a c s t h = alike_then (noted_expr (bare_expr c)) (noted_expr c) (s (in_loop a)) (t (in_loop a)) (noted_expr_bare c) (h (in_loop a))

do_bare : (a : Around) (c : Expr) (s t : Placed) → AlikeAt s t → Alike (do_loop a s (bare_expr c)) (do_loop a t c)
unfolding do_loop
do_bare a c s t h = alike_then (s (in_loop a)) (t (in_loop a)) (noted_expr (bare_expr c)) (noted_expr c) (h (in_loop a)) (noted_expr_bare c)

for_bare : (a : Around) (i j : Option Placed) (c : Option Expr) (k l : Option Placed) (s t : Placed) → AlikeIf i j → AlikeIf k l → AlikeAt s t → Alike (for_loop a i (option_map bare_expr c) k s) (for_loop a j c l t)
unfolding for_loop closed
for_bare a i j c k l s t p q h names =
    let b : Around = inner a names in
    ap (λ (r : Said). noting r.notes)
    (alike_then (if_some b i) (if_some b j) (and_then (if_there noted_expr (option_map bare_expr c)) (and_then (if_some b k) (s (in_loop b)))) (and_then (if_there noted_expr c) (and_then (if_some b l) (t (in_loop b)))) (if_some_bare b i j p)
    (alike_then (if_there noted_expr (option_map bare_expr c)) (if_there noted_expr c) (and_then (if_some b k) (s (in_loop b))) (and_then (if_some b l) (t (in_loop b))) (condition_bare c)
    (alike_then (if_some b k) (if_some b l) (s (in_loop b)) (t (in_loop b)) (if_some_bare b k l q) (h (in_loop b)))) names)

module _ (items : List Item) (labels : Table) where
  abbrev SaidBy : Type 0
  SaidBy = At → Placed

  -- the statement, and what is noted in it without places
  abbrev said : Stmt → Placed
  said s = said_stmt items labels s

  abbrev new : Stmt → Placed
  new s = said_stmt (map bare_item items) labels (bare_stmt s)

  abbrev P : StmtNode → Type 0
  P d = (at : At) → AlikeAt (said_node (map bare_item items) labels (bare_stmt_node d) nowhere) (said_node items labels d at)

  abbrev Q : Stmt → Type 0
  Q s = AlikeAt (new s) (said s)

  abbrev said_layer : List Item → StmtNode-F StmtNode Stmt → At → Placed
  said_layer is z = said_node_step is labels (map-StmtNode StmtNode Stmt SaidBy Placed (said_node is labels) (said_stmt is labels) z)

  said_roll : (is : List Item) (z : StmtNode-F StmtNode Stmt) (at : At) → said_node is labels (roll-StmtNode z) at ≡ said_layer is z at
  said_roll is z at = ap (λ (f : SaidBy). f at) (fold-roll-StmtNode SaidBy Placed (said_node_step is labels) (said_stmt_step is labels) z)

  abbrev bare_parts : StmtNode-F StmtNode Stmt → StmtNode-F StmtNode Stmt
  bare_parts z = bare_stmt_layer (map-StmtNode StmtNode Stmt StmtNode Stmt bare_stmt_node bare_stmt z)

  by_node : (z : StmtNode-F StmtNode Stmt) (at : At) → AlikeAt (said_layer (map bare_item items) (bare_parts z) nowhere) (said_layer items z at) → AlikeAt (said_node (map bare_item items) labels (bare_stmt_node (roll-StmtNode z)) nowhere) (said_node items labels (roll-StmtNode z) at)
  by_node z at g a names =
      ap (λ (d : StmtNode). said_node (map bare_item items) labels d nowhere a names) (fold-roll-StmtNode StmtNode Stmt bare_stmt_node_step bare_stmt_step z)
      ∙ ap (λ (f : Placed). f a names) (said_roll (map bare_item items) (bare_parts z) nowhere)
      ∙ g a names
      ∙ sym (ap (λ (f : Placed). bare_said (f a names)) (said_roll items z at))

  by_stmt : (z : Stmt-F StmtNode Stmt) → AlikeAt (said_node (map bare_item items) labels (bare_stmt_node z.node) nowhere) (said_node items labels z.node z.at) → Q (roll-Stmt z)
  by_stmt z g a names =
      ap (λ (s : Stmt). said_stmt (map bare_item items) labels s a names) (fold-roll-Stmt StmtNode Stmt bare_stmt_node_step bare_stmt_step z)
      ∙ ap (λ (f : Placed). f a names) (fold-roll-Stmt SaidBy Placed (said_node_step (map bare_item items) labels) (said_stmt_step (map bare_item items) labels) (record { at = nowhere; node = bare_stmt_node z.node }))
      ∙ g a names
      ∙ sym (ap (λ (f : Placed). bare_said (f a names)) (fold-roll-Stmt SaidBy Placed (said_node_step items labels) (said_stmt_step items labels) z))

  abbrev Proved : Type 0
  Proved = (s : Stmt) × Q s

  abbrev Layer : Type 0
  Layer = StmtNode-F ((d : StmtNode) × P d) Proved

  abbrev plain : Layer → StmtNode-F StmtNode Stmt
  plain y = map-StmtNode ((d : StmtNode) × P d) Proved StmtNode Stmt (λ d. d.0) (λ e. e.0) y

  parts_bare : (ss : List Proved) → AlikeAt (λ a. all_at a (map (said_stmt (map bare_item items) labels) (map bare_stmt (map (λ (s : Proved). s.0) ss)))) (λ a. all_at a (map (said_stmt items labels) (map (λ (s : Proved). s.0) ss)))
  unfolding all_at in_turn
  parts_bare [] a = alike_skip
  parts_bare (s ∷ ss) a = alike_then (new s.0 a) (said s.0 a) (all_at a _) (all_at a _) (s.1 a) (parts_bare ss a)

  block_bare : (ss : List Proved) → AlikeAt (λ a. block a (map (said_stmt (map bare_item items) labels) (map bare_stmt (map (λ (s : Proved). s.0) ss)))) (λ a. block a (map (said_stmt items labels) (map (λ (s : Proved). s.0) ss)))
  unfolding block closed
  block_bare ss a names = ap (λ (s : Said). noting s.notes) (parts_bare ss (inner a names) names)

  one_part : (s : Proved) → AlikeIf (Some (new s.0)) (Some (said s.0))
  one_part s = some s.1

  layer_bare : (y : Layer) (at : At) → AlikeAt (said_layer (map bare_item items) (bare_parts (plain y)) nowhere) (said_layer items (plain y) at)
  layer_bare stmt.Empty at a = alike_skip
  layer_bare (stmt.Block ss) at a = block_bare ss a
  layer_bare (stmt.Declare ls) at a = alike_turn bare_local (declared_local (map bare_item items) a) (declared_local items a) (local_bare items a) ls
  layer_bare (stmt.DeclareThread ws) at a = alike_turn bare_word (declared_thread a) (declared_thread a) (declared_thread_bare a) ws
  layer_bare (stmt.Assign l v) at a = assign_bare items a l v
  layer_bare (stmt.Update l op c) at a = update_bare l c
  layer_bare (stmt.Do v) at a = noted_value_bare items a None v
  layer_bare (stmt.If c d None) at a = choice_bare a c (new d.0) (said d.0) None None d.1 none
  layer_bare (stmt.If c d (Some o)) at a = choice_bare a c (new d.0) (said d.0) (Some (new o.0)) (Some (said o.0)) d.1 (one_part o)
  layer_bare (stmt.While c d) at a = while_bare a c (new d.0) (said d.0) d.1
  layer_bare (stmt.DoWhile d c) at a = do_bare a c (new d.0) (said d.0) d.1
  layer_bare (stmt.For None c None d) at a = for_bare a None None c None None (new d.0) (said d.0) none none d.1
  layer_bare (stmt.For None c (Some j) d) at a = for_bare a None None c (Some (new j.0)) (Some (said j.0)) (new d.0) (said d.0) none (one_part j) d.1
  layer_bare (stmt.For (Some i) c None d) at a = for_bare a (Some (new i.0)) (Some (said i.0)) c None None (new d.0) (said d.0) (one_part i) none d.1
  layer_bare (stmt.For (Some i) c (Some j) d) at a = for_bare a (Some (new i.0)) (Some (said i.0)) c (Some (new j.0)) (Some (said j.0)) (new d.0) (said d.0) (one_part i) (one_part j) d.1
  layer_bare stmt.Break at a = λ names. ap noting (unless_bare a.looped at)
  layer_bare stmt.Continue at a = λ names. ap noting (unless_bare a.looped at)
  layer_bare (stmt.Return None) at a = alike_skip
  layer_bare (stmt.Return (Some v)) at a = returned_bare items a v
  layer_bare (stmt.Assert c text) at a = asserted_bare a.side at c text
  layer_bare (stmt.Assume c) at a = noted_expr_bare c
  layer_bare stmt.Fence at a = alike_skip
  layer_bare (stmt.Lock x) at a = noted_mutex_bare x
  layer_bare (stmt.Unlock x) at a = noted_mutex_bare x
  layer_bare (stmt.Start x f) at a = started_bare items a at x f
  layer_bare (stmt.Join x) at a = noted_thread_bare a None at x
  layer_bare (stmt.Goto x) at a = goto_bare a labels at x
  layer_bare (stmt.Label x d) at a = d.1 a
  layer_bare stmt.AtomBegin at a = λ names. ap noting (output_bare a.side at)
  layer_bare stmt.AtomEnd at a = λ names. ap noting (output_bare a.side at)

  pub stmt_bare : (s : Stmt) → Q s
  stmt_bare = ind-Stmt P Q
      (λ x y is. subst (λ z. P (roll-StmtNode z)) is (λ at. by_node (plain y) at (layer_bare y at)))
      (λ x y is. subst (λ z. Q (roll-Stmt z)) is (by_stmt (map-Stmt _ _ StmtNode Stmt (λ d. d.0) (λ e. e.0) y) (y.node.1 y.at)))

  pub stmts_bare : (ss : List Stmt) → AlikeAt (λ a. all_at a (map (said_stmt (map bare_item items) labels) (map bare_stmt ss))) (λ a. all_at a (map (said_stmt items labels) ss))
  unfolding all_at in_turn
  stmts_bare [] a = alike_skip
  stmts_bare (s ∷ ss) a = alike_then (new s a) (said s a) (all_at a _) (all_at a _) (stmt_bare s a) (stmts_bare ss a)
