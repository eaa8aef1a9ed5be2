-- A statement that does not stand in the outermost block of main starts no thread and waits for none.
use Rattle.std.proofs.Common.{◌≡◌, Bool, true, false, if◌then◌else◌, List, [], ◌∷◌, ◌++◌, map, slice_get, refl, sym, subst, Option, Some, None}
use Rattle.mm_goto.specs.declared.ident.At.{At}
use Rattle.mm_goto.specs.declared.ident.Ident.{Ident}
use Rattle.mm_tree.specs.declared.expr.Expr.{Expr}
use Rattle.mm_tree.specs.declared.expr.Word.{Word}
use Rattle.mm_tree.specs.declared.item.Item.{Item}
use Rattle.mm_tree.specs.declared.side.Side.{Side}
use Rattle.mm_tree.specs.declared.side.Side.TheVariants.{Source, Output}
use Rattle.mm_tree.specs.declared.stmt.Left.{Left}
use Rattle.mm_tree.specs.declared.stmt.Local.{Local}
use Rattle.mm_tree.specs.declared.stmt.Value.{Value}
use Rattle.mm_tree.specs.declared.stmt.Stmt.{Stmt, roll-Stmt}
use Rattle.mm_tree.specs.declared.stmt.StmtNode.{StmtNode, roll-StmtNode}
use Rattle.mm_tree.specs.declared.stmt.StmtNode.TheOpen as stmt
use Rattle.mm_tree.specs.declared.stmt.StmtNode.TheOpen.{StmtNode-F, Stmt-F}
use Rattle.mm_tree.specs.declared.stmt.StmtNode.TheFolds.{ind-Stmt, fold-roll-StmtNode, fold-roll-Stmt, map-StmtNode, map-Stmt}
use Rattle.mm_scope.specs.declared.around.Around.{Around}
use Rattle.mm_scope.specs.declared.operand.Kind.TheVariants as kind
use Rattle.mm_scope.specs.declared.table.Meaning.{Meaning}
use Rattle.mm_scope.specs.declared.table.Meaning.TheVariants as meaning
use Rattle.mm_scope.specs.declared.fault.Rule.TheVariants.{ReservedName}
use Rattle.mm_scope.specs.Declarations.{initialiser, declared_name, declared_local, declared_thread, meaning_of_local}
use Rattle.mm_scope.specs.Expressions.{judged_expr}
use Rattle.mm_scope.specs.Notes.{refusal}
use Rattle.mm_scope.specs.Operands.{fit}
use Rattle.mm_scope.specs.Parts.{inner, guarded, in_loop, noted_expr, noted_value, noted_assign, noted_update, returned, asserted, text_fits, refusal_unless, output_only, is_nothing}
use Rattle.mm_scope.specs.Scopes.{Names, Table, meaning_of}
use Rattle.mm_scope.specs.Statements.{Placed, known_label, noted_goto, all_at, if_some, block, choice, while_loop, do_loop, for_loop, said_node_step, said_stmt_step, said_node, said_stmt}
use Rattle.mm_scope.specs.Steps.{Step, skip, behind, and_then, in_turn, if_there, closed, is_reserved_on, reserved, adding, declaring_where, declaring}
use Rattle.mm_scope.specs.Threads.{as_mutex, noted_mutex, as_thread, outside_main, noted_thread, as_function, gives_thread, as_body, noted_body, started}
use Rattle.mm_scope.specs.Values.{judged_value, judged_left, kind_if_pointer}
use Rattle.mm_sourcelike.proofs.Using.{Idle, idle_both, expr_idle, value_idle, left_idle, fit_place_idle, fit_return_idle, fit_int_idle}

-- ---- parts

unless_idle : (b : Bool) (at : At) → Idle (refusal_unless b at)
unless_idle true at = refl
unless_idle false at = refl

output_idle : (side : Side) (at : At) → Idle (output_only side at)
output_idle Source at = refl
output_idle Output at = refl

label_idle : (at : At) (b : Bool) → Idle (known_label at b)
label_idle at true = refl
label_idle at false = refl

reserved_if : (b : Bool) (at : At) → Idle (if b then refusal ReservedName at ∷ [] else [])
reserved_if true at = refl
reserved_if false at = refl

pub reserved_idle : (side : Side) (at : At) (x : Ident) → Idle (reserved side at x)
unfolding reserved
reserved_idle side at x = reserved_if (is_reserved_on side x) at

declaring_idle : (b : Bool) (at : At) (x : Ident) (m : Meaning) (names : Names) → Idle (declaring_where b at x m names).notes
unfolding declaring_where
declaring_idle true at x m names = refl
declaring_idle false at x m names = refl

pub name_idle : (a : Around) (at : At) (x : Ident) (m : Meaning) (names : Names) → Idle (declared_name a at x m names).notes
unfolding and_then declaring
name_idle a at x m names = idle_both (reserved a.side at x) _ (reserved_idle a.side at x) (declaring_idle _ at x m _)

mutex_idle : (at : At) (o : Option Meaning) → Idle (as_mutex at o)
mutex_idle at None = refl
mutex_idle at (Some meaning.Unready) = refl
mutex_idle at (Some meaning.Mutex) = refl
mutex_idle at (Some meaning.Shared) = refl
mutex_idle at (Some meaning.Int) = refl
mutex_idle at (Some meaning.Pointer) = refl
mutex_idle at (Some (meaning.Array n)) = refl
mutex_idle at (Some meaning.SharedThread) = refl
mutex_idle at (Some meaning.Thread) = refl
mutex_idle at (Some (meaning.Function k)) = refl
mutex_idle at (Some (meaning.Ahead k)) = refl
mutex_idle at (Some meaning.Input) = refl
mutex_idle at (Some meaning.Handed) = refl
mutex_idle at (Some meaning.Label) = refl

thread_idle : (f : Option Ident) (at : At) (w : Word) (o : Option Meaning) → Idle (as_thread false f at w o)
thread_idle f at w None = refl
thread_idle f at w (Some meaning.Unready) = refl
thread_idle f at w (Some meaning.Mutex) = refl
thread_idle f at w (Some meaning.Shared) = refl
thread_idle f at w (Some meaning.Int) = refl
thread_idle f at w (Some meaning.Pointer) = refl
thread_idle f at w (Some (meaning.Array n)) = refl
thread_idle f at w (Some meaning.SharedThread) = refl
thread_idle f at w (Some meaning.Thread) = refl
thread_idle f at w (Some (meaning.Function k)) = refl
thread_idle f at w (Some (meaning.Ahead k)) = refl
thread_idle f at w (Some meaning.Input) = refl
thread_idle f at w (Some meaning.Handed) = refl
thread_idle f at w (Some meaning.Label) = refl

function_idle : (at : At) (b : Bool) → Idle (as_function at b)
function_idle at true = refl
function_idle at false = refl

pub body_idle : (items : List Item) (at there : At) (o : Option Meaning) → Idle (as_body items at there o)
body_idle items at there None = refl
body_idle items at there (Some meaning.Unready) = refl
body_idle items at there (Some (meaning.Function k)) = function_idle at (gives_thread (slice_get items k))
body_idle items at there (Some (meaning.Ahead k)) = function_idle at (gives_thread (slice_get items k))
body_idle items at there (Some meaning.Input) = refl
body_idle items at there (Some meaning.Mutex) = refl
body_idle items at there (Some meaning.Shared) = refl
body_idle items at there (Some meaning.Int) = refl
body_idle items at there (Some meaning.Pointer) = refl
body_idle items at there (Some (meaning.Array n)) = refl
body_idle items at there (Some meaning.SharedThread) = refl
body_idle items at there (Some meaning.Thread) = refl
body_idle items at there (Some meaning.Handed) = refl
body_idle items at there (Some meaning.Label) = refl

noted_idle : (f : Option Ident) (at : At) (w : Word) (a : Around) (names : Names) → a.outermost ≡ false → Idle (noted_thread a f at w names).notes
unfolding noted_thread
noted_idle f at w a names e = subst (λ b. Idle (outside_main b at ++ as_thread b f at w (meaning_of names w.name))) (sym e) (thread_idle f at w (meaning_of names w.name))

-- ---- statements

-- a part at any place beside the outermost block of main
abbrev pub Idles : Placed → Type 0
Idles s = (a : Around) (names : Names) → a.outermost ≡ false → Idle (s a names).notes

pub both_idle : (f g : Step) (names : Names) → Idle (f names).notes → Idle (g (behind f names)).notes → Idle (and_then f g names).notes
unfolding and_then
both_idle f g names h i = idle_both (f names).notes (g (behind f names)).notes h i

turn_idle : {X : Type 0} (f : X → Step) → ((x : X) (names : Names) → Idle (f x names).notes) → (xs : List X) (names : Names) → Idle (in_turn f xs names).notes
unfolding in_turn skip
turn_idle f h [] names = refl
turn_idle f h (x ∷ xs) names = both_idle (f x) (in_turn f xs) names (h x names) (turn_idle f h xs (behind (f x) names))

initial_idle : (items : List Item) (a : Around) (l : Local) (o : Option Value) (names : Names) → Idle (initialiser items a l o names).notes
unfolding closed and_then adding noted_value skip
initial_idle items a l None names = refl
initial_idle items a l (Some v) names = idle_both (judged_value items a.caller _ v).notes _ (value_idle items a.caller _ v) (fit_place_idle (Some (kind_if_pointer l.pointer)) _)

local_idle : (items : List Item) (a : Around) (l : Local) (names : Names) → Idle (declared_local items a l names).notes
unfolding declared_local
local_idle items a l names = both_idle (initialiser items a l l.value) (declared_name a l.at l.name (meaning_of_local l.pointer)) names (initial_idle items a l l.value names) (name_idle a l.at l.name (meaning_of_local l.pointer) _)

word_idle : (a : Around) (w : Word) (names : Names) → Idle (declared_thread a w names).notes
unfolding declared_thread
word_idle a w names = name_idle a w.at w.name meaning.Thread names

condition_idle : (c : Option Expr) (names : Names) → Idle (if_there noted_expr c names).notes
unfolding skip
condition_idle None names = refl
condition_idle (Some c) names = expr_idle names c

some_idle : (a : Around) (s : Option Placed) (names : Names) → ((t : Placed) → s ≡ Some t → Idles t) → a.outermost ≡ false → Idle (if_some a s names).notes
unfolding skip
some_idle a None names h e = refl
some_idle a (Some s) names h e = h s refl a names e

assign_idle : (items : List Item) (a : Around) (l : Left) (v : Value) (names : Names) → Idle (noted_assign items a l v names).notes
unfolding noted_assign
assign_idle items a l v names = idle_both (judged_left names l).notes _ (left_idle names l) (idle_both (judged_value items a.caller names v).notes _ (value_idle items a.caller names v) (fit_place_idle _ _))

update_idle : (l : Left) (e : Expr) (names : Names) → Idle (noted_update l e names).notes
unfolding noted_update
update_idle l e names =
    idle_both ((judged_left names l).notes ++ (fit kind.Int (judged_left names l).operand).notes) _ (idle_both (judged_left names l).notes _ (left_idle names l) (fit_int_idle _))
    (idle_both (judged_expr names e).notes (fit kind.Int (judged_expr names e).operand).notes (expr_idle names e) (fit_int_idle _))

do_idle : (items : List Item) (a : Around) (v : Value) (names : Names) → Idle (noted_value items a None v names).notes
unfolding noted_value
do_idle items a v names = idle_both (judged_value items a.caller names v).notes _ (value_idle items a.caller names v) (fit_place_idle None _)

return_idle : (items : List Item) (a : Around) (v : Option Value) (names : Names) → Idle (if_there (returned items a) v names).notes
unfolding returned skip
return_idle items a None names = refl
return_idle items a (Some v) names = idle_both (judged_value items a.caller names v).notes _ (value_idle items a.caller names v) (fit_return_idle a.gives (is_nothing v) _)

assert_idle : (side : Side) (at : At) (e : Expr) (text : Option Ident) (names : Names) → Idle (asserted side at e text names).notes
unfolding asserted
assert_idle side at e text names =
    idle_both ((judged_expr names e).notes ++ refusal_unless (text_fits side text) at) _ (idle_both (judged_expr names e).notes (refusal_unless (text_fits side text) at) (expr_idle names e) (unless_idle (text_fits side text) at)) refl

lock_idle : (x : Word) (names : Names) → Idle (noted_mutex x names).notes
unfolding noted_mutex
lock_idle x names = mutex_idle x.at (meaning_of names x.name)

start_idle : (items : List Item) (a : Around) (at : At) (x f : Word) (names : Names) → a.outermost ≡ false → Idle (started items a at x f names).notes
unfolding started and_then noted_body
start_idle items a at x f names e = idle_both (noted_thread a (Some f.name) at x names).notes _ (noted_idle (Some f.name) at x a names e) (body_idle items at f.at _)

goto_idle : (a : Around) (labels : Table) (at : At) (x : Word) (names : Names) → Idle (noted_goto a labels at x names).notes
unfolding noted_goto
goto_idle a labels at x names = idle_both (output_only a.side at) _ (output_idle a.side at) (label_idle x.at _)

module _ (items : List Item) (labels : Table) where
  abbrev SaidBy : Type 0
  SaidBy = At → Placed

  abbrev P : StmtNode → Type 0
  P d = (at : At) → Idles (said_node items labels d at)

  abbrev Q : Stmt → Type 0
  Q s = Idles (said_stmt items labels s)

  abbrev said_layer : StmtNode-F StmtNode Stmt → At → Placed
  said_layer z at = said_node_step items labels (map-StmtNode StmtNode Stmt SaidBy Placed (said_node items labels) (said_stmt items labels) z) at

  by_node : (z : StmtNode-F StmtNode Stmt) (at : At) → Idles (said_layer z at) → Idles (said_node items labels (roll-StmtNode z) at)
  by_node z at g = subst (λ (f : SaidBy). Idles (f at)) (sym (fold-roll-StmtNode SaidBy Placed (said_node_step items labels) (said_stmt_step items labels) z)) g

  by_stmt : (z : Stmt-F StmtNode Stmt) → Idles (said_node items labels z.node z.at) → Q (roll-Stmt z)
  by_stmt z g = subst Idles (sym (fold-roll-Stmt SaidBy Placed (said_node_step items labels) (said_stmt_step items labels) z)) g

  abbrev Proved : Type 0
  Proved = (s : Stmt) × Q s

  abbrev stmts_in : List Proved → List Stmt
  stmts_in ss = map (λ (s : Proved). s.0) ss

  parts_idle : (ss : List Proved) → Idles (λ a. all_at a (map (said_stmt items labels) (stmts_in ss)))
  unfolding all_at in_turn skip
  parts_idle [] a names e = refl
  parts_idle (s ∷ ss) a names e = both_idle (said_stmt items labels s.0 a) (all_at a (map (said_stmt items labels) (stmts_in ss))) names (s.1 a names e) (parts_idle ss a _ e)

  abbrev Layer : Type 0
  Layer = StmtNode-F ((d : StmtNode) × P d) Proved

  abbrev bare : Layer → StmtNode-F StmtNode Stmt
  bare y = map-StmtNode ((d : StmtNode) × P d) Proved StmtNode Stmt (λ d. d.0) (λ e. e.0) y

  abbrev said : Proved → Placed
  said s = said_stmt items labels s.0

  block_idle : (ss : List Proved) → Idles (λ a. block a (map (said_stmt items labels) (stmts_in ss)))
  unfolding block closed
  block_idle ss a names e = parts_idle ss (inner a names) names refl

  choice_idle : (c : Expr) (s : Placed) (o : Option Placed) → Idles s → ((t : Placed) → o ≡ Some t → Idles t) → Idles (λ a. choice a c s o)
  unfolding choice
  choice_idle c s o h g a names e = both_idle (noted_expr c) (and_then (s (guarded a)) (if_some (guarded a) o)) names (expr_idle names c) (both_idle (s (guarded a)) (if_some (guarded a) o) _ (h (guarded a) _ refl) (some_idle (guarded a) o _ g refl))

  while_idle : (c : Expr) (s : Placed) → Idles s → Idles (λ a. while_loop a c s)
  unfolding while_loop
  while_idle c s h a names e = both_idle (noted_expr c) (s (in_loop a)) names (expr_idle names c) (h (in_loop a) _ refl)

  loop_idle : (c : Expr) (s : Placed) → Idles s → Idles (λ a. do_loop a s c)
  unfolding do_loop
  loop_idle c s h a names e = both_idle (s (in_loop a)) (noted_expr c) names (h (in_loop a) names refl) (expr_idle _ c)

  for_idle : (i : Option Placed) (c : Option Expr) (j : Option Placed) (s : Placed) → ((t : Placed) → i ≡ Some t → Idles t) → ((t : Placed) → j ≡ Some t → Idles t) → Idles s → Idles (λ a. for_loop a i c j s)
  unfolding for_loop closed
  for_idle i c j s hi hj h a names e =
      let b : Around = inner a names in
      both_idle (if_some b i) (and_then (if_there noted_expr c) (and_then (if_some b j) (s (in_loop b)))) names (some_idle b i names hi refl)
      (both_idle (if_there noted_expr c) (and_then (if_some b j) (s (in_loop b))) _ (condition_idle c _)
      (both_idle (if_some b j) (s (in_loop b)) _ (some_idle b j _ hj refl) (h (in_loop b) _ refl)))

  no_part : (t : Placed) → None ≡ Some t → Idles t
  no_part t e = absurd (impossible e)
    where
      impossible : None ≡ Some t → ⊥
      impossible q = cc

  one_part : (s : Proved) (t : Placed) → Some (said s) ≡ Some t → Idles t
  one_part s t e = subst Idles (same e) s.1
    where
      same : Some (said s) ≡ Some t → said s ≡ t
      same q = cc

  layer_idle : (y : Layer) (at : At) → Idles (said_layer (bare y) at)
  unfolding skip
  layer_idle stmt.Empty at a names e = refl
  layer_idle (stmt.Block ss) at a names e = block_idle ss a names e
  layer_idle (stmt.Declare ls) at a names e = turn_idle (declared_local items a) (local_idle items a) ls names
  layer_idle (stmt.DeclareThread xs) at a names e = turn_idle (declared_thread a) (word_idle a) xs names
  layer_idle (stmt.Assign l v) at a names e = assign_idle items a l v names
  layer_idle (stmt.Update l op c) at a names e = update_idle l c names
  layer_idle (stmt.Do v) at a names e = do_idle items a v names
  layer_idle (stmt.If c d None) at a names e = choice_idle c (said d) None d.1 no_part a names e
  layer_idle (stmt.If c d (Some o)) at a names e = choice_idle c (said d) (Some (said o)) d.1 (one_part o) a names e
  layer_idle (stmt.While c d) at a names e = while_idle c (said d) d.1 a names e
  layer_idle (stmt.DoWhile d c) at a names e = loop_idle c (said d) d.1 a names e
  layer_idle (stmt.For None c None d) at a names e = for_idle None c None (said d) no_part no_part d.1 a names e
  layer_idle (stmt.For None c (Some j) d) at a names e = for_idle None c (Some (said j)) (said d) no_part (one_part j) d.1 a names e
  layer_idle (stmt.For (Some i) c None d) at a names e = for_idle (Some (said i)) c None (said d) (one_part i) no_part d.1 a names e
  layer_idle (stmt.For (Some i) c (Some j) d) at a names e = for_idle (Some (said i)) c (Some (said j)) (said d) (one_part i) (one_part j) d.1 a names e
  layer_idle stmt.Break at a names e = unless_idle a.looped at
  layer_idle stmt.Continue at a names e = unless_idle a.looped at
  layer_idle (stmt.Return v) at a names e = return_idle items a v names
  layer_idle (stmt.Assert c text) at a names e = assert_idle a.side at c text names
  layer_idle (stmt.Assume c) at a names e = expr_idle names c
  layer_idle stmt.Fence at a names e = refl
  layer_idle (stmt.Lock x) at a names e = lock_idle x names
  layer_idle (stmt.Unlock x) at a names e = lock_idle x names
  layer_idle (stmt.Start x f) at a names e = start_idle items a at x f names e
  layer_idle (stmt.Join x) at a names e = noted_idle None at x a names e
  layer_idle (stmt.Goto x) at a names e = goto_idle a labels at x names
  layer_idle (stmt.Label x d) at a names e = d.1 a names e
  layer_idle stmt.AtomBegin at a names e = output_idle a.side at
  layer_idle stmt.AtomEnd at a names e = output_idle a.side at

  pub stmt_idle : (s : Stmt) → Q s
  stmt_idle = ind-Stmt P Q
      (λ x y is. subst (λ z. P (roll-StmtNode z)) is (λ at. by_node (bare y) at (layer_idle y at)))
      (λ x y is. subst (λ z. Q (roll-Stmt z)) is (by_stmt (map-Stmt _ _ StmtNode Stmt (λ d. d.0) (λ e. e.0) y) (y.node.1 y.at)))

  pub stmts_idle : (ss : List Stmt) → Idles (λ a. all_at a (map (said_stmt items labels) ss))
  unfolding all_at in_turn skip
  stmts_idle [] a names e = refl
  stmts_idle (s ∷ ss) a names e = both_idle (said_stmt items labels s a) (all_at a (map (said_stmt items labels) ss)) names (stmt_idle s a names e) (stmts_idle ss a _ e)
