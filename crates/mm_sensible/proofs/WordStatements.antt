-- Each word of woven programs that is a statement: it declares nothing, and what is noted in it is fine.
use Rattle.std.proofs.Common.{rules, ◌≡◌, ℕ, nat_eq, Bool, true, false, List, [], ◌∷◌, ◌++◌, map, length, codes, is_some, refl, ◌∙◌, sym, ap, subst, Option, Some, None}
use Rattle.std.specs.List.{starts_with}
use Rattle.mm_goto.specs.declared.ident.At.{At}
use Rattle.mm_goto.specs.declared.ident.Ident.{Ident}
use Rattle.mm_tree.specs.Places.{nowhere}
use Rattle.mm_tree.specs.Trees.{left_at}
use Rattle.mm_tree.specs.declared.expr.Expr.{Expr}
use Rattle.mm_tree.specs.declared.expr.Node.{the_lemmas as expr_lemmas}
use Rattle.mm_tree.specs.declared.item.Gives.{Gives}
use Rattle.mm_tree.specs.declared.item.Gives.TheVariants as gives
use Rattle.mm_tree.specs.declared.item.Item.{Item}
use Rattle.mm_tree.specs.declared.stmt.LeftNode.{LeftNode}
use Rattle.mm_tree.specs.declared.stmt.LeftNode.TheVariants as left
use Rattle.mm_tree.specs.declared.stmt.Value.{Value}
use Rattle.mm_tree.specs.declared.stmt.Value.TheVariants as value
use Rattle.mm_tree.specs.declared.stmt.Stmt.{Stmt}
use Rattle.mm_tree.specs.declared.stmt.StmtNode.{StmtNode, roll-StmtNode}
use Rattle.mm_tree.specs.declared.stmt.StmtNode.TheOpen as stmt
use Rattle.mm_tree.specs.declared.stmt.StmtNode.TheOpen.{StmtNode-F}
use Rattle.mm_tree.specs.declared.stmt.StmtNode.TheFolds.{fold-roll-StmtNode, fold-roll-Stmt, map-StmtNode}
use Rattle.mm_scope.specs.declared.around.Around.{Around}
use Rattle.mm_scope.specs.declared.operand.Kind.{Kind}
use Rattle.mm_scope.specs.declared.operand.Kind.TheVariants as kind
use Rattle.mm_scope.specs.declared.table.Meaning.TheVariants as meaning
use Rattle.mm_scope.specs.Expressions.{judged_expr}
use Rattle.mm_scope.specs.Notes.{Note, Use, an_assertion}
use Rattle.mm_scope.specs.Operands.{Judged, fit, of_one}
use Rattle.mm_scope.specs.Parts.{noted_expr, noted_value, noted_assign, returned, asserted, refusal_unless, is_assertion_text, is_nothing, fit_return}
use Rattle.mm_scope.specs.Scopes.{Names, Table, meaning_of, meaning_in}
use Rattle.mm_scope.specs.Statements.{Placed, known_label, noted_goto, all_at, block, choice, while_loop, said_node_step, said_stmt_step, said_node, said_stmt}
use Rattle.mm_scope.specs.Steps.{skip, and_then, in_turn}
use Rattle.mm_scope.specs.Threads.{as_mutex, noted_mutex}
use Rattle.mm_scope.specs.Values.{call, judged_value, judged_left, fit_place}
use Rattle.mm_words.specs.Words as words
use Rattle.mm_sensible.proofs.IntExpressions.{IsIntJudged, IsInt, IsIntName, IsArrayName, fitted_int, name_int, indexed_int, num_int}
use Rattle.mm_sensible.proofs.QuietStatements.{AreFine, fine_none, fine_both, fine_nothing, Tells, tells_noting, tells_skip, tells_then, tells_closed, IsQuietJudged, quiet_int, AreInts, stand, IsCallable, call_quiet, input_quiet}

-- a value at a place that wants an int
placed_int : (j : Judged) → IsQuietJudged (Some kind.Int) j → AreFine [] (of_one (fit_place (Some kind.Int)) j).notes
unfolding fit_place
placed_int j q = fine_both j.notes (fit kind.Int j.operand).notes q.notes (fine_nothing (fitted_int j.operand q.kind).notes)

-- the place of an assignment, an int, and what is noted in it
abbrev IsIntLeft : Names → LeftNode → Type 0
IsIntLeft names l = IsIntJudged (judged_left names (left_at nowhere l))

-- statements of function k, which gives g
module _ (items : List Item) (labels : Table) (k : ℕ) (g : Gives) (names : Names) where
  abbrev said : Stmt → Placed
  said s = said_stmt items labels s

  -- the statement tells of these starts and joins where it stands in a loop or not, and in the outermost block of main or not
  abbrev TellsAt : List Use → Bool → Bool → Stmt → Type 0
  TellsAt us looped outermost s = (from : ℕ) → Tells us (said s (stand k g from looped outermost) names)

  -- it tells of none, wherever it stands
  unfoldable pub Quiet : Stmt → Type 0
  Quiet s = (from : ℕ) (looped outermost : Bool) → Tells [] (said s (stand k g from looped outermost) names)

  -- so do the statements
  unfoldable pub AllQuiet : List Stmt → Type 0
  AllQuiet [] = Unit {0}
  AllQuiet (s ∷ ss) = Quiet s × AllQuiet ss

  pub quiet_append : (ss ts : List Stmt) → AllQuiet ss → AllQuiet ts → AllQuiet (ss ++ ts)
  unfolding AllQuiet
  quiet_append [] ts h r = r
  quiet_append (s ∷ ss) ts h r = (h.0, quiet_append ss ts h.1 r)

  -- one behind another they tell of none
  pub all_quiet : (ss : List Stmt) → AllQuiet ss → (from : ℕ) (looped outermost : Bool) → Tells [] (all_at (stand k g from looped outermost) (map (said_stmt items labels) ss) names)
  unfolding AllQuiet Quiet all_at in_turn
  all_quiet [] h from looped outermost = tells_skip names
  all_quiet (s ∷ ss) h from looped outermost =
      tells_then (said s (stand k g from looped outermost)) (all_at (stand k g from looped outermost) (map (said_stmt items labels) ss)) names (h.0 from looped outermost) (all_quiet ss h.1 from looped outermost)

  -- ---- by the outermost layer

  abbrev SaidBy : Type 0
  SaidBy = At → Placed

  abbrev said_layer : StmtNode-F StmtNode Stmt → Placed
  said_layer z = said_node_step items labels (map-StmtNode StmtNode Stmt SaidBy Placed (said_node items labels) (said_stmt items labels) z) nowhere

  pub said_is : (z : StmtNode-F StmtNode Stmt) → said (words.stmt_of z) ≡ said_layer z
  unfolding words.stmt_of
  said_is z =
      fold-roll-Stmt SaidBy Placed (said_node_step items labels) (said_stmt_step items labels) (record { at = nowhere; node = roll-StmtNode z })
      ∙ ap (λ (f : SaidBy). f nowhere) (fold-roll-StmtNode SaidBy Placed (said_node_step items labels) (said_stmt_step items labels) z)

  by_layer : (z : StmtNode-F StmtNode Stmt) → ((from : ℕ) (looped outermost : Bool) → Tells [] (said_layer z (stand k g from looped outermost) names)) → Quiet (words.stmt_of z)
  unfolding Quiet
  by_layer z h from looped outermost = subst (λ (f : Placed). Tells [] (f (stand k g from looped outermost) names)) (sym (said_is z)) (h from looped outermost)

  -- ---- assignments and calls

  int_left : (x : Ident) → IsIntName names x → IsIntLeft names (left.Name x)
  unfolding judged_left
  int_left x h = name_int names nowhere x h

  element_left : (x : Ident) (i : Expr) → IsArrayName names x → IsInt names i → IsIntLeft names (left.Index x i)
  unfolding judged_left
  element_left x i h j = indexed_int names nowhere x i h j

  assignment_told : (l : LeftNode) (v : Value) → IsIntLeft names l → IsQuietJudged (Some kind.Int) (judged_value items k names v) → (from : ℕ) (looped outermost : Bool) → Tells [] (noted_assign items (stand k g from looped outermost) (left_at nowhere l) v names)
  unfolding noted_assign
  assignment_told l v h q from looped outermost =
      let place : Judged = judged_left names (left_at nowhere l) in
      let j : Judged = judged_value items k names v in
      tells_noting [] (place.notes ++ (of_one (fit_place place.operand.kind) j).notes)
      (fine_both place.notes (of_one (fit_place place.operand.kind) j).notes (fine_nothing h.notes) (subst (λ o. AreFine [] (of_one (fit_place o) j).notes) (sym h.kind) (placed_int j q)))

  assignment_quiet : (l : LeftNode) (v : Value) → IsIntLeft names l → IsQuietJudged (Some kind.Int) (judged_value items k names v) → Quiet (words.assignment l v)
  assignment_quiet l v h q = by_layer (stmt.Assign (left_at nowhere l) v) (assignment_told l v h q)

  plain_quiet : (e : Expr) → IsInt names e → IsQuietJudged (Some kind.Int) (judged_value items k names (value.Plain e))
  unfolding judged_value
  plain_quiet e i = quiet_int (judged_expr names e) i

  pub assign_quiet : (x : Ident) (e : Expr) → IsIntName names x → IsInt names e → Quiet (words.assign x e)
  assign_quiet x e h i = assignment_quiet (left.Name x) (value.Plain e) (int_left x h) (plain_quiet e i)

  pub assign_elem_quiet : (x : Ident) (i e : Expr) → IsArrayName names x → IsInt names i → IsInt names e → Quiet (words.assign_elem x i e)
  assign_elem_quiet x i e h j q = assignment_quiet (left.Index x i) (value.Plain e) (element_left x i h j) (plain_quiet e q)

  called_quiet : {t : Option Kind} (f : Ident) (es : List Expr) → IsQuietJudged t (call items names k nowhere f es) → IsQuietJudged t (judged_value items k names (words.called f es))
  unfolding judged_value
  called_quiet f es q = q

  pub assign_call_quiet : (x f : Ident) (xs : List Ident) (es : List Expr) → IsIntName names x → IsCallable items k names f gives.Int xs → AreInts names es → length es ≡ length xs → Quiet (words.assign_call x f es)
  assign_call_quiet x f xs es h c i n = assignment_quiet (left.Name x) (words.called f es) (int_left x h) (called_quiet f es (call_quiet items k names f gives.Int xs es c i n))

  pub assign_input_quiet : (x f : Ident) → IsIntName names x → starts_with nat_eq f (codes "nondet_") ≡ true → Quiet (words.assign_call x f [])
  assign_input_quiet x f h e = assignment_quiet (left.Name x) (words.called f []) (int_left x h) (called_quiet f [] (input_quiet items k names f e))

  call_told : {t : Option Kind} (v : Value) → IsQuietJudged t (judged_value items k names v) → (from : ℕ) (looped outermost : Bool) → Tells [] (noted_value items (stand k g from looped outermost) None v names)
  unfolding noted_value fit_place
  call_told v q from looped outermost =
      let j : Judged = judged_value items k names v in
      tells_noting [] (j.notes ++ []) (fine_both j.notes [] q.notes fine_none)

  pub call_stmt_quiet : (f : Ident) (h : Gives) (xs : List Ident) (es : List Expr) → IsCallable items k names f h xs → AreInts names es → length es ≡ length xs → Quiet (words.call f es)
  call_stmt_quiet f h xs es c i n = by_layer (stmt.Do (words.called f es)) (call_told (words.called f es) (called_quiet f es (call_quiet items k names f h xs es c i n)))

  -- ---- other simple statements

  pub skip_quiet : Quiet words.skip
  skip_quiet = by_layer stmt.Empty (λ from looped outermost. tells_skip names)

  pub fence_quiet : Quiet words.fence
  fence_quiet = by_layer stmt.Fence (λ from looped outermost. tells_skip names)

  pub begin_quiet : Quiet words.atomic_begin
  begin_quiet = by_layer stmt.AtomBegin (λ from looped outermost. tells_noting [] [] fine_none)

  pub end_quiet : Quiet words.atomic_end
  end_quiet = by_layer stmt.AtomEnd (λ from looped outermost. tells_noting [] [] fine_none)

  pub assume_quiet : (e : Expr) → IsInt names e → Quiet (words.assume e)
  assume_quiet e i = by_layer (stmt.Assume e) (λ from looped outermost. tells_noting [] (judged_expr names e).notes (fine_nothing i.notes))

  assert_told : (e : Expr) (x : Ident) → IsInt names e → is_assertion_text x ≡ true → (from : ℕ) (looped outermost : Bool) → Tells [] (asserted (stand k g from looped outermost).side nowhere e (Some x) names)
  unfolding asserted
  assert_told e x i h from looped outermost =
      let ns : List Note = (judged_expr names e).notes in
      tells_noting [] ((ns ++ refusal_unless (is_assertion_text x) nowhere) ++ an_assertion ∷ [])
      (fine_both (ns ++ refusal_unless (is_assertion_text x) nowhere) (an_assertion ∷ [])
      (fine_both ns (refusal_unless (is_assertion_text x) nowhere) (fine_nothing i.notes) (fine_nothing (ap (λ b. refusal_unless b nowhere) h)))
      (record { fine = refl; uses = refl }))

  pub assert_quiet : (e : Expr) (n : ℕ) → IsInt names e → is_assertion_text (words.numbered (codes "assertion ") n) ≡ true → Quiet (words.assert e n)
  assert_quiet e n i h = by_layer (stmt.Assert e (Some (words.numbered (codes "assertion ") n))) (assert_told e (words.numbered (codes "assertion ") n) i h)

  mutex_told : (x : Ident) → meaning_of names x ≡ Some meaning.Mutex → Tells [] (noted_mutex (words.word x) names)
  unfolding noted_mutex
  mutex_told x e = tells_noting [] (as_mutex nowhere (meaning_of names x)) (fine_nothing (ap (as_mutex nowhere) e))

  pub lock_quiet : (x : Ident) → meaning_of names x ≡ Some meaning.Mutex → Quiet (words.lock x)
  lock_quiet x e = by_layer (stmt.Lock (words.word x)) (λ from looped outermost. mutex_told x e)

  pub unlock_quiet : (x : Ident) → meaning_of names x ≡ Some meaning.Mutex → Quiet (words.unlock x)
  unlock_quiet x e = by_layer (stmt.Unlock (words.word x)) (λ from looped outermost. mutex_told x e)

  goto_told : (x : Ident) → is_some (meaning_in labels x) ≡ true → (from : ℕ) (looped outermost : Bool) → Tells [] (noted_goto (stand k g from looped outermost) labels nowhere (words.word x) names)
  unfolding noted_goto
  goto_told x h from looped outermost = tells_noting [] (known_label nowhere (is_some (meaning_in labels x))) (fine_nothing (ap (known_label nowhere) h))

  pub goto_quiet : (x : Ident) → is_some (meaning_in labels x) ≡ true → Quiet (words.go_to x)
  goto_quiet x h = by_layer (stmt.Goto (words.word x)) (goto_told x h)

  -- ---- statements with statements in them

  expr_told : (e : Expr) → IsInt names e → Tells [] (noted_expr e names)
  expr_told e i = tells_noting [] (judged_expr names e).notes (fine_nothing i.notes)

  choice_told : (e : Expr) (s : Stmt) → IsInt names e → Quiet s → (from : ℕ) (looped outermost : Bool) → Tells [] (choice (stand k g from looped outermost) e (said s) None names)
  unfolding choice Quiet
  choice_told e s i h from looped outermost =
      let there : Around = stand k g from looped false in
      tells_then (noted_expr e) (and_then (said s there) skip) names (expr_told e i) (tells_then (said s there) skip names (h from looped false) (tells_skip names))

  -- a statement behind a condition
  pub if_quiet : (e : Expr) (s : Stmt) → IsInt names e → Quiet s → Quiet (words.stmt_of (stmt.If e s None))
  if_quiet e s i h = by_layer (stmt.If e s None) (choice_told e s i h)

  pub branch_quiet : (e : Expr) (x : Ident) → IsInt names e → is_some (meaning_in labels x) ≡ true → Quiet (words.branch e x)
  branch_quiet e x i h = if_quiet e (words.go_to x) i (goto_quiet x h)

  block_told : (ss : List Stmt) → AllQuiet ss → (from : ℕ) (looped outermost : Bool) → Tells [] (block (stand k g from looped outermost) (map (said_stmt items labels) ss) names)
  unfolding block
  block_told ss h from looped outermost =
      tells_closed (all_at (stand k g (length names.locals) looped false) (map (said_stmt items labels) ss)) names (all_quiet ss h (length names.locals) looped false)

  pub block_quiet : (ss : List Stmt) → AllQuiet ss → Quiet (words.block ss)
  block_quiet ss h = by_layer (stmt.Block ss) (block_told ss h)

  pub when_quiet : (e : Expr) (ss : List Stmt) → IsInt names e → AllQuiet ss → Quiet (words.when e ss)
  when_quiet e ss i h = if_quiet e (words.block ss) i (block_quiet ss h)

  while_told : (e : Expr) (s : Stmt) → IsInt names e → Quiet s → (from : ℕ) (looped outermost : Bool) → Tells [] (while_loop (stand k g from looped outermost) e (said s) names)
  unfolding while_loop Quiet
  while_told e s i h from looped outermost = tells_then (noted_expr e) (said s (stand k g from true false)) names (expr_told e i) (h from true false)

  pub while_quiet : (e : Expr) (ss : List Stmt) → IsInt names e → AllQuiet ss → Quiet (words.while e ss)
  while_quiet e ss i h = by_layer (stmt.While e (words.block ss)) (while_told e (words.block ss) i (block_quiet ss h))

  -- a label says nothing itself
  pub label_quiet : (x : Ident) (s : Stmt) → Quiet s → Quiet (words.label x s)
  unfolding Quiet
  label_quiet x s h from looped outermost = subst (λ (f : Placed). Tells [] (f (stand k g from looped outermost) names)) (sym (said_is (stmt.Label (words.word x) s))) (h from looped outermost)

  pub labelled_quiet : (x : Ident) (ss : List Stmt) → AllQuiet ss → AllQuiet (words.labelled x ss)
  unfolding AllQuiet
  labelled_quiet x [] h = h
  labelled_quiet x (s ∷ ss) h = (label_quiet x s h.0, h.1)

  -- an atomic section
  pub section_quiet : (ss : List Stmt) → AllQuiet ss → AllQuiet (words.section ss)
  unfolding AllQuiet
  section_quiet ss h = (begin_quiet, quiet_append ss (words.atomic_end ∷ []) h (end_quiet, tt))

-- ---- what a function gives back

-- an int where an int is given
pub return_int : (items : List Item) (labels : Table) (k : ℕ) (names : Names) (e : Expr) → IsInt names e → Quiet items labels k gives.Int names (words.return e)
unfolding returned judged_value
return_int items labels k names e i = by_layer items labels k gives.Int names (stmt.Return (Some (value.Plain e))) (told items k names e i)
  where
    told : (items : List Item) (k : ℕ) (names : Names) (e : Expr) → IsInt names e → (from : ℕ) (looped outermost : Bool) → Tells [] (returned items (stand k gives.Int from looped outermost) (value.Plain e) names)
    told items k names e i from looped outermost =
        tells_noting [] _ (fine_both (judged_expr names e).notes (fit kind.Int (judged_expr names e).operand).notes (fine_nothing i.notes) (fine_nothing (fitted_int (judged_expr names e).operand i.kind).notes))

-- 0 where a thread ends
pub return_nothing : (items : List Item) (labels : Table) (k : ℕ) (names : Names) → Quiet items labels k gives.Thread names (words.return (words.num 0))
unfolding returned judged_value words.expr_of
return_nothing items labels k names = by_layer items labels k gives.Thread names (stmt.Return (Some (value.Plain (words.num 0)))) (told items k names)
  where
    zero_is_nothing : is_nothing (value.Plain (words.num 0)) ≡ true
    zero_is_nothing = search (rules, expr_lemmas)

    told : (items : List Item) (k : ℕ) (names : Names) → (from : ℕ) (looped outermost : Bool) → Tells [] (returned items (stand k gives.Thread from looped outermost) (value.Plain (words.num 0)) names)
    told items k names from looped outermost =
        let j : Judged = judged_expr names (words.num 0) in
        let i : IsInt names (words.num 0) = num_int names 0 in
        tells_noting [] _ (subst (λ b. AreFine [] (of_one (fit_return gives.Thread b) j).notes) (sym zero_is_nothing) (fine_both j.notes [] (fine_nothing i.notes) fine_none))
