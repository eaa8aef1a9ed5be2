-- What is done by each statement agrees with what is said of it.
use Rattle.std.proofs.Common.{ℤ, List, [], ◌∷◌, map, refl, sym, subst, Option, Some, None}
use Rattle.std.specs.List.{AllByRecursion}
use Rattle.mm_goto.specs.declared.ident.At.{At}
use Rattle.mm_goto.specs.declared.program.Instr.TheVariants as instr
use Rattle.mm_goto.specs.declared.program.Thread.{Thread}
use Rattle.mm_goto.specs.Listing.{Listing}
use Rattle.mm_tree.specs.declared.item.Item.{Item}
use Rattle.mm_tree.specs.declared.stmt.Stmt.{Stmt, roll-Stmt}
use Rattle.mm_tree.specs.declared.stmt.StmtNode.{StmtNode, roll-StmtNode}
use Rattle.mm_tree.specs.declared.stmt.StmtNode.TheOpen as stmt
use Rattle.mm_tree.specs.declared.stmt.StmtNode.TheOpen.{StmtNode-F, Stmt-F}
use Rattle.mm_tree.specs.declared.stmt.StmtNode.TheFolds.{ind-Stmt, fold-StmtNode, fold-roll-StmtNode, fold-roll-Stmt, map-StmtNode, map-Stmt}
use Rattle.mm_flow.specs.Flow.{Do, Leave, Behind, Next}
use Rattle.mm_flow.specs.Statements.{Doing, in_order, stmt_step, placed_step, stmt_code, body_code}
use Rattle.mm_scope.specs.Scopes.{Table}
use Rattle.mm_scope.specs.Parts.{refusal_unless, output_only}
use Rattle.mm_scope.specs.Statements.{Placed, all_at, said_node_step, said_stmt_step, said_node, said_stmt}
use Rattle.mm_sourcelike.specs.Ints.{stmt_numbers, stmt_layer, of_stmt, of_stmts, of_parts}
use Rattle.mm_sourcelike.specs.Shapes.{Shape, plain, shape_step, shape_layer, shape_of, are_scoped, body_scoped}
use Rattle.mm_sourcelike.proofs.Lengthening.{Long, node_code, stmt_long, in_order_long, optional_long, body_long}
use Rattle.mm_sourcelike.proofs.Standing.{Does, Agrees}
use Rattle.mm_sourcelike.proofs.Blocks.{none_done, more_done, block_agrees, if_agrees, choice_agrees, while_agrees, do_agrees, none_agrees, for_agrees}
use Rattle.mm_sourcelike.proofs.Leaves.{skip_agrees, fence_agrees, just_agrees, goto_agrees, assign_agrees, update_agrees, do_value_agrees, return_agrees, assume_agrees, assert_agrees, lock_agrees, unlock_agrees, start_agrees, join_agrees, label_agrees, declare_threads_agrees, declare_agrees}

abbrev node_numbers : StmtNode → List ℤ
node_numbers = fold-StmtNode (List ℤ) (List ℤ) stmt_numbers stmt_layer

abbrev node_shape : StmtNode → Shape
node_shape = fold-StmtNode Shape Shape shape_step shape_layer

module _ (p : Listing) (t : Thread) (items : List Item) (labels : Table) where
  abbrev SaidBy : Type 0
  SaidBy = At → Placed

  abbrev P : StmtNode → Type 0
  P d = (at : At) → Agrees p t items (said_node items labels d at) (node_code d at) (node_numbers d) (node_shape d)

  abbrev Q : Stmt → Type 0
  Q s = Agrees p t items (said_stmt items labels s) (stmt_code s) (of_stmt s) (shape_of s)

  -- what is said of a layer, what is done by it, its numbers and its shape
  abbrev said_layer : StmtNode-F StmtNode Stmt → At → Placed
  said_layer z at = said_node_step items labels (map-StmtNode StmtNode Stmt SaidBy Placed (said_node items labels) (said_stmt items labels) z) at

  abbrev code_layer : StmtNode-F StmtNode Stmt → At → Doing
  code_layer z at = stmt_step (map-StmtNode StmtNode Stmt (At → Doing) Doing node_code stmt_code z) at

  abbrev numbers_layer : StmtNode-F StmtNode Stmt → List ℤ
  numbers_layer z = stmt_numbers (map-StmtNode StmtNode Stmt (List ℤ) (List ℤ) node_numbers of_stmt z)

  abbrev shapes_layer : StmtNode-F StmtNode Stmt → Shape
  shapes_layer z = shape_step (map-StmtNode StmtNode Stmt Shape Shape node_shape shape_of z)

  by : (z : StmtNode-F StmtNode Stmt) (at : At) → Agrees p t items (said_layer z at) (code_layer z at) (numbers_layer z) (shapes_layer z)
      → Agrees p t items (said_node items labels (roll-StmtNode z) at) (node_code (roll-StmtNode z) at) (node_numbers (roll-StmtNode z)) (node_shape (roll-StmtNode z))
  unfolding stmt_code of_stmt shape_of
  by z at g =
      subst (λ (f : SaidBy). Agrees p t items (f at) (node_code (roll-StmtNode z) at) (node_numbers (roll-StmtNode z)) (node_shape (roll-StmtNode z))) (sym (fold-roll-StmtNode SaidBy Placed (said_node_step items labels) (said_stmt_step items labels) z))
      (subst (λ (f : At → Doing). Agrees p t items (said_layer z at) (f at) (node_numbers (roll-StmtNode z)) (node_shape (roll-StmtNode z))) (sym (fold-roll-StmtNode (At → Doing) Doing stmt_step placed_step z))
      (subst (λ (f : List ℤ). Agrees p t items (said_layer z at) (code_layer z at) f (node_shape (roll-StmtNode z))) (sym (fold-roll-StmtNode (List ℤ) (List ℤ) stmt_numbers stmt_layer z))
      (subst (λ (f : Shape). Agrees p t items (said_layer z at) (code_layer z at) (numbers_layer z) f) (sym (fold-roll-StmtNode Shape Shape shape_step shape_layer z)) g)))

  by_stmt : (z : Stmt-F StmtNode Stmt) → Agrees p t items (said_node items labels z.node z.at) (node_code z.node z.at) (node_numbers z.node) (node_shape z.node) → Q (roll-Stmt z)
  unfolding stmt_code of_stmt shape_of
  by_stmt z g =
      subst (λ (f : Placed). Agrees p t items f (stmt_code (roll-Stmt z)) (of_stmt (roll-Stmt z)) (shape_of (roll-Stmt z))) (sym (fold-roll-Stmt SaidBy Placed (said_node_step items labels) (said_stmt_step items labels) z))
      (subst (λ (f : Doing). Agrees p t items (said_node items labels z.node z.at) f (of_stmt (roll-Stmt z)) (shape_of (roll-Stmt z))) (sym (fold-roll-Stmt (At → Doing) Doing stmt_step placed_step z))
      (subst (λ (f : List ℤ). Agrees p t items (said_node items labels z.node z.at) (node_code z.node z.at) f (shape_of (roll-Stmt z))) (sym (fold-roll-Stmt (List ℤ) (List ℤ) stmt_numbers stmt_layer z))
      (subst (λ (f : Shape). Agrees p t items (said_node items labels z.node z.at) (node_code z.node z.at) (node_numbers z.node) f) (sym (fold-roll-Stmt Shape Shape shape_step shape_layer z)) g)))

  abbrev Proved : Type 0
  Proved = (s : Stmt) × Q s

  abbrev stmts_in : List Proved → List Stmt
  stmts_in ss = map (λ (s : Proved). s.0) ss

  parts_long : (ss : List Proved) → AllByRecursion Long (map stmt_code (stmts_in ss))
  parts_long [] = tt
  parts_long (s ∷ ss) = (stmt_long s.0, parts_long ss)

  parts_done : (ss : List Proved) → Does p t items (λ a. all_at a (map (said_stmt items labels) (stmts_in ss))) (in_order (map stmt_code (stmts_in ss))) (of_parts (map of_stmt (stmts_in ss))) (are_scoped (map shape_of (stmts_in ss)))
  parts_done [] = none_done p t items
  parts_done (s ∷ ss) =
      more_done p t items (said_stmt items labels s.0) (stmt_code s.0) (of_stmt s.0) (shape_of s.0).is_scoped (map (said_stmt items labels) (stmts_in ss)) (map stmt_code (stmts_in ss)) (of_parts (map of_stmt (stmts_in ss))) (are_scoped (map shape_of (stmts_in ss)))
      s.1.does (stmt_long s.0) (in_order_long (map stmt_code (stmts_in ss)) (parts_long ss)) (parts_done ss)

  abbrev Layer : Type 0
  Layer = StmtNode-F ((d : StmtNode) × P d) Proved

  abbrev bare : Layer → StmtNode-F StmtNode Stmt
  bare y = map-StmtNode ((d : StmtNode) × P d) Proved StmtNode Stmt (λ d. d.0) (λ e. e.0) y

  abbrev said : Proved → Placed
  said s = said_stmt items labels s.0

  abbrev some_said : Proved → Option Placed
  some_said s = Some (said s)

  abbrev code : Proved → Doing
  code s = stmt_code s.0

  abbrev ints : Proved → List ℤ
  ints s = of_stmt s.0

  abbrev shape : Proved → Shape
  shape s = shape_of s.0

  layer_agrees : (y : Layer) (at : At) → Agrees p t items (said_layer (bare y) at) (code_layer (bare y) at) (numbers_layer (bare y)) (shapes_layer (bare y))
  layer_agrees stmt.Empty at = skip_agrees p t items
  layer_agrees (stmt.Block ss) at = block_agrees p t items (map (said_stmt items labels) (stmts_in ss)) (map stmt_code (stmts_in ss)) (of_parts (map of_stmt (stmts_in ss))) (are_scoped (map shape_of (stmts_in ss))) (parts_done ss)
  layer_agrees (stmt.Declare ls) at = declare_agrees p t items ls
  layer_agrees (stmt.DeclareThread xs) at = declare_threads_agrees p t items xs
  layer_agrees (stmt.Assign l v) at = assign_agrees p t items at l v
  layer_agrees (stmt.Update l op e) at = update_agrees p t items at l op e
  layer_agrees (stmt.Do v) at = do_value_agrees p t items v
  layer_agrees (stmt.If c d None) at = if_agrees p t items at c (said d) (code d) (ints d) (shape d) d.1 (stmt_long d.0)
  layer_agrees (stmt.If c d (Some e)) at = choice_agrees p t items at c (said d) (code d) (ints d) (shape d) (said e) (code e) (ints e) (shape e) d.1 (stmt_long d.0) e.1 (stmt_long e.0)
  layer_agrees (stmt.While c d) at = while_agrees p t items at c (said d) (code d) (ints d) (shape d) d.1 (stmt_long d.0)
  layer_agrees (stmt.DoWhile d c) at = do_agrees p t items at c (said d) (code d) (ints d) (shape d) d.1 (stmt_long d.0)
  layer_agrees (stmt.For None c None d) at =
      for_agrees p t items at None None [] plain c None None [] plain (said d) (code d) (ints d) (shape d) (none_agrees p t items) (optional_long None tt) (none_agrees p t items) (optional_long None tt) d.1 (stmt_long d.0)
  layer_agrees (stmt.For None c (Some j) d) at =
      for_agrees p t items at None None [] plain c (some_said j) (Some (code j)) (ints j) (shape j) (said d) (code d) (ints d) (shape d) (none_agrees p t items) (optional_long None tt) j.1 (optional_long (Some (code j)) (stmt_long j.0)) d.1 (stmt_long d.0)
  layer_agrees (stmt.For (Some i) c None d) at =
      for_agrees p t items at (some_said i) (Some (code i)) (ints i) (shape i) c None None [] plain (said d) (code d) (ints d) (shape d) i.1 (optional_long (Some (code i)) (stmt_long i.0)) (none_agrees p t items) (optional_long None tt) d.1 (stmt_long d.0)
  layer_agrees (stmt.For (Some i) c (Some j) d) at =
      for_agrees p t items at (some_said i) (Some (code i)) (ints i) (shape i) c (some_said j) (Some (code j)) (ints j) (shape j) (said d) (code d) (ints d) (shape d) i.1 (optional_long (Some (code i)) (stmt_long i.0)) j.1 (optional_long (Some (code j)) (stmt_long j.0)) d.1 (stmt_long d.0)
  layer_agrees stmt.Break at = just_agrees p t items (λ a. refusal_unless a.looped at) (Leave at Behind) (λ b. tt) (λ q. tt)
  layer_agrees stmt.Continue at = just_agrees p t items (λ a. refusal_unless a.looped at) (Leave at Next) (λ b. tt) (λ q. tt)
  layer_agrees (stmt.Return v) at = return_agrees p t items at v
  layer_agrees (stmt.Assert e text) at = assert_agrees p t items at e text
  layer_agrees (stmt.Assume e) at = assume_agrees p t items at e
  layer_agrees stmt.Fence at = fence_agrees p t items at
  layer_agrees (stmt.Lock x) at = lock_agrees p t items at x
  layer_agrees (stmt.Unlock x) at = unlock_agrees p t items at x
  layer_agrees (stmt.Start x f) at = start_agrees p t items at x f
  layer_agrees (stmt.Join x) at = join_agrees p t items at x
  layer_agrees (stmt.Goto x) at = goto_agrees p t items at x labels
  layer_agrees (stmt.Label x d) at = label_agrees p t items x (said d) (code d) (ints d) (shape d) d.1
  layer_agrees stmt.AtomBegin at = just_agrees p t items (λ a. output_only a.side at) (Do at instr.AtomBegin) (λ b. (tt, λ e. refl)) (λ q. tt)
  layer_agrees stmt.AtomEnd at = just_agrees p t items (λ a. output_only a.side at) (Do at instr.AtomEnd) (λ b. (tt, λ e. refl)) (λ q. tt)

  pub stmt_agrees : (s : Stmt) → Q s
  stmt_agrees = ind-Stmt P Q
      (λ x y is. subst (λ z. P (roll-StmtNode z)) is (λ at. by (bare y) at (layer_agrees y at)))
      (λ x y is. subst (λ z. Q (roll-Stmt z)) is (by_stmt (map-Stmt _ _ StmtNode Stmt (λ d. d.0) (λ e. e.0) y) (y.node.1 y.at)))

  -- the statements of a body
  pub body_does : (ss : List Stmt) → Does p t items (λ a. all_at a (map (said_stmt items labels) ss)) (body_code ss) (of_stmts ss) (body_scoped ss)
  body_does [] = none_done p t items
  body_does (s ∷ ss) =
      more_done p t items (said_stmt items labels s) (stmt_code s) (of_stmt s) (shape_of s).is_scoped (map (said_stmt items labels) ss) (map stmt_code ss) (of_stmts ss) (body_scoped ss)
      (stmt_agrees s).does (stmt_long s) (body_long ss) (body_does ss)
