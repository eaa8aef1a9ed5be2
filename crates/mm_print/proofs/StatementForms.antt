-- The layout of a statement, form by form; and the statement without places.
use Rattle.std.proofs.Common.{rules, ◌≡◌, List, map, Option}
use Rattle.std.specs.Option.{option_map}
use Rattle.mm_goto.specs.declared.ident.At.{At}
use Rattle.mm_goto.specs.declared.ident.Ident.{Ident}
use Rattle.mm_goto.specs.declared.pure.Binary.{Binary}
use Rattle.mm_tree.specs.declared.expr.Expr.{Expr}
use Rattle.mm_tree.specs.declared.expr.Word.{Word}
use Rattle.mm_tree.specs.declared.stmt.Left.{Left}
use Rattle.mm_tree.specs.declared.stmt.Local.{Local}
use Rattle.mm_tree.specs.declared.stmt.Stmt.{Stmt}
use Rattle.mm_tree.specs.declared.stmt.StmtNode.{the_lemmas as stmt_lemmas}
use Rattle.mm_tree.specs.declared.stmt.StmtNode.TheVariants as stmt
use Rattle.mm_tree.specs.declared.stmt.StmtNode.TheOpen as part
use Rattle.mm_tree.specs.declared.stmt.Value.{Value}
use Rattle.mm_tree.specs.Trees.{statement}
use Rattle.mm_tree.specs.Places.{bare_stmt, bare_expr, bare_left, bare_value, bare_word, bare_local}
use Rattle.mm_print.specs.Statements.{layout, layout_step}

pub layout_empty : (at : At) → layout (statement at stmt.Empty) ≡ layout_step part.Empty
unfolding layout
layout_empty at = search (rules, stmt_lemmas)

pub layout_block : (at : At) (ss : List Stmt) → layout (statement at (stmt.Block ss)) ≡ layout_step (part.Block (map layout ss))
unfolding layout
layout_block at ss = search (rules, stmt_lemmas)

pub layout_declare : (at : At) (ls : List Local) → layout (statement at (stmt.Declare ls)) ≡ layout_step (part.Declare ls)
unfolding layout
layout_declare at ls = search (rules, stmt_lemmas)

pub layout_declare_thread : (at : At) (ws : List Word) → layout (statement at (stmt.DeclareThread ws)) ≡ layout_step (part.DeclareThread ws)
unfolding layout
layout_declare_thread at ws = search (rules, stmt_lemmas)

pub layout_assign : (at : At) (l : Left) (v : Value) → layout (statement at (stmt.Assign l v)) ≡ layout_step (part.Assign l v)
unfolding layout
layout_assign at l v = search (rules, stmt_lemmas)

pub layout_update : (at : At) (l : Left) (op : Binary) (e : Expr) → layout (statement at (stmt.Update l op e)) ≡ layout_step (part.Update l op e)
unfolding layout
layout_update at l op e = search (rules, stmt_lemmas)

pub layout_effect : (at : At) (v : Value) → layout (statement at (stmt.Do v)) ≡ layout_step (part.Do v)
unfolding layout
layout_effect at v = search (rules, stmt_lemmas)

pub layout_choose : (at : At) (e : Expr) (s : Stmt) (a : Option Stmt) → layout (statement at (stmt.If e s a)) ≡ layout_step (part.If e (layout s) (option_map layout a))
unfolding layout
layout_choose at e s a = search (rules, stmt_lemmas)

pub layout_while : (at : At) (e : Expr) (s : Stmt) → layout (statement at (stmt.While e s)) ≡ layout_step (part.While e (layout s))
unfolding layout
layout_while at e s = search (rules, stmt_lemmas)

pub layout_do_while : (at : At) (s : Stmt) (e : Expr) → layout (statement at (stmt.DoWhile s e)) ≡ layout_step (part.DoWhile (layout s) e)
unfolding layout
layout_do_while at s e = search (rules, stmt_lemmas)

pub layout_for : (at : At) (o : Option Stmt) (c : Option Expr) (q : Option Stmt) (s : Stmt) → layout (statement at (stmt.For o c q s)) ≡ layout_step (part.For (option_map layout o) c (option_map layout q) (layout s))
unfolding layout
layout_for at o c q s = search (rules, stmt_lemmas)

pub layout_break : (at : At) → layout (statement at stmt.Break) ≡ layout_step part.Break
unfolding layout
layout_break at = search (rules, stmt_lemmas)

pub layout_continue : (at : At) → layout (statement at stmt.Continue) ≡ layout_step part.Continue
unfolding layout
layout_continue at = search (rules, stmt_lemmas)

pub layout_return : (at : At) (v : Option Value) → layout (statement at (stmt.Return v)) ≡ layout_step (part.Return v)
unfolding layout
layout_return at v = search (rules, stmt_lemmas)

pub layout_assert : (at : At) (e : Expr) (x : Option Ident) → layout (statement at (stmt.Assert e x)) ≡ layout_step (part.Assert e x)
unfolding layout
layout_assert at e x = search (rules, stmt_lemmas)

pub layout_assume : (at : At) (e : Expr) → layout (statement at (stmt.Assume e)) ≡ layout_step (part.Assume e)
unfolding layout
layout_assume at e = search (rules, stmt_lemmas)

pub layout_fence : (at : At) → layout (statement at stmt.Fence) ≡ layout_step part.Fence
unfolding layout
layout_fence at = search (rules, stmt_lemmas)

pub layout_lock : (at : At) (w : Word) → layout (statement at (stmt.Lock w)) ≡ layout_step (part.Lock w)
unfolding layout
layout_lock at w = search (rules, stmt_lemmas)

pub layout_unlock : (at : At) (w : Word) → layout (statement at (stmt.Unlock w)) ≡ layout_step (part.Unlock w)
unfolding layout
layout_unlock at w = search (rules, stmt_lemmas)

pub layout_start : (at : At) (w : Word) (f : Word) → layout (statement at (stmt.Start w f)) ≡ layout_step (part.Start w f)
unfolding layout
layout_start at w f = search (rules, stmt_lemmas)

pub layout_join : (at : At) (w : Word) → layout (statement at (stmt.Join w)) ≡ layout_step (part.Join w)
unfolding layout
layout_join at w = search (rules, stmt_lemmas)

pub layout_goto : (at : At) (w : Word) → layout (statement at (stmt.Goto w)) ≡ layout_step (part.Goto w)
unfolding layout
layout_goto at w = search (rules, stmt_lemmas)

pub layout_label : (at : At) (w : Word) (s : Stmt) → layout (statement at (stmt.Label w s)) ≡ layout_step (part.Label w (layout s))
unfolding layout
layout_label at w s = search (rules, stmt_lemmas)

pub layout_atom_begin : (at : At) → layout (statement at stmt.AtomBegin) ≡ layout_step part.AtomBegin
unfolding layout
layout_atom_begin at = search (rules, stmt_lemmas)

pub layout_atom_end : (at : At) → layout (statement at stmt.AtomEnd) ≡ layout_step part.AtomEnd
unfolding layout
layout_atom_end at = search (rules, stmt_lemmas)

-- ---- without places

pub bare_empty : (p q : At) → bare_stmt (statement p stmt.Empty) ≡ bare_stmt (statement q stmt.Empty)
bare_empty p q = search (rules, stmt_lemmas)

pub bare_block : (p q : At) (ss ts : List Stmt) → map bare_stmt ss ≡ map bare_stmt ts → bare_stmt (statement p (stmt.Block ss)) ≡ bare_stmt (statement q (stmt.Block ts))
bare_block p q ss ts h = search (rules, stmt_lemmas, h)

pub bare_declare : (p q : At) (ls ms : List Local) → map bare_local ls ≡ map bare_local ms → bare_stmt (statement p (stmt.Declare ls)) ≡ bare_stmt (statement q (stmt.Declare ms))
bare_declare p q ls ms h = search (rules, stmt_lemmas, h)

pub bare_declare_thread : (p q : At) (ws vs : List Word) → map bare_word ws ≡ map bare_word vs → bare_stmt (statement p (stmt.DeclareThread ws)) ≡ bare_stmt (statement q (stmt.DeclareThread vs))
bare_declare_thread p q ws vs h = search (rules, stmt_lemmas, h)

pub bare_assign : (p q : At) (l m : Left) (v u : Value) → bare_left l ≡ bare_left m → bare_value v ≡ bare_value u → bare_stmt (statement p (stmt.Assign l v)) ≡ bare_stmt (statement q (stmt.Assign m u))
bare_assign p q l m v u h i = search (rules, stmt_lemmas, h, i)

pub bare_update : (p q : At) (l m : Left) (op : Binary) (e f : Expr) → bare_left l ≡ bare_left m → bare_expr e ≡ bare_expr f → bare_stmt (statement p (stmt.Update l op e)) ≡ bare_stmt (statement q (stmt.Update m op f))
bare_update p q l m op e f h i = search (rules, stmt_lemmas, h, i)

pub bare_effect : (p q : At) (v u : Value) → bare_value v ≡ bare_value u → bare_stmt (statement p (stmt.Do v)) ≡ bare_stmt (statement q (stmt.Do u))
bare_effect p q v u h = search (rules, stmt_lemmas, h)

pub bare_choose : (p q : At) (e f : Expr) (s t : Stmt) (a b : Option Stmt) → bare_expr e ≡ bare_expr f → bare_stmt s ≡ bare_stmt t → option_map bare_stmt a ≡ option_map bare_stmt b → bare_stmt (statement p (stmt.If e s a)) ≡ bare_stmt (statement q (stmt.If f t b))
bare_choose p q e f s t a b h i j = search (rules, stmt_lemmas, h, i, j)

pub bare_while : (p q : At) (e f : Expr) (s t : Stmt) → bare_expr e ≡ bare_expr f → bare_stmt s ≡ bare_stmt t → bare_stmt (statement p (stmt.While e s)) ≡ bare_stmt (statement q (stmt.While f t))
bare_while p q e f s t h i = search (rules, stmt_lemmas, h, i)

pub bare_do_while : (p q : At) (s t : Stmt) (e f : Expr) → bare_stmt s ≡ bare_stmt t → bare_expr e ≡ bare_expr f → bare_stmt (statement p (stmt.DoWhile s e)) ≡ bare_stmt (statement q (stmt.DoWhile t f))
bare_do_while p q s t e f h i = search (rules, stmt_lemmas, h, i)

pub bare_for : (p q : At) (a b : Option Stmt) (c d : Option Expr) (m n : Option Stmt) (s t : Stmt) → option_map bare_stmt a ≡ option_map bare_stmt b → option_map bare_expr c ≡ option_map bare_expr d → option_map bare_stmt m ≡ option_map bare_stmt n → bare_stmt s ≡ bare_stmt t → bare_stmt (statement p (stmt.For a c m s)) ≡ bare_stmt (statement q (stmt.For b d n t))
bare_for p q a b c d m n s t h i j k = search (rules, stmt_lemmas, h, i, j, k)

pub bare_break : (p q : At) → bare_stmt (statement p stmt.Break) ≡ bare_stmt (statement q stmt.Break)
bare_break p q = search (rules, stmt_lemmas)

pub bare_continue : (p q : At) → bare_stmt (statement p stmt.Continue) ≡ bare_stmt (statement q stmt.Continue)
bare_continue p q = search (rules, stmt_lemmas)

pub bare_return : (p q : At) (v u : Option Value) → option_map bare_value v ≡ option_map bare_value u → bare_stmt (statement p (stmt.Return v)) ≡ bare_stmt (statement q (stmt.Return u))
bare_return p q v u h = search (rules, stmt_lemmas, h)

pub bare_assert : (p q : At) (e f : Expr) (x : Option Ident) → bare_expr e ≡ bare_expr f → bare_stmt (statement p (stmt.Assert e x)) ≡ bare_stmt (statement q (stmt.Assert f x))
bare_assert p q e f x h = search (rules, stmt_lemmas, h)

pub bare_assume : (p q : At) (e f : Expr) → bare_expr e ≡ bare_expr f → bare_stmt (statement p (stmt.Assume e)) ≡ bare_stmt (statement q (stmt.Assume f))
bare_assume p q e f h = search (rules, stmt_lemmas, h)

pub bare_fence : (p q : At) → bare_stmt (statement p stmt.Fence) ≡ bare_stmt (statement q stmt.Fence)
bare_fence p q = search (rules, stmt_lemmas)

pub bare_lock : (p q : At) (w z : Word) → bare_word w ≡ bare_word z → bare_stmt (statement p (stmt.Lock w)) ≡ bare_stmt (statement q (stmt.Lock z))
bare_lock p q w z h = search (rules, stmt_lemmas, h)

pub bare_unlock : (p q : At) (w z : Word) → bare_word w ≡ bare_word z → bare_stmt (statement p (stmt.Unlock w)) ≡ bare_stmt (statement q (stmt.Unlock z))
bare_unlock p q w z h = search (rules, stmt_lemmas, h)

pub bare_start : (p q : At) (w v : Word) (f g : Word) → bare_word w ≡ bare_word v → bare_word f ≡ bare_word g → bare_stmt (statement p (stmt.Start w f)) ≡ bare_stmt (statement q (stmt.Start v g))
bare_start p q w v f g h i = search (rules, stmt_lemmas, h, i)

pub bare_join : (p q : At) (w z : Word) → bare_word w ≡ bare_word z → bare_stmt (statement p (stmt.Join w)) ≡ bare_stmt (statement q (stmt.Join z))
bare_join p q w z h = search (rules, stmt_lemmas, h)

pub bare_goto : (p q : At) (w z : Word) → bare_word w ≡ bare_word z → bare_stmt (statement p (stmt.Goto w)) ≡ bare_stmt (statement q (stmt.Goto z))
bare_goto p q w z h = search (rules, stmt_lemmas, h)

pub bare_label : (p q : At) (w z : Word) (s t : Stmt) → bare_word w ≡ bare_word z → bare_stmt s ≡ bare_stmt t → bare_stmt (statement p (stmt.Label w s)) ≡ bare_stmt (statement q (stmt.Label z t))
bare_label p q w z s t h i = search (rules, stmt_lemmas, h, i)

pub bare_atom_begin : (p q : At) → bare_stmt (statement p stmt.AtomBegin) ≡ bare_stmt (statement q stmt.AtomBegin)
bare_atom_begin p q = search (rules, stmt_lemmas)

pub bare_atom_end : (p q : At) → bare_stmt (statement p stmt.AtomEnd) ≡ bare_stmt (statement q stmt.AtomEnd)
bare_atom_end p q = search (rules, stmt_lemmas)
