-- The code of statements is safe, where their calls fit and they have nothing that only outputs have.
use Rattle.std.proofs.Common.{arith, ◌≡◌, ℕ, ◌+◌, ◌<◌, ◌≤◌, Bool, true, false, if◌then◌else◌, List, [], ◌∷◌, ◌++◌, map, refl, ◌∙◌, sym, subst, Option, Some, None}
use Rattle.std.specs.Str.{bytes_eq}
use Rattle.mm_goto.specs.declared.ident.At.{At}
use Rattle.mm_goto.specs.declared.ident.Ident.{Ident}
use Rattle.mm_goto.specs.declared.pure.Pure.{Pure}
use Rattle.mm_goto.specs.declared.pure.Binary.{Binary}
use Rattle.mm_goto.specs.declared.program.Instr.TheVariants as instr
use Rattle.mm_tree.specs.declared.expr.Expr.{Expr}
use Rattle.mm_tree.specs.declared.stmt.Left.{Left}
use Rattle.mm_tree.specs.declared.stmt.LeftNode.{LeftNode}
use Rattle.mm_tree.specs.declared.stmt.LeftNode.TheVariants as left
use Rattle.mm_tree.specs.declared.stmt.Local.{Local}
use Rattle.mm_tree.specs.declared.stmt.Value.{Value}
use Rattle.mm_tree.specs.declared.stmt.Stmt.{Stmt, roll-Stmt}
use Rattle.mm_tree.specs.declared.stmt.StmtNode.{StmtNode, roll-StmtNode}
use Rattle.mm_tree.specs.declared.stmt.StmtNode.TheOpen as stmt
use Rattle.mm_tree.specs.declared.stmt.StmtNode.TheOpen.{StmtNode-F, Stmt-F}
use Rattle.mm_tree.specs.declared.stmt.StmtNode.TheFolds.{ind-Stmt, fold-StmtNode, fold-roll-StmtNode, fold-roll-Stmt, map-StmtNode, map-Stmt}
use Rattle.mm_flow.specs.declared.names.Named.{Named}
use Rattle.mm_flow.specs.Flow.{Flow, Empty, Do}
use Rattle.mm_flow.specs.Expressions.{Val, one_value}
use Rattle.mm_flow.specs.Scopes.{named, local_of}
use Rattle.mm_flow.specs.Statements.{Known, Did, Doing, Function, Within, scope, reads, from, first_value, declared_one, declared, local_left, assigned, updated, set_ret, returned, value_of, in_order, inner, if_code, choice_code, while_code, do_code, optional, condition, turns, for_code, stmt_step, placed_step, stmt_code, body_code, just, started, asserted, assumed, labelled, effect}
use Rattle.mm_sourcelike.proofs.Checking.{known_constant, constant_clear}
use Rattle.mm_sourcelike.proofs.Deeds.{Deed, AllFit, Fits, of_value, of_optional, of_locals, deed_step, deed_layer, deeds_of, deeds_in}
use Rattle.mm_sourcelike.proofs.Evaluating.{all_left, all_right}
use Rattle.mm_sourcelike.proofs.Guarding.{nothing, after, Safe, safe_any}
use Rattle.mm_sourcelike.proofs.Lengthening.{node_code}
use Rattle.mm_sourcelike.proofs.SafeExpressions.{Steps, steps_from, alone, Off, Guards, constant_guards, NamesBelow, expr_guards}
use Rattle.mm_sourcelike.proofs.SafeValues.{CallsSafe, value_guards, first_guards, assigned_safe, updated_safe}
use Rattle.mm_sourcelike.proofs.Scoping.{local_push, none_is_not, same_some}

-- the locals that have names are these
pub record NamesIn (b n : ℕ) (names : List Named) : Type 0 where
  pub each : (x : Ident) (l : ℕ) → local_of names x ≡ Some l → (b ≤ l) × (l < n)

pub names_below : (b n : ℕ) (names : List Named) → NamesIn b n names → NamesBelow n names
names_below b n names h = record { each = λ x l e. (h.each x l e).1 }

names_later : (b n m : ℕ) (names : List Named) → n ≤ m → NamesIn b n names → NamesIn b m names
names_later b n m names le h = record { each = λ x l e. ((h.each x l e).0, omega (arith, (h.each x l e).1, le)) }

names_push : (b n m : ℕ) (names : List Named) (x : Ident) → b ≤ n → n < m → NamesIn b n names → NamesIn b m (names ++ named x n ∷ [])
names_push b n m names x le lt h = record { each = λ y l e. by y l (bytes_eq x y) (sym (local_push names x n y) ∙ e) }
  where
    by : (y : Ident) (l : ℕ) (c : Bool) → (if c then Some n else local_of names y) ≡ Some l → (b ≤ l) × (l < m)
    by y l true e = let is : n ≡ l = same_some n l e in (omega arith, omega arith)
    by y l false e = ((h.each y l e).0, omega (arith, (h.each y l e).1, lt))

-- a statement's code writes locals from b on alone, and behind it names stand for such locals
pub record SafeDid (b : ℕ) (k : Known) (d : Did) : Type 0 where
  pub grows : k.next ≤ d.known.next
  pub names : NamesIn b d.known.next d.known.names
  pub safe : Safe nothing d.flow
  pub steps : Steps b d.flow

module _ (G : Function → Type 0) where
  pub record Before (w : Within) (b : ℕ) (k : Known) : Type 0 where
    pub below : b ≤ k.next
    pub names : NamesIn b k.next k.names
    pub ret : (l : ℕ) → w.ret ≡ Some l → b ≤ l
    pub calls : CallsSafe G w

  abbrev pub Guarding : List Deed → Doing → Type 0
  Guarding ds d = (w : Within) (b : ℕ) (k : Known) → Before w b k → AllFit w.parts w.items G ds → SafeDid b k (d w k)

  -- behind what leaves the names as they are
  before_next : (w : Within) (b : ℕ) (k : Known) (n : ℕ) → k.next ≤ n → Before w b k → Before w b (from k n)
  before_next w b k n le h = record { below = omega (arith, h.below, le); names = names_later b k.next n k.names le h.names; ret = h.ret; calls = h.calls }

  before_did : (w : Within) (b : ℕ) (k : Known) (d : Did) → Before w b k → SafeDid b k d → Before w b d.known
  before_did w b k d h g = record { below = omega (arith, h.below, g.grows); names = g.names; ret = h.ret; calls = h.calls }

  done : (w : Within) (b : ℕ) (k : Known) (d : Did) → Before w b k → d.known.names ≡ k.names → k.next ≤ d.known.next → Safe nothing d.flow → Steps b d.flow → SafeDid b k d
  done w b k d h e le s t = record { grows = le; names = subst (NamesIn b d.known.next) (sym e) (names_later b k.next d.known.next k.names le h.names); safe = s; steps = t }

  plain_done : (w : Within) (b : ℕ) (k : Known) (f : Flow) → Before w b k → Safe nothing f → Steps b f → SafeDid b k (just f k)
  plain_done w b k f h s t = done w b k (just f k) h refl (omega arith) s t

  value_in : (w : Within) (b : ℕ) (k : Known) (e : Expr) → Before w b k → Guards k.next k.next (reads w k.names e k.next)
  value_in w b k e h = expr_guards e (scope w k.names) k.next k.next (omega arith) (names_below b k.next k.names h.names)

  -- ---- declarations

  local_safe : (l : Local) (w : Within) (b : ℕ) (k : Known) → Before w b k → AllFit w.parts w.items G (of_optional l.value) → SafeDid b k (declared_one w k l)
  local_safe l w b k h fits =
      let v : Val = first_value w k.names (k.next + 1) l.value in
      let g = first_guards G w h.calls k.names l.value k.next (k.next + 1) (omega arith) (names_below b k.next k.names h.names) fits in
      record {
        grows = omega (arith, g.grows);
        names = names_push b k.next v.next k.names l.name h.below (omega (arith, g.grows)) h.names;
        safe = (g.safe, ((λ j m q. q), alone (after nothing v.flow) v.pure g.known));
        steps = (steps_from b (k.next + 1) (omega (arith, h.below)) v.flow g.steps, (h.below, tt, refl));
      }

  locals_safe : (ls : List Local) → Guarding (of_locals ls) (λ w k. declared w ls k)
  locals_safe [] w b k h fits = plain_done w b k Empty h tt tt
  locals_safe (l ∷ ls) w b k h fits =
      let a : Did = declared_one w k l in
      let one = local_safe l w b k h (all_left (Fits w.parts w.items G) (of_optional l.value) (of_locals ls) fits) in
      let more = locals_safe ls w b a.known (before_did w b k a h one) (all_right (Fits w.parts w.items G) (of_optional l.value) (of_locals ls) fits) in
      record {
        grows = omega (arith, one.grows, more.grows);
        names = more.names;
        safe = (one.safe, safe_any (after nothing a.flow) (declared w ls a.known).flow more.safe);
        steps = (one.steps, more.steps);
      }

  -- ---- other leaves

  left_above : (b n : ℕ) (names : List Named) (l : LeftNode) (t : ℕ) → NamesIn b n names → local_left names l ≡ Some t → b ≤ t
  left_above b n names (left.Name x) t h e = (h.each x t e).0
  left_above b n names (left.Index x i) t h e = absurd (none_is_not t e)
  left_above b n names (left.Deref i) t h e = absurd (none_is_not t e)

  assign_safe : (l : Left) (v : Value) → Guarding (of_value v) (λ w k. effect k (assigned w k.names k.next l v))
  unfolding assigned
  assign_safe l v w b k h fits =
      let g = assigned_safe G w h.calls k.names b k.next l v (local_left k.names l.node) h.below (λ t e. left_above b k.next k.names l.node t h.names e) (names_below b k.next k.names h.names) fits in
      done w b k _ h refl g.grows g.safe g.steps

  update_safe : (l : Left) (op : Binary) (e : Expr) → Guarding [] (λ w k. effect k (updated w k.names k.next l op e))
  update_safe l op e w b k h fits =
      let g = updated_safe G w h.calls k.names b k.next l op e (local_left k.names l.node) h.below (λ t q. left_above b k.next k.names l.node t h.names q) (names_below b k.next k.names h.names) in
      done w b k _ h refl g.grows g.safe g.steps

  do_safe : (v : Value) → Guarding (of_value v) (λ w k. effect k (value_of w k.names k.next v))
  do_safe v w b k h fits =
      let g = value_guards G w h.calls k.names v k.next k.next (omega arith) (names_below b k.next k.names h.names) fits in
      done w b k _ h refl g.grows g.safe (steps_from b k.next h.below (value_of w k.names k.next v).flow g.steps)

  set_ret_safe : (X : Pure → Type 0) (at : At) (o : Option ℕ) (e : Pure) → Safe X (set_ret at None e) → ((l : ℕ) → o ≡ Some l → Safe X (Do at (instr.Set l e))) → Safe X (set_ret at o e)
  set_ret_safe X at None e h g = h
  set_ret_safe X at (Some l) e h g = g l refl

  set_ret_steps : (b : ℕ) (at : At) (o : Option ℕ) (e : Pure) → ((l : ℕ) → o ≡ Some l → b ≤ l) → Steps b (set_ret at o e)
  set_ret_steps b at None e h = tt
  set_ret_steps b at (Some l) e h = (h l refl, tt, refl)

  return_safe : (at : At) (v : Option Value) → Guarding (of_optional v) (λ w k. effect k (returned w at k.names k.next v))
  return_safe at None w b k h fits = done w b k _ h refl (omega arith) tt tt
  return_safe at (Some v) w b k h fits =
      let u : Val = value_of w k.names k.next v in
      let X : Pure → Type 0 = after nothing u.flow in
      let g = value_guards G w h.calls k.names v k.next k.next (omega arith) (names_below b k.next k.names h.names) fits in
      done w b k _ h refl g.grows
      (g.safe, (set_ret_safe X at w.ret u.pure tt (λ l e. ((λ j m q. q), alone X u.pure g.known)), tt))
      (steps_from b k.next h.below u.flow g.steps, (set_ret_steps b at w.ret u.pure h.ret, tt))

  assert_safe : (at : At) (e : Expr) (text : Option Ident) → Guarding [] (λ w k. asserted w at e text k)
  assert_safe at e text w b k h fits =
      let v : Val = reads w k.names e k.next in
      let g = value_in w b k e h in
      done w b k (asserted w at e text k) h refl g.grows (g.safe, ((λ j m q. q), alone (after nothing v.flow) v.pure g.known)) (steps_from b k.next h.below v.flow g.steps, (tt, tt, refl))

  assume_safe : (at : At) (e : Expr) → Guarding [] (λ w k. assumed w at e k)
  assume_safe at e w b k h fits =
      let v : Val = reads w k.names e k.next in
      let g = value_in w b k e h in
      done w b k (assumed w at e k) h refl g.grows (g.safe, ((λ j m q. q), alone (after nothing v.flow) v.pure g.known)) (steps_from b k.next h.below v.flow g.steps, (tt, tt, refl))

  start_safe : (at : At) → Guarding [] (λ w k. started at k)
  start_safe at w b k h fits = done w b k (started at k) h refl (omega arith) ((λ j m q. q), tt) (tt, tt, refl)

  -- ---- statements with statements in them

  inner_safe : (ds : List Deed) (d : Doing) → Guarding ds d → Guarding ds (inner d)
  inner_safe ds d g w b k h fits =
      let a = g w b k h fits in
      record { grows = a.grows; names = names_later b k.next (d w k).known.next k.names a.grows h.names; safe = a.safe; steps = a.steps }

  more_safe : (ds es : List Deed) (d : Doing) (rest : List Doing) → Guarding ds d → Guarding es (in_order rest) → Guarding (ds ++ es) (in_order (d ∷ rest))
  more_safe ds es d rest g i w b k h fits =
      let a : Did = d w k in
      let one = g w b k h (all_left (Fits w.parts w.items G) ds es fits) in
      let more = i w b a.known (before_did w b k a h one) (all_right (Fits w.parts w.items G) ds es fits) in
      record { grows = omega (arith, one.grows, more.grows); names = more.names; safe = (one.safe, safe_any (after nothing a.flow) (in_order rest w a.known).flow more.safe); steps = (one.steps, more.steps) }

  if_safe : (at : At) (c : Expr) (ds : List Deed) (d : Doing) → Guarding ds d → Guarding (ds ++ []) (if_code at c d)
  if_safe at c ds d g w b k h fits =
      let v : Val = reads w k.names c k.next in
      let t = value_in w b k c h in
      let j : Known = from k v.next in
      let a = inner_safe ds d g w b j (before_next w b k v.next t.grows h) (all_left (Fits w.parts w.items G) ds [] fits) in
      record { grows = omega (arith, t.grows, a.grows); names = a.names; safe = (t.safe, (t.known, a.safe)); steps = (steps_from b k.next h.below v.flow t.steps, (tt, a.steps)) }

  choice_safe : (at : At) (c : Expr) (ds es : List Deed) (d e : Doing) → Guarding ds d → Guarding es e → Guarding (ds ++ es) (choice_code at c d e)
  choice_safe at c ds es d e g i w b k h fits =
      let v : Val = reads w k.names c k.next in
      let t = value_in w b k c h in
      let j : Known = from k v.next in
      let before = before_next w b k v.next t.grows h in
      let a = inner_safe ds d g w b j before (all_left (Fits w.parts w.items G) ds es fits) in
      let o = inner_safe es e i w b (inner d w j).known (before_did w b j (inner d w j) before a) (all_right (Fits w.parts w.items G) ds es fits) in
      record {
        grows = omega (arith, t.grows, a.grows, o.grows);
        names = o.names;
        safe = (t.safe, (t.known, a.safe, o.safe));
        steps = (steps_from b k.next h.below v.flow t.steps, (tt, a.steps, o.steps));
      }

  while_safe : (at : At) (c : Expr) (ds : List Deed) (d : Doing) → Guarding ds d → Guarding ds (while_code at c d)
  unfolding while_code
  while_safe at c ds d g w b k h fits =
      let v : Val = reads w k.names c k.next in
      let t = value_in w b k c h in
      let a = inner_safe ds d g w b (from k v.next) (before_next w b k v.next t.grows h) fits in
      record { grows = omega (arith, t.grows, a.grows); names = a.names; safe = (t.safe, t.known, a.safe); steps = (steps_from b k.next h.below v.flow t.steps, tt, a.steps) }

  loop_safe : (at : At) (ds : List Deed) (d : Doing) (c : Expr) → Guarding ds d → Guarding ds (do_code at d c)
  loop_safe at ds d c g w b k h fits =
      let a = inner_safe ds d g w b k h fits in
      let m : Known = (inner d w k).known in
      let before = before_did w b k (inner d w k) h a in
      let v : Val = reads w k.names c m.next in
      let t = value_in w b m c before in
      record { grows = omega (arith, a.grows, t.grows); names = names_later b m.next v.next m.names t.grows a.names; safe = (a.safe, t.safe, t.known); steps = (a.steps, steps_from b m.next before.below v.flow t.steps, tt) }

  condition_guards : (w : Within) (b : ℕ) (k : Known) (c : Option Expr) → Before w b k → Guards k.next k.next (condition (scope w k.names) c k.next)
  condition_guards w b k None h = constant_guards k.next k.next one_value (constant_clear (Off k.next k.next k.next) _) (known_constant nothing _)
  condition_guards w b k (Some c) h = value_in w b k c h

  turns_safe : (at : At) (c : Option Expr) (js : List Deed) (j : Option Doing) (ds : List Deed) (d : Doing) → Guarding js (optional j) → Guarding ds d → Guarding (js ++ ds) (turns at c j d)
  turns_safe at c js j ds d i g w b k h fits =
      let v : Val = condition (scope w k.names) c k.next in
      let t = condition_guards w b k c h in
      let m : Known = from k v.next in
      let before = before_next w b k v.next t.grows h in
      let a = inner_safe ds d g w b m before (all_right (Fits w.parts w.items G) js ds fits) in
      let o = inner_safe js (optional j) i w b (inner d w m).known (before_did w b m (inner d w m) before a) (all_left (Fits w.parts w.items G) js ds fits) in
      record {
        grows = omega (arith, t.grows, a.grows, o.grows);
        names = o.names;
        safe = (t.safe, t.known, a.safe, o.safe);
        steps = (steps_from b k.next h.below v.flow t.steps, tt, a.steps, o.steps);
      }

  for_safe : (at : At) (is : List Deed) (i : Option Doing) (c : Option Expr) (js : List Deed) (j : Option Doing) (ds : List Deed) (d : Doing) → Guarding is (optional i) → Guarding js (optional j) → Guarding ds d → Guarding (is ++ (js ++ ds)) (for_code at i c j d)
  unfolding for_code
  for_safe at is i c js j ds d f g e w b k h fits =
      let a : Did = optional i w k in
      let one = f w b k h (all_left (Fits w.parts w.items G) is (js ++ ds) fits) in
      let more = turns_safe at c js j ds d g e w b a.known (before_did w b k a h one) (all_right (Fits w.parts w.items G) is (js ++ ds) fits) in
      record { grows = omega (arith, one.grows, more.grows); names = more.names; safe = (one.safe, safe_any (after nothing a.flow) (turns at c j d w a.known).flow more.safe); steps = (one.steps, more.steps) }

  label_safe : (x : Ident) (ds : List Deed) (d : Doing) → Guarding ds d → Guarding ds (labelled x d)
  label_safe x ds d g w b k h fits =
      let a = g w b k h fits in
      record { grows = a.grows; names = a.names; safe = (tt, a.safe); steps = (tt, a.steps) }

  none_safe : Guarding [] (optional None)
  none_safe w b k h fits = plain_done w b k Empty h tt tt

  -- ---- the whole

  abbrev node_deeds : StmtNode → List Deed
  node_deeds = fold-StmtNode (List Deed) (List Deed) deed_step deed_layer

  abbrev P : StmtNode → Type 0
  P d = (at : At) → Guarding (node_deeds d) (node_code d at)

  abbrev Q : Stmt → Type 0
  Q s = Guarding (deeds_of s) (stmt_code s)

  abbrev code_layer : StmtNode-F StmtNode Stmt → At → Doing
  code_layer z at = stmt_step (map-StmtNode StmtNode Stmt (At → Doing) Doing node_code stmt_code z) at

  abbrev done_layer : StmtNode-F StmtNode Stmt → List Deed
  done_layer z = deed_step (map-StmtNode StmtNode Stmt (List Deed) (List Deed) node_deeds deeds_of z)

  by_node : (z : StmtNode-F StmtNode Stmt) (at : At) → Guarding (done_layer z) (code_layer z at) → Guarding (node_deeds (roll-StmtNode z)) (node_code (roll-StmtNode z) at)
  unfolding stmt_code deeds_of
  by_node z at g =
      subst (λ (f : At → Doing). Guarding (node_deeds (roll-StmtNode z)) (f at)) (sym (fold-roll-StmtNode (At → Doing) Doing stmt_step placed_step z))
      (subst (λ (f : List Deed). Guarding f (code_layer z at)) (sym (fold-roll-StmtNode (List Deed) (List Deed) deed_step deed_layer z)) g)

  by_stmt : (z : Stmt-F StmtNode Stmt) → Guarding (node_deeds z.node) (node_code z.node z.at) → Q (roll-Stmt z)
  unfolding stmt_code deeds_of
  by_stmt z g =
      subst (λ (f : Doing). Guarding (deeds_of (roll-Stmt z)) f) (sym (fold-roll-Stmt (At → Doing) Doing stmt_step placed_step z))
      (subst (λ (f : List Deed). Guarding f (node_code z.node z.at)) (sym (fold-roll-Stmt (List Deed) (List Deed) deed_step deed_layer z)) g)

  abbrev Proved : Type 0
  Proved = (s : Stmt) × Q s

  abbrev stmts_in : List Proved → List Stmt
  stmts_in ss = map (λ (s : Proved). s.0) ss

  parts_safe : (ss : List Proved) → Guarding (deeds_in (stmts_in ss)) (in_order (map stmt_code (stmts_in ss)))
  parts_safe [] w b k h fits = plain_done w b k Empty h tt tt
  parts_safe (s ∷ ss) w b k h fits = more_safe (deeds_of s.0) (deeds_in (stmts_in ss)) (stmt_code s.0) (map stmt_code (stmts_in ss)) s.1 (parts_safe ss) w b k h fits

  abbrev Layer : Type 0
  Layer = StmtNode-F ((d : StmtNode) × P d) Proved

  abbrev bare : Layer → StmtNode-F StmtNode Stmt
  bare y = map-StmtNode ((d : StmtNode) × P d) Proved StmtNode Stmt (λ d. d.0) (λ e. e.0) y

  layer_safe : (y : Layer) (at : At) → Guarding (done_layer (bare y)) (code_layer (bare y) at)
  layer_safe stmt.Empty at w b k h fits = plain_done w b k Empty h tt tt
  layer_safe (stmt.Block ss) at w b k h fits = inner_safe (deeds_in (stmts_in ss)) (in_order (map stmt_code (stmts_in ss))) (parts_safe ss) w b k h fits
  layer_safe (stmt.Declare ls) at w b k h fits = locals_safe ls w b k h fits
  layer_safe (stmt.DeclareThread xs) at w b k h fits = plain_done w b k Empty h tt tt
  layer_safe (stmt.Assign l v) at w b k h fits = assign_safe l v w b k h fits
  layer_safe (stmt.Update l op e) at w b k h fits = update_safe l op e w b k h fits
  layer_safe (stmt.Do v) at w b k h fits = do_safe v w b k h fits
  layer_safe (stmt.If c d None) at w b k h fits = if_safe at c (deeds_of d.0) (stmt_code d.0) d.1 w b k h fits
  layer_safe (stmt.If c d (Some e)) at w b k h fits = choice_safe at c (deeds_of d.0) (deeds_of e.0) (stmt_code d.0) (stmt_code e.0) d.1 e.1 w b k h fits
  layer_safe (stmt.While c d) at w b k h fits = while_safe at c (deeds_of d.0) (stmt_code d.0) d.1 w b k h fits
  layer_safe (stmt.DoWhile d c) at w b k h fits = loop_safe at (deeds_of d.0) (stmt_code d.0) c d.1 w b k h fits
  layer_safe (stmt.For None c None d) at w b k h fits = inner_safe _ (for_code at None c None (stmt_code d.0)) (for_safe at [] None c [] None (deeds_of d.0) (stmt_code d.0) none_safe none_safe d.1) w b k h fits
  layer_safe (stmt.For None c (Some j) d) at w b k h fits = inner_safe _ (for_code at None c (Some (stmt_code j.0)) (stmt_code d.0)) (for_safe at [] None c (deeds_of j.0) (Some (stmt_code j.0)) (deeds_of d.0) (stmt_code d.0) none_safe j.1 d.1) w b k h fits
  layer_safe (stmt.For (Some i) c None d) at w b k h fits = inner_safe _ (for_code at (Some (stmt_code i.0)) c None (stmt_code d.0)) (for_safe at (deeds_of i.0) (Some (stmt_code i.0)) c [] None (deeds_of d.0) (stmt_code d.0) i.1 none_safe d.1) w b k h fits
  layer_safe (stmt.For (Some i) c (Some j) d) at w b k h fits = inner_safe _ (for_code at (Some (stmt_code i.0)) c (Some (stmt_code j.0)) (stmt_code d.0)) (for_safe at (deeds_of i.0) (Some (stmt_code i.0)) c (deeds_of j.0) (Some (stmt_code j.0)) (deeds_of d.0) (stmt_code d.0) i.1 j.1 d.1) w b k h fits
  layer_safe stmt.Break at w b k h fits = plain_done w b k _ h tt tt
  layer_safe stmt.Continue at w b k h fits = plain_done w b k _ h tt tt
  layer_safe (stmt.Return v) at w b k h fits = return_safe at v w b k h fits
  layer_safe (stmt.Assert e text) at w b k h fits = assert_safe at e text w b k h fits
  layer_safe (stmt.Assume e) at w b k h fits = assume_safe at e w b k h fits
  layer_safe stmt.Fence at w b k h fits = plain_done w b k _ h ((λ j m q. q), tt) (tt, tt, refl)
  layer_safe (stmt.Lock x) at w b k h fits = plain_done w b k _ h ((λ j m q. q), tt) (tt, tt, refl)
  layer_safe (stmt.Unlock x) at w b k h fits = plain_done w b k _ h ((λ j m q. q), tt) (tt, tt, refl)
  layer_safe (stmt.Start x f) at w b k h fits = start_safe at w b k h fits
  layer_safe (stmt.Join x) at w b k h fits = plain_done w b k _ h ((λ j m q. q), tt) (tt, tt, refl)
  layer_safe (stmt.Goto x) at w b k h fits = absurd fits.0
  layer_safe (stmt.Label x d) at w b k h fits = label_safe x.name (deeds_of d.0) (stmt_code d.0) d.1 w b k h fits
  layer_safe stmt.AtomBegin at w b k h fits = absurd fits.0
  layer_safe stmt.AtomEnd at w b k h fits = absurd fits.0

  stmt_safe : (s : Stmt) → Q s
  stmt_safe = ind-Stmt P Q
      (λ x y is. subst (λ z. P (roll-StmtNode z)) is (λ at. by_node (bare y) at (layer_safe y at)))
      (λ x y is. subst (λ z. Q (roll-Stmt z)) is (by_stmt (map-Stmt _ _ StmtNode Stmt (λ d. d.0) (λ e. e.0) y) (y.node.1 y.at)))

  pub body_safe : (ss : List Stmt) → Guarding (deeds_in ss) (body_code ss)
  body_safe [] w b k h fits = plain_done w b k Empty h tt tt
  body_safe (s ∷ ss) w b k h fits = more_safe (deeds_of s) (deeds_in ss) (stmt_code s) (map stmt_code ss) (stmt_safe s) (body_safe ss) w b k h fits
