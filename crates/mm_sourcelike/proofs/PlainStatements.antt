-- What the code of statements speaks of is plain, where their phrases are the grammar's.
use Rattle.std.proofs.Common.{arith, ◌≡◌, ℕ, zero, suc, ℤ, ◌+◌, ◌≤◌, Bool, true, false, if◌then◌else◌, List, [], ◌∷◌, ◌++◌, map, rules, refl, sym, subst, Option, Some, None}
use Rattle.std.specs.List.{AllByRecursion}
use Rattle.mm_goto.specs.declared.ident.At.{At}
use Rattle.mm_goto.specs.declared.ident.Ident.{Ident}
use Rattle.mm_goto.specs.declared.pure.Pure.{Pure}
use Rattle.mm_goto.specs.declared.pure.Binary.{Binary}
use Rattle.mm_goto.specs.declared.pure.Binary.TheVariants as binary
use Rattle.mm_goto.specs.Terms.{the_local, combined}
use Rattle.mm_tree.specs.declared.expr.Expr.{Expr}
use Rattle.mm_tree.specs.declared.expr.Node.{Node, the_lemmas as expr_lemmas}
use Rattle.mm_tree.specs.declared.expr.Node.TheOpen as node
use Rattle.mm_tree.specs.declared.expr.Node.TheOpen.{Node-F}
use Rattle.mm_tree.specs.declared.expr.Node.TheFolds.{map-Node}
use Rattle.mm_tree.specs.declared.item.Item.{Item}
use Rattle.mm_tree.specs.declared.item.Item.TheVariants as item
use Rattle.mm_tree.specs.declared.stmt.Left.{Left}
use Rattle.mm_tree.specs.declared.stmt.LeftNode.{LeftNode}
use Rattle.mm_tree.specs.declared.stmt.LeftNode.TheVariants as left
use Rattle.mm_tree.specs.declared.stmt.Local.{Local}
use Rattle.mm_tree.specs.declared.stmt.Value.{Value}
use Rattle.mm_tree.specs.declared.stmt.Value.TheVariants as value
use Rattle.mm_tree.specs.declared.stmt.Stmt.{Stmt, roll-Stmt}
use Rattle.mm_tree.specs.declared.stmt.StmtNode.{StmtNode, roll-StmtNode}
use Rattle.mm_tree.specs.declared.stmt.StmtNode.TheOpen as stmt
use Rattle.mm_tree.specs.declared.stmt.StmtNode.TheOpen.{StmtNode-F, Stmt-F}
use Rattle.mm_tree.specs.declared.stmt.StmtNode.TheFolds.{ind-Stmt, fold-StmtNode, fold-roll-StmtNode, fold-roll-Stmt, map-StmtNode, map-Stmt}
use Rattle.mm_tree.specs.Trees.{node_of}
use Rattle.mm_flow.specs.declared.names.Named.{Named}
use Rattle.mm_flow.specs.declared.names.Parts.{Parts}
use Rattle.mm_flow.specs.Expressions.{Scope, Val, Vals, expr_value, values, the_spot, zero_value}
use Rattle.mm_flow.specs.Programs.{body_of, most_calls, in_thread, thread_code}
use Rattle.mm_flow.specs.Scopes.{spot_of}
use Rattle.mm_flow.specs.Statements.{Known, Doing, Function, Within, scope, reads, function_of, is_function, as_function, is_input, sets, called, call_of, call_value, aim_of, aim_at, value_of, first_value, declared_one, declared, local_left, left_aim, assigned_to, assigned, updated_to, set_ret, returned, in_order, while_code, optional, for_code, stmt_step, placed_step, stmt_code, body_code, inline_at, condition}
use Rattle.mm_sourcelike.specs.Grammatical.{Phrase, alone, updating, IsPhrase, IsUnsigned, node_tokens, tokens_of, value_phrases, optional_phrases, left_phrases, local_phrases, condition_phrases, all_phrases, stmt_phrases, phrases_layer, phrases_of, body_phrases, item_phrases}
use Rattle.mm_print.specs.Printable.{updates}
use Rattle.mm_sourcelike.specs.Ints.{numbers_of, node_numbers}
use Rattle.mm_sourcelike.proofs.Checking.{false_is_not}
use Rattle.mm_sourcelike.proofs.Evaluating.{all_left, all_right, node_ints}
use Rattle.mm_sourcelike.proofs.Lengthening.{node_code}
use Rattle.mm_sourcelike.proofs.PlainExpressions.{IsPlain, PlainFlow, PlainVal, PlainAim, val_up, alone_plain, beside_plain, cell_plain, indexed_plain, followed_plain, division_plain, one_plain, node_length, expr_plain}
use Rattle.mm_sourcelike.proofs.PlainPures.{Plain, plain_asserted, plain_up, constant_plain, local_plain, combined_plain, is_lazy}
use Rattle.mm_sourcelike.proofs.Scoping.{none_is_not, same_some}
use Rattle.mm_sourcelike.proofs.Starting.{numbers_are}

-- ---- values

-- a value as an expression of at most 200 tokens has it
abbrev pub ShortVal : Val → Type 0
ShortVal v = PlainVal 200 v

phrase_short : (s : Scope) (e : Expr) (n : ℕ) → IsPhrase 200 (alone e) → ShortVal (expr_value e s n)
phrase_short s e n h = val_up (tokens_of e) 200 (expr_value e s n) h.short (expr_plain e s n h.short h.numbers).plain

local_short : (n : ℕ) → Plain 200 200 (the_local n)
local_short n = plain_up 1 200 1 200 (the_local n) (omega arith) (omega arith) (local_plain n)

zero_short : Plain 200 200 zero_value
zero_short = plain_up 1 200 1 200 zero_value (omega arith) (omega arith) (constant_plain 0)

alone_short : (e : Pure) → Plain 200 200 e → IsPlain e
alone_short e h = alone_plain 200 e (omega arith) h

record ShortVals (vs : Vals) : Type 0 where
  flow : PlainFlow vs.flow
  pures : AllByRecursion (Plain 200 200) vs.pures

values_short : (s : Scope) (es : List Expr) (n : ℕ) → AllByRecursion (IsPhrase 200) (map alone es) → ShortVals (values s es n)
values_short s [] n h = record { flow = tt; pures = tt }
values_short s (e ∷ es) n h =
    let v = phrase_short s e n h.0 in
    let vs = values_short s es (expr_value e s n).next h.1 in
    record { flow = (v.flow, vs.flow); pures = (v.pure, vs.pures) }

sets_plain : (at : At) (es : List Pure) (n : ℕ) → AllByRecursion (Plain 200 200) es → PlainFlow (sets at es n)
sets_plain at [] n h = tt
sets_plain at (e ∷ es) n h = (alone_short e h.0, sets_plain at es (n + 1) h.1)

-- the code of each function that is called is plain
pub record PlainCalls (w : Within) : Type 0 where
  pub each : (x : Ident) (f : Function) → function_of w.items w.parts.asserts x ≡ Some f → (names : List Named) (n ret : ℕ) → PlainFlow (w.inline f names n ret).flow

tokens_are : (e : Expr) → tokens_of e ≡ node_tokens (map-Node Node Expr ℕ ℕ node_length tokens_of (node_of e))
unfolding tokens_of
tokens_are e = search (rules, expr_lemmas)

aim_by : (s : Scope) (at : At) (e : Expr) (d : Node-F Node Expr) (n : ℕ) → node_tokens (map-Node Node Expr ℕ ℕ node_length tokens_of d) ≤ 200 → AllByRecursion IsUnsigned (node_numbers (map-Node Node Expr (List ℤ) (List ℤ) node_ints numbers_of d)) → ShortVal (expr_value e s n) → PlainAim (aim_of s at e d n)
aim_by s at e (node.AddrName w) n l h whole = cell_plain (the_spot (spot_of s.spots w.name)) n
aim_by s at e (node.AddrIndex w x) n l h whole =
    indexed_plain at (the_spot (spot_of s.spots w.name)) (tokens_of x) (expr_value x s n) (omega (arith, l)) (expr_plain x s n (omega (arith, l)) h).plain
aim_by s at e (node.Number z) n l h whole = followed_plain at 200 (expr_value e s n) (omega arith) whole
aim_by s at e node.Null n l h whole = followed_plain at 200 (expr_value e s n) (omega arith) whole
aim_by s at e (node.Name x) n l h whole = followed_plain at 200 (expr_value e s n) (omega arith) whole
aim_by s at e (node.Index x y) n l h whole = followed_plain at 200 (expr_value e s n) (omega arith) whole
aim_by s at e (node.Deref x) n l h whole = followed_plain at 200 (expr_value e s n) (omega arith) whole
aim_by s at e (node.Un op x) n l h whole = followed_plain at 200 (expr_value e s n) (omega arith) whole
aim_by s at e (node.Bin op x y) n l h whole = followed_plain at 200 (expr_value e s n) (omega arith) whole
aim_by s at e (node.Cond x y z) n l h whole = followed_plain at 200 (expr_value e s n) (omega arith) whole

aim_plain : (s : Scope) (at : At) (e : Expr) (n : ℕ) → IsPhrase 200 (alone e) → PlainAim (aim_at s at e n)
aim_plain s at e n h = aim_by s at e (node_of e) n (omega (arith, h.short, tokens_are e)) (subst (AllByRecursion IsUnsigned) (numbers_are e) h.numbers) (phrase_short s e n h)

module _ (w : Within) (calls : PlainCalls w) (names : List Named) where
  called_short : (at : At) (x : Ident) (es : List Expr) (n : ℕ) (f : Function) → function_of w.items w.parts.asserts x ≡ Some f → AllByRecursion (IsPhrase 200) (map alone es) → ShortVal (called w at es names n f)
  called_short at x es n f is h =
      let vs = values_short (scope w names) es _ h in
      record {
        flow = (vs.flow, (sets_plain at _ n vs.pures, (alone_short zero_value zero_short, calls.each x f is _ _ _)));
        pure = local_short _;
      }

  value_short : (v : Value) (n : ℕ) → AllByRecursion (IsPhrase 200) (value_phrases v) → ShortVal (value_of w names n v)
  value_short (value.Plain e) n h = phrase_short (scope w names) e n h.0
  value_short (value.Call at x es) n h = by (is_input x)
    where
      found : (o : Option Function) → function_of w.items w.parts.asserts x ≡ o → ShortVal (call_of w at es names n o)
      found None e = record { flow = tt; pure = zero_short }
      found (Some f) e = called_short at x es n f e h

      by : (b : Bool) → ShortVal (call_value w at x es names n b)
      by true = record { flow = tt; pure = local_short n }
      by false = found (function_of w.items w.parts.asserts x) refl
  value_short (value.FetchAdd at p e) n h =
      let a = aim_plain (scope w names) at p n h.0 in
      let v = phrase_short (scope w names) e (aim_at (scope w names) at p n).next h.1.0 in
      record { flow = (a.flow, (v.flow, (a.target, beside_plain 200 _ (omega arith) v.pure))); pure = local_short _ }
  value_short (value.CompareSwap at p e f) n h =
      let m : ℕ = (aim_at (scope w names) at p n).next in
      let a = aim_plain (scope w names) at p n h.0 in
      let v = phrase_short (scope w names) e m h.1.0 in
      let u = phrase_short (scope w names) f (expr_value e (scope w names) m).next h.1.1.0 in
      record { flow = (a.flow, (v.flow, (u.flow, (a.target, beside_plain 200 _ (omega arith) v.pure, beside_plain 200 _ (omega arith) u.pure)))); pure = local_short _ }

  first_short : (v : Option Value) (n : ℕ) → AllByRecursion (IsPhrase 200) (optional_phrases v) → ShortVal (first_value w names n v)
  first_short None n h = record { flow = tt; pure = zero_short }
  first_short (Some v) n h = value_short v n h

  -- ---- assignments

  left_plain : (at : At) (l : LeftNode) (n : ℕ) → AllByRecursion (IsPhrase 200) (left_phrases l) → PlainAim (left_aim (scope w names) at l n)
  left_plain at (left.Name x) n h = cell_plain (the_spot (spot_of w.parts.spots x)) n
  left_plain at (left.Index x e) n h = indexed_plain at (the_spot (spot_of w.parts.spots x)) 200 (expr_value e (scope w names) n) (omega arith) (phrase_short (scope w names) e n h.0)
  left_plain at (left.Deref e) n h = followed_plain at 200 (expr_value e (scope w names) n) (omega arith) (phrase_short (scope w names) e n h.0)

  assigned_plain : (n : ℕ) (l : Left) (v : Value) (o : Option ℕ) → AllByRecursion (IsPhrase 200) (left_phrases l.node) → AllByRecursion (IsPhrase 200) (value_phrases v) → PlainFlow (assigned_to w names n l v o).flow
  assigned_plain n l v (Some t) h g = let u = value_short v n g in (u.flow, alone_short _ u.pure)
  assigned_plain n l v None h g =
      let a = left_plain l.at l.node n h in
      let u = value_short v _ g in
      (a.flow, (u.flow, (a.target, beside_plain 200 _ (omega arith) u.pure)))

  eager : (op : Binary) → updates op ≡ true → is_lazy op ≡ true → ⊥
  eager binary.Land h l = false_is_not h
  eager binary.Lor h l = false_is_not h
  eager binary.Add h l = false_is_not l
  eager binary.Sub h l = false_is_not l
  eager binary.Mul h l = false_is_not l
  eager binary.Div h l = false_is_not l
  eager binary.Rem h l = false_is_not l
  eager binary.Shl h l = false_is_not l
  eager binary.Shr h l = false_is_not l
  eager binary.Lt h l = false_is_not l
  eager binary.Le h l = false_is_not l
  eager binary.Gt h l = false_is_not l
  eager binary.Ge h l = false_is_not l
  eager binary.Eq h l = false_is_not l
  eager binary.Ne h l = false_is_not l
  eager binary.And h l = false_is_not l
  eager binary.Xor h l = false_is_not l
  eager binary.Or h l = false_is_not l

  both_plain : (op : Binary) (t : ℕ) (e : Pure) → updates op ≡ true → Plain 200 200 e → Plain 202 202 (combined op (the_local t) e)
  both_plain op t e h g =
      plain_up (1 + 200 + 1) 202 (200 + 1) 202 (combined op (the_local t) e) (omega arith) (omega arith)
      (combined_plain 1 200 1 200 200 op (the_local t) e (omega arith) (omega arith) (local_plain t) g (λ l. absurd (eager op h l)))

  updated_plain : (n : ℕ) (l : Left) (op : Binary) (e : Expr) (o : Option ℕ) → AllByRecursion (IsPhrase 200) (left_phrases l.node) → IsPhrase 200 (updating op e) → PlainFlow (updated_to w names n l op e o).flow
  updated_plain n l op e (Some t) h g =
      let u = phrase_short (scope w names) e n (record { short = g.short; numbers = g.numbers; update = tt }) in
      (u.flow, (division_plain op l.at 200 _ (omega arith) u.pure, plain_up 202 410 202 210 _ (omega arith) (omega arith) (both_plain op t _ g.update u.pure)))
  updated_plain n l op e None h g =
      let a = left_plain l.at l.node n h in
      let u = phrase_short (scope w names) e _ (record { short = g.short; numbers = g.numbers; update = tt }) in
      (a.flow, (a.target, (u.flow, (division_plain op l.at 200 _ (omega arith) u.pure, (a.target, plain_up 202 205 202 205 _ (omega arith) (omega arith) (both_plain op _ _ g.update u.pure))))))

-- ---- statements

abbrev pub Plainly : List Phrase → Doing → Type 0
Plainly phrases d = (w : Within) (k : Known) → PlainCalls w → AllByRecursion (IsPhrase 200) phrases → PlainFlow (d w k).flow

locals_plain : (ls : List Local) → Plainly (local_phrases ls) (λ w k. declared w ls k)
locals_plain [] w k c h = tt
locals_plain (l ∷ ls) w k c h =
    let v = first_short w c k.names l.value (k.next + 1) (all_left (IsPhrase 200) (optional_phrases l.value) (local_phrases ls) h) in
    ((v.flow, alone_short _ v.pure), locals_plain ls w (declared_one w k l).known c (all_right (IsPhrase 200) (optional_phrases l.value) (local_phrases ls) h))

set_ret_plain : (at : At) (o : Option ℕ) (e : Pure) → Plain 200 200 e → PlainFlow (set_ret at o e)
set_ret_plain at None e h = tt
set_ret_plain at (Some l) e h = alone_short e h

return_plain : (at : At) (v : Option Value) (w : Within) (names : List Named) (n : ℕ) → PlainCalls w → AllByRecursion (IsPhrase 200) (optional_phrases v) → PlainFlow (returned w at names n v).flow
return_plain at None w names n c h = tt
return_plain at (Some v) w names n c h = let u = value_short w c names v n h in (u.flow, (set_ret_plain at w.ret _ u.pure, tt))

condition_plain : (c : Option Expr) (s : Scope) (n : ℕ) → AllByRecursion (IsPhrase 200) (condition_phrases c) → PlainFlow (condition s c n).flow × IsPlain (condition s c n).pure
condition_plain None s n h = (tt, one_plain)
condition_plain (Some e) s n h = let u = phrase_short s e n h.0 in (u.flow, alone_short _ u.pure)

more_plain : (ps qs : List Phrase) (d : Doing) (ds : List Doing) → Plainly ps d → Plainly qs (in_order ds) → Plainly (ps ++ qs) (in_order (d ∷ ds))
more_plain ps qs d ds one rest w k c h = (one w k c (all_left (IsPhrase 200) ps qs h), rest w (d w k).known c (all_right (IsPhrase 200) ps qs h))

test_plain : (w : Within) (k : Known) (e : Expr) → IsPhrase 200 (alone e) → PlainFlow (reads w k.names e k.next).flow × IsPlain (reads w k.names e k.next).pure
test_plain w k e h = let u = phrase_short (scope w k.names) e k.next h in (u.flow, alone_short _ u.pure)

none_plain : Plainly [] (optional None)
none_plain w k c h = tt

for_plain : (at : At) (ps qs rs : List Phrase) (i j : Option Doing) (c : Option Expr) (d : Doing) → Plainly ps (optional i) → Plainly qs (optional j) → Plainly rs d → Plainly (ps ++ (condition_phrases c ++ (qs ++ rs))) (for_code at i c j d)
unfolding for_code
for_plain at ps qs rs i j c d pi pj pd w k g h =
    let h1 = all_right (IsPhrase 200) ps (condition_phrases c ++ (qs ++ rs)) h in
    let h2 = all_right (IsPhrase 200) (condition_phrases c) (qs ++ rs) h1 in
    let t = condition_plain c (scope w (optional i w k).known.names) (optional i w k).known.next (all_left (IsPhrase 200) (condition_phrases c) (qs ++ rs) h1) in
    (pi w k g (all_left (IsPhrase 200) ps (condition_phrases c ++ (qs ++ rs)) h), (t.0, t.1, pd w _ g (all_right (IsPhrase 200) qs rs h2), pj w _ g (all_left (IsPhrase 200) qs rs h2)))

abbrev node_phrases : StmtNode → List Phrase
node_phrases = fold-StmtNode (List Phrase) (List Phrase) stmt_phrases phrases_layer

abbrev P : StmtNode → Type 0
P d = (at : At) → Plainly (node_phrases d) (node_code d at)

abbrev Q : Stmt → Type 0
Q s = Plainly (phrases_of s) (stmt_code s)

abbrev code_layer : StmtNode-F StmtNode Stmt → At → Doing
code_layer z at = stmt_step (map-StmtNode StmtNode Stmt (At → Doing) Doing node_code stmt_code z) at

abbrev said_layer : StmtNode-F StmtNode Stmt → List Phrase
said_layer z = stmt_phrases (map-StmtNode StmtNode Stmt (List Phrase) (List Phrase) node_phrases phrases_of z)

by_node : (z : StmtNode-F StmtNode Stmt) (at : At) → Plainly (said_layer z) (code_layer z at) → Plainly (node_phrases (roll-StmtNode z)) (node_code (roll-StmtNode z) at)
unfolding stmt_code phrases_of
by_node z at g =
    subst (λ (f : At → Doing). Plainly (node_phrases (roll-StmtNode z)) (f at)) (sym (fold-roll-StmtNode (At → Doing) Doing stmt_step placed_step z))
    (subst (λ (f : List Phrase). Plainly f (code_layer z at)) (sym (fold-roll-StmtNode (List Phrase) (List Phrase) stmt_phrases phrases_layer z)) g)

by_stmt : (z : Stmt-F StmtNode Stmt) → Plainly (node_phrases z.node) (node_code z.node z.at) → Q (roll-Stmt z)
unfolding stmt_code phrases_of
by_stmt z g =
    subst (λ (f : Doing). Plainly (phrases_of (roll-Stmt z)) f) (sym (fold-roll-Stmt (At → Doing) Doing stmt_step placed_step z))
    (subst (λ (f : List Phrase). Plainly f (node_code z.node z.at)) (sym (fold-roll-Stmt (List Phrase) (List Phrase) stmt_phrases phrases_layer z)) g)

abbrev Proved : Type 0
Proved = (s : Stmt) × Q s

abbrev stmts_in : List Proved → List Stmt
stmts_in ss = map (λ (s : Proved). s.0) ss

parts_plain : (ss : List Proved) → Plainly (all_phrases (map phrases_of (stmts_in ss))) (in_order (map stmt_code (stmts_in ss)))
parts_plain [] w k c h = tt
parts_plain (s ∷ ss) w k c h = more_plain (phrases_of s.0) (all_phrases (map phrases_of (stmts_in ss))) (stmt_code s.0) (map stmt_code (stmts_in ss)) s.1 (parts_plain ss) w k c h

abbrev Layer : Type 0
Layer = StmtNode-F ((d : StmtNode) × P d) Proved

abbrev bare : Layer → StmtNode-F StmtNode Stmt
bare y = map-StmtNode ((d : StmtNode) × P d) Proved StmtNode Stmt (λ d. d.0) (λ e. e.0) y

layer_plain : (y : Layer) (at : At) → Plainly (said_layer (bare y)) (code_layer (bare y) at)
unfolding assigned while_code
layer_plain stmt.Empty at w k c h = tt
layer_plain (stmt.Block ss) at w k c h = parts_plain ss w k c h
layer_plain (stmt.Declare ls) at w k c h = locals_plain ls w k c h
layer_plain (stmt.DeclareThread xs) at w k c h = tt
layer_plain (stmt.Assign l v) at w k c h = assigned_plain w c k.names k.next l v (local_left k.names l.node) (all_left (IsPhrase 200) (left_phrases l.node) (value_phrases v) h) (all_right (IsPhrase 200) (left_phrases l.node) (value_phrases v) h)
layer_plain (stmt.Update l op e) at w k c h = updated_plain w c k.names k.next l op e (local_left k.names l.node) (all_left (IsPhrase 200) (left_phrases l.node) (updating op e ∷ []) h) (all_right (IsPhrase 200) (left_phrases l.node) (updating op e ∷ []) h).0
layer_plain (stmt.Do v) at w k c h = (value_short w c k.names v k.next h).flow
layer_plain (stmt.If e d None) at w k c h =
    let t = test_plain w k e h.0 in
    (t.0, (t.1, d.1 w _ c (all_left (IsPhrase 200) (phrases_of d.0) [] h.1)))
layer_plain (stmt.If e d (Some o)) at w k c h =
    let t = test_plain w k e h.0 in
    (t.0, (t.1, d.1 w _ c (all_left (IsPhrase 200) (phrases_of d.0) (phrases_of o.0) h.1), o.1 w _ c (all_right (IsPhrase 200) (phrases_of d.0) (phrases_of o.0) h.1)))
layer_plain (stmt.While e d) at w k c h = let t = test_plain w k e h.0 in (t.0, t.1, d.1 w _ c h.1)
layer_plain (stmt.DoWhile d e) at w k c h =
    let t = test_plain w (record { names = k.names; next = (stmt_code d.0 w k).known.next; seen = (stmt_code d.0 w k).known.seen }) e (all_right (IsPhrase 200) (phrases_of d.0) (alone e ∷ []) h).0 in
    (d.1 w k c (all_left (IsPhrase 200) (phrases_of d.0) (alone e ∷ []) h), t.0, t.1)
layer_plain (stmt.For None e None d) at w k c h = for_plain at [] [] (phrases_of d.0) None None e (stmt_code d.0) none_plain none_plain d.1 w k c h
layer_plain (stmt.For None e (Some j) d) at w k c h = for_plain at [] (phrases_of j.0) (phrases_of d.0) None (Some (stmt_code j.0)) e (stmt_code d.0) none_plain j.1 d.1 w k c h
layer_plain (stmt.For (Some i) e None d) at w k c h = for_plain at (phrases_of i.0) [] (phrases_of d.0) (Some (stmt_code i.0)) None e (stmt_code d.0) i.1 none_plain d.1 w k c h
layer_plain (stmt.For (Some i) e (Some j) d) at w k c h = for_plain at (phrases_of i.0) (phrases_of j.0) (phrases_of d.0) (Some (stmt_code i.0)) (Some (stmt_code j.0)) e (stmt_code d.0) i.1 j.1 d.1 w k c h
layer_plain stmt.Break at w k c h = tt
layer_plain stmt.Continue at w k c h = tt
layer_plain (stmt.Return v) at w k c h = return_plain at v w k.names k.next c h
layer_plain (stmt.Assert e text) at w k c h = let t = test_plain w k e h.0 in (t.0, plain_asserted 410 210 _ t.1)
layer_plain (stmt.Assume e) at w k c h = test_plain w k e h.0
layer_plain stmt.Fence at w k c h = tt
layer_plain (stmt.Lock x) at w k c h = tt
layer_plain (stmt.Unlock x) at w k c h = tt
layer_plain (stmt.Start x f) at w k c h = tt
layer_plain (stmt.Join x) at w k c h = tt
layer_plain (stmt.Goto x) at w k c h = tt
layer_plain (stmt.Label x d) at w k c h = (tt, d.1 w k c h)
layer_plain stmt.AtomBegin at w k c h = tt
layer_plain stmt.AtomEnd at w k c h = tt

stmt_plain : (s : Stmt) → Q s
stmt_plain = ind-Stmt P Q
    (λ x y is. subst (λ z. P (roll-StmtNode z)) is (λ at. by_node (bare y) at (layer_plain y at)))
    (λ x y is. subst (λ z. Q (roll-Stmt z)) is (by_stmt (map-Stmt _ _ StmtNode Stmt (λ d. d.0) (λ e. e.0) y) (y.node.1 y.at)))

body_plain : (ss : List Stmt) → Plainly (body_phrases ss) (body_code ss)
body_plain [] w k c h = tt
body_plain (s ∷ ss) w k c h = more_plain (phrases_of s) (body_phrases ss) (stmt_code s) (map stmt_code ss) (stmt_plain s) (body_plain ss) w k c h

-- ---- functions

function_phrases : (items : List Item) (ns : List ℕ) (x : Ident) (f : Function) → AllByRecursion (IsPhrase 200) (item_phrases items) → function_of items ns x ≡ Some f → AllByRecursion (IsPhrase 200) (body_phrases f.body)
function_phrases [] ns x f h e = absurd (none_is_not f e)
function_phrases (i ∷ is) [] x f h e = absurd (none_is_not f e)
function_phrases (i ∷ is) (n ∷ ns) x f h e = by (is_function x i) (function_phrases is ns x f (all_right (IsPhrase 200) (body_phrases (body_of i)) (item_phrases is) h)) e
  where
    here : (j : Item) → as_function j n ≡ Some f → AllByRecursion (IsPhrase 200) (body_phrases (body_of j)) → AllByRecursion (IsPhrase 200) (body_phrases f.body)
    here (item.Globals gs) q g = absurd (none_is_not f q)
    here (item.Mutexes ws) q g = absurd (none_is_not f q)
    here (item.Threads ws) q g = absurd (none_is_not f q)
    here (item.InputDecl at y) q g = absurd (none_is_not f q)
    here (item.Function at gives y ps ss) q g = subst (λ (r : Function). AllByRecursion (IsPhrase 200) (body_phrases r.body)) (same_some _ f q) g

    by : (b : Bool) → (function_of is ns x ≡ Some f → AllByRecursion (IsPhrase 200) (body_phrases f.body)) → (if b then as_function i n else function_of is ns x) ≡ Some f → AllByRecursion (IsPhrase 200) (body_phrases f.body)
    by true g q = here i q (all_left (IsPhrase 200) (body_phrases (body_of i)) (item_phrases is) h)
    by false g q = g q

module _ (parts : Parts) (items : List Item) (phrases : AllByRecursion (IsPhrase 200) (item_phrases items)) where
  calls_plain : (d : ℕ) (ret : Option ℕ) → PlainCalls (record { parts = parts; items = items; inline = inline_at parts items d; ret = ret })
  calls_plain zero ret = record { each = λ x f e names n m. tt }
  calls_plain (suc d) ret = record { each = λ x f e names n m. body_plain f.body _ _ (calls_plain d (Some m)) (function_phrases items parts.asserts x f phrases e) }

  -- the code of a function's thread
  pub code_plain : (x : Ident) (f : Function) → function_of items parts.asserts x ≡ Some f → PlainFlow (thread_code parts items f).flow
  code_plain x f e = body_plain f.body (in_thread parts items) _ (calls_plain most_calls None) (function_phrases items parts.asserts x f phrases e)
