-- No statement takes a fresh local back, nor an assertion or a create that stands before it.
use Rattle.std.proofs.Common.{arith, ◌≡◌, ℕ, zero, suc, ◌+◌, ◌≤◌, List, [], ◌∷◌, map, length, Bool, true, false, refl, sym, ap, subst, Option, Some, None}
use Rattle.std.specs.List.{AllByRecursion}
use Rattle.mm_goto.specs.declared.ident.At.{At}
use Rattle.mm_goto.specs.declared.ident.Ident.{Ident}
use Rattle.mm_goto.specs.declared.pure.Binary.{Binary}
use Rattle.mm_tree.specs.declared.expr.Expr.{Expr}
use Rattle.mm_tree.specs.declared.expr.Node.{Node}
use Rattle.mm_tree.specs.declared.expr.Node.TheOpen as node
use Rattle.mm_tree.specs.declared.expr.Node.TheOpen.{Node-F}
use Rattle.mm_tree.specs.declared.stmt.Left.{Left}
use Rattle.mm_tree.specs.declared.stmt.LeftNode.{LeftNode}
use Rattle.mm_tree.specs.declared.stmt.LeftNode.TheVariants as left
use Rattle.mm_tree.specs.declared.stmt.Local.{Local}
use Rattle.mm_tree.specs.declared.stmt.Value.{Value}
use Rattle.mm_tree.specs.declared.stmt.Value.TheVariants as value
use Rattle.mm_tree.specs.declared.stmt.Stmt.{Stmt, roll-Stmt}
use Rattle.mm_tree.specs.declared.stmt.StmtNode.{StmtNode, roll-StmtNode}
use Rattle.mm_tree.specs.declared.stmt.StmtNode.TheOpen as stmt
use Rattle.mm_tree.specs.declared.stmt.StmtNode.TheOpen.{StmtNode-F, Stmt-F}
use Rattle.mm_tree.specs.declared.stmt.StmtNode.TheFolds.{ind-Stmt, fold-StmtNode, fold-roll-StmtNode, fold-roll-Stmt, map-StmtNode, map-Stmt}
use Rattle.mm_tree.specs.declared.item.Item.{Item}
use Rattle.mm_tree.specs.Trees.{node_of}
use Rattle.mm_flow.specs.declared.names.Named.{Named}
use Rattle.mm_flow.specs.declared.names.Parts.{Parts}
use Rattle.mm_flow.specs.Expressions.{Scope, expr_value, values}
use Rattle.mm_flow.specs.Statements.{Known, Did, Function, Within, Doing, bound, function_of, is_input, call_of, call_value, scope, reads, from, aim_of, aim_at, value_of, first_value, declared_one, declared, local_left, left_aim, assigned_to, assigned, updated_to, returned, in_order, inner, if_code, choice_code, while_code, do_code, optional, condition, turns, for_code, stmt_step, placed_step, stmt_code, body_code, inline_at}
use Rattle.mm_sourcelike.proofs.Growth.{grows, values_grow}

pub record Lengthens (k : Known) (d : Did) : Type 0 where
  pub next : k.next ≤ d.known.next
  pub asserts : k.seen.asserts ≤ d.known.seen.asserts
  pub starts : k.seen.starts ≤ d.known.seen.starts

-- called functions take none back
abbrev pub CallsGrow : Within → Type 0
CallsGrow w = (f : Function) (names : List Named) (n ret : ℕ) → n ≤ (w.inline f names n ret).known.next

abbrev pub Long : Doing → Type 0
Long d = (w : Within) → CallsGrow w → (k : Known) → Lengthens k (d w k)

-- ---- values

call_grows : (w : Within) (at : At) (es : List Expr) (names : List Named) (n : ℕ) (f : Option Function) → CallsGrow w → n ≤ (call_of w at es names n f).next
call_grows w at es names n (Some f) g =
    let ret : ℕ = n + length f.params in
    omega (arith, values_grow (scope w names) es (ret + 1), g f (bound f.params n) (values (scope w names) es (ret + 1)).next ret)
call_grows w at es names n None g = omega arith

value_call_grows : (w : Within) (at : At) (f : Ident) (es : List Expr) (names : List Named) (n : ℕ) (b : Bool) → CallsGrow w → n ≤ (call_value w at f es names n b).next
value_call_grows w at f es names n true g = omega arith
value_call_grows w at f es names n false g = call_grows w at es names n (function_of w.items w.parts.asserts f) g

pub aim_grows : (s : Scope) (at : At) (p : Expr) (d : Node-F Node Expr) (n : ℕ) → n ≤ (aim_of s at p d n).next
aim_grows s at p (node.AddrName x) n = omega arith
aim_grows s at p (node.AddrIndex x e) n = grows e s n
aim_grows s at p (node.Number z) n = grows p s n
aim_grows s at p node.Null n = grows p s n
aim_grows s at p (node.Name x) n = grows p s n
aim_grows s at p (node.Index x e) n = grows p s n
aim_grows s at p (node.Deref e) n = grows p s n
aim_grows s at p (node.Un op e) n = grows p s n
aim_grows s at p (node.Bin op a b) n = grows p s n
aim_grows s at p (node.Cond c a b) n = grows p s n

pub value_grows : (w : Within) (names : List Named) (n : ℕ) (v : Value) → CallsGrow w → n ≤ (value_of w names n v).next
value_grows w names n (value.Plain e) g = grows e (scope w names) n
value_grows w names n (value.Call at f es) g = value_call_grows w at f es names n (is_input f) g
value_grows w names n (value.FetchAdd at p e) g =
    let a : ℕ = (aim_at (scope w names) at p n).next in
    omega (arith, aim_grows (scope w names) at p (node_of p) n, grows e (scope w names) a)
value_grows w names n (value.CompareSwap at p e f) g =
    let a : ℕ = (aim_at (scope w names) at p n).next in
    let v : ℕ = (expr_value e (scope w names) a).next in
    omega (arith, aim_grows (scope w names) at p (node_of p) n, grows e (scope w names) a, grows f (scope w names) v)

pub first_grows : (w : Within) (names : List Named) (n : ℕ) (v : Option Value) → CallsGrow w → n ≤ (first_value w names n v).next
first_grows w names n None g = omega arith
first_grows w names n (Some v) g = value_grows w names n v g

pub left_grows : (s : Scope) (at : At) (l : LeftNode) (n : ℕ) → n ≤ (left_aim s at l n).next
left_grows s at (left.Name x) n = omega arith
left_grows s at (left.Index x e) n = grows e s n
left_grows s at (left.Deref e) n = grows e s n

assigned_grows : (w : Within) (names : List Named) (n : ℕ) (l : Left) (v : Value) (t : Option ℕ) → CallsGrow w → n ≤ (assigned_to w names n l v t).next
assigned_grows w names n l v (Some t) g = value_grows w names n v g
assigned_grows w names n l v None g =
    omega (arith, left_grows (scope w names) l.at l.node n, value_grows w names (left_aim (scope w names) l.at l.node n).next v g)

updated_grows : (w : Within) (names : List Named) (n : ℕ) (l : Left) (op : Binary) (e : Expr) (t : Option ℕ) → n ≤ (updated_to w names n l op e t).next
updated_grows w names n l op e (Some t) = grows e (scope w names) n
updated_grows w names n l op e None =
    let a : ℕ = (left_aim (scope w names) l.at l.node n).next in
    omega (arith, left_grows (scope w names) l.at l.node n, grows e (scope w names) (a + 1))

returned_grows : (w : Within) (at : At) (names : List Named) (n : ℕ) (v : Option Value) → CallsGrow w → n ≤ (returned w at names n v).next
returned_grows w at names n None g = omega arith
returned_grows w at names n (Some v) g = value_grows w names n v g

-- ---- statements

same : (k : Known) (d : Did) → d.known ≡ k → Lengthens k d
same k d e = record { next = omega (arith, ap (λ (j : Known). j.next) e); asserts = omega (arith, ap (λ (j : Known). j.seen.asserts) e); starts = omega (arith, ap (λ (j : Known). j.seen.starts) e) }

abbrev EachLong : List Doing → Type 0
EachLong ds = AllByRecursion Long ds

pub in_order_long : (ds : List Doing) → AllByRecursion Long ds → Long (in_order ds)
in_order_long [] h w g k = same k _ refl
in_order_long (d ∷ ds) h w g k =
    let a = h.0 w g k in
    let b = in_order_long ds h.1 w g (d w k).known in
    record { next = omega (arith, a.next, b.next); asserts = omega (arith, a.asserts, b.asserts); starts = omega (arith, a.starts, b.starts) }

inner_long : (d : Doing) → Long d → Long (inner d)
inner_long d h w g k = let a = h w g k in record { next = a.next; asserts = a.asserts; starts = a.starts }

pub declared_long : (ls : List Local) → Long (λ w k. declared w ls k)
declared_long [] w g k = same k _ refl
declared_long (l ∷ ls) w g k =
    let b = declared_long ls w g (declared_one w k l).known in
    record { next = omega (arith, first_grows w k.names (k.next + 1) l.value g, b.next); asserts = b.asserts; starts = b.starts }

if_long : (at : At) (c : Expr) (d : Doing) → Long d → Long (if_code at c d)
if_long at c d h w g k =
    let n : ℕ = (reads w k.names c k.next).next in
    let a = h w g (from k n) in
    record { next = omega (arith, grows c (scope w k.names) k.next, a.next); asserts = a.asserts; starts = a.starts }

choice_long : (at : At) (c : Expr) (d e : Doing) → Long d → Long e → Long (choice_code at c d e)
choice_long at c d e h i w g k =
    let n : ℕ = (reads w k.names c k.next).next in
    let a = h w g (from k n) in
    let b = i w g (inner d w (from k n)).known in
    record { next = omega (arith, grows c (scope w k.names) k.next, a.next, b.next); asserts = omega (arith, a.asserts, b.asserts); starts = omega (arith, a.starts, b.starts) }

abbrev IfLong : Option Doing → Type 0
IfLong None = Unit {0}
IfLong (Some d) = Long d

while_long : (at : At) (c : Expr) (d : Doing) → Long d → Long (while_code at c d)
unfolding while_code
while_long at c d h w g k =
    let n : ℕ = (reads w k.names c k.next).next in
    let a = h w g (from k n) in
    record { next = omega (arith, grows c (scope w k.names) k.next, a.next); asserts = a.asserts; starts = a.starts }

do_long : (at : At) (d : Doing) (c : Expr) → Long d → Long (do_code at d c)
do_long at d c h w g k =
    let a = h w g k in
    record { next = omega (arith, a.next, grows c (scope w k.names) (d w k).known.next); asserts = a.asserts; starts = a.starts }

pub optional_long : (d : Option Doing) → IfLong d → Long (optional d)
optional_long None h w g k = same k _ refl
optional_long (Some d) h w g k = h w g k

pub condition_grows : (s : Scope) (c : Option Expr) (n : ℕ) → n ≤ (condition s c n).next
condition_grows s None n = omega arith
condition_grows s (Some c) n = grows c s n

turns_long : (at : At) (c : Option Expr) (j : Option Doing) (d : Doing) → IfLong j → Long d → Long (turns at c j d)
turns_long at c j d i h w g k =
    let n : ℕ = (condition (scope w k.names) c k.next).next in
    let a = h w g (from k n) in
    let b = optional_long j i w g (inner d w (from k n)).known in
    record { next = omega (arith, condition_grows (scope w k.names) c k.next, a.next, b.next); asserts = omega (arith, a.asserts, b.asserts); starts = omega (arith, a.starts, b.starts) }

for_long : (at : At) (i : Option Doing) (c : Option Expr) (j : Option Doing) (d : Doing) → IfLong i → IfLong j → Long d → Long (for_code at i c j d)
unfolding for_code
for_long at i c j d hi hj hd w g k =
    let a = optional_long i hi w g k in
    let b = turns_long at c j d hj hd w g (optional i w k).known in
    record { next = omega (arith, a.next, b.next); asserts = omega (arith, a.asserts, b.asserts); starts = omega (arith, a.starts, b.starts) }

-- ---- the whole

abbrev pub node_code : StmtNode → At → Doing
node_code = fold-StmtNode (At → Doing) Doing stmt_step placed_step

abbrev P : StmtNode → Type 0
P d = (at : At) → Long (node_code d at)

abbrev Q : Stmt → Type 0
Q s = Long (stmt_code s)

by : (z : StmtNode-F StmtNode Stmt) (at : At) → Long (stmt_step (map-StmtNode StmtNode Stmt (At → Doing) Doing node_code stmt_code z) at) → Long (node_code (roll-StmtNode z) at)
unfolding stmt_code
by z at g = subst (λ (f : At → Doing). Long (f at)) (sym (fold-roll-StmtNode (At → Doing) Doing stmt_step placed_step z)) g

by_stmt : (z : Stmt-F StmtNode Stmt) → Long (node_code z.node z.at) → Long (stmt_code (roll-Stmt z))
unfolding stmt_code
by_stmt z g = subst Long (sym (fold-roll-Stmt (At → Doing) Doing stmt_step placed_step z)) g

abbrev Proved : Type 0
Proved = (s : Stmt) × Q s

parts_long : (ss : List Proved) → AllByRecursion Long (map stmt_code (map (λ (s : Proved). s.0) ss))
parts_long [] = tt
parts_long (s ∷ ss) = (s.1, parts_long ss)

abbrev Layer : Type 0
Layer = StmtNode-F ((d : StmtNode) × P d) Proved

-- the parts of a layer without what is proved of them
abbrev bare : Layer → StmtNode-F StmtNode Stmt
bare y = map-StmtNode ((d : StmtNode) × P d) Proved StmtNode Stmt (λ d. d.0) (λ e. e.0) y

assign_long : (l : Left) (v : Value) (w : Within) → CallsGrow w → (k : Known) → Lengthens k (record { flow = (assigned w k.names k.next l v).flow; known = from k (assigned w k.names k.next l v).next })
unfolding assigned
assign_long l v w g k = record { next = assigned_grows w k.names k.next l v (local_left k.names l.node) g; asserts = omega arith; starts = omega arith }

layer_long : (y : Layer) (at : At) → Long (stmt_step (map-StmtNode StmtNode Stmt (At → Doing) Doing node_code stmt_code (bare y)) at)
layer_long stmt.Empty at w g k = same k _ refl
layer_long (stmt.Block ss) at w g k = inner_long (in_order (map stmt_code (map (λ (s : Proved). s.0) ss))) (in_order_long _ (parts_long ss)) w g k
layer_long (stmt.Declare ls) at w g k = declared_long ls w g k
layer_long (stmt.DeclareThread xs) at w g k = same k _ refl
layer_long (stmt.Assign l v) at w g k = assign_long l v w g k
layer_long (stmt.Update l op e) at w g k = record { next = updated_grows w k.names k.next l op e (local_left k.names l.node); asserts = omega arith; starts = omega arith }
layer_long (stmt.Do v) at w g k = record { next = value_grows w k.names k.next v g; asserts = omega arith; starts = omega arith }
layer_long (stmt.If c d None) at w g k = if_long at c (stmt_code d.0) d.1 w g k
layer_long (stmt.If c d (Some e)) at w g k = choice_long at c (stmt_code d.0) (stmt_code e.0) d.1 e.1 w g k
layer_long (stmt.While c d) at w g k = while_long at c (stmt_code d.0) d.1 w g k
layer_long (stmt.DoWhile d c) at w g k = do_long at (stmt_code d.0) c d.1 w g k
layer_long (stmt.For None c None d) at w g k = inner_long (for_code at None c None (stmt_code d.0)) (for_long at None c None (stmt_code d.0) tt tt d.1) w g k
layer_long (stmt.For None c (Some j) d) at w g k = inner_long (for_code at None c (Some (stmt_code j.0)) (stmt_code d.0)) (for_long at None c (Some (stmt_code j.0)) (stmt_code d.0) tt j.1 d.1) w g k
layer_long (stmt.For (Some i) c None d) at w g k = inner_long (for_code at (Some (stmt_code i.0)) c None (stmt_code d.0)) (for_long at (Some (stmt_code i.0)) c None (stmt_code d.0) i.1 tt d.1) w g k
layer_long (stmt.For (Some i) c (Some j) d) at w g k = inner_long (for_code at (Some (stmt_code i.0)) c (Some (stmt_code j.0)) (stmt_code d.0)) (for_long at (Some (stmt_code i.0)) c (Some (stmt_code j.0)) (stmt_code d.0) i.1 j.1 d.1) w g k
layer_long stmt.Break at w g k = same k _ refl
layer_long stmt.Continue at w g k = same k _ refl
layer_long (stmt.Return v) at w g k = record { next = returned_grows w at k.names k.next v g; asserts = omega arith; starts = omega arith }
layer_long (stmt.Assert e text) at w g k = record { next = grows e (scope w k.names) k.next; asserts = omega arith; starts = omega arith }
layer_long (stmt.Assume e) at w g k = record { next = grows e (scope w k.names) k.next; asserts = omega arith; starts = omega arith }
layer_long stmt.Fence at w g k = same k _ refl
layer_long (stmt.Lock x) at w g k = same k _ refl
layer_long (stmt.Unlock x) at w g k = same k _ refl
layer_long (stmt.Start x f) at w g k = record { next = omega arith; asserts = omega arith; starts = omega arith }
layer_long (stmt.Join x) at w g k = same k _ refl
layer_long (stmt.Goto x) at w g k = same k _ refl
layer_long (stmt.Label x d) at w g k = let a = d.1 w g k in record { next = a.next; asserts = a.asserts; starts = a.starts }
layer_long stmt.AtomBegin at w g k = same k _ refl
layer_long stmt.AtomEnd at w g k = same k _ refl

pub stmt_long : (s : Stmt) → Long (stmt_code s)
stmt_long = ind-Stmt P Q
    (λ x y is. subst (λ z. P (roll-StmtNode z)) is (λ at. by (bare y) at (layer_long y at)))
    (λ x y is. subst (λ z. Q (roll-Stmt z)) is (by_stmt (map-Stmt _ _ StmtNode Stmt (λ d. d.0) (λ e. e.0) y) (y.node.1 y.at)))

each_long : (ss : List Stmt) → AllByRecursion Long (map stmt_code ss)
each_long [] = tt
each_long (s ∷ ss) = (stmt_long s, each_long ss)

pub body_long : (ss : List Stmt) → Long (body_code ss)
body_long ss = in_order_long (map stmt_code ss) (each_long ss)

-- at each depth of calls
pub inline_grows : (parts : Parts) (items : List Item) (d : ℕ) (f : Function) (names : List Named) (n ret : ℕ) → n ≤ (inline_at parts items d f names n ret).known.next
inline_grows parts items zero f names n ret = omega arith
inline_grows parts items (suc d) f names n ret =
    (body_long f.body (record { parts = parts; items = items; inline = inline_at parts items d; ret = Some ret }) (inline_grows parts items d)
    (record { names = names; next = n; seen = record { asserts = f.asserts; starts = 0 } })).next
