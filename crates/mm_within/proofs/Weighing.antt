-- The code of a statement takes no more than the statement weighs.
use Rattle.std.proofs.Common.{arith, ◌≡◌, ℕ, ◌+◌, ◌≤◌, Bool, true, false, List, [], ◌∷◌, ◌++◌, length, map, refl, sym, ◌∙◌, ap, subst, Option, Some, None}
use Rattle.std.proofs.lemmas.List.{map-append}
use Rattle.mm_goto.specs.declared.ident.At.{At}
use Rattle.mm_goto.specs.declared.ident.Ident.{Ident}
use Rattle.mm_goto.specs.declared.pure.Pure.{Pure}
use Rattle.mm_goto.specs.declared.pure.Binary.{Binary}
use Rattle.mm_goto.specs.Parts.{is_division}
use Rattle.mm_tree.specs.declared.expr.Expr.{Expr, out-Expr, roll-out-Expr}
use Rattle.mm_tree.specs.declared.expr.Node.{Node, roll-out-Node}
use Rattle.mm_tree.specs.declared.expr.Node.TheOpen as node
use Rattle.mm_tree.specs.declared.expr.Node.TheOpen.{Node-F}
use Rattle.mm_tree.specs.declared.stmt.Left.{Left}
use Rattle.mm_tree.specs.declared.stmt.LeftNode.{LeftNode}
use Rattle.mm_tree.specs.declared.stmt.LeftNode.TheVariants as left
use Rattle.mm_tree.specs.declared.stmt.Local.{Local}
use Rattle.mm_tree.specs.declared.stmt.Value.{Value}
use Rattle.mm_tree.specs.declared.stmt.Value.TheVariants as value
use Rattle.mm_tree.specs.declared.stmt.Stmt.{Stmt, roll-Stmt}
use Rattle.mm_tree.specs.declared.stmt.StmtNode.{StmtNode, roll-StmtNode, fold-StmtNode}
use Rattle.mm_tree.specs.declared.stmt.StmtNode.TheOpen as stmt
use Rattle.mm_tree.specs.declared.stmt.StmtNode.TheOpen.{StmtNode-F, Stmt-F}
use Rattle.mm_tree.specs.declared.stmt.StmtNode.TheFolds.{ind-Stmt, fold-roll-StmtNode, fold-roll-Stmt, map-StmtNode, map-Stmt}
use Rattle.mm_tree.specs.Trees.{node_of}
use Rattle.mm_flow.specs.declared.names.Named.{Named}
use Rattle.mm_flow.specs.Flow.{Flow, size}
use Rattle.mm_flow.specs.Scopes.{named}
use Rattle.mm_flow.specs.Expressions.{Scope, expr_value, values}
use Rattle.mm_flow.specs.Statements.{Known, Did, Function, Within, Doing, bound, function_of, is_input, sets, call_of, call_value, scope, reads, from, aim_of, aim_at, value_of, first_value, declared_one, declared, local_left, left_aim, assigned_to, assigned, updated_to, set_ret, returned, in_order, inner, if_code, choice_code, while_code, do_code, optional, condition, turns, for_code, stmt_step, placed_step, stmt_code, body_code}
use Rattle.mm_within.proofs.Costs.{names_of, Costing, division_at_most, division_costs, cost_of, cost_of_node, cost_layer, cost_rolled, cost_at, costs_expr, costs_of, values_cost}
use Rattle.mm_within.proofs.Weights.{Price, price, Calls, Weight, Weighing, weight, call_price, value_price, optional_price, left_price, condition_price, declared_weight, in_turn, optional_weight, if_weight, turns_weight, for_weight, weigh_step, weight_of_node, weight_of, body_weight, weight_layer, weight_rolled, weight_at}

-- ---- values

-- no more than the price, from a fresh local on
pub record Takes (v : Flow) (n m : ℕ) (p : Price) : Type 0 where
  pub size : size v ≤ p.size
  pub next : m ≤ n + p.fresh

-- a called function's body takes no more than the calls say
abbrev pub Bounds : Within → Calls → Type 0
Bounds w calls = (f : Ident) (g : Function) → function_of w.items w.parts.asserts f ≡ Some g → (n m ret : ℕ)
    → (size (w.inline g (bound g.params n) m ret).flow ≤ (calls f).size) × ((w.inline g (bound g.params n) m ret).known.next + length g.params + 1 ≤ m + (calls f).fresh)

-- as many instructions as values are set
sets_size : (at : At) (es : List Pure) (n : ℕ) → size (sets at es n) ≡ length es
sets_size at [] n = refl
sets_size at (e ∷ es) n = omega (arith, sets_size at es (n + 1))

-- a call of a function that may be there
call_within : (w : Within) (calls : Calls) (at : At) (f : Ident) (es : List Expr) (ns : List Named) (n : ℕ) (o : Option Function) → Bounds w calls → function_of w.items w.parts.asserts f ≡ o
    → Takes (call_of w at es ns n o).flow n (call_of w at es ns n o).next (call_price false (calls f) (length es) (costs_of es (names_of ns)))
call_within w calls at f es ns n None h is = record { size = omega arith; next = omega arith }
call_within w calls at f es ns n (Some g) h is =
    let ret : ℕ = n + length g.params in
    let a = values_cost (scope w ns) es (ret + 1) in
    let args = values (scope w ns) es (ret + 1) in
    let b = h f g is n args.next ret in
    record { size = omega (arith, a.0, b.0, a.2, sets_size at args.pures n); next = omega (arith, a.1, b.1) }

-- a call, which may be an input
called_within : (w : Within) (calls : Calls) (at : At) (f : Ident) (es : List Expr) (ns : List Named) (n : ℕ) (b : Bool) → Bounds w calls
    → Takes (call_value w at f es ns n b).flow n (call_value w at f es ns n b).next (call_price b (calls f) (length es) (costs_of es (names_of ns)))
called_within w calls at f es ns n true h = record { size = omega arith; next = omega arith }
called_within w calls at f es ns n false h = call_within w calls at f es ns n (function_of w.items w.parts.asserts f) h refl

-- an expression costs what its node does
unrolled : (p : Expr) → cost_of p ≡ cost_layer (node_of p)
unrolled p = ap cost_of (sym (roll-out-Expr p)) ∙ cost_at (out-Expr p) ∙ ap cost_of_node (sym (roll-out-Node (out-Expr p).node)) ∙ cost_rolled (node_of p)

-- what a locked instruction accesses
aim_within : (s : Scope) (at : At) (p : Expr) (d : Node-F Node Expr) (n : ℕ) → cost_of p ≡ cost_layer d
    → Takes (aim_of s at p d n).flow n (aim_of s at p d n).next (price ((cost_of p (names_of s.names)).size + 1) (cost_of p (names_of s.names)).fresh)
aim_within s at p (node.AddrName x) n h = record { size = omega arith; next = omega arith }
aim_within s at p (node.AddrIndex x e) n h =
    let a = costs_expr s e in
    let c = ap (λ (f : Costing). (f (names_of s.names)).size) h in
    let d = ap (λ (f : Costing). (f (names_of s.names)).fresh) h in
    record { size = omega (arith, a.size n, c); next = omega (arith, a.next n, d) }
aim_within s at p (node.Number z) n h = let a = costs_expr s p in record { size = omega (arith, a.size n); next = omega (arith, a.next n) }
aim_within s at p node.Null n h = let a = costs_expr s p in record { size = omega (arith, a.size n); next = omega (arith, a.next n) }
aim_within s at p (node.Name x) n h = let a = costs_expr s p in record { size = omega (arith, a.size n); next = omega (arith, a.next n) }
aim_within s at p (node.Index x e) n h = let a = costs_expr s p in record { size = omega (arith, a.size n); next = omega (arith, a.next n) }
aim_within s at p (node.Deref e) n h = let a = costs_expr s p in record { size = omega (arith, a.size n); next = omega (arith, a.next n) }
aim_within s at p (node.Un op e) n h = let a = costs_expr s p in record { size = omega (arith, a.size n); next = omega (arith, a.next n) }
aim_within s at p (node.Bin op a b) n h = let a = costs_expr s p in record { size = omega (arith, a.size n); next = omega (arith, a.next n) }
aim_within s at p (node.Cond c a b) n h = let a = costs_expr s p in record { size = omega (arith, a.size n); next = omega (arith, a.next n) }

-- a value
value_within : (w : Within) (calls : Calls) (ns : List Named) (n : ℕ) (v : Value) → Bounds w calls → Takes (value_of w ns n v).flow n (value_of w ns n v).next (value_price calls (names_of ns) v)
value_within w calls ns n (value.Plain e) h = let a = costs_expr (scope w ns) e in record { size = omega (arith, a.size n); next = omega (arith, a.next n) }
value_within w calls ns n (value.Call at f es) h = called_within w calls at f es ns n (is_input f) h
value_within w calls ns n (value.FetchAdd at p e) h =
    let m : ℕ = (aim_at (scope w ns) at p n).next in
    let a = aim_within (scope w ns) at p (node_of p) n (unrolled p) in
    let b = costs_expr (scope w ns) e in
    record { size = omega (arith, a.size, b.size m); next = omega (arith, a.next, b.next m) }
value_within w calls ns n (value.CompareSwap at p e f) h =
    let m : ℕ = (aim_at (scope w ns) at p n).next in
    let k : ℕ = (expr_value e (scope w ns) m).next in
    let a = aim_within (scope w ns) at p (node_of p) n (unrolled p) in
    let b = costs_expr (scope w ns) e in
    let c = costs_expr (scope w ns) f in
    record { size = omega (arith, a.size, b.size m, c.size k); next = omega (arith, a.next, b.next m, c.next k) }

-- a value that may be left out
first_within : (w : Within) (calls : Calls) (ns : List Named) (n : ℕ) (v : Option Value) → Bounds w calls
    → Takes (first_value w ns n v).flow n (first_value w ns n v).next (optional_price calls (names_of ns) v)
first_within w calls ns n None h = record { size = omega arith; next = omega arith }
first_within w calls ns n (Some v) h = value_within w calls ns n v h

-- a left side that names no local
left_within : (s : Scope) (at : At) (l : LeftNode) (n : ℕ) → Takes (left_aim s at l n).flow n (left_aim s at l n).next (left_price (names_of s.names) l)
left_within s at (left.Name x) n = record { size = omega arith; next = omega arith }
left_within s at (left.Index x e) n = let a = costs_expr s e in record { size = omega (arith, a.size n); next = omega (arith, a.next n) }
left_within s at (left.Deref e) n = let a = costs_expr s e in record { size = omega (arith, a.size n); next = omega (arith, a.next n) }

-- an assignment
assigned_within : (w : Within) (calls : Calls) (ns : List Named) (n : ℕ) (l : Left) (v : Value) (t : Option ℕ) → Bounds w calls
    → Takes (assigned_to w ns n l v t).flow n (assigned_to w ns n l v t).next
    (price ((left_price (names_of ns) l.node).size + (value_price calls (names_of ns) v).size + 1) ((left_price (names_of ns) l.node).fresh + (value_price calls (names_of ns) v).fresh))
assigned_within w calls ns n l v (Some t) h = let a = value_within w calls ns n v h in record { size = omega (arith, a.size); next = omega (arith, a.next) }
assigned_within w calls ns n l v None h =
    let m : ℕ = (left_aim (scope w ns) l.at l.node n).next in
    let a = left_within (scope w ns) l.at l.node n in
    let b = value_within w calls ns m v h in
    record { size = omega (arith, a.size, b.size); next = omega (arith, a.next, b.next) }

-- an assignment with an operator
updated_within : (w : Within) (calls : Calls) (ns : List Named) (n : ℕ) (l : Left) (op : Binary) (e : Expr) (t : Option ℕ)
    → Takes (updated_to w ns n l op e t).flow n (updated_to w ns n l op e t).next
    (price ((left_price (names_of ns) l.node).size + (cost_of e (names_of ns)).size + 3) ((left_price (names_of ns) l.node).fresh + (cost_of e (names_of ns)).fresh + 1))
updated_within w calls ns n l op e (Some t) =
    let s = scope w ns in let a = costs_expr s e in
    let d = division_costs s op l.at (expr_value e s n).pure in
    record { size = omega (arith, a.size n, d, division_at_most (is_division op)); next = omega (arith, a.next n) }
updated_within w calls ns n l op e None =
    let s = scope w ns in
    let m : ℕ = (left_aim s l.at l.node n).next in
    let a = left_within s l.at l.node n in
    let b = costs_expr s e in
    let d = division_costs s op l.at (expr_value e s (m + 1)).pure in
    record { size = omega (arith, a.size, b.size (m + 1), d, division_at_most (is_division op)); next = omega (arith, a.next, b.next (m + 1)) }

-- the result is set by one instruction at most
ret_size : (at : At) (o : Option ℕ) (e : Pure) → size (set_ret at o e) ≤ 1
ret_size at None e = omega arith
ret_size at (Some l) e = omega arith

-- a return
returned_within : (w : Within) (calls : Calls) (at : At) (ns : List Named) (n : ℕ) (v : Option Value) → Bounds w calls
    → Takes (returned w at ns n v).flow n (returned w at ns n v).next (price ((optional_price calls (names_of ns) v).size + 2) (optional_price calls (names_of ns) v).fresh)
returned_within w calls at ns n None h = record { size = omega arith; next = omega arith }
returned_within w calls at ns n (Some v) h =
    let a = value_within w calls ns n v h in
    record { size = omega (arith, a.size, ret_size at w.ret (value_of w ns n v).pure); next = omega (arith, a.next) }

-- ---- statements

-- the code takes no more than the weight, and leaves its names
pub record Weighs (k : Known) (d : Did) (x : Weight) : Type 0 where
  pub size : size d.flow ≤ x.size
  pub next : d.known.next ≤ k.next + x.fresh
  pub names : names_of d.known.names ≡ x.names

-- the code of a statement takes no more than this, whatever stands before it
abbrev pub Weighed : Doing → Weighing → Type 0
Weighed d f = (w : Within) (calls : Calls) → Bounds w calls → (k : Known) → Weighs k (d w k) (f calls (names_of k.names))

-- code that takes no fresh local and changes no name
light : (k : Known) (d : Did) (n : ℕ) → size d.flow ≤ n → d.known.next ≡ k.next → d.known.names ≡ k.names → Weighs k d (weight n 0 (names_of k.names))
light k d n h i j = record { size = h; next = omega (arith, i); names = ap names_of j }

-- each of these is weighed so
abbrev EachWeighed : List Doing → List Weighing → Type 0
EachWeighed [] [] = Unit {0}
EachWeighed (d ∷ ds) (f ∷ fs) = Weighed d f × EachWeighed ds fs
EachWeighed ds fs = ⊥

-- what is behind names that are the same
behind : {k : Known} {d : Did} (f : Weighing) (calls : Calls) {xs ys : List Ident} → xs ≡ ys → Weighs k d (f calls xs) → Weighs k d (f calls ys)
behind {k} {d} f calls e h = subst (λ zs. Weighs k d (f calls zs)) e h

-- statements in order
in_turn_weighed : (ds : List Doing) (fs : List Weighing) → EachWeighed ds fs → Weighed (in_order ds) (in_turn fs)
in_turn_weighed [] [] h w calls g k = record { size = omega arith; next = omega arith; names = refl }
in_turn_weighed (d ∷ ds) (f ∷ fs) h w calls g k =
    let a = h.0 w calls g k in
    let b = behind (in_turn fs) calls a.names (in_turn_weighed ds fs h.1 w calls g (d w k).known) in
    record { size = omega (arith, a.size, b.size); next = omega (arith, a.next, b.next); names = b.names }
in_turn_weighed [] (f ∷ fs) h w calls g k = absurd h
in_turn_weighed (d ∷ ds) [] h w calls g k = absurd h

-- declarations
declared_weighed : (ls : List Local) → Weighed (λ w k. declared w ls k) (declared_weight ls)
declared_weighed [] w calls g k = record { size = omega arith; next = omega arith; names = refl }
declared_weighed (l ∷ ls) w calls g k =
    let a = first_within w calls k.names (k.next + 1) l.value g in
    let e : names_of (declared_one w k l).known.names ≡ names_of k.names ++ l.name ∷ [] = map-append (λ (n : Named). n.name) k.names (named l.name k.next ∷ []) in
    let b = behind (declared_weight ls) calls e (declared_weighed ls w calls g (declared_one w k l).known) in
    record { size = omega (arith, a.size, b.size); next = omega (arith, a.next, b.next); names = b.names }

-- an if without an else
if_weighed : (at : At) (c : Expr) (d : Doing) (f : Weighing) → Weighed d f → Weighed (if_code at c d) (λ calls xs. if_weight (cost_of c xs) None f calls xs)
if_weighed at c d f h w calls g k =
    let n : ℕ = (reads w k.names c k.next).next in
    let v = costs_expr (scope w k.names) c in
    let a = h w calls g (from k n) in
    record { size = omega (arith, v.size k.next, a.size); next = omega (arith, v.next k.next, a.next); names = refl }

-- an if with one
choice_weighed : (at : At) (c : Expr) (d e : Doing) (f t : Weighing) → Weighed d f → Weighed e t → Weighed (choice_code at c d e) (λ calls xs. if_weight (cost_of c xs) (Some t) f calls xs)
choice_weighed at c d e f t h i w calls g k =
    let n : ℕ = (reads w k.names c k.next).next in
    let v = costs_expr (scope w k.names) c in
    let a = h w calls g (from k n) in
    let b = i w calls g (inner d w (from k n)).known in
    record { size = omega (arith, v.size k.next, a.size, b.size); next = omega (arith, v.next k.next, a.next, b.next); names = refl }

-- a while
while_weighed : (at : At) (c : Expr) (d : Doing) (f : Weighing) → Weighed d f
    → Weighed (while_code at c d) (λ calls xs. weight ((cost_of c xs).size + 1 + (f calls xs).size + 1) ((cost_of c xs).fresh + (f calls xs).fresh) xs)
unfolding while_code
while_weighed at c d f h w calls g k =
    let n : ℕ = (reads w k.names c k.next).next in
    let v = costs_expr (scope w k.names) c in
    let a = h w calls g (from k n) in
    record { size = omega (arith, v.size k.next, a.size); next = omega (arith, v.next k.next, a.next); names = refl }

-- a do while
do_weighed : (at : At) (d : Doing) (c : Expr) (f : Weighing) → Weighed d f
    → Weighed (do_code at d c) (λ calls xs. weight ((f calls xs).size + (cost_of c xs).size + 2) ((cost_of c xs).fresh + (f calls xs).fresh) xs)
do_weighed at d c f h w calls g k =
    let v = costs_expr (scope w k.names) c in
    let a = h w calls g k in
    let n : ℕ = (d w k).known.next in
    record { size = omega (arith, v.size n, a.size); next = omega (arith, v.next n, a.next); names = refl }

-- both are left out, or the one is weighed by the other
abbrev OptionWeighed : Option Doing → Option Weighing → Type 0
OptionWeighed None None = Unit {0}
OptionWeighed (Some d) (Some f) = Weighed d f
OptionWeighed d f = ⊥

-- a statement that may be left out
optional_weighed : (d : Option Doing) (f : Option Weighing) → OptionWeighed d f → Weighed (optional d) (optional_weight f)
optional_weighed None None h w calls g k = record { size = omega arith; next = omega arith; names = refl }
optional_weighed (Some d) (Some f) h w calls g k = h w calls g k
optional_weighed None (Some f) h w calls g k = absurd h
optional_weighed (Some d) None h w calls g k = absurd h

-- a condition that may be left out
condition_within : (s : Scope) (c : Option Expr) (n : ℕ) → Takes (condition s c n).flow n (condition s c n).next (condition_price (names_of s.names) c)
condition_within s None n = record { size = omega arith; next = omega arith }
condition_within s (Some c) n = let a = costs_expr s c in record { size = omega (arith, a.size n); next = omega (arith, a.next n) }

-- the loop behind the first part of a for
turns_weighed : (at : At) (c : Option Expr) (j : Option Doing) (d : Doing) (i : Option Weighing) (f : Weighing) → OptionWeighed j i → Weighed d f → Weighed (turns at c j d) (turns_weight c i f)
turns_weighed at c j d i f hj hd w calls g k =
    let n : ℕ = (condition (scope w k.names) c k.next).next in
    let v = condition_within (scope w k.names) c k.next in
    let a = hd w calls g (from k n) in
    let b = optional_weighed j i hj w calls g (inner d w (from k n)).known in
    record { size = omega (arith, v.size, a.size, b.size); next = omega (arith, v.next, a.next, b.next); names = refl }

-- a for
for_weighed : (at : At) (i : Option Doing) (c : Option Expr) (j : Option Doing) (d : Doing) (x y : Option Weighing) (f : Weighing) → OptionWeighed i x → OptionWeighed j y → Weighed d f
    → Weighed (inner (for_code at i c j d)) (for_weight x c y f)
unfolding for_code
for_weighed at i c j d x y f hi hj hd w calls g k =
    let a = optional_weighed i x hi w calls g k in
    let b = behind (turns_weight c y f) calls a.names (turns_weighed at c j d y f hj hd w calls g (optional i w k).known) in
    record { size = omega (arith, a.size, b.size); next = omega (arith, a.next, b.next); names = refl }

-- ---- the whole

-- the code of a node
abbrev node_code : StmtNode → At → Doing
node_code = fold-StmtNode (At → Doing) Doing stmt_step placed_step

-- a node's code takes no more than the node weighs
abbrev P : StmtNode → Type 0
P d = (at : At) → Weighed (node_code d at) (weight_of_node d)

-- a statement's code takes no more than the statement weighs
abbrev Q : Stmt → Type 0
Q s = Weighed (stmt_code s) (weight_of s)

-- the code of a layer
abbrev code_layer : StmtNode-F StmtNode Stmt → At → Doing
code_layer z at = stmt_step (map-StmtNode StmtNode Stmt (At → Doing) Doing node_code stmt_code z) at

-- a node is weighed where its layer is
by : (z : StmtNode-F StmtNode Stmt) (at : At) → Weighed (code_layer z at) (weight_layer z) → Weighed (node_code (roll-StmtNode z) at) (weight_of_node (roll-StmtNode z))
unfolding stmt_code
by z at g =
    subst (λ (f : At → Doing). Weighed (f at) (weight_of_node (roll-StmtNode z))) (sym (fold-roll-StmtNode (At → Doing) Doing stmt_step placed_step z))
    (subst (Weighed (code_layer z at)) (sym (weight_rolled z)) g)

-- a statement is weighed where its node is
by_stmt : (z : Stmt-F StmtNode Stmt) → Weighed (node_code z.node z.at) (weight_of_node z.node) → Q (roll-Stmt z)
unfolding stmt_code
by_stmt z g =
    subst (λ (f : Doing). Weighed f (weight_of (roll-Stmt z))) (sym (fold-roll-Stmt (At → Doing) Doing stmt_step placed_step z))
    (subst (Weighed (node_code z.node z.at)) (sym (weight_at z)) g)

-- a statement of which it is proved
abbrev Proved : Type 0
Proved = (s : Stmt) × Q s

-- the statements alone
abbrev stmts_in : List Proved → List Stmt
stmts_in ss = map (λ (s : Proved). s.0) ss

-- each statement of a block is weighed
parts_weighed : (ss : List Proved) → EachWeighed (map stmt_code (stmts_in ss)) (map weight_of (stmts_in ss))
parts_weighed [] = tt
parts_weighed (s ∷ ss) = (s.1, parts_weighed ss)

-- a layer whose parts are proved
abbrev Layer : Type 0
Layer = StmtNode-F ((d : StmtNode) × P d) Proved

-- the parts of a layer without what is proved of them
abbrev alone : Layer → StmtNode-F StmtNode Stmt
alone y = map-StmtNode ((d : StmtNode) × P d) Proved StmtNode Stmt (λ d. d.0) (λ e. e.0) y

-- an assignment as a statement
assign_weighed : (at : At) (l : Left) (v : Value) → Weighed (stmt_step (stmt.Assign l v) at) (weigh_step (stmt.Assign l v))
unfolding assigned
assign_weighed at l v w calls g k = let a = assigned_within w calls k.names k.next l v (local_left k.names l.node) g in record { size = a.size; next = a.next; names = refl }

-- each kind of statement is weighed where its parts are
layer_weighed : (y : Layer) (at : At) → Weighed (code_layer (alone y) at) (weight_layer (alone y))
layer_weighed stmt.Empty at w calls g k = light k _ 0 (omega arith) refl refl
layer_weighed (stmt.Block ss) at w calls g k = let a = in_turn_weighed (map stmt_code (stmts_in ss)) (map weight_of (stmts_in ss)) (parts_weighed ss) w calls g k in
    record { size = a.size; next = a.next; names = refl }
layer_weighed (stmt.Declare ls) at w calls g k = declared_weighed ls w calls g k
layer_weighed (stmt.DeclareThread xs) at w calls g k = light k _ 0 (omega arith) refl refl
layer_weighed (stmt.Assign l v) at w calls g k = assign_weighed at l v w calls g k
layer_weighed (stmt.Update l op e) at w calls g k = let a = updated_within w calls k.names k.next l op e (local_left k.names l.node) in record { size = a.size; next = a.next; names = refl }
layer_weighed (stmt.Do v) at w calls g k = let a = value_within w calls k.names k.next v g in record { size = a.size; next = a.next; names = refl }
layer_weighed (stmt.If c d None) at w calls g k = if_weighed at c (stmt_code d.0) (weight_of d.0) d.1 w calls g k
layer_weighed (stmt.If c d (Some e)) at w calls g k = choice_weighed at c (stmt_code d.0) (stmt_code e.0) (weight_of d.0) (weight_of e.0) d.1 e.1 w calls g k
layer_weighed (stmt.While c d) at w calls g k = while_weighed at c (stmt_code d.0) (weight_of d.0) d.1 w calls g k
layer_weighed (stmt.DoWhile d c) at w calls g k = do_weighed at (stmt_code d.0) c (weight_of d.0) d.1 w calls g k
layer_weighed (stmt.For None c None d) at w calls g k = for_weighed at None c None (stmt_code d.0) None None (weight_of d.0) tt tt d.1 w calls g k
layer_weighed (stmt.For None c (Some j) d) at w calls g k = for_weighed at None c (Some (stmt_code j.0)) (stmt_code d.0) None (Some (weight_of j.0)) (weight_of d.0) tt j.1 d.1 w calls g k
layer_weighed (stmt.For (Some i) c None d) at w calls g k = for_weighed at (Some (stmt_code i.0)) c None (stmt_code d.0) (Some (weight_of i.0)) None (weight_of d.0) i.1 tt d.1 w calls g k
layer_weighed (stmt.For (Some i) c (Some j) d) at w calls g k = for_weighed at (Some (stmt_code i.0)) c (Some (stmt_code j.0)) (stmt_code d.0) (Some (weight_of i.0)) (Some (weight_of j.0))
    (weight_of d.0) i.1 j.1 d.1 w calls g k
layer_weighed stmt.Break at w calls g k = light k _ 1 (omega arith) refl refl
layer_weighed stmt.Continue at w calls g k = light k _ 1 (omega arith) refl refl
layer_weighed (stmt.Return v) at w calls g k = let a = returned_within w calls at k.names k.next v g in record { size = a.size; next = a.next; names = refl }
layer_weighed (stmt.Assert e text) at w calls g k = let a = costs_expr (scope w k.names) e in record { size = omega (arith, a.size k.next); next = omega (arith, a.next k.next); names = refl }
layer_weighed (stmt.Assume e) at w calls g k = let a = costs_expr (scope w k.names) e in record { size = omega (arith, a.size k.next); next = omega (arith, a.next k.next); names = refl }
layer_weighed stmt.Fence at w calls g k = light k _ 1 (omega arith) refl refl
layer_weighed (stmt.Lock x) at w calls g k = light k _ 1 (omega arith) refl refl
layer_weighed (stmt.Unlock x) at w calls g k = light k _ 1 (omega arith) refl refl
layer_weighed (stmt.Start x f) at w calls g k = light k _ 1 (omega arith) refl refl
layer_weighed (stmt.Join x) at w calls g k = light k _ 1 (omega arith) refl refl
layer_weighed (stmt.Goto x) at w calls g k = light k _ 1 (omega arith) refl refl
layer_weighed (stmt.Label x d) at w calls g k = let a = d.1 w calls g k in record { size = omega (arith, a.size); next = a.next; names = a.names }
layer_weighed stmt.AtomBegin at w calls g k = light k _ 1 (omega arith) refl refl
layer_weighed stmt.AtomEnd at w calls g k = light k _ 1 (omega arith) refl refl

-- the code of a statement takes no more than the statement weighs
pub stmt_weighed : (s : Stmt) → Q s
stmt_weighed = ind-Stmt P Q
    (λ x y is. subst (λ z. P (roll-StmtNode z)) is (λ at. by (alone y) at (layer_weighed y at)))
    (λ x y is. subst (λ z. Q (roll-Stmt z)) is (by_stmt (map-Stmt _ _ StmtNode Stmt (λ d. d.0) (λ e. e.0) y) (y.node.1 y.at)))

-- each statement of a body is weighed
each_weighed : (ss : List Stmt) → EachWeighed (map stmt_code ss) (map weight_of ss)
each_weighed [] = tt
each_weighed (s ∷ ss) = (stmt_weighed s, each_weighed ss)

-- and that of a body no more than the body
pub body_weighed : (ss : List Stmt) → Weighed (body_code ss) (body_weight ss)
body_weighed ss = in_turn_weighed (map stmt_code ss) (map weight_of ss) (each_weighed ss)
