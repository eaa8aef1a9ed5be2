-- No code takes a fresh local back, nor an assertion or a create that stands before it.
use Rattle.std.proofs.Common.{arith, ℕ, ◌+◌, ◌≤◌, List, [], ◌∷◌, Bool, true, false, sym, subst, Option, Some, None}
use Rattle.mm_goto.specs.declared.ident.At.{At}
use Rattle.mm_goto.specs.declared.ident.Ident.{Ident}
use Rattle.mm_goto.specs.declared.pure.Binary.{Binary}
use Rattle.mm_tree.specs.declared.expr.Expr.{Expr, roll-Expr}
use Rattle.mm_tree.specs.declared.expr.Node.{Node, roll-Node}
use Rattle.mm_tree.specs.declared.expr.Node.TheOpen as node
use Rattle.mm_tree.specs.declared.expr.Node.TheOpen.{Node-F, Expr-F}
use Rattle.mm_tree.specs.declared.expr.Node.TheFolds.{ind-Expr, fold-Node, fold-roll-Node, fold-roll-Expr, map-Node, map-Expr}
use Rattle.mm_flow.specs.declared.names.Joining.{Joining}
use Rattle.mm_flow.specs.declared.names.Joining.TheVariants.{Both, And, Or}
use Rattle.mm_flow.specs.Scopes.{local_of}
use Rattle.mm_flow.specs.Expressions.{Scope, Reading, reading, node_step, expr_step, name_value, binary_value, joining, cond_value, expr_value, values}

abbrev pub node_reading : Node → At → Reading
node_reading = fold-Node (At → Reading) Reading node_step expr_step

abbrev pub Grows : Reading → Type 0
Grows r = (s : Scope) (n : ℕ) → n ≤ (r.value s n).next

abbrev P : Node → Type 0
P d = (at : At) → Grows (node_reading d at)

abbrev Q : Expr → Type 0
Q e = Grows (reading e)

name_grows : (at : At) (s : Scope) (x : Ident) (l : Option ℕ) (n : ℕ) → n ≤ (name_value at s x l n).next
name_grows at s x (Some l) n = omega arith
name_grows at s x None n = omega arith

binary_grows : (at : At) (op : Binary) (j : Joining) (a b : Reading) (s : Scope) (n : ℕ) → Grows a → Grows b → n ≤ (binary_value at op j (a.value s n) (b.value s)).next
binary_grows at op And a b s n ga gb = omega (arith, ga s n, gb s ((a.value s n).next + 1))
binary_grows at op Or a b s n ga gb = omega (arith, ga s n, gb s ((a.value s n).next + 1))
binary_grows at op Both a b s n ga gb = omega (arith, ga s n, gb s (a.value s n).next)

cond_grows : (at : At) (t : Bool) (c a b : Reading) (s : Scope) (n : ℕ) → Grows c → Grows a → Grows b → n ≤ (cond_value at t (c.value s n) (a.value s) (b.value s)).next
cond_grows at true c a b s n gc ga gb = let m : ℕ = (c.value s n).next + 1 in omega (arith, gc s n, ga s m, gb s (a.value s m).next)
cond_grows at false c a b s n gc ga gb = let m : ℕ = (c.value s n).next in omega (arith, gc s n, ga s m, gb s (a.value s m).next)

by : (z : Node-F Node Expr) (at : At) → Grows (node_step (map-Node Node Expr (At → Reading) Reading node_reading reading z) at) → Grows (node_reading (roll-Node z) at)
unfolding reading
by z at g = subst (λ (f : At → Reading). Grows (f at)) (sym (fold-roll-Node (At → Reading) Reading node_step expr_step z)) g

by_expr : (z : Expr-F Node Expr) → Grows (node_reading z.node z.at) → Grows (reading (roll-Expr z))
unfolding reading
by_expr z g = subst Grows (sym (fold-roll-Expr (At → Reading) Reading node_step expr_step z)) g

node_grows : (y : Node-F ((d : Node) × P d) ((e : Expr) × Q e)) → P (roll-Node (map-Node ((d : Node) × P d) ((e : Expr) × Q e) Node Expr (λ d. d.0) (λ e. e.0) y))
node_grows (node.Number z) at = by (node.Number z) at (λ s n. omega arith)
node_grows node.Null at = by node.Null at (λ s n. omega arith)
node_grows (node.Name x) at = by (node.Name x) at (λ s n. name_grows at s x (local_of s.names x) n)
node_grows (node.Index x e) at = by (node.Index x e.0) at (λ s n. omega (arith, e.1 s n))
node_grows (node.Deref e) at = by (node.Deref e.0) at (λ s n. omega (arith, e.1 s n))
node_grows (node.AddrName w) at = by (node.AddrName w) at (λ s n. omega arith)
node_grows (node.AddrIndex w e) at = by (node.AddrIndex w e.0) at (λ s n. e.1 s n)
node_grows (node.Un op e) at = by (node.Un op e.0) at (λ s n. e.1 s n)
node_grows (node.Bin op a b) at = by (node.Bin op a.0 b.0) at (λ s n. binary_grows at op (joining op ((reading b.0).has_code s)) (reading a.0) (reading b.0) s n a.1 b.1)
node_grows (node.Cond a b c) at = by (node.Cond a.0 b.0 c.0) at (λ s n. cond_grows at _ (reading a.0) (reading b.0) (reading c.0) s n a.1 b.1 c.1)

pub grows : (e : Expr) → Grows (reading e)
grows = ind-Expr P Q (λ x y is. subst (λ z. P (roll-Node z)) is (node_grows y)) (λ x y is. subst (λ z. Q (roll-Expr z)) is (by_expr (map-Expr _ _ Node Expr (λ d. d.0) (λ e. e.0) y) (y.node.1 y.at)))

pub values_grow : (s : Scope) (es : List Expr) (n : ℕ) → n ≤ (values s es n).next
values_grow s [] n = omega arith
values_grow s (e ∷ es) n = omega (arith, grows e s n, values_grow s es (expr_value e s n).next)
