-- What an expression costs: the instructions of its code and the fresh locals that they take, by the names that are locals.
use Rattle.std.proofs.Common.{arith, ◌≡◌, ℕ, suc, ◌+◌, ◌≤◌, Bool, true, false, not, ◌||◌, is_none, cond, List, [], ◌∷◌, length, map, reverse, refl, sym, ◌∙◌, ap, subst, Option, Some, None}
use Rattle.std.specs.Prelude.{find, option_map}
use Rattle.std.specs.List.{list_any}
use Rattle.std.specs.Str.{bytes_eq}
use Rattle.std.proofs.lemmas.List.{reverse-append}
use Rattle.std.proofs.lemmas.List.Folds.{list_any-append}
use Rattle.mm_goto.specs.declared.ident.At.{At}
use Rattle.mm_goto.specs.declared.ident.Ident.{Ident}
use Rattle.mm_goto.specs.declared.pure.Pure.{Pure}
use Rattle.mm_goto.specs.declared.pure.Binary.{Binary}
use Rattle.mm_goto.specs.declared.program.Instr.TheVariants as instr
use Rattle.mm_goto.specs.Checks.{is_not_zero}
use Rattle.mm_goto.specs.Parts.{is_division}
use Rattle.mm_tree.specs.declared.expr.Expr.{Expr, roll-Expr, fold-Expr}
use Rattle.mm_tree.specs.declared.expr.Node.{Node, roll-Node, fold-Node}
use Rattle.mm_tree.specs.declared.expr.Node.TheOpen as node
use Rattle.mm_tree.specs.declared.expr.Node.TheOpen.{Node-F, Expr-F}
use Rattle.mm_tree.specs.declared.expr.Node.TheFolds.{ind-Expr, fold-roll-Node, fold-roll-Expr, map-Node, map-Expr}
use Rattle.mm_flow.specs.declared.names.Joining.{Joining}
use Rattle.mm_flow.specs.declared.names.Joining.TheVariants.{Both, And, Or}
use Rattle.mm_flow.specs.declared.names.Named.{Named}
use Rattle.mm_flow.specs.Flow.{Empty, Do, size}
use Rattle.mm_flow.specs.Scopes.{local_of}
use Rattle.mm_flow.specs.Expressions.{Val, Scope, Reading, reading, node_step, expr_step, name_value, binary_value, division_check, joining, cond_value, expr_value, values}

-- ---- names

-- the name is one of these
abbrev pub is_local : List Ident → Ident → Bool
is_local xs x = list_any (λ y. bytes_eq y x) xs

-- the names of locals
abbrev pub names_of : List Named → List Ident
names_of ns = map (λ (n : Named). n.name) ns

-- nothing is found just where nothing passes the test
find_any : {X : Type 0} (p : X → Bool) (xs : List X) → is_none (find p xs) ≡ not (list_any p xs)
find_any p [] = refl
find_any p (x ∷ xs) = by (p x) (find_any p xs)
  where
    -- a node is read as it costs where its layer is
    by : (b : Bool) → is_none (find p xs) ≡ not (list_any p xs) → is_none (cond b (Some x) (find p xs)) ≡ not (b || list_any p xs)
    by true h = refl
    by false h = h

-- the order of a disjunction
or_last : (a b : Bool) → (a || (b || false)) ≡ (b || a)
or_last true true = refl
or_last true false = refl
or_last false true = refl
or_last false false = refl

-- the order of a list does not matter to whether one passes
any_reverse : {X : Type 0} (p : X → Bool) (xs : List X) → list_any p (reverse xs) ≡ list_any p xs
any_reverse p [] = refl
any_reverse p (x ∷ xs) =
    ap (list_any p) (reverse-append (x ∷ []) xs) ∙ list_any-append p (reverse xs) (x ∷ []) ∙ ap (λ a. a || (p x || false)) (any_reverse p xs) ∙ or_last (list_any p xs) (p x)

-- some local has the name just where the name is among the locals' names
any_names : (x : Ident) (ns : List Named) → list_any (λ (n : Named). bytes_eq n.name x) ns ≡ is_local (names_of ns) x
any_names x [] = refl
any_names x (n ∷ ns) = ap (λ b. bytes_eq n.name x || b) (any_names x ns)

-- what is mapped is there just where it was
none_mapped : {X Y : Type 0} (f : X → Y) (o : Option X) → is_none (option_map f o) ≡ is_none o
none_mapped f None = refl
none_mapped f (Some x) = refl

-- a name has no number just where it is none of the locals' names
pub local_found : (ns : List Named) (x : Ident) → is_none (local_of ns x) ≡ not (is_local (names_of ns) x)
local_found ns x =
    none_mapped (λ (n : Named). n.number) (find (λ (n : Named). bytes_eq n.name x) (reverse ns))
    ∙ find_any (λ (n : Named). bytes_eq n.name x) (reverse ns)
    ∙ ap not (any_reverse (λ (n : Named). bytes_eq n.name x) ns ∙ any_names x ns)

-- ---- costs

-- how many instructions the code has, how many fresh locals it takes, and whether it is called code at all
pub record Cost : Type 0 where
  pub size : ℕ
  pub fresh : ℕ
  pub coded : Bool

-- a cost, by the names of the locals
abbrev pub Costing : Type 0
Costing = List Ident → Cost

-- so many instructions and fresh locals, with or without code
abbrev pub costs : ℕ → ℕ → Bool → Cost
costs n f b = record { size = n; fresh = f; coded = b }

-- a name, by whether it is a local's
abbrev pub name_cost : Bool → Cost
name_cost true = costs 0 0 false
name_cost false = costs 1 1 true

-- the check before a division, by whether it is one
abbrev pub division_size : Bool → ℕ
division_size true = 1
division_size false = 0

-- the check is one instruction
pub division_at_most : (b : Bool) → division_size b ≤ 1
division_at_most true = omega arith
division_at_most false = omega arith

-- the instructions of two operands, by how they are joined
abbrev pub joined_size : Joining → Binary → ℕ → ℕ → ℕ
joined_size And op a b = a + b + 3
joined_size Or op a b = a + b + 3
joined_size Both op a b = a + b + division_size (is_division op)

-- the fresh locals of two operands, by how they are joined
abbrev pub joined_fresh : Joining → ℕ → ℕ → ℕ
joined_fresh And a b = a + b + 1
joined_fresh Or a b = a + b + 1
joined_fresh Both a b = a + b

-- joining takes three instructions at most
pub joined_at_most : (j : Joining) (op : Binary) (a b : ℕ) → joined_size j op a b ≤ a + b + 3
joined_at_most And op a b = omega arith
joined_at_most Or op a b = omega arith
joined_at_most Both op a b = omega (arith, division_at_most (is_division op))

-- joining takes one fresh local at most
pub fresh_at_most : (j : Joining) (a b : ℕ) → joined_fresh j a b ≤ a + b + 1
fresh_at_most And a b = omega arith
fresh_at_most Or a b = omega arith
fresh_at_most Both a b = omega arith

-- two operands
abbrev pub two_cost : Binary → Cost → Cost → Cost
two_cost op a b = record {
  size = joined_size (joining op b.coded) op a.size b.size;
  fresh = joined_fresh (joining op b.coded) a.fresh b.fresh;
  coded = a.coded || (b.coded || is_division op);
}

-- a choice, by whether an arm has code
abbrev pub choice_size : Bool → ℕ → ℕ
choice_size true n = n + 4
choice_size false n = n

-- the fresh locals of a choice, by whether an arm has code
abbrev pub choice_fresh : Bool → ℕ → ℕ
choice_fresh true n = n + 1
choice_fresh false n = n

-- a choice between two
abbrev pub three_cost : Cost → Cost → Cost → Cost
three_cost c a b = record {
  size = choice_size (a.coded || b.coded) (c.size + a.size + b.size);
  fresh = choice_fresh (a.coded || b.coded) (c.fresh + a.fresh + b.fresh);
  coded = c.coded || (a.coded || b.coded);
}

-- what is read through an index or a pointer
abbrev pub access_cost : Cost → Cost
access_cost e = costs (e.size + 2) (e.fresh + 1) true

-- the cost of a layer, from those of its parts
abbrev pub node_cost : Node-F Costing Costing → Costing
node_cost (node.Number z) xs = costs 0 0 false
node_cost node.Null xs = costs 0 0 false
node_cost (node.Name x) xs = name_cost (is_local xs x)
node_cost (node.Index x e) xs = access_cost (e xs)
node_cost (node.Deref e) xs = access_cost (e xs)
node_cost (node.AddrName w) xs = costs 0 0 false
node_cost (node.AddrIndex w e) xs = costs ((e xs).size + 1) (e xs).fresh true
node_cost (node.Un op a) xs = a xs
node_cost (node.Bin op a b) xs = two_cost op (a xs) (b xs)
node_cost (node.Cond c a b) xs = three_cost (c xs) (a xs) (b xs)

-- the cost of an expression, from that of its node
abbrev pub cost_step : Expr-F Costing Costing → Costing
cost_step layer = layer.node

-- what a node costs
unfoldable pub cost_of_node : Node → Costing
cost_of_node d = fold-Node Costing Costing node_cost cost_step d

-- what an expression costs
unfoldable pub cost_of : Expr → Costing
cost_of e = fold-Expr Costing Costing node_cost cost_step e

-- the cost of a layer
abbrev pub cost_layer : Node-F Node Expr → Costing
cost_layer z = node_cost (map-Node Node Expr Costing Costing cost_of_node cost_of z)

-- a node costs what its layer does
pub cost_rolled : (z : Node-F Node Expr) → cost_of_node (roll-Node z) ≡ cost_layer z
unfolding cost_of_node cost_of
cost_rolled z = fold-roll-Node Costing Costing node_cost cost_step z

-- an expression costs what its node does
pub cost_at : (z : Expr-F Node Expr) → cost_of (roll-Expr z) ≡ cost_of_node z.node
unfolding cost_of_node cost_of
cost_at z = fold-roll-Expr Costing Costing node_cost cost_step z

-- ---- the code of an expression costs so much

-- a reading has the code and takes the fresh locals that the cost says
pub record Costs (s : Scope) (r : Reading) (c : Costing) : Type 0 where
  pub size : (n : ℕ) → size (r.value s n).flow ≡ (c (names_of s.names)).size
  pub next : (n : ℕ) → (r.value s n).next ≡ n + (c (names_of s.names)).fresh
  pub coded : r.has_code s ≡ (c (names_of s.names)).coded

-- how a node is read
abbrev node_reading : Node → At → Reading
node_reading = fold-Node (At → Reading) Reading node_step expr_step

module _ (s : Scope) where
  -- a node is read as it costs
  abbrev P : Node → Type 0
  P d = (at : At) → Costs s (node_reading d at) (cost_of_node d)

  -- an expression is read as it costs
  abbrev Q : Expr → Type 0
  Q e = Costs s (reading e) (cost_of e)

  -- a node is read as it costs where its layer is
  by : (z : Node-F Node Expr) (at : At) → Costs s (node_step (map-Node Node Expr (At → Reading) Reading node_reading reading z) at) (cost_layer z)
      → Costs s (node_reading (roll-Node z) at) (cost_of_node (roll-Node z))
  unfolding reading
  by z at g =
      subst (λ (f : At → Reading). Costs s (f at) (cost_of_node (roll-Node z))) (sym (fold-roll-Node (At → Reading) Reading node_step expr_step z))
      (subst (Costs s (node_step (map-Node Node Expr (At → Reading) Reading node_reading reading z) at)) (sym (cost_rolled z)) g)

  -- an expression is read as it costs where its node is
  by_expr : (z : Expr-F Node Expr) → Costs s (node_reading z.node z.at) (cost_of_node z.node) → Q (roll-Expr z)
  unfolding reading
  by_expr z g =
      subst (λ (f : Reading). Costs s f (cost_of (roll-Expr z))) (sym (fold-roll-Expr (At → Reading) Reading node_step expr_step z))
      (subst (Costs s (node_reading z.node z.at)) (sym (cost_at z)) g)

  -- a value has the code and takes the fresh locals of the cost, from n on
  abbrev Valued : Val → ℕ → Cost → Type 0
  Valued v n c = (size v.flow ≡ c.size) × (v.next ≡ n + c.fresh)

  -- a name is read as it costs
  name_costs : (at : At) (x : Ident) (o : Option ℕ) (b : Bool) (n : ℕ) → is_none o ≡ not b → Valued (name_value at s x o n) n (name_cost b)
  name_costs at x None false n h = (refl, refl)
  name_costs at x None true n h = absurd cc
  name_costs at x (Some l) false n h = absurd cc
  name_costs at x (Some l) true n h = (refl, omega arith)

  -- a name has code just where it is no local's
  name_coded : (o : Bool) (b : Bool) → o ≡ not b → o ≡ (name_cost b).coded
  name_coded o true h = h
  name_coded o false h = h

  -- the check before a division has the size that is said
  pub division_costs : (op : Binary) (at : At) (e : Pure) → size (division_check op at e) ≡ division_size (is_division op)
  division_costs op at e = by_test (is_division op)
    where
      by_test : (b : Bool) → size (cond b (Do at (instr.Assert (is_not_zero e) 0)) Empty) ≡ division_size b
      by_test true = refl
      by_test false = refl

  -- two operands are read as they cost
  binary_costs : (at : At) (op : Binary) (j : Joining) (a b : Reading) (c d : Cost) (n : ℕ)
      → ((m : ℕ) → Valued (a.value s m) m c) → ((m : ℕ) → Valued (b.value s m) m d)
      → (size (binary_value at op j (a.value s n) (b.value s)).flow ≡ joined_size j op c.size d.size) × ((binary_value at op j (a.value s n) (b.value s)).next ≡ n + joined_fresh j c.fresh d.fresh)
  binary_costs at op And a b c d n ha hb = let m : ℕ = (a.value s n).next in let x = ha n in let y = hb (m + 1) in (omega (arith, x.0, y.0), omega (arith, x.1, y.1))
  binary_costs at op Or a b c d n ha hb = let m : ℕ = (a.value s n).next in let x = ha n in let y = hb (m + 1) in (omega (arith, x.0, y.0), omega (arith, x.1, y.1))
  binary_costs at op Both a b c d n ha hb =
      let m : ℕ = (a.value s n).next in let x = ha n in let y = hb m in
      (omega (arith, x.0, y.0, division_costs op at (b.value s m).pure), omega (arith, x.1, y.1))

  -- a choice is read as it costs
  choice_costs : (at : At) (t : Bool) (c a b : Reading) (x y z : Cost) (n : ℕ)
      → ((m : ℕ) → Valued (c.value s m) m x) → ((m : ℕ) → Valued (a.value s m) m y) → ((m : ℕ) → Valued (b.value s m) m z)
      → (size (cond_value at t (c.value s n) (a.value s) (b.value s)).flow ≡ choice_size t (x.size + y.size + z.size)) ×
      ((cond_value at t (c.value s n) (a.value s) (b.value s)).next ≡ n + choice_fresh t (x.fresh + y.fresh + z.fresh))
  choice_costs at true c a b x y z n hc ha hb =
      let m : ℕ = (c.value s n).next in let k : ℕ = (a.value s (m + 1)).next in let u = hc n in let v = ha (m + 1) in let w = hb k in
      (omega (arith, u.0, v.0, w.0), omega (arith, u.1, v.1, w.1))
  choice_costs at false c a b x y z n hc ha hb =
      let m : ℕ = (c.value s n).next in let k : ℕ = (a.value s m).next in let u = hc n in let v = ha m in let w = hb k in
      (omega (arith, u.0, v.0, w.0), omega (arith, u.1, v.1, w.1))

  -- a reading of the cost gives a value of the cost
  valued : (r : Reading) (c : Costing) → Costs s r c → (n : ℕ) → Valued (r.value s n) n (c (names_of s.names))
  valued r c h n = (h.size n, h.next n)

  -- an operator between two
  binary_case : (at : At) (op : Binary) (a b : Expr) → Q a → Q b → Costs s (node_step (node.Bin op (reading a) (reading b)) at) (node_cost (node.Bin op (cost_of a) (cost_of b)))
  binary_case at op a b ha hb =
      let x = cost_of a (names_of s.names) in let y = cost_of b (names_of s.names) in
      let each : (n : ℕ) → _ =
      λ n. subst (λ t. (size (binary_value at op (joining op t) ((reading a).value s n) ((reading b).value s)).flow ≡ joined_size (joining op y.coded) op x.size y.size) ×
      ((binary_value at op (joining op t) ((reading a).value s n) ((reading b).value s)).next ≡ n + joined_fresh (joining op y.coded) x.fresh y.fresh)) (sym hb.coded)
      (binary_costs at op (joining op y.coded) (reading a) (reading b) x y n (valued (reading a) (cost_of a) ha) (valued (reading b) (cost_of b) hb)) in
      record {
        size = λ n. (each n).0;
        next = λ n. (each n).1;
        coded = λ i. ha.coded i || (hb.coded i || is_division op);
      }

  -- a choice between two
  choice_case : (at : At) (c a b : Expr) → Q c → Q a → Q b → Costs s (node_step (node.Cond (reading c) (reading a) (reading b)) at) (node_cost (node.Cond (cost_of c) (cost_of a) (cost_of b)))
  choice_case at c a b hc ha hb =
      let x = cost_of c (names_of s.names) in let y = cost_of a (names_of s.names) in let z = cost_of b (names_of s.names) in
      let test : ((reading a).has_code s || (reading b).has_code s) ≡ (y.coded || z.coded) = λ i. ha.coded i || hb.coded i in
      let each : (n : ℕ) → _ =
      λ n. subst (λ t. (size (cond_value at t ((reading c).value s n) ((reading a).value s) ((reading b).value s)).flow ≡ choice_size (y.coded || z.coded) (x.size + y.size + z.size)) ×
      ((cond_value at t ((reading c).value s n) ((reading a).value s) ((reading b).value s)).next ≡ n + choice_fresh (y.coded || z.coded) (x.fresh + y.fresh + z.fresh))) (sym test)
      (choice_costs at (y.coded || z.coded) (reading c) (reading a) (reading b) x y z n (valued (reading c) (cost_of c) hc) (valued (reading a) (cost_of a) ha)
      (valued (reading b) (cost_of b) hb)) in
      record {
        size = λ n. (each n).0;
        next = λ n. (each n).1;
        coded = λ i. hc.coded i || (ha.coded i || hb.coded i);
      }

  -- a name
  name_case : (at : At) (x : Ident) → Costs s (node_step (node.Name x) at) (node_cost (node.Name x))
  name_case at x =
      let is = local_found s.names x in
      record {
        size = λ n. (name_costs at x (local_of s.names x) (is_local (names_of s.names) x) n is).0;
        next = λ n. (name_costs at x (local_of s.names x) (is_local (names_of s.names) x) n is).1;
        coded = name_coded (is_none (local_of s.names x)) (is_local (names_of s.names) x) is;
      }

  -- each kind of node is read as it costs where its parts are
  node_costs : (y : Node-F ((d : Node) × P d) ((e : Expr) × Q e)) → P (roll-Node (map-Node ((d : Node) × P d) ((e : Expr) × Q e) Node Expr (λ d. d.0) (λ e. e.0) y))
  node_costs (node.Number z) at = by (node.Number z) at (record { size = λ n. refl; next = λ n. omega arith; coded = refl })
  node_costs node.Null at = by node.Null at (record { size = λ n. refl; next = λ n. omega arith; coded = refl })
  node_costs (node.Name x) at = by (node.Name x) at (name_case at x)
  node_costs (node.Index x e) at = by (node.Index x e.0) at (record { size = λ n. omega (arith, e.1.size n); next = λ n. omega (arith, e.1.next n); coded = refl })
  node_costs (node.Deref e) at = by (node.Deref e.0) at (record { size = λ n. omega (arith, e.1.size n); next = λ n. omega (arith, e.1.next n); coded = refl })
  node_costs (node.AddrName w) at = by (node.AddrName w) at (record { size = λ n. refl; next = λ n. omega arith; coded = refl })
  node_costs (node.AddrIndex w e) at = by (node.AddrIndex w e.0) at (record { size = λ n. omega (arith, e.1.size n); next = λ n. e.1.next n; coded = refl })
  node_costs (node.Un op e) at = by (node.Un op e.0) at (record { size = λ n. e.1.size n; next = λ n. e.1.next n; coded = e.1.coded })
  node_costs (node.Bin op a b) at = by (node.Bin op a.0 b.0) at (binary_case at op a.0 b.0 a.1 b.1)
  node_costs (node.Cond a b c) at = by (node.Cond a.0 b.0 c.0) at (choice_case at a.0 b.0 c.0 a.1 b.1 c.1)

  -- the code of an expression costs what the expression does
  pub costs_expr : (e : Expr) → Q e
  costs_expr = ind-Expr P Q (λ x y is. subst (λ z. P (roll-Node z)) is (node_costs y))
      (λ x y is. subst (λ z. Q (roll-Expr z)) is (by_expr (map-Expr _ _ Node Expr (λ d. d.0) (λ e. e.0) y) (y.node.1 y.at)))

-- ---- expressions in order

-- the cost of expressions in order
abbrev pub costs_of : List Expr → Costing
costs_of [] xs = costs 0 0 false
costs_of (e ∷ es) xs = let c = cost_of e xs in let d = costs_of es xs in costs (c.size + d.size) (c.fresh + d.fresh) (c.coded || d.coded)

-- expressions in order have the code and take the fresh locals of their costs
pub values_cost : (s : Scope) (es : List Expr) (n : ℕ)
    → (size (values s es n).flow ≡ (costs_of es (names_of s.names)).size) × ((values s es n).next ≡ n + (costs_of es (names_of s.names)).fresh) × (length (values s es n).pures ≡ length es)
values_cost s [] n = (refl, omega arith, refl)
values_cost s (e ∷ es) n =
    let m : ℕ = (expr_value e s n).next in
    let a = costs_expr s e in
    let b = values_cost s es m in
    (omega (arith, a.size n, b.0), omega (arith, a.next n, b.1), ap suc b.2)
