-- What a statement weighs: the instructions of its code, the fresh locals that they take, and the names that are locals behind it.
use Rattle.std.proofs.Common.{◌≡◌, ℕ, ◌+◌, Bool, true, false, List, [], ◌∷◌, ◌++◌, length, map, Option, Some, None}
use Rattle.mm_goto.specs.declared.ident.Ident.{Ident}
use Rattle.mm_tree.specs.declared.expr.Expr.{Expr}
use Rattle.mm_tree.specs.declared.stmt.LeftNode.{LeftNode}
use Rattle.mm_tree.specs.declared.stmt.LeftNode.TheVariants as left
use Rattle.mm_tree.specs.declared.stmt.Local.{Local}
use Rattle.mm_tree.specs.declared.stmt.Value.{Value}
use Rattle.mm_tree.specs.declared.stmt.Value.TheVariants as value
use Rattle.mm_tree.specs.declared.stmt.Stmt.{Stmt, roll-Stmt, fold-Stmt}
use Rattle.mm_tree.specs.declared.stmt.StmtNode.{StmtNode, roll-StmtNode, fold-StmtNode}
use Rattle.mm_tree.specs.declared.stmt.StmtNode.TheOpen as stmt
use Rattle.mm_tree.specs.declared.stmt.StmtNode.TheOpen.{StmtNode-F, Stmt-F}
use Rattle.mm_tree.specs.declared.stmt.StmtNode.TheFolds.{fold-roll-StmtNode, fold-roll-Stmt, map-StmtNode}
use Rattle.mm_flow.specs.Statements.{is_input}
use Rattle.mm_within.proofs.Costs.{Cost, cost_of, costs_of}

-- so many instructions, and so many fresh locals
pub record Price : Type 0 where
  pub size : ℕ
  pub fresh : ℕ

-- a price
abbrev pub price : ℕ → ℕ → Price
price n f = record { size = n; fresh = f }

-- what a call of each function takes beside its arguments: the instructions of its body, and the locals of it, of its parameters and of
-- its result
abbrev pub Calls : Type 0
Calls = Ident → Price

-- a statement's weight: the names are those behind it
pub record Weight : Type 0 where
  pub size : ℕ
  pub fresh : ℕ
  pub names : List Ident

-- a weight, by what calls take and the names of the locals
abbrev pub Weighing : Type 0
Weighing = Calls → List Ident → Weight

-- a weight
abbrev pub weight : ℕ → ℕ → List Ident → Weight
weight n f xs = record { size = n; fresh = f; names = xs }

-- ---- values

-- a call, by whether it is an input
abbrev pub call_price : Bool → Price → ℕ → Cost → Price
call_price true c n es = price 1 1
call_price false c n es = price (es.size + n + 1 + c.size) (es.fresh + c.fresh)

-- what a value takes
abbrev pub value_price : Calls → List Ident → Value → Price
value_price calls xs (value.Plain e) = price (cost_of e xs).size (cost_of e xs).fresh
value_price calls xs (value.Call at f es) = call_price (is_input f) (calls f) (length es) (costs_of es xs)
value_price calls xs (value.FetchAdd at p e) =
    price ((cost_of p xs).size + 1 + (cost_of e xs).size + 1) ((cost_of p xs).fresh + (cost_of e xs).fresh + 1)
value_price calls xs (value.CompareSwap at p e f) =
    price ((cost_of p xs).size + 1 + (cost_of e xs).size + (cost_of f xs).size + 1) ((cost_of p xs).fresh + (cost_of e xs).fresh + (cost_of f xs).fresh + 1)

-- what a value takes that may be left out
abbrev pub optional_price : Calls → List Ident → Option Value → Price
optional_price calls xs None = price 0 0
optional_price calls xs (Some v) = value_price calls xs v

-- what a left side takes
abbrev pub left_price : List Ident → LeftNode → Price
left_price xs (left.Name x) = price 0 0
left_price xs (left.Index x e) = price ((cost_of e xs).size + 1) (cost_of e xs).fresh
left_price xs (left.Deref e) = price ((cost_of e xs).size + 1) (cost_of e xs).fresh

-- what a condition takes that may be left out
abbrev pub condition_price : List Ident → Option Expr → Price
condition_price xs None = price 0 0
condition_price xs (Some e) = price (cost_of e xs).size (cost_of e xs).fresh

-- ---- statements

-- the weight of declarations
abbrev pub declared_weight : List Local → Weighing
declared_weight [] calls xs = weight 0 0 xs
declared_weight (l ∷ ls) calls xs =
    let v = optional_price calls xs l.value in
    let rest = declared_weight ls calls (xs ++ l.name ∷ []) in
    weight (v.size + 1 + rest.size) (v.fresh + 1 + rest.fresh) rest.names

-- statements in order
abbrev pub in_turn : List Weighing → Weighing
in_turn [] calls xs = weight 0 0 xs
in_turn (f ∷ fs) calls xs =
    let a = f calls xs in
    let b = in_turn fs calls a.names in
    weight (a.size + b.size) (a.fresh + b.fresh) b.names

-- the names end with it
abbrev pub kept : Weight → List Ident → Weight
kept x xs = weight x.size x.fresh xs

-- a statement that may be left out
abbrev pub optional_weight : Option Weighing → Weighing
optional_weight None calls xs = weight 0 0 xs
optional_weight (Some f) calls xs = f calls xs

-- an if, with or without an else
abbrev pub if_weight : Cost → Option Weighing → Weighing → Weighing
if_weight c None d calls xs = let a = d calls xs in weight (c.size + 1 + a.size) (c.fresh + a.fresh) xs
if_weight c (Some e) d calls xs =
    let a = d calls xs in
    let b = e calls xs in
    weight (c.size + 1 + a.size + 1 + b.size) (c.fresh + a.fresh + b.fresh) xs

-- the loop behind the first part of a for
abbrev pub turns_weight : Option Expr → Option Weighing → Weighing → Weighing
turns_weight c j d calls xs =
    let v = condition_price xs c in
    let a = d calls xs in
    let b = optional_weight j calls xs in
    weight (v.size + 1 + a.size + b.size + 1) (v.fresh + a.fresh + b.fresh) xs

-- a for
abbrev pub for_weight : Option Weighing → Option Expr → Option Weighing → Weighing → Weighing
for_weight i c j d calls xs =
    let a = optional_weight i calls xs in
    let b = turns_weight c j d calls a.names in
    weight (a.size + b.size) (a.fresh + b.fresh) xs

-- the weight of a layer, from those of its parts
abbrev pub weigh_step : StmtNode-F Weighing Weighing → Weighing
weigh_step stmt.Empty calls xs = weight 0 0 xs
weigh_step (stmt.Block ds) calls xs = kept (in_turn ds calls xs) xs
weigh_step (stmt.Declare ls) calls xs = declared_weight ls calls xs
weigh_step (stmt.DeclareThread ws) calls xs = weight 0 0 xs
weigh_step (stmt.Assign l v) calls xs =
    let a = left_price xs l.node in let b = value_price calls xs v in weight (a.size + b.size + 1) (a.fresh + b.fresh) xs
weigh_step (stmt.Update l op e) calls xs =
    let a = left_price xs l.node in let b = cost_of e xs in weight (a.size + b.size + 3) (a.fresh + b.fresh + 1) xs
weigh_step (stmt.Do v) calls xs = let b = value_price calls xs v in weight b.size b.fresh xs
weigh_step (stmt.If c d e) calls xs = if_weight (cost_of c xs) e d calls xs
weigh_step (stmt.While c d) calls xs =
    let v = cost_of c xs in let a = d calls xs in weight (v.size + 1 + a.size + 1) (v.fresh + a.fresh) xs
weigh_step (stmt.DoWhile d c) calls xs =
    let v = cost_of c xs in let a = d calls xs in weight (a.size + v.size + 2) (v.fresh + a.fresh) xs
weigh_step (stmt.For i c j d) calls xs = for_weight i c j d calls xs
weigh_step stmt.Break calls xs = weight 1 0 xs
weigh_step stmt.Continue calls xs = weight 1 0 xs
weigh_step (stmt.Return v) calls xs = let b = optional_price calls xs v in weight (b.size + 2) b.fresh xs
weigh_step (stmt.Assert e text) calls xs = let v = cost_of e xs in weight (v.size + 1) v.fresh xs
weigh_step (stmt.Assume e) calls xs = let v = cost_of e xs in weight (v.size + 1) v.fresh xs
weigh_step stmt.Fence calls xs = weight 1 0 xs
weigh_step (stmt.Lock x) calls xs = weight 1 0 xs
weigh_step (stmt.Unlock x) calls xs = weight 1 0 xs
weigh_step (stmt.Start x f) calls xs = weight 1 0 xs
weigh_step (stmt.Join x) calls xs = weight 1 0 xs
weigh_step (stmt.Goto x) calls xs = weight 1 0 xs
weigh_step (stmt.Label x d) calls xs = d calls xs
weigh_step stmt.AtomBegin calls xs = weight 1 0 xs
weigh_step stmt.AtomEnd calls xs = weight 1 0 xs

-- the weight of a statement, from that of its node
abbrev pub weigh_layer : Stmt-F Weighing Weighing → Weighing
weigh_layer layer = layer.node

-- what a node weighs
unfoldable pub weight_of_node : StmtNode → Weighing
weight_of_node d = fold-StmtNode Weighing Weighing weigh_step weigh_layer d

-- what a statement weighs
unfoldable pub weight_of : Stmt → Weighing
weight_of s = fold-Stmt Weighing Weighing weigh_step weigh_layer s

-- what a body weighs
abbrev pub body_weight : List Stmt → Weighing
body_weight ss = in_turn (map weight_of ss)

-- the weight of a layer
abbrev pub weight_layer : StmtNode-F StmtNode Stmt → Weighing
weight_layer z = weigh_step (map-StmtNode StmtNode Stmt Weighing Weighing weight_of_node weight_of z)

-- a node weighs what its layer does
pub weight_rolled : (z : StmtNode-F StmtNode Stmt) → weight_of_node (roll-StmtNode z) ≡ weight_layer z
unfolding weight_of_node weight_of
weight_rolled z = fold-roll-StmtNode Weighing Weighing weigh_step weigh_layer z

-- a statement weighs what its node does
pub weight_at : (z : Stmt-F StmtNode Stmt) → weight_of (roll-Stmt z) ≡ weight_of_node z.node
unfolding weight_of_node weight_of
weight_at z = fold-roll-Stmt Weighing Weighing weigh_step weigh_layer z
