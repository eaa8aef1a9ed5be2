-- What a tree weighs and mentions does not depend on its places.
use Rattle.std.proofs.Common.{◌≡◌, suc, ◌+◌, ◌||◌, ◌++◌, List, [], ◌∷◌, length, map, refl, sym, ◌∙◌, ap, subst, Option, Some, None}
use Rattle.std.specs.Prelude.{option_map}
use Rattle.std.specs.List.{flat_map}
use Rattle.mm_goto.specs.declared.ident.Ident.{Ident}
use Rattle.mm_tree.specs.declared.expr.Expr.{Expr, roll-Expr}
use Rattle.mm_tree.specs.declared.expr.Node.{Node, roll-Node}
use Rattle.mm_tree.specs.declared.expr.Node.TheOpen as node
use Rattle.mm_tree.specs.declared.expr.Node.TheOpen.{Node-F, Expr-F}
use Rattle.mm_tree.specs.declared.expr.Node.TheFolds.{ind-Expr, fold-roll-Node, fold-roll-Expr, map-Node, map-Expr}
use Rattle.mm_tree.specs.declared.stmt.LeftNode.{LeftNode}
use Rattle.mm_tree.specs.declared.stmt.LeftNode.TheVariants as left
use Rattle.mm_tree.specs.declared.stmt.Local.{Local}
use Rattle.mm_tree.specs.declared.stmt.Value.{Value}
use Rattle.mm_tree.specs.declared.stmt.Value.TheVariants as value
use Rattle.mm_tree.specs.declared.stmt.Stmt.{Stmt, roll-Stmt}
use Rattle.mm_tree.specs.declared.stmt.StmtNode.{StmtNode, roll-StmtNode, fold-StmtNode}
use Rattle.mm_tree.specs.declared.stmt.StmtNode.TheOpen as stmt
use Rattle.mm_tree.specs.declared.stmt.StmtNode.TheOpen.{StmtNode-F, Stmt-F}
use Rattle.mm_tree.specs.declared.stmt.StmtNode.TheFolds.{ind-Stmt, fold-roll-StmtNode, fold-roll-Stmt, map-StmtNode, map-Stmt}
use Rattle.mm_tree.specs.Places.{nowhere, bare_layer, bare_node_step, bare_expr_step, bare_node, bare_expr, bare_left_node, bare_value, bare_local, bare_stmt_layer, bare_stmt_node_step, bare_stmt_step, bare_stmt_node, bare_stmt}
use Rattle.mm_flow.specs.declared.mentions.Mention.{Mention}
use Rattle.mm_flow.specs.declared.mentions.Mention.TheVariants.{Label}
use Rattle.mm_flow.specs.Statements.{is_input}
use Rattle.mm_flow.specs.Text.{of_value, of_optional, of_local, of_parts, mention_step, mentions_of, mentions}
use Rattle.mm_within.proofs.Costs.{node_cost, cost_of_node, cost_of, cost_layer, cost_rolled, cost_at, costs_of}
use Rattle.mm_within.proofs.Weights.{Calls, Weighing, weight, call_price, value_price, optional_price, left_price, declared_weight, in_turn, weigh_step, if_weight, optional_weight, for_weight, weight_of_node, weight_of, body_weight, weight_layer, weight_rolled, weight_at}

-- ---- expressions

-- a bare node costs what the node does
abbrev D : Node → Type 0
D d = cost_of_node (bare_node d) ≡ cost_of_node d

-- a bare expression costs what the expression does
abbrev E : Expr → Type 0
E e = cost_of (bare_expr e) ≡ cost_of e

-- what a bare node is made of
bare_rolled : (z : Node-F Node Expr) → bare_node (roll-Node z) ≡ roll-Node (bare_layer (map-Node Node Expr Node Expr bare_node bare_expr z))
bare_rolled z = fold-roll-Node Node Expr bare_node_step bare_expr_step z

-- what a bare expression is made of
bare_at : (z : Expr-F Node Expr) → bare_expr (roll-Expr z) ≡ roll-Expr (record { at = nowhere; node = bare_node z.node })
bare_at z = fold-roll-Expr Node Expr bare_node_step bare_expr_step z

-- a bare node costs the same where its layer does
by : (z : Node-F Node Expr) → cost_layer (bare_layer (map-Node Node Expr Node Expr bare_node bare_expr z)) ≡ cost_layer z → D (roll-Node z)
by z g = ap cost_of_node (bare_rolled z) ∙ cost_rolled (bare_layer (map-Node Node Expr Node Expr bare_node bare_expr z)) ∙ g ∙ sym (cost_rolled z)

-- a bare expression costs the same where its node does
by_expr : (z : Expr-F Node Expr) → D z.node → E (roll-Expr z)
by_expr z g = ap cost_of (bare_at z) ∙ cost_at (record { at = nowhere; node = bare_node z.node }) ∙ g ∙ sym (cost_at z)

-- each kind of node costs the same where its parts do
node_bare : (y : Node-F ((d : Node) × D d) ((e : Expr) × E e)) → D (roll-Node (map-Node ((d : Node) × D d) ((e : Expr) × E e) Node Expr (λ d. d.0) (λ e. e.0) y))
node_bare (node.Number z) = by (node.Number z) refl
node_bare node.Null = by node.Null refl
node_bare (node.Name x) = by (node.Name x) refl
node_bare (node.Index x e) = by (node.Index x e.0) (λ i. node_cost (node.Index x (e.1 i)))
node_bare (node.Deref e) = by (node.Deref e.0) (λ i. node_cost (node.Deref (e.1 i)))
node_bare (node.AddrName w) = by (node.AddrName w) refl
node_bare (node.AddrIndex w e) = by (node.AddrIndex w e.0) (λ i. node_cost (node.AddrIndex w (e.1 i)))
node_bare (node.Un op e) = by (node.Un op e.0) (λ i. node_cost (node.Un op (e.1 i)))
node_bare (node.Bin op a b) = by (node.Bin op a.0 b.0) (λ i. node_cost (node.Bin op (a.1 i) (b.1 i)))
node_bare (node.Cond a b c) = by (node.Cond a.0 b.0 c.0) (λ i. node_cost (node.Cond (a.1 i) (b.1 i) (c.1 i)))

-- a bare expression costs what the expression does
pub cost_bare : (e : Expr) → E e
cost_bare = ind-Expr D E (λ x y is. subst (λ z. D (roll-Node z)) is (node_bare y)) (λ x y is. subst (λ z. E (roll-Expr z)) is (by_expr (map-Expr _ _ Node Expr (λ d. d.0) (λ e. e.0) y) y.node.1))

-- so do expressions in order
costs_bare : (es : List Expr) → costs_of (map bare_expr es) ≡ costs_of es
costs_bare [] = refl
costs_bare (e ∷ es) = λ i xs. let c = cost_bare e i xs in let d = costs_bare es i xs in record { size = c.size + d.size; fresh = c.fresh + d.fresh; coded = c.coded || d.coded }

-- ---- values

-- there are as many bare expressions
length_bare : (es : List Expr) → length (map bare_expr es) ≡ length es
length_bare [] = refl
length_bare (e ∷ es) = ap suc (length_bare es)

-- a bare value takes the same
value_bare : (v : Value) (calls : Calls) (xs : List Ident) → value_price calls xs (bare_value v) ≡ value_price calls xs v
value_bare (value.Plain e) calls xs = λ i. record { size = (cost_bare e i xs).size; fresh = (cost_bare e i xs).fresh }
value_bare (value.Call at f es) calls xs = λ i. call_price (is_input f) (calls f) (length_bare es i) (costs_bare es i xs)
value_bare (value.FetchAdd at p e) calls xs = λ i. record { size = (cost_bare p i xs).size + 1 + (cost_bare e i xs).size + 1; fresh = (cost_bare p i xs).fresh + (cost_bare e i xs).fresh + 1 }
value_bare (value.CompareSwap at p e f) calls xs =
    λ i. record {
      size = (cost_bare p i xs).size + 1 + (cost_bare e i xs).size + (cost_bare f i xs).size + 1;
      fresh = (cost_bare p i xs).fresh + (cost_bare e i xs).fresh + (cost_bare f i xs).fresh + 1;
    }

-- so does one that may be left out
optional_bare : (v : Option Value) (calls : Calls) (xs : List Ident) → optional_price calls xs (option_map bare_value v) ≡ optional_price calls xs v
optional_bare None calls xs = refl
optional_bare (Some v) calls xs = value_bare v calls xs

-- so does a bare left side
left_bare : (l : LeftNode) (xs : List Ident) → left_price xs (bare_left_node l) ≡ left_price xs l
left_bare (left.Name x) xs = refl
left_bare (left.Index x e) xs = λ i. record { size = (cost_bare e i xs).size + 1; fresh = (cost_bare e i xs).fresh }
left_bare (left.Deref e) xs = λ i. record { size = (cost_bare e i xs).size + 1; fresh = (cost_bare e i xs).fresh }

-- so do bare declarations
declared_bare : (ls : List Local) → declared_weight (map bare_local ls) ≡ declared_weight ls
declared_bare [] = refl
declared_bare (l ∷ ls) = λ i calls xs.
    let v = optional_bare l.value calls xs i in
    let rest = declared_bare ls i calls (xs ++ l.name ∷ []) in
    weight (v.size + 1 + rest.size) (v.fresh + 1 + rest.fresh) rest.names

-- a bare value mentions the same
mention_value : (v : Value) → of_value (bare_value v) ≡ of_value v
mention_value (value.Plain e) = refl
mention_value (value.Call at f es) = refl
mention_value (value.FetchAdd at p e) = refl
mention_value (value.CompareSwap at p e f) = refl

-- so does one that may be left out
mention_optional : (v : Option Value) → of_optional (option_map bare_value v) ≡ of_optional v
mention_optional None = refl
mention_optional (Some v) = mention_value v

-- so do bare declarations
mention_locals : (ls : List Local) → flat_map of_local (map bare_local ls) ≡ flat_map of_local ls
mention_locals [] = refl
mention_locals (l ∷ ls) = λ i. mention_optional l.value i ++ mention_locals ls i

-- ---- statements

-- what a statement's node mentions
abbrev pub node_mentions : StmtNode → List Mention
node_mentions = fold-StmtNode (List Mention) (List Mention) mention_step (λ layer. layer.node)

-- what a layer mentions, by its parts
abbrev pub mention_layer : StmtNode-F StmtNode Stmt → List Mention
mention_layer z = mention_step (map-StmtNode StmtNode Stmt (List Mention) (List Mention) node_mentions mentions_of z)

-- a node mentions what its layer does
pub mention_rolled : (z : StmtNode-F StmtNode Stmt) → node_mentions (roll-StmtNode z) ≡ mention_layer z
unfolding mentions_of
mention_rolled z = fold-roll-StmtNode (List Mention) (List Mention) mention_step (λ layer. layer.node) z

-- a statement mentions what its node does
pub mention_at : (z : Stmt-F StmtNode Stmt) → mentions_of (roll-Stmt z) ≡ node_mentions z.node
unfolding mentions_of
mention_at z = fold-roll-Stmt (List Mention) (List Mention) mention_step (λ layer. layer.node) z

-- a bare node weighs and mentions the same
abbrev P : StmtNode → Type 0
P d = (weight_of_node (bare_stmt_node d) ≡ weight_of_node d) × (node_mentions (bare_stmt_node d) ≡ node_mentions d)

-- a bare statement weighs and mentions the same
abbrev Q : Stmt → Type 0
Q s = (weight_of (bare_stmt s) ≡ weight_of s) × (mentions_of (bare_stmt s) ≡ mentions_of s)

-- a layer with bare parts, bare itself
abbrev barer : StmtNode-F StmtNode Stmt → StmtNode-F StmtNode Stmt
barer z = bare_stmt_layer (map-StmtNode StmtNode Stmt StmtNode Stmt bare_stmt_node bare_stmt z)

-- what a bare node is made of
stmt_rolled : (z : StmtNode-F StmtNode Stmt) → bare_stmt_node (roll-StmtNode z) ≡ roll-StmtNode (barer z)
stmt_rolled z = fold-roll-StmtNode StmtNode Stmt bare_stmt_node_step bare_stmt_step z

-- what a bare statement is made of
stmt_at : (z : Stmt-F StmtNode Stmt) → bare_stmt (roll-Stmt z) ≡ roll-Stmt (record { at = nowhere; node = bare_stmt_node z.node })
stmt_at z = fold-roll-Stmt StmtNode Stmt bare_stmt_node_step bare_stmt_step z

-- a bare node weighs and mentions the same where its layer does
by_node : (z : StmtNode-F StmtNode Stmt) → weight_layer (barer z) ≡ weight_layer z → mention_layer (barer z) ≡ mention_layer z → P (roll-StmtNode z)
by_node z g h = (ap weight_of_node (stmt_rolled z) ∙ weight_rolled (barer z) ∙ g ∙ sym (weight_rolled z), ap node_mentions (stmt_rolled z) ∙ mention_rolled (barer z) ∙ h ∙ sym (mention_rolled z))

-- a bare statement does where its node does
by_stmt : (z : Stmt-F StmtNode Stmt) → P z.node → Q (roll-Stmt z)
by_stmt z g =
    let bare : Stmt-F StmtNode Stmt = record { at = nowhere; node = bare_stmt_node z.node } in
    (ap weight_of (stmt_at z) ∙ weight_at bare ∙ g.0 ∙ sym (weight_at z), ap mentions_of (stmt_at z) ∙ mention_at bare ∙ g.1 ∙ sym (mention_at z))

-- a statement of which it is proved
abbrev Proved : Type 0
Proved = (s : Stmt) × Q s

-- the statements alone
abbrev stmts_in : List Proved → List Stmt
stmts_in ss = map (λ (s : Proved). s.0) ss

-- the statements of a block weigh the same
parts_weigh : (ss : List Proved) → map weight_of (map bare_stmt (stmts_in ss)) ≡ map weight_of (stmts_in ss)
parts_weigh [] = refl
parts_weigh (s ∷ ss) = λ i. s.1.0 i ∷ parts_weigh ss i

-- the statements of a block mention the same
parts_mention : (ss : List Proved) → map mentions_of (map bare_stmt (stmts_in ss)) ≡ map mentions_of (stmts_in ss)
parts_mention [] = refl
parts_mention (s ∷ ss) = λ i. s.1.1 i ∷ parts_mention ss i

-- a layer whose parts are proved
abbrev Layer : Type 0
Layer = StmtNode-F ((d : StmtNode) × P d) Proved

-- the layer alone
abbrev alone : Layer → StmtNode-F StmtNode Stmt
alone y = map-StmtNode ((d : StmtNode) × P d) Proved StmtNode Stmt (λ d. d.0) (λ e. e.0) y

-- a layer weighs and mentions the same where it is bare
abbrev IsBare : StmtNode-F StmtNode Stmt → Type 0
IsBare z = (weight_layer (barer z) ≡ weight_layer z) × (mention_layer (barer z) ≡ mention_layer z)

-- a loop weighs the same where its parts do
for_bare : (c : Option Expr) {x y u v : Option Weighing} {f g : Weighing} → x ≡ y → u ≡ v → f ≡ g → for_weight x (option_map bare_expr c) u f ≡ for_weight y c v g
for_bare c {x} {y} {u} {v} {f} {g} p q r = ap (λ t. for_weight t (option_map bare_expr c) u f) p ∙ ap (λ t. for_weight y (option_map bare_expr c) t f) q
    ∙ ap (λ t. for_weight y (option_map bare_expr c) v t) r ∙ by_condition c
  where
    by_condition : (c : Option Expr) → for_weight y (option_map bare_expr c) v g ≡ for_weight y c v g
    by_condition None = refl
    by_condition (Some e) = λ i calls xs.
        let a = optional_weight y calls xs in
        let k = cost_bare e i a.names in
        let b = g calls a.names in
        let d = optional_weight v calls a.names in
        weight (a.size + (k.size + 1 + b.size + d.size + 1)) (a.fresh + (k.fresh + b.fresh + d.fresh)) xs

-- each kind of statement weighs and mentions the same where its parts do
layer_bare : (y : Layer) → IsBare (alone y)
layer_bare stmt.Empty = (refl, refl)
layer_bare (stmt.Block ss) = (λ i. weigh_step (stmt.Block (parts_weigh ss i)), λ i. of_parts (parts_mention ss i))
layer_bare (stmt.Declare ls) = (declared_bare ls, mention_locals ls)
layer_bare (stmt.DeclareThread xs) = (refl, refl)
layer_bare (stmt.Assign l v) = (λ i calls xs. let a = left_bare l.node xs i in let b = value_bare v calls xs i in weight (a.size + b.size + 1) (a.fresh + b.fresh) xs, mention_value v)
layer_bare (stmt.Update l op e) = (λ i calls xs. let a = left_bare l.node xs i in let b = cost_bare e i xs in weight (a.size + b.size + 3) (a.fresh + b.fresh + 1) xs, refl)
layer_bare (stmt.Do v) = (λ i calls xs. let b = value_bare v calls xs i in weight b.size b.fresh xs, mention_value v)
layer_bare (stmt.If c d None) = (λ i calls xs. if_weight (cost_bare c i xs) None (d.1.0 i) calls xs, λ i. d.1.1 i ++ [])
layer_bare (stmt.If c d (Some e)) = (λ i calls xs. if_weight (cost_bare c i xs) (Some (e.1.0 i)) (d.1.0 i) calls xs, λ i. d.1.1 i ++ e.1.1 i)
layer_bare (stmt.While c d) = (λ i calls xs. let v = cost_bare c i xs in let a = d.1.0 i calls xs in weight (v.size + 1 + a.size + 1) (v.fresh + a.fresh) xs, d.1.1)
layer_bare (stmt.DoWhile d c) = (λ i calls xs. let v = cost_bare c i xs in let a = d.1.0 i calls xs in weight (a.size + v.size + 2) (v.fresh + a.fresh) xs, d.1.1)
layer_bare (stmt.For None c None d) = (for_bare c {x = None} {u = None} refl refl d.1.0, d.1.1)
layer_bare (stmt.For None c (Some j) d) = (for_bare c {x = None} refl (ap Some j.1.0) d.1.0, λ i. j.1.1 i ++ d.1.1 i)
layer_bare (stmt.For (Some x) c None d) = (for_bare c {u = None} (ap Some x.1.0) refl d.1.0, λ i. x.1.1 i ++ d.1.1 i)
layer_bare (stmt.For (Some x) c (Some j) d) = (for_bare c (ap Some x.1.0) (ap Some j.1.0) d.1.0, λ i. x.1.1 i ++ (j.1.1 i ++ d.1.1 i))
layer_bare stmt.Break = (refl, refl)
layer_bare stmt.Continue = (refl, refl)
layer_bare (stmt.Return v) = (λ i calls xs. let b = optional_bare v calls xs i in weight (b.size + 2) b.fresh xs, mention_optional v)
layer_bare (stmt.Assert e text) = (λ i calls xs. let v = cost_bare e i xs in weight (v.size + 1) v.fresh xs, refl)
layer_bare (stmt.Assume e) = (λ i calls xs. let v = cost_bare e i xs in weight (v.size + 1) v.fresh xs, refl)
layer_bare stmt.Fence = (refl, refl)
layer_bare (stmt.Lock x) = (refl, refl)
layer_bare (stmt.Unlock x) = (refl, refl)
layer_bare (stmt.Start x f) = (refl, refl)
layer_bare (stmt.Join x) = (refl, refl)
layer_bare (stmt.Goto x) = (refl, refl)
layer_bare (stmt.Label x d) = (d.1.0, λ i. Label x.name ∷ d.1.1 i)
layer_bare stmt.AtomBegin = (refl, refl)
layer_bare stmt.AtomEnd = (refl, refl)

-- a bare statement weighs and mentions what the statement does
pub stmt_bare : (s : Stmt) → Q s
stmt_bare = ind-Stmt P Q
    (λ x y is. subst (λ z. P (roll-StmtNode z)) is (by_node (alone y) (layer_bare y).0 (layer_bare y).1))
    (λ x y is. subst (λ z. Q (roll-Stmt z)) is (by_stmt (map-Stmt _ _ StmtNode Stmt (λ d. d.0) (λ e. e.0) y) y.node.1))

-- a bare body weighs what the body does
pub body_bare : (ss : List Stmt) → body_weight (map bare_stmt ss) ≡ body_weight ss
body_bare ss = ap in_turn (each ss)
  where
    each : (ss : List Stmt) → map weight_of (map bare_stmt ss) ≡ map weight_of ss
    each [] = refl
    each (s ∷ ss) = λ i. (stmt_bare s).0 i ∷ each ss i

-- a bare body mentions what the body does
pub mentions_bare : (ss : List Stmt) → mentions (map bare_stmt ss) ≡ mentions ss
mentions_bare [] = refl
mentions_bare (s ∷ ss) = λ i. (stmt_bare s).1 i ++ mentions_bare ss i
