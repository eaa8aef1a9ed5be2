-- What stands before the code of a statement grows by what its text mentions.
use Rattle.std.proofs.Common.{arith, ◌≡◌, ℕ, ◌+◌, cond, List, [], ◌∷◌, ◌++◌, length, map, refl, ◌∙◌, sym, ap, subst, Option, Some, None}
use Rattle.std.specs.List.{count_by, flat_map}
use Rattle.std.proofs.lemmas.List.{length-append}
use Rattle.std.proofs.lemmas.List.Sums.{sum_by-cons}
use Rattle.mm_goto.specs.declared.ident.At.{At}
use Rattle.mm_tree.specs.declared.expr.Expr.{Expr}
use Rattle.mm_tree.specs.declared.stmt.Local.{Local}
use Rattle.mm_tree.specs.declared.stmt.Value.{Value}
use Rattle.mm_tree.specs.declared.stmt.Value.TheVariants as value
use Rattle.mm_tree.specs.declared.stmt.Stmt.{Stmt, roll-Stmt}
use Rattle.mm_tree.specs.declared.stmt.StmtNode.{StmtNode, roll-StmtNode}
use Rattle.mm_tree.specs.declared.stmt.StmtNode.TheOpen as stmt
use Rattle.mm_tree.specs.declared.stmt.StmtNode.TheOpen.{StmtNode-F, Stmt-F}
use Rattle.mm_tree.specs.declared.stmt.StmtNode.TheFolds.{ind-Stmt, fold-StmtNode, fold-roll-StmtNode, fold-roll-Stmt, map-StmtNode, map-Stmt}
use Rattle.mm_flow.specs.declared.mentions.Mention.{Mention}
use Rattle.mm_flow.specs.declared.mentions.Mention.TheVariants.{Assertion, Create, Label, Call}
use Rattle.mm_flow.specs.Statements.{Known, Did, Doing, Within, scope, reads, from, declared_one, declared, in_order, inner, while_code, optional, condition, turns, for_code, stmt_step, placed_step, stmt_code, body_code}
use Rattle.mm_flow.specs.Text.{of_value, of_optional, of_local, of_parts, mention_step, mentions_of, mentions, is_assertion, creates}
use Rattle.mm_sourcelike.proofs.Counting.{count_append}
use Rattle.mm_sourcelike.proofs.Lengthening.{node_code}

pub creates_append : (xs ys : List Mention) → creates (xs ++ ys) ≡ creates xs ++ creates ys
creates_append [] ys = refl
creates_append (Assertion ∷ xs) ys = creates_append xs ys
creates_append (Create s ∷ xs) ys = ap (λ ss. s ∷ ss) (creates_append xs ys)
creates_append (Label y ∷ xs) ys = creates_append xs ys
creates_append (Call f ∷ xs) ys = creates_append xs ys

abbrev pub asserts : List Mention → ℕ
asserts ms = count_by is_assertion ms

abbrev pub starts : List Mention → ℕ
starts ms = length (creates ms)

-- there is so much more before it
pub record Passes (ms : List Mention) (k : Known) (d : Did) : Type 0 where
  pub asserts : d.known.seen.asserts ≡ k.seen.asserts + asserts ms
  pub starts : d.known.seen.starts ≡ k.seen.starts + starts ms

abbrev pub Passing : List Mention → Doing → Type 0
Passing ms d = (w : Within) (k : Known) → Passes ms k (d w k)

both : (ms ns : List Mention) (k : Known) (a b : Did) (c : Did) → Passes ms k a → Passes ns a.known b → c.known.seen.asserts ≡ b.known.seen.asserts → c.known.seen.starts ≡ b.known.seen.starts → Passes (ms ++ ns) k c
both ms ns k a b c h g e f = record {
  asserts = omega (arith, e, g.asserts, h.asserts, count_append is_assertion ms ns);
  starts = omega (arith, f, g.starts, h.starts, length-append (creates ms) (creates ns), ap length (creates_append ms ns));
}

same : (k : Known) (d : Did) → d.known.seen.asserts ≡ k.seen.asserts → d.known.seen.starts ≡ k.seen.starts → Passes [] k d
same k d e f = record { asserts = omega arith; starts = omega arith }

-- what is mentioned by values is no assertion and no create
pub record IsIdle (ms : List Mention) : Type 0 where
  pub asserts : asserts ms ≡ 0
  pub starts : starts ms ≡ 0

idle_value : (v : Value) → IsIdle (of_value v)
idle_value (value.Plain e) = record { asserts = refl; starts = refl }
idle_value (value.Call at f es) = record { asserts = refl; starts = refl }
idle_value (value.FetchAdd at p e) = record { asserts = refl; starts = refl }
idle_value (value.CompareSwap at p e f) = record { asserts = refl; starts = refl }

idle_optional : (v : Option Value) → IsIdle (of_optional v)
idle_optional None = record { asserts = refl; starts = refl }
idle_optional (Some v) = idle_value v

idle : (ms : List Mention) (k : Known) (d : Did) → IsIdle ms → d.known.seen.asserts ≡ k.seen.asserts → d.known.seen.starts ≡ k.seen.starts → Passes ms k d
idle ms k d h e f = record { asserts = omega (arith, h.asserts); starts = omega (arith, h.starts) }

idle_both : (ms ns : List Mention) → IsIdle ms → IsIdle ns → IsIdle (ms ++ ns)
idle_both ms ns h g = record {
  asserts = omega (arith, h.asserts, g.asserts, count_append is_assertion ms ns);
  starts = omega (arith, h.starts, g.starts, length-append (creates ms) (creates ns), ap length (creates_append ms ns));
}

idle_locals : (ls : List Local) → IsIdle (flat_map of_local ls)
idle_locals [] = record { asserts = refl; starts = refl }
idle_locals (l ∷ ls) = idle_both (of_local l) (flat_map of_local ls) (idle_optional l.value) (idle_locals ls)

declared_seen : (ls : List Local) (w : Within) (k : Known) → ((declared w ls k).known.seen.asserts ≡ k.seen.asserts) × ((declared w ls k).known.seen.starts ≡ k.seen.starts)
declared_seen [] w k = (refl, refl)
declared_seen (l ∷ ls) w k = declared_seen ls w (declared_one w k l).known

-- ---- the whole

abbrev node_mentions : StmtNode → List Mention
node_mentions = fold-StmtNode (List Mention) (List Mention) mention_step (λ layer. layer.node)

abbrev P : StmtNode → Type 0
P d = (at : At) → Passing (node_mentions d) (node_code d at)

abbrev Q : Stmt → Type 0
Q s = Passing (mentions_of s) (stmt_code s)

abbrev code_layer : StmtNode-F StmtNode Stmt → At → Doing
code_layer z at = stmt_step (map-StmtNode StmtNode Stmt (At → Doing) Doing node_code stmt_code z) at

abbrev mention_layer : StmtNode-F StmtNode Stmt → List Mention
mention_layer z = mention_step (map-StmtNode StmtNode Stmt (List Mention) (List Mention) node_mentions mentions_of z)

by : (z : StmtNode-F StmtNode Stmt) (at : At) → Passing (mention_layer z) (code_layer z at) → Passing (node_mentions (roll-StmtNode z)) (node_code (roll-StmtNode z) at)
unfolding stmt_code mentions_of
by z at g =
    subst (λ (f : At → Doing). Passing (node_mentions (roll-StmtNode z)) (f at)) (sym (fold-roll-StmtNode (At → Doing) Doing stmt_step placed_step z))
    (subst (λ (f : List Mention). Passing f (code_layer z at)) (sym (fold-roll-StmtNode (List Mention) (List Mention) mention_step (λ layer. layer.node) z)) g)

by_stmt : (z : Stmt-F StmtNode Stmt) → Passing (node_mentions z.node) (node_code z.node z.at) → Q (roll-Stmt z)
unfolding stmt_code mentions_of
by_stmt z g =
    subst (λ (f : Doing). Passing (mentions_of (roll-Stmt z)) f) (sym (fold-roll-Stmt (At → Doing) Doing stmt_step placed_step z))
    (subst (λ (f : List Mention). Passing f (node_code z.node z.at)) (sym (fold-roll-Stmt (List Mention) (List Mention) mention_step (λ layer. layer.node) z)) g)

abbrev Proved : Type 0
Proved = (s : Stmt) × Q s

abbrev stmts_in : List Proved → List Stmt
stmts_in ss = map (λ (s : Proved). s.0) ss

parts_pass : (ss : List Proved) → Passing (of_parts (map mentions_of (stmts_in ss))) (in_order (map stmt_code (stmts_in ss)))
parts_pass [] w k = same k _ refl refl
parts_pass (s ∷ ss) w k =
    both (mentions_of s.0) (of_parts (map mentions_of (stmts_in ss))) k (stmt_code s.0 w k) (in_order (map stmt_code (stmts_in ss)) w (stmt_code s.0 w k).known) _ (s.1 w k) (parts_pass ss w (stmt_code s.0 w k).known) refl refl

abbrev Layer : Type 0
Layer = StmtNode-F ((d : StmtNode) × P d) Proved

abbrev bare : Layer → StmtNode-F StmtNode Stmt
bare y = map-StmtNode ((d : StmtNode) × P d) Proved StmtNode Stmt (λ d. d.0) (λ e. e.0) y

while_passes : (at : At) (c : Expr) (s : Proved) → Passing (mentions_of s.0) (while_code at c (stmt_code s.0))
unfolding while_code
while_passes at c s w k = let a = s.1 w (from k (reads w k.names c k.next).next) in record { asserts = a.asserts; starts = a.starts }

-- the loop behind the first part of a for
turns_pass : (at : At) (c : Option Expr) (j : Option Doing) (mj : List Mention) (s : Proved) → Passing mj (optional j) → Passing (mj ++ mentions_of s.0) (turns at c j (stmt_code s.0))
turns_pass at c j mj s g w k =
    let k1 : Known = from k (condition (scope w k.names) c k.next).next in
    let a = s.1 w k1 in
    let b = g w (inner (stmt_code s.0) w k1).known in
    record {
      asserts = omega (arith, a.asserts, b.asserts, count_append is_assertion mj (mentions_of s.0));
      starts = omega (arith, a.starts, b.starts, length-append (creates mj) (creates (mentions_of s.0)), ap length (creates_append mj (mentions_of s.0)));
    }

for_passes : (at : At) (i : Option Doing) (mi : List Mention) (c : Option Expr) (j : Option Doing) (mj : List Mention) (s : Proved) → Passing mi (optional i) → Passing mj (optional j) → Passing (mi ++ (mj ++ mentions_of s.0)) (for_code at i c j (stmt_code s.0))
unfolding for_code
for_passes at i mi c j mj s f g w k = both mi (mj ++ mentions_of s.0) k (optional i w k) (turns at c j (stmt_code s.0) w (optional i w k).known) _ (f w k) (turns_pass at c j mj s g w (optional i w k).known) refl refl

inner_passes : (ms : List Mention) (d : Doing) → Passing ms d → Passing ms (inner d)
inner_passes ms d h w k = let a = h w k in record { asserts = a.asserts; starts = a.starts }

none_passes : Passing [] (optional None)
none_passes w k = same k _ refl refl

layer_passes : (y : Layer) (at : At) → Passing (mention_layer (bare y)) (code_layer (bare y) at)
layer_passes stmt.Empty at w k = same k _ refl refl
layer_passes (stmt.Block ss) at w k = inner_passes (of_parts (map mentions_of (stmts_in ss))) (in_order (map stmt_code (stmts_in ss))) (parts_pass ss) w k
layer_passes (stmt.Declare ls) at w k = let h = declared_seen ls w k in idle (flat_map of_local ls) k (declared w ls k) (idle_locals ls) h.0 h.1
layer_passes (stmt.DeclareThread xs) at w k = same k _ refl refl
layer_passes (stmt.Assign l v) at w k = idle (of_value v) k _ (idle_value v) refl refl
layer_passes (stmt.Update l op e) at w k = same k _ refl refl
layer_passes (stmt.Do v) at w k = idle (of_value v) k _ (idle_value v) refl refl
layer_passes (stmt.If c d None) at w k =
    let a = d.1 w (from k (reads w k.names c k.next).next) in
    both (mentions_of d.0) [] k (stmt_code d.0 w (from k (reads w k.names c k.next).next)) (stmt_code d.0 w (from k (reads w k.names c k.next).next)) _ (record { asserts = a.asserts; starts = a.starts }) (same _ _ refl refl) refl refl
layer_passes (stmt.If c d (Some e)) at w k =
    let k1 : Known = from k (reads w k.names c k.next).next in
    let a = d.1 w k1 in
    let b = e.1 w (inner (stmt_code d.0) w k1).known in
    both (mentions_of d.0) (mentions_of e.0) k (stmt_code d.0 w k1) (stmt_code e.0 w (inner (stmt_code d.0) w k1).known) _ (record { asserts = a.asserts; starts = a.starts }) (record { asserts = b.asserts; starts = b.starts }) refl refl
layer_passes (stmt.While c d) at w k = while_passes at c d w k
layer_passes (stmt.DoWhile d c) at w k = let a = d.1 w k in record { asserts = a.asserts; starts = a.starts }
layer_passes (stmt.For None c None d) at w k = inner_passes _ (for_code at None c None (stmt_code d.0)) (for_passes at None [] c None [] d none_passes none_passes) w k
layer_passes (stmt.For None c (Some j) d) at w k = inner_passes _ (for_code at None c (Some (stmt_code j.0)) (stmt_code d.0)) (for_passes at None [] c (Some (stmt_code j.0)) (mentions_of j.0) d none_passes j.1) w k
layer_passes (stmt.For (Some i) c None d) at w k = inner_passes _ (for_code at (Some (stmt_code i.0)) c None (stmt_code d.0)) (for_passes at (Some (stmt_code i.0)) (mentions_of i.0) c None [] d i.1 none_passes) w k
layer_passes (stmt.For (Some i) c (Some j) d) at w k = inner_passes _ (for_code at (Some (stmt_code i.0)) c (Some (stmt_code j.0)) (stmt_code d.0)) (for_passes at (Some (stmt_code i.0)) (mentions_of i.0) c (Some (stmt_code j.0)) (mentions_of j.0) d i.1 j.1) w k
layer_passes stmt.Break at w k = same k _ refl refl
layer_passes stmt.Continue at w k = same k _ refl refl
layer_passes (stmt.Return v) at w k = idle (of_optional v) k _ (idle_optional v) refl refl
layer_passes (stmt.Assert e text) at w k = record { asserts = refl; starts = omega arith }
layer_passes (stmt.Assume e) at w k = same k _ refl refl
layer_passes stmt.Fence at w k = same k _ refl refl
layer_passes (stmt.Lock x) at w k = same k _ refl refl
layer_passes (stmt.Unlock x) at w k = same k _ refl refl
layer_passes (stmt.Start x f) at w k = record { asserts = omega arith; starts = refl }
layer_passes (stmt.Join x) at w k = same k _ refl refl
layer_passes (stmt.Goto x) at w k = same k _ refl refl
layer_passes (stmt.Label x d) at w k =
    let a = d.1 w k in
    record { asserts = a.asserts ∙ omega (arith, sum_by-cons (λ m. cond (is_assertion m) 1 0) (Label x.name) (mentions_of d.0)); starts = a.starts }
layer_passes stmt.AtomBegin at w k = same k _ refl refl
layer_passes stmt.AtomEnd at w k = same k _ refl refl

pub stmt_passes : (s : Stmt) → Passing (mentions_of s) (stmt_code s)
stmt_passes = ind-Stmt P Q
    (λ x y is. subst (λ z. P (roll-StmtNode z)) is (λ at. by (bare y) at (layer_passes y at)))
    (λ x y is. subst (λ z. Q (roll-Stmt z)) is (by_stmt (map-Stmt _ _ StmtNode Stmt (λ d. d.0) (λ e. e.0) y) (y.node.1 y.at)))

pub body_passes : (ss : List Stmt) → Passing (mentions ss) (body_code ss)
body_passes [] w k = same k _ refl refl
body_passes (s ∷ ss) w k = both (mentions_of s) (mentions ss) k (stmt_code s w k) (body_code ss w (stmt_code s w k).known) _ (stmt_passes s w k) (body_passes ss w (stmt_code s w k).known) refl refl
