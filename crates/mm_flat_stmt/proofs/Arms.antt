-- The code of a statement, by its kind.
use Rattle.std.proofs.Common.{◌≡◌, ◌+◌, ◌<◌, ◌∙◌, refl, sym, ap, subst, Option, Some, None, Result, IfErr, OnOk}
use Rattle.std.specs.Option.{option_map}
use Rattle.mm_goto.specs.declared.ident.At.{At}
use Rattle.mm_tree.specs.declared.stmt.Stmt.{Stmt}
use Rattle.mm_tree.specs.declared.stmt.StmtNode.{StmtNode, roll-StmtNode}
use Rattle.mm_tree.specs.declared.expr.Expr.{Expr}
use Rattle.mm_tree.specs.declared.stmt.StmtNode.TheOpen.{StmtNode-F}
use Rattle.mm_tree.specs.declared.stmt.StmtNode.TheOpen as stmt
use Rattle.mm_tree.specs.declared.stmt.StmtNode.TheVariants as node
use Rattle.mm_tree.specs.declared.stmt.StmtNode.TheFolds.{fold-StmtNode, fold-roll-StmtNode, fold-roll-Stmt, map-StmtNode}
use Rattle.mm_flow.specs.declared.fault.Stop.{Stop}
use Rattle.mm_flow.specs.Flow.{size}
use Rattle.mm_flow.specs.Statements.{Doing, for_code, inner, placed_step, stmt_code, stmt_step}
use Rattle.mm_flow.specs.reading.Assembling.{Assembly, Context, WhenFull, count, doing, done}

abbrev pub node_code : StmtNode → At → Doing
node_code = fold-StmtNode (At → Doing) Doing stmt_step placed_step

code_is : (at : At) (layer : StmtNode-F StmtNode Stmt) → stmt_code (record { at = at; node = roll-StmtNode layer }) ≡ stmt_step (map-StmtNode StmtNode Stmt (At → Doing) Doing node_code stmt_code layer) at
unfolding stmt_code
code_is at layer = fold-roll-Stmt (At → Doing) Doing stmt_step placed_step (record { at = at; node = roll-StmtNode layer }) ∙ ap (λ (f : At → Doing). f at) (fold-roll-StmtNode (At → Doing) Doing stmt_step placed_step layer)

-- the code of a statement whose kind and parts are known
pub stmt_code_is : (s : Stmt) (layer : StmtNode-F StmtNode Stmt) → s.node ≡ roll-StmtNode layer → stmt_code s ≡ stmt_step (map-StmtNode StmtNode Stmt (At → Doing) Doing node_code stmt_code layer) s.at
stmt_code_is s layer e = ap (λ (n : StmtNode). stmt_code (record { at = s.at; node = n })) e ∙ code_is s.at layer

for_step : (at : At) (i : Option Stmt) (c : Option Expr) (j : Option Stmt) (a : Stmt)
    → stmt_step (map-StmtNode StmtNode Stmt (At → Doing) Doing node_code stmt_code (stmt.For i c j a)) at ≡ inner (for_code at (option_map stmt_code i) c (option_map stmt_code j) (stmt_code a))
for_step at None None None a = refl
for_step at None None (Some j) a = refl
for_step at None (Some c) None a = refl
for_step at None (Some c) (Some j) a = refl
for_step at (Some i) None None a = refl
for_step at (Some i) None (Some j) a = refl
for_step at (Some i) (Some c) None a = refl
for_step at (Some i) (Some c) (Some j) a = refl

pub for_is : (s : Stmt) (i : Option Stmt) (c : Option Expr) (j : Option Stmt) (a : Stmt) → s.node ≡ node.For i c j a → stmt_code s ≡ inner (for_code s.at (option_map stmt_code i) c (option_map stmt_code j) (stmt_code a))
for_is s i c j a e = stmt_code_is s (stmt.For i c j a) (e ∙ sym (node.rolls-For i c j a)) ∙ for_step s.at i c j a

pub arm_full : {A : Type 0} (x : Context) (a : Assembly) (r : Result A Stop) (d e : Doing) → d ≡ e
    → IfErr r (λ s. WhenFull s (x.limit < count a + size (doing x e a).flow))
    → IfErr r (λ s. WhenFull s (x.limit < count a + size (doing x d a).flow))
arm_full x a r d e same h = subst (λ (f : Doing). IfErr r (λ s. WhenFull s (x.limit < count a + size (doing x f a).flow))) (sym same) h

pub arm_code : {A : Type 0} (x : Context) (a b : Assembly) (r : Result A Stop) (d e : Doing) → d ≡ e
    → OnOk r (b ≡ done x (doing x e a) a)
    → OnOk r (b ≡ done x (doing x d a) a)
arm_code x a b r d e same h = subst (λ (f : Doing). OnOk r (b ≡ done x (doing x f a) a)) (sym same) h

pub arm_count : {A : Type 0} (x : Context) (a b : Assembly) (r : Result A Stop) (d e : Doing) → d ≡ e
    → OnOk r (count b ≡ count a + size (doing x e a).flow)
    → OnOk r (count b ≡ count a + size (doing x d a).flow)
arm_count x a b r d e same h = subst (λ (f : Doing). OnOk r (count b ≡ count a + size (doing x f a).flow)) (sym same) h
