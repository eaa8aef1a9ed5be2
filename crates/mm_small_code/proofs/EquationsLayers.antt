-- The equations of flattening at the statements and expressions of small programs.
use Rattle.std.proofs.Common.{rules, ◌≡◌, ℕ, ℤ, List, [], ◌∷◌, Option, flat_map}
use Rattle.mm_goto.specs.declared.ident.At.{At}
use Rattle.mm_goto.specs.declared.ident.Ident.{Ident}
use Rattle.mm_goto.specs.declared.pure.Binary.{Binary}
use Rattle.mm_goto.specs.Terms.{constant}
use Rattle.mm_tree.specs.declared.expr.Expr.{Expr}
use Rattle.mm_tree.specs.declared.expr.Node.{the_lemmas as expr_lemmas}
use Rattle.mm_tree.specs.declared.expr.Node.TheOpen as open_node
use Rattle.mm_tree.specs.declared.expr.Node.TheVariants as node
use Rattle.mm_tree.specs.declared.expr.Word.{Word}
use Rattle.mm_tree.specs.declared.stmt.Left.{Left}
use Rattle.mm_tree.specs.declared.stmt.Local.{Local}
use Rattle.mm_tree.specs.declared.stmt.Stmt.{Stmt}
use Rattle.mm_tree.specs.declared.stmt.StmtNode.{the_lemmas as stmt_lemmas}
use Rattle.mm_tree.specs.declared.stmt.StmtNode.TheVariants as stmt
use Rattle.mm_tree.specs.declared.stmt.Value.{Value}
use Rattle.mm_tree.specs.Trees.{expr, node_of, statement}
use Rattle.mm_flow.specs.declared.mentions.Mention.TheVariants.{Assertion, Label}
use Rattle.mm_flow.specs.Scopes.{local_of}
use Rattle.mm_flow.specs.Flow.{Goto}
use Rattle.mm_flow.specs.Expressions.{Scope, no_code, name_value, binary_value, joining, reading, expr_value}
use Rattle.mm_flow.specs.Statements.{Within, Known, declared, effect, assigned, asserted, just, labelled, returned, stmt_code}
use Rattle.mm_flow.specs.Text.{of_value, of_optional, of_local, mentions_of}

-- ---- expressions

pub number_node : (at : At) (z : ℤ) → node_of (expr at (node.Number z)) ≡ open_node.Number z
number_node at z = search (rules, expr_lemmas)

pub number_value : (at : At) (z : ℤ) (s : Scope) (n : ℕ) → expr_value (expr at (node.Number z)) s n ≡ no_code (constant z) n
unfolding reading
number_value at z s n = search (rules, expr_lemmas)

pub named_value : (at : At) (x : Ident) (s : Scope) (n : ℕ) → expr_value (expr at (node.Name x)) s n ≡ name_value at s x (local_of s.names x) n
unfolding reading
named_value at x s n = search (rules, expr_lemmas)

pub operation_value : (at : At) (op : Binary) (a b : Expr) (s : Scope) (n : ℕ) → expr_value (expr at (node.Bin op a b)) s n ≡ binary_value at op (joining op ((reading b).has_code s)) (expr_value a s n) (expr_value b s)
unfolding reading
operation_value at op a b s n = search (rules, expr_lemmas)

-- ---- statements

pub declare_code : (at : At) (ls : List Local) (w : Within) (k : Known) → stmt_code (statement at (stmt.Declare ls)) w k ≡ declared w ls k
unfolding stmt_code
declare_code at ls w k = search (rules, stmt_lemmas)

pub assign_code : (at : At) (l : Left) (v : Value) (w : Within) (k : Known) → stmt_code (statement at (stmt.Assign l v)) w k ≡ effect k (assigned w k.names k.next l v)
unfolding stmt_code
assign_code at l v w k = search (rules, stmt_lemmas)

pub assert_code : (at : At) (e : Expr) (text : Option Ident) (w : Within) (k : Known) → stmt_code (statement at (stmt.Assert e text)) w k ≡ asserted w at e text k
unfolding stmt_code
assert_code at e text w k = search (rules, stmt_lemmas)

pub goto_code : (at : At) (x : Word) (w : Within) (k : Known) → stmt_code (statement at (stmt.Goto x)) w k ≡ just (Goto at x.name) k
unfolding stmt_code
goto_code at x w k = search (rules, stmt_lemmas)

pub label_code : (at : At) (x : Word) (s : Stmt) (w : Within) (k : Known) → stmt_code (statement at (stmt.Label x s)) w k ≡ labelled x.name (stmt_code s) w k
unfolding stmt_code
label_code at x s w k = search (rules, stmt_lemmas)

pub return_code : (at : At) (v : Option Value) (w : Within) (k : Known) → stmt_code (statement at (stmt.Return v)) w k ≡ effect k (returned w at k.names k.next v)
unfolding stmt_code
return_code at v w k = search (rules, stmt_lemmas)

-- ---- what statements mention

pub declare_mentions : (at : At) (ls : List Local) → mentions_of (statement at (stmt.Declare ls)) ≡ flat_map of_local ls
unfolding mentions_of
declare_mentions at ls = search (rules, stmt_lemmas)

pub assign_mentions : (at : At) (l : Left) (v : Value) → mentions_of (statement at (stmt.Assign l v)) ≡ of_value v
unfolding mentions_of
assign_mentions at l v = search (rules, stmt_lemmas)

pub assert_mentions : (at : At) (e : Expr) (text : Option Ident) → mentions_of (statement at (stmt.Assert e text)) ≡ Assertion ∷ []
unfolding mentions_of
assert_mentions at e text = search (rules, stmt_lemmas)

pub goto_mentions : (at : At) (x : Word) → mentions_of (statement at (stmt.Goto x)) ≡ []
unfolding mentions_of
goto_mentions at x = search (rules, stmt_lemmas)

pub label_mentions : (at : At) (x : Word) (s : Stmt) → mentions_of (statement at (stmt.Label x s)) ≡ Label x.name ∷ mentions_of s
unfolding mentions_of
label_mentions at x s = search (rules, stmt_lemmas)

pub return_mentions : (at : At) (v : Option Value) → mentions_of (statement at (stmt.Return v)) ≡ of_optional v
unfolding mentions_of
return_mentions at v = search (rules, stmt_lemmas)
