-- How many fresh locals code takes, whatever it does.
use Rattle.std.proofs.Common.{arith, ◌≡◌, ℕ, ◌+◌, ◌≤◌, ℤ, List, [], ◌∷◌, Some, None, refl, ◌∙◌, ap}
use Rattle.mm_goto.specs.declared.ident.Ident.{Ident}
use Rattle.mm_goto.specs.declared.pure.Unary.{Unary}
use Rattle.mm_goto.specs.declared.pure.Binary.{Binary}
use Rattle.mm_tree.specs.Places.{nowhere}
use Rattle.mm_tree.specs.Trees as tree
use Rattle.mm_tree.specs.declared.expr.Expr.{Expr}
use Rattle.mm_tree.specs.declared.expr.Node.TheOpen as node
use Rattle.mm_tree.specs.declared.stmt.LeftNode.TheVariants as left
use Rattle.mm_tree.specs.declared.stmt.Stmt.{Stmt}
use Rattle.mm_tree.specs.declared.stmt.StmtNode.TheOpen as stmt
use Rattle.mm_tree.specs.declared.stmt.Value.TheVariants as value
use Rattle.mm_words.specs.Words.{number, num, var, elem, un, bin, assume, assign, assign_elem, block, return, stmt_of}
use Rattle.mm_flow.specs.declared.names.Joining.TheVariants.{Both}
use Rattle.mm_flow.specs.declared.names.Named.{Named}
use Rattle.mm_flow.specs.declared.names.Seen.{Seen}
use Rattle.mm_flow.specs.Scopes.{local_of}
use Rattle.mm_flow.specs.Expressions.{Scope, joining, expr_value, reading}
use Rattle.mm_flow.specs.Statements.{Within, Known, scope, assigned, stmt_code, body_code}
use Rattle.mm_meaning.proofs.Lowering.{value_is, stmt_is}
use Rattle.mm_meaning.proofs.Does.{told, Knows}

-- where n is the next fresh local, k is the next behind the expression
pub record Sized (s : Scope) (n k : ℕ) (e : Expr) : Type 0 where
  pub is : (expr_value e s n).next ≡ k
  pub grows : n ≤ k

module _ {s : Scope} where
  pub number_sized : (n : ℕ) (z : ℤ) → Sized s n n (number z)
  number_sized n z = record { is = ap (λ v. v.next) (value_is (node.Number z) s n); grows = omega arith }

  pub num_sized : (n c : ℕ) → Sized s n n (num c)
  num_sized n c = record { is = ap (λ v. v.next) (value_is (node.Number _) s n); grows = omega arith }

  pub var_sized : (n : ℕ) (x : Ident) (l : ℕ) → local_of s.names x ≡ Some l → Sized s n n (var x)
  var_sized n x l e = record { is = ap (λ v. v.next) (value_is (node.Name x) s n) ∙ rw e refl; grows = omega arith }

  pub shared_sized : (n : ℕ) (x : Ident) → local_of s.names x ≡ None → Sized s n (n + 1) (var x)
  shared_sized n x e = record { is = ap (λ v. v.next) (value_is (node.Name x) s n) ∙ rw e refl; grows = omega arith }

  pub un_sized : {n k : ℕ} {e : Expr} (op : Unary) → Sized s n k e → Sized s n k (un op e)
  un_sized {n = n} {e = e} op p = record { is = ap (λ v. v.next) (value_is (node.Un op e) s n) ∙ p.is; grows = p.grows }

  pub bin_sized : {n k j : ℕ} {e f : Expr} (op : Binary) → joining op ((reading f).has_code s) ≡ Both → Sized s n k e → Sized s k j f → Sized s n j (bin op e f)
  bin_sized {n = n} {e = e} {f = f} op h p q = record { is = ap (λ v. v.next) (value_is (node.Bin op e f) s n) ∙ rw h (ap (λ i. (expr_value f s i).next) p.is ∙ q.is); grows = omega (arith, p.grows, q.grows) }

  pub elem_sized : {n k : ℕ} {e : Expr} (x : Ident) → Sized s n k e → Sized s n (k + 1) (elem x e)
  elem_sized {n = n} {e = e} x p = record { is = ap (λ v. v.next) (value_is (node.Index x e) s n) ∙ ap (λ z. z + 1) p.is; grows = omega (arith, p.grows) }

-- what is known behind one statement, whatever it does
pub record KnowsOne (w : Within) (names : List Named) (seen : Seen) (k : ℕ) (later : Seen) (j : ℕ) (s : Stmt) : Type 0 where
  pub known : (stmt_code s w (told seen names k)).known ≡ told later names j
  pub grows : k ≤ j

module _ {w : Within} {names : List Named} {seen : Seen} where
  pub knows_nil : (k : ℕ) → Knows w names seen k seen k []
  knows_nil k = record { known = refl; grows = omega arith }

  pub knows_cons : {mid later : Seen} {k i j : ℕ} {s : Stmt} {ss : List Stmt} → KnowsOne w names seen k mid i s → Knows w names mid i later j ss → Knows w names seen k later j (s ∷ ss)
  knows_cons {ss = ss} p q = record { known = ap (λ d. (body_code ss w d).known) p.known ∙ q.known; grows = omega (arith, p.grows, q.grows) }

  pub block_knows : {later : Seen} {k j : ℕ} {ss : List Stmt} → Knows w names seen k later j ss → KnowsOne w names seen k later j (block ss)
  block_knows {k = k} {ss = ss} q = record {
    known = ap (λ x. x.known) (stmt_is (stmt.Block ss) w (told seen names k)) ∙ ap (λ (d : Known). (let x : Known = record { names = names; next = d.next; seen = d.seen } in x)) q.known;
    grows = q.grows;
  }

  pub assume_knows : {k j : ℕ} {e : Expr} → Sized (scope w names) k j e → KnowsOne w names seen k seen j (assume e)
  assume_knows {k = k} {e = e} q = record { known = ap (λ d. d.known) (stmt_is (stmt.Assume e) w (told seen names k)) ∙ ap (told seen names) q.is; grows = q.grows }

  -- x = e; for a local
  pub assign_knows : {k j : ℕ} {e : Expr} (x : Ident) (r : ℕ) → local_of names x ≡ Some r → Sized (scope w names) k j e → KnowsOne w names seen k seen j (assign x e)
  unfolding assigned
  assign_knows {k = k} {e = e} x r is q = record {
    known = ap (λ d. d.known) (stmt_is (stmt.Assign (tree.left_at nowhere (left.Name x)) (value.Plain e)) w (told seen names k)) ∙ rw is (ap (told seen names) q.is);
    grows = q.grows;
  }

  -- x[e] = f;
  pub assign_elem_knows : {k i j : ℕ} {e f : Expr} (x : Ident) → Sized (scope w names) k i e → Sized (scope w names) i j f → KnowsOne w names seen k seen j (assign_elem x e f)
  unfolding assigned
  assign_elem_knows {k = k} {e = e} {f = f} x p q = record {
    known = ap (λ d. d.known) (stmt_is (stmt.Assign (tree.left_at nowhere (left.Index x e)) (value.Plain f)) w (told seen names k))
        ∙ ap (λ n. told seen names (expr_value f (scope w names) n).next) p.is ∙ ap (told seen names) q.is;
    grows = omega (arith, p.grows, q.grows);
  }

  -- return e;
  pub return_knows : {k j : ℕ} {e : Expr} → Sized (scope w names) k j e → KnowsOne w names seen k seen j (return e)
  return_knows {k = k} {e = e} q = record { known = ap (λ d. d.known) (stmt_is (stmt.Return (Some (value.Plain e))) w (told seen names k)) ∙ ap (told seen names) q.is; grows = q.grows }

  -- if (c) s
  pub when_knows : {later : Seen} {k i j : ℕ} {c : Expr} {s : Stmt} → Sized (scope w names) k i c → KnowsOne w names seen i later j s → KnowsOne w names seen k later j (stmt_of (stmt.If c s None))
  when_knows {k = k} {c = c} {s = s} p q = record {
    known = ap (λ d. d.known) (stmt_is (stmt.If c s None) w (told seen names k))
        ∙ ap (λ (n : ℕ). (let d : Known = (stmt_code s w (told seen names n)).known in told d.seen names d.next)) p.is ∙ ap (λ (d : Known). told d.seen names d.next) q.known;
    grows = omega (arith, p.grows, q.grows);
  }
