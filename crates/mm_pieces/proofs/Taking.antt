-- How many fresh locals code takes that loops, calls or declares, whatever it does.
use Rattle.std.proofs.Common.{arith, ◌≡◌, ℕ, ◌+◌, ◌≤◌, ℤ, Bool, true, false, List, [], ◌∷◌, ◌++◌, length, Some, None, refl, ◌∙◌, ap}
use Rattle.mm_goto.specs.declared.ident.Ident.{Ident}
use Rattle.mm_tree.specs.Places.{nowhere}
use Rattle.mm_tree.specs.Trees as tree
use Rattle.mm_tree.specs.declared.expr.Expr.{Expr}
use Rattle.mm_tree.specs.declared.stmt.LeftNode.TheVariants as left
use Rattle.mm_tree.specs.declared.stmt.Stmt.{Stmt}
use Rattle.mm_tree.specs.declared.stmt.StmtNode.TheOpen as stmt
use Rattle.mm_words.specs.Words.{stmt_of, call, called, assign_call}
use Rattle.mm_flow.specs.declared.names.Named.{Named}
use Rattle.mm_flow.specs.declared.names.Seen.{Seen}
use Rattle.mm_flow.specs.Scopes.{local_of, named}
use Rattle.mm_flow.specs.Statements.{Within, Known, Function, scope, is_input, bound, function_of, value_of, assigned, while_code, stmt_code, body_code}
use Rattle.mm_meaning.specs.Meaning.{View}
use Rattle.mm_meaning.proofs.Lowering.{stmt_is}
use Rattle.mm_meaning.proofs.Does.{told, Knows}
use Rattle.mm_meaning.proofs.Sized.{Sized, KnowsOne}
use Rattle.mm_meaning.proofs.Calls.{PlainAll}

-- where k is the next fresh local, j is the next behind the statements, which may declare names
pub record Takes (w : Within) (names : List Named) (seen : Seen) (k j : ℕ) (ss : List Stmt) : Type 0 where
  pub next : (body_code ss w (told seen names k)).known.next ≡ j
  pub grows : k ≤ j

module _ {w : Within} {names : List Named} {seen : Seen} where
  pub takes : {later : Seen} {k j : ℕ} {ss : List Stmt} → Knows w names seen k later j ss → Takes w names seen k j ss
  takes q = record { next = ap (λ (d : Known). d.next) q.known; grows = q.grows }

  -- int x; where x is the next fresh local
  pub takes_declared : {m j : ℕ} {ss : List Stmt} (pointer : Bool) (x : Ident) → Takes w (names ++ named x m ∷ []) seen (m + 1) j ss → Takes w names seen m j (stmt_of (stmt.Declare (tree.local nowhere pointer x None ∷ [])) ∷ ss)
  takes_declared {m = m} {ss = ss} pointer x q = record {
    next = ap (λ y. (body_code ss w y.known).known.next) (stmt_is (stmt.Declare (tree.local nowhere pointer x None ∷ [])) w (told seen names m)) ∙ q.next;
    grows = omega (arith, q.grows);
  }

  -- while (c) s
  pub while_knows : {later : Seen} {k i j : ℕ} {c : Expr} {s : Stmt} → Sized (scope w names) k i c → KnowsOne w names seen i later j s → KnowsOne w names seen k later j (stmt_of (stmt.While c s))
  unfolding while_code
  while_knows {k = k} {c = c} {s = s} p q = record {
    known = ap (λ d. d.known) (stmt_is (stmt.While c s) w (told seen names k))
        ∙ ap (λ (n : ℕ). (let d : Known = (stmt_code s w (told seen names n)).known in told d.seen names d.next)) p.is ∙ ap (λ (d : Known). told d.seen names d.next) q.known;
    grows = omega (arith, p.grows, q.grows);
  }

  -- f(..);
  pub call_knows : {fuel m k j : ℕ} {a : View} {es : List Expr} {xs : List ℤ} (x : Ident) (f : Function) → is_input x ≡ false → function_of w.items w.parts.asserts x ≡ Some f → PlainAll fuel m a (scope w names) es xs → (w.inline f (bound f.params k) (k + length f.params + 1) (k + length f.params)).known.next ≡ j → k ≤ j → KnowsOne w names seen k seen j (call x es)
  call_knows {k = k} {j = j} {es = es} x f no_input is args next grows = record {
    known = ap (λ d. d.known) (stmt_is (stmt.Do (called x es)) w (told seen names k)) ∙ ap (told seen names) taken;
    grows = grows;
  }
    where
      taken : (value_of w names k (called x es)).next ≡ j
      taken = rw no_input (rw is (rw (args.is (k + length f.params + 1)) next))

  -- x = f(); for a local, where f gives an input
  pub input_knows : {r : ℕ} (k : ℕ) (x f : Ident) → local_of names x ≡ Some r → is_input f ≡ true → KnowsOne w names seen k seen (k + 1) (assign_call x f [])
  unfolding assigned
  input_knows k x f is is_in = record {
    known = ap (λ d. d.known) (stmt_is (stmt.Assign (tree.left_at nowhere (left.Name x)) (called f [])) w (told seen names k)) ∙ rw is (rw is_in refl);
    grows = omega arith;
  }
