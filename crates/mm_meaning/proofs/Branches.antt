-- What branches and what leaves a loop or its turn do.
use Rattle.std.proofs.Common.{arith, ◌≡◌, ℕ, ◌≤◌, ℤ, true, false, List, length, Some, None, refl, ◌∙◌, ap}
use Rattle.mm_goto.specs.Value.{is_zero}
use Rattle.mm_tree.specs.Places.{nowhere}
use Rattle.mm_tree.specs.declared.expr.Expr.{Expr}
use Rattle.mm_tree.specs.declared.stmt.Stmt.{Stmt}
use Rattle.mm_tree.specs.declared.stmt.StmtNode.TheOpen as stmt
use Rattle.mm_words.specs.Words.{stmt_of}
use Rattle.mm_flow.specs.declared.names.Named.{Named}
use Rattle.mm_flow.specs.declared.names.Seen.{Seen}
use Rattle.mm_flow.specs.Flow.{Then, When, Either, Leave, Home, Next, Behind}
use Rattle.mm_flow.specs.Expressions.{Val, expr_value}
use Rattle.mm_flow.specs.Statements.{Within, Known, scope, if_code, choice_code, just, effect, returned, stmt_code}
use Rattle.mm_meaning.specs.Meaning.{View, Outcome, Done, Left, where_not_zero, meaning}
use Rattle.mm_meaning.specs.Acting.{act}
use Rattle.mm_meaning.proofs.Lowering.{stmt_is}
use Rattle.mm_meaning.proofs.Looks.{Looks}
use Rattle.mm_meaning.proofs.Alike.{Alike}
use Rattle.mm_meaning.proofs.Gets.{Got, Gets}
use Rattle.mm_meaning.proofs.Does.{told, Does, does_by}
use Rattle.mm_meaning.proofs.Sized.{KnowsOne}

module _ {fuel m : ℕ} {w : Within} {names : List Named} {a : View} {seen : Seen} where
  -- break;
  pub breaks : (k : ℕ) → Does fuel m w names a seen k seen k (stmt_of stmt.Break) (Left Behind a)
  breaks k = does_by (just (Leave nowhere Behind) (told seen names k)) (stmt_is stmt.Break w (told seen names k)) refl (omega arith) (λ mk room l look. (refl, look))

  -- continue;
  pub continues : (k : ℕ) → Does fuel m w names a seen k seen k (stmt_of stmt.Continue) (Left Next a)
  continues k = does_by (just (Leave nowhere Next) (told seen names k)) (stmt_is stmt.Continue w (told seen names k)) refl (omega arith) (λ mk room l look. (refl, look))

  -- return;
  pub returns_nothing : (k : ℕ) → Does fuel m w names a seen k seen k (stmt_of (stmt.Return None)) (Left Home a)
  returns_nothing k = does_by (effect (told seen names k) (returned w nowhere names k None)) (stmt_is (stmt.Return None) w (told seen names k)) refl (omega arith) (λ mk room l look. (refl, look))

  -- if (c) s
  whether : {later : Seen} {k i j : ℕ} {c : Expr} {x : ℤ} {s : Stmt} (o : Outcome) → Gets fuel m a (scope w names) k i c x → KnowsOne w names seen i later j s → (m ≤ i → j ≤ length a.locals → (l : View) → Looks m l a → Alike m (where_not_zero x (meaning act (stmt_code s w (told seen names i)).flow fuel l) (Done l)) o) → Does fuel m w names a seen k later j (stmt_of (stmt.If c s None)) o
  whether {later = later} {k = k} {i = i} {j = j} {c = c} {x = x} {s = s} o g q h = does_by
      (if_code nowhere c (stmt_code s) w (told seen names k)) (stmt_is (stmt.If c s None) w (told seen names k))
      (ap (λ (n : ℕ). (let d : Known = (stmt_code s w (told seen names n)).known in told d.seen names d.next)) g.is.next ∙ ap (λ (d : Known). told d.seen names d.next) q.known)
      (omega (arith, g.is.grows, q.grows))
      (λ mk room l look. rw g.is.next (behind mk room l (g.is.by mk (omega (arith, q.grows)) l look)))
    where
      v : Val
      v = expr_value c (scope w names) k

      behind : m ≤ k → j ≤ length a.locals → (l : View) → Got fuel m k i a l v x → Alike m (meaning act (Then v.flow (When nowhere v.pure (stmt_code s w (told seen names i)).flow)) fuel l) o
      behind mk room l b = rw b.does (rw (b.value b.to.locals (λ r q. refl)) (h (omega (arith, g.is.grows)) room b.to b.looks))

  pub when_not : {later : Seen} {k i j : ℕ} {c : Expr} {x : ℤ} {s : Stmt} → is_zero x ≡ true → Gets fuel m a (scope w names) k i c x → KnowsOne w names seen i later j s → Does fuel m w names a seen k later j (stmt_of (stmt.If c s None)) (Done a)
  when_not z g q = whether (Done a) g q (λ mi room l look. rw z look)

  pub when_so : {later : Seen} {k i j : ℕ} {c : Expr} {x : ℤ} {s : Stmt} {o : Outcome} → is_zero x ≡ false → Gets fuel m a (scope w names) k i c x → Does fuel m w names a seen i later j s o → Does fuel m w names a seen k later j (stmt_of (stmt.If c s None)) o
  when_so {o = o} z g d = whether o g (record { known = d.known; grows = d.grows }) (λ mi room l look. rw z ((d.by mi room).by l look))

  -- if (c) s else t
  either : {mid later : Seen} {k i j n : ℕ} {c : Expr} {x : ℤ} {s t : Stmt} (o : Outcome) → Gets fuel m a (scope w names) k i c x → KnowsOne w names seen i mid j s → KnowsOne w names mid j later n t → (m ≤ i → n ≤ length a.locals → (l : View) → Looks m l a → Alike m (where_not_zero x (meaning act (stmt_code s w (told seen names i)).flow fuel l) (meaning act (stmt_code t w (told mid names j)).flow fuel l)) o) → Does fuel m w names a seen k later n (stmt_of (stmt.If c s (Some t))) o
  either {mid = mid} {later = later} {k = k} {i = i} {j = j} {n = n} {c = c} {x = x} {s = s} {t = t} o g p q h = does_by
      (choice_code nowhere c (stmt_code s) (stmt_code t) w (told seen names k)) (stmt_is (stmt.If c s (Some t)) w (told seen names k))
      (ap (λ (d : Known). (let e : Known = (stmt_code t w (told d.seen names d.next)).known in told e.seen names e.next)) first ∙ ap (λ (d : Known). told d.seen names d.next) q.known)
      (omega (arith, g.is.grows, p.grows, q.grows))
      (λ mk room l look. rw g.is.next (rw p.known (behind mk room l (g.is.by mk (omega (arith, p.grows, q.grows)) l look))))
    where
      v : Val
      v = expr_value c (scope w names) k

      first : (stmt_code s w (told seen names v.next)).known ≡ told mid names j
      first = ap (λ (r : ℕ). (stmt_code s w (told seen names r)).known) g.is.next ∙ p.known

      behind : m ≤ k → n ≤ length a.locals → (l : View) → Got fuel m k i a l v x → Alike m (meaning act (Then v.flow (Either nowhere v.pure (stmt_code s w (told seen names i)).flow (stmt_code t w (told mid names j)).flow)) fuel l) o
      behind mk room l b = rw b.does (rw (b.value b.to.locals (λ r q. refl)) (h (omega (arith, g.is.grows)) room b.to b.looks))

  pub else_so : {mid later : Seen} {k i j n : ℕ} {c : Expr} {x : ℤ} {s t : Stmt} {o : Outcome} → is_zero x ≡ true → Gets fuel m a (scope w names) k i c x → KnowsOne w names seen i mid j s → Does fuel m w names a mid j later n t o → Does fuel m w names a seen k later n (stmt_of (stmt.If c s (Some t))) o
  else_so {o = o} z g p d = either o g p (record { known = d.known; grows = d.grows }) (λ mi room l look. rw z ((d.by (omega (arith, p.grows)) room).by l look))

  pub then_so : {mid later : Seen} {k i j n : ℕ} {c : Expr} {x : ℤ} {s t : Stmt} {o : Outcome} → is_zero x ≡ false → Gets fuel m a (scope w names) k i c x → Does fuel m w names a seen i mid j s o → KnowsOne w names mid j later n t → Does fuel m w names a seen k later n (stmt_of (stmt.If c s (Some t))) o
  then_so {o = o} z g d q = either o g (record { known = d.known; grows = d.grows }) q (λ mi room l look. rw z ((d.by mi (omega (arith, q.grows))).by l look))
