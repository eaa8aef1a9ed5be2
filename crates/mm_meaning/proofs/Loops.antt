-- What loops, blocks and declarations do.
use Rattle.std.proofs.Common.{arith, ◌≡◌, ℕ, suc, ◌+◌, ◌<◌, ◌≤◌, ⊎_elim, ℤ, pos, Bool, true, false, List, [], ◌∷◌, ◌++◌, length, refl, sym, ◌∙◌, ap, subst, slice_set, None}
use Rattle.std.proofs.lemmas.List.{length-set, get_or-set_same, get_or-set_other}
use Rattle.std.proofs.lemmas.Bool.{cases_eq}
use Rattle.mm_goto.specs.Value.{is_zero}
use Rattle.mm_goto.specs.declared.ident.Ident.{Ident}
use Rattle.mm_tree.specs.Places.{nowhere}
use Rattle.mm_tree.specs.Trees as tree
use Rattle.mm_tree.specs.declared.expr.Expr.{Expr}
use Rattle.mm_tree.specs.declared.stmt.Stmt.{Stmt}
use Rattle.mm_tree.specs.declared.stmt.StmtNode.TheOpen as stmt
use Rattle.mm_words.specs.Words.{stmt_of, block}
use Rattle.mm_flow.specs.declared.names.Named.{Named}
use Rattle.mm_flow.specs.declared.names.Seen.{Seen}
use Rattle.mm_flow.specs.Flow.{Then}
use Rattle.mm_flow.specs.Scopes.{named}
use Rattle.mm_flow.specs.Expressions.{Val, expr_value}
use Rattle.mm_flow.specs.Statements.{Within, Known, scope, declared, inner, while_code, stmt_code, body_code}
use Rattle.mm_meaning.specs.Meaning.{View, Outcome, Done, again, while_turns, where_not_zero, meaning}
use Rattle.mm_meaning.specs.Acting.{act, at_slot, let_local}
use Rattle.mm_meaning.proofs.Lowering.{stmt_is}
use Rattle.mm_meaning.proofs.Numbers.{const_value}
use Rattle.mm_meaning.proofs.Looks.{Looks}
use Rattle.mm_meaning.proofs.Alike.{Alike, alike_below, alike_goes_on, alike_leaves}
use Rattle.mm_meaning.proofs.Gets.{Got, Gets}
use Rattle.mm_meaning.proofs.Does.{told, Does, DoesAll, does_by}

-- at most so many turns of a loop
pub record Turns (fuel m : ℕ) (w : Within) (names : List Named) (seen : Seen) (k i j : ℕ) (c : Expr) (s : Stmt) (count : ℕ) (a : View) (o : Outcome) : Type 0 where
  pub by : m ≤ k → j ≤ length a.locals → (l : View) → Looks m l a → Alike m (while_turns count (meaning act (expr_value c (scope w names) k).flow fuel) (expr_value c (scope w names) k).pure (meaning act (stmt_code s w (told seen names i)).flow fuel) Done l) o

tested : (fuel m k i : ℕ) (v : Val) (body : View → Outcome) (count : ℕ) (a l : View) (x : ℤ) (o : Outcome) → Got fuel m k i a l v x → ((to : View) → Looks m to a → Alike m (where_not_zero x (again (body to) (while_turns count (meaning act v.flow fuel) v.pure body Done)) (Done to)) o) → Alike m (while_turns (suc count) (meaning act v.flow fuel) v.pure body Done l) o
tested fuel m k i v body count a l x o g h = rw g.does (rw (g.value g.to.locals (λ r q. refl)) (h g.to g.looks))

-- local m is looked at too, from when it is 0 in both
looks_declared : (m : ℕ) (l a : View) → Looks m l a → m < length a.locals → Looks (m + 1) (let_local l m (pos 0)) (let_local a m (pos 0))
looks_declared m l a s h = record {
  memory = s.memory;
  inputs = s.inputs;
  many = length-set l.locals m (pos 0) ∙ s.many ∙ sym (length-set a.locals m (pos 0));
  locals = λ r q. ⊎_elim
      (λ e. subst (λ z. at_slot (slice_set l.locals m (pos 0)) z ≡ at_slot (slice_set a.locals m (pos 0)) z) (sym e) (get_or-set_same l.locals m (pos 0) (pos 0) (omega (arith, s.many)) ∙ sym (get_or-set_same a.locals m (pos 0) (pos 0) h)))
      (λ d. get_or-set_other l.locals m r (pos 0) (pos 0) d ∙ s.locals r (other r q d) ∙ sym (get_or-set_other a.locals m r (pos 0) (pos 0) d)) (cases_eq r m);
}
  where
    other : (r : ℕ) → r < m + 1 → (r ≡ m → ⊥) → r < m
    other r q n = ⊎_elim (λ e. absurd (n e)) (λ _. omega arith) (cases_eq r m)

module _ {fuel m : ℕ} {w : Within} {names : List Named} {seen : Seen} where
  -- { .. }
  pub blocks : {a : View} {later : Seen} {k j : ℕ} {ss : List Stmt} {o : Outcome} → DoesAll fuel m w names a seen k later j ss o → Does fuel m w names a seen k later j (block ss) o
  blocks {a = a} {later = later} {k = k} {j = j} {ss = ss} {o = o} d = does_by (inner (body_code ss) w (told seen names k)) (stmt_is (stmt.Block ss) w (told seen names k))
      (ap (λ (n : ℕ). told (body_code ss w (told seen names k)).known.seen names n) d.next ∙ ap (λ (x : Seen). told x names j) d.counted)
      d.grows (λ mk room l look. (d.by mk room).by l look)

  -- int x; where x is the next local that is looked at
  pub declares : {a : View} {later : Seen} {j : ℕ} {ss : List Stmt} {o : Outcome} (pointer : Bool) (x : Ident) → DoesAll fuel (m + 1) w (names ++ named x m ∷ []) (let_local a m (pos 0)) seen (m + 1) later j ss o → DoesAll fuel m w names a seen m later j (stmt_of (stmt.Declare (tree.local nowhere pointer x None ∷ [])) ∷ ss) o
  declares {a = a} {later = later} {j = j} {ss = ss} {o = o} pointer x d = record {
    next = ap (λ y. (body_code ss w y.known).known.next) is ∙ d.next;
    counted = ap (λ y. (body_code ss w y.known).known.seen) is ∙ d.counted;
    grows = omega (arith, d.grows);
    by = λ mk room. record {
      by = λ l look. subst (λ y. Alike m (meaning act (Then y.flow (body_code ss w y.known).flow) fuel l) o) (sym is)
          (rw (const_value (pos 0) l.locals) (alike_below m (m + 1) _ o (omega arith) ((d.by (omega arith) (omega (arith, length-set a.locals m (pos 0)))).by (let_local l m (pos 0)) (looks_declared m l a look (omega (arith, d.grows))))));
    };
  }
    where
      is : stmt_code (stmt_of (stmt.Declare (tree.local nowhere pointer x None ∷ []))) w (told seen names m) ≡ declared w (tree.local nowhere pointer x None ∷ []) (told seen names m)
      is = stmt_is (stmt.Declare (tree.local nowhere pointer x None ∷ [])) w (told seen names m)

  module _ {k i j : ℕ} {c : Expr} {s : Stmt} where
    -- the test is 0
    pub stop : {a : View} {x : ℤ} (count : ℕ) → Gets fuel m a (scope w names) k i c x → i ≤ j → is_zero x ≡ true → Turns fuel m w names seen k i j c s (suc count) a (Done a)
    stop {a = a} {x = x} count g ij z = record { by = λ mk room l look. tested fuel m k i (expr_value c (scope w names) k) (meaning act (stmt_code s w (told seen names i)).flow fuel) count a l x (Done a) (g.is.by mk (omega arith) l look) (λ to q. rw z q) }

    -- a turn from whose end, or by a continue, the loop goes on from b
    pub turn : {a b : View} {x : ℤ} {later : Seen} {p o : Outcome} (count : ℕ) → Gets fuel m a (scope w names) k i c x → is_zero x ≡ false → Does fuel m w names a seen i later j s p → ((g : View → Outcome) → again p g ≡ g b) → length b.locals ≡ length a.locals → Turns fuel m w names seen k i j c s count b o → Turns fuel m w names seen k i j c s (suc count) a o
    turn {a = a} {b = b} {x = x} {p = p} {o = o} count g z d on same t = record {
      by = λ mk room l look. tested fuel m k i (expr_value c (scope w names) k) body count a l x o (g.is.by mk (omega (arith, d.grows)) l look)
          (λ to q. rw z (alike_goes_on m (body to) p b _ o on ((d.by (omega (arith, g.is.grows)) room).by to q) (λ y r. t.by mk (omega arith) y r)));
    }
      where
        body : View → Outcome
        body = meaning act (stmt_code s w (told seen names i)).flow fuel

    -- the last turn, which a break or a return leaves, or which does not come to its end
    pub leave : {a : View} {x : ℤ} {later : Seen} {p o : Outcome} (count : ℕ) → Gets fuel m a (scope w names) k i c x → is_zero x ≡ false → Does fuel m w names a seen i later j s p → ((g : View → Outcome) → again p g ≡ o) → Turns fuel m w names seen k i j c s (suc count) a o
    leave {a = a} {x = x} {p = p} {o = o} count g z d out = record {
      by = λ mk room l look. tested fuel m k i (expr_value c (scope w names) k) body count a l x o (g.is.by mk (omega (arith, d.grows)) l look)
          (λ to q. rw z (alike_leaves m (body to) p _ o out ((d.by (omega (arith, g.is.grows)) room).by to q)));
    }
      where
        body : View → Outcome
        body = meaning act (stmt_code s w (told seen names i)).flow fuel

    -- while (c) s
    pub whiles : {a : View} {later : Seen} {o : Outcome} → (expr_value c (scope w names) k).next ≡ i → k ≤ i → i ≤ j → (stmt_code s w (told seen names i)).known ≡ told later names j → Turns fuel m w names seen k i j c s fuel a o → Does fuel m w names a seen k later j (stmt_of (stmt.While c s)) o
    unfolding while_code
    whiles {a = a} {later = later} {o = o} next ki ij known t = does_by
        (while_code nowhere c (stmt_code s) w (told seen names k)) (stmt_is (stmt.While c s) w (told seen names k))
        (ap (λ (n : ℕ). (let d : Known = (stmt_code s w (told seen names n)).known in told d.seen names d.next)) next ∙ ap (λ (d : Known). told d.seen names d.next) known)
        (omega arith)
        (λ mk room l look. rw next (t.by mk room l look))
