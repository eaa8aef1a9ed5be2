-- What a statement does: its code leads from whatever looks like one view to what looks like another, or ends otherwise.
use Rattle.std.proofs.Common.{arith, ◌≡◌, ℕ, ◌+◌, ◌<◌, ◌≤◌, ℤ, pos, Bool, true, false, List, [], ◌∷◌, length, Option, Some, None, refl, sym, ◌∙◌, ap, subst, slice_set}
use Rattle.mm_goto.specs.Value.{value_of, is_zero}
use Rattle.mm_goto.specs.declared.ident.Ident.{Ident}
use Rattle.mm_goto.specs.declared.program.Instr.TheVariants as instr
use Rattle.mm_sched.specs.Event.{cell_of}
use Rattle.mm_tree.specs.Places.{nowhere}
use Rattle.mm_tree.specs.declared.expr.Expr.{Expr}
use Rattle.mm_tree.specs.declared.stmt.Stmt.{Stmt}
use Rattle.mm_tree.specs.declared.stmt.StmtNode.TheOpen.{StmtNode-F}
use Rattle.mm_tree.specs.declared.stmt.StmtNode.TheOpen as stmt
use Rattle.mm_tree.specs.declared.stmt.LeftNode.{LeftNode}
use Rattle.mm_tree.specs.declared.stmt.LeftNode.TheVariants as left
use Rattle.mm_tree.specs.declared.stmt.Value.{Value}
use Rattle.mm_tree.specs.declared.stmt.Value.TheVariants as value
use Rattle.mm_tree.specs.Trees as tree
use Rattle.mm_words.specs.Words.{stmt_of, skip, assume, assignment, assign, assign_elem}
use Rattle.mm_flow.specs.declared.names.Named.{Named}
use Rattle.mm_flow.specs.declared.names.Seen.{Seen}
use Rattle.mm_flow.specs.declared.names.Spot.{Spot}
use Rattle.mm_flow.specs.Flow.{Flow, Do, Then, Leave, Home}
use Rattle.mm_flow.specs.Scopes.{local_of, spot_of}
use Rattle.mm_flow.specs.Expressions.{Val, Aim, expr_value}
use Rattle.mm_flow.specs.Statements.{Within, Known, Did, scope, nothing, value_of as val_of, assigned, effect, set_to, stored, local_left, left_aim, asserted, assumed, assert_number, returned, stmt_code, body_code}
use Rattle.mm_meaning.specs.Meaning.{View, Outcome, Done, Left, Failed, Halted, pick, then_do, meaning}
use Rattle.mm_meaning.specs.Acting.{act, let_local, let_cell}
use Rattle.mm_meaning.proofs.Lowering.{stmt_is}
use Rattle.mm_meaning.proofs.Looks.{Looks, looks_set}
use Rattle.mm_meaning.proofs.Alike.{Alike}
use Rattle.mm_meaning.proofs.Gets.{Got, Gets, Aimed, Aims, cell_aims, indexed_aims}

-- what is known before a statement
abbrev pub told : Seen → List Named → ℕ → Known
told seen names n = record { names = names; next = n; seen = seen }

-- the code, from whatever looks like a
pub record DoesFlow (fuel m : ℕ) (a : View) (f : Flow) (o : Outcome) : Type 0 where
  pub by : (l : View) → Looks m l a → Alike m (meaning act f fuel l) o

-- where k is the next fresh local, and j the next behind it
pub record Does (fuel m : ℕ) (w : Within) (names : List Named) (a : View) (seen : Seen) (k : ℕ) (later : Seen) (j : ℕ) (s : Stmt) (o : Outcome) : Type 0 where
  pub known : (stmt_code s w (told seen names k)).known ≡ told later names j
  pub grows : k ≤ j
  pub by : m ≤ k → j ≤ length a.locals → DoesFlow fuel m a (stmt_code s w (told seen names k)).flow o

-- statements in order, which may declare names
pub record DoesAll (fuel m : ℕ) (w : Within) (names : List Named) (a : View) (seen : Seen) (k : ℕ) (later : Seen) (j : ℕ) (ss : List Stmt) (o : Outcome) : Type 0 where
  pub next : (body_code ss w (told seen names k)).known.next ≡ j
  pub counted : (body_code ss w (told seen names k)).known.seen ≡ later
  pub grows : k ≤ j
  pub by : m ≤ k → j ≤ length a.locals → DoesFlow fuel m a (body_code ss w (told seen names k)).flow o

-- what is known behind statements, whatever they do
pub record Knows (w : Within) (names : List Named) (seen : Seen) (k : ℕ) (later : Seen) (j : ℕ) (ss : List Stmt) : Type 0 where
  pub known : (body_code ss w (told seen names k)).known ≡ told later names j
  pub grows : k ≤ j

-- behind one more assertion
abbrev pub one_more : Seen → Seen
one_more seen = record { asserts = seen.asserts + 1; starts = seen.starts }

-- ---- one after another

module _ {fuel m : ℕ} {w : Within} {names : List Named} {a : View} {seen : Seen} where
  pub nil : (k : ℕ) → DoesAll fuel m w names a seen k seen k [] (Done a)
  nil k = record { next = refl; counted = refl; grows = omega arith; by = λ mk room. record { by = λ l look. look } }

  pub cons : {mid later : Seen} {k i j : ℕ} {b : View} {s : Stmt} {ss : List Stmt} {o : Outcome} → Does fuel m w names a seen k mid i s (Done b) → length b.locals ≡ length a.locals → DoesAll fuel m w names b mid i later j ss o → DoesAll fuel m w names a seen k later j (s ∷ ss) o
  cons {mid = mid} {later = later} {k = k} {i = i} {j = j} {b = b} {s = s} {ss = ss} {o = o} p same q = record {
    next = ap (λ n. (body_code ss w n).known.next) p.known ∙ q.next;
    counted = ap (λ n. (body_code ss w n).known.seen) p.known ∙ q.counted;
    grows = omega (arith, p.grows, q.grows);
    by = λ mk room. record {
      by = λ l look.
          subst (λ n. Alike m (then_do (meaning act (stmt_code s w (told seen names k)).flow fuel l) (meaning act (body_code ss w n).flow fuel)) o) (sym p.known)
          (go (meaning act (stmt_code s w (told seen names k)).flow fuel l) ((p.by mk (omega (arith, q.grows))).by l look) (λ z look2. (q.by (omega (arith, p.grows)) (omega arith)).by z look2));
    };
  }
    where
      go : (r : Outcome) → Alike m r (Done b) → ((z : View) → Looks m z b → Alike m (meaning act (body_code ss w (told mid names i)).flow fuel z) o) → Alike m (then_do r (meaning act (body_code ss w (told mid names i)).flow fuel)) o
      go (Done z) h next = next z h
      go r h next = absurd h

  -- what stands behind a statement that does not come to its end is not reached
  pub ends : {mid later : Seen} {k i j : ℕ} {s : Stmt} {ss : List Stmt} {o : Outcome} → Does fuel m w names a seen k mid i s o → ((go : View → Outcome) → then_do o go ≡ o) → Knows w names mid i later j ss → DoesAll fuel m w names a seen k later j (s ∷ ss) o
  ends {mid = mid} {k = k} {i = i} {j = j} {s = s} {ss = ss} {o = o} p out q = record {
    next = ap (λ n. (body_code ss w n).known.next) p.known ∙ ap (λ (d : Known). d.next) q.known;
    counted = ap (λ n. (body_code ss w n).known.seen) p.known ∙ ap (λ (d : Known). d.seen) q.known;
    grows = omega (arith, p.grows, q.grows);
    by = λ mk room. record { by = λ l look. go (meaning act (stmt_code s w (told seen names k)).flow fuel l) o _ out ((p.by mk (omega (arith, q.grows))).by l look) };
  }
    where
      go : (r o : Outcome) (f : View → Outcome) → ((g : View → Outcome) → then_do o g ≡ o) → Alike m r o → Alike m (then_do r f) o
      go (Done z) (Done b) f out h = let e = out (λ v. Halted) in cc
      go (Left u z) (Left v b) f out h = h
      go (Failed n) (Failed i) f out h = h
      go Halted Halted f out h = tt
      go r o f out h = absurd h

  -- ---- single statements

  -- by what the statement's code is
  pub does_by : {later : Seen} {k j : ℕ} {s : Stmt} {o : Outcome} (d : Did) → stmt_code s w (told seen names k) ≡ d → d.known ≡ told later names j → k ≤ j → (m ≤ k → j ≤ length a.locals → (l : View) → Looks m l a → Alike m (meaning act d.flow fuel l) o) → Does fuel m w names a seen k later j s o
  does_by {o = o} d is known kj h = record {
    known = ap (λ (x : Did). x.known) is ∙ known;
    grows = kj;
    by = λ mk room. record { by = λ l look. subst (λ (x : Did). Alike m (meaning act x.flow fuel l) o) (sym is) (h mk room l look) };
  }

  -- ;
  pub skips : (k : ℕ) → Does fuel m w names a seen k seen k skip (Done a)
  skips k = does_by (nothing (told seen names k)) (stmt_is stmt.Empty w (told seen names k)) refl (omega arith) (λ mk room l look. look)

  pub assumes : {k j : ℕ} {e : Expr} {x : ℤ} → Gets fuel m a (scope w names) k j e x → Does fuel m w names a seen k seen j (assume e) (pick (is_zero x) Halted (Done a))
  assumes {k = k} {j = j} {e = e} {x = x} g = does_by (assumed w nowhere e (told seen names k)) (stmt_is (stmt.Assume e) w (told seen names k)) (ap (told seen names) g.is.next) g.is.grows
      (λ mk room l look. behind l (g.is.by mk room l look))
    where
      v : Val
      v = expr_value e (scope w names) k

      behind : (l : View) → Got fuel m k j a l v x → Alike m (then_do (meaning act v.flow fuel l) (act (instr.Assume v.pure))) (pick (is_zero x) Halted (Done a))
      behind l b = rw b.does (rw (b.value b.to.locals (λ r q. refl)) (decided (is_zero x)))
        where
          decided : (z : Bool) → Alike m (pick z Halted (Done b.to)) (pick z Halted (Done a))
          decided true = tt
          decided false = b.looks

  pub passes : {k j : ℕ} {e : Expr} {x : ℤ} → is_zero x ≡ false → Gets fuel m a (scope w names) k j e x → Does fuel m w names a seen k seen j (assume e) (Done a)
  passes {k = k} {j = j} {e = e} h g = subst (λ b. Does fuel m w names a seen k seen j (assume e) (pick b Halted (Done a))) h (assumes g)

  pub halts : {k j : ℕ} {e : Expr} {x : ℤ} → is_zero x ≡ true → Gets fuel m a (scope w names) k j e x → Does fuel m w names a seen k seen j (assume e) Halted
  halts {k = k} {j = j} {e = e} h g = subst (λ b. Does fuel m w names a seen k seen j (assume e) (pick b Halted (Done a))) h (assumes g)

  pub asserts : {k j : ℕ} {e : Expr} {x : ℤ} (text : Option Ident) → Gets fuel m a (scope w names) k j e x → Does fuel m w names a seen k (one_more seen) j (stmt_of (stmt.Assert e text)) (pick (is_zero x) (Failed (assert_number w.parts.side seen.asserts text)) (Done a))
  asserts {k = k} {j = j} {e = e} {x = x} text g = does_by (asserted w nowhere e text (told seen names k)) (stmt_is (stmt.Assert e text) w (told seen names k)) (ap (told (one_more seen) names) g.is.next) g.is.grows
      (λ mk room l look. behind l (g.is.by mk room l look))
    where
      v : Val
      v = expr_value e (scope w names) k

      n : ℕ
      n = assert_number w.parts.side seen.asserts text

      behind : (l : View) → Got fuel m k j a l v x → Alike m (then_do (meaning act v.flow fuel l) (act (instr.Assert v.pure n))) (pick (is_zero x) (Failed n) (Done a))
      behind l b = rw b.does (rw (b.value b.to.locals (λ r q. refl)) (decided (is_zero x)))
        where
          decided : (z : Bool) → Alike m (pick z (Failed n) (Done b.to)) (pick z (Failed n) (Done a))
          decided true = refl
          decided false = b.looks

  -- l = f; for what is no local: a cell has the value
  pub stores : {k i j c : ℕ} {f : Expr} {y : ℤ} (l : LeftNode) → local_left names l ≡ None → Aims fuel m a k i (left_aim (scope w names) nowhere l k) c → Gets fuel m a (scope w names) i j f y → Does fuel m w names a seen k seen j (assignment l (value.Plain f)) (Done (let_cell a c y))
  unfolding assigned
  stores {k = k} {i = i} {j = j} {c = c} {f = f} {y = y} l no_local p q = does_by
      (effect (told seen names k) (stored nowhere t read))
      (stmt_is (stmt.Assign (tree.left_at nowhere l) (value.Plain f)) w (told seen names k) ∙ rw no_local refl)
      (ap (λ n. told seen names (read n).next) p.next ∙ ap (told seen names) q.is.next)
      (omega (arith, p.grows, q.is.grows))
      (λ mk room v look. subst (λ n. Alike m (meaning act (Then t.flow (Then (read n).flow (Do nowhere (instr.Store t.target (read n).pure)))) fuel v) (Done (let_cell a c y))) (sym p.next)
      (behind v (p.by mk (omega (arith, q.is.grows)) v look) (λ b s. q.is.by (omega (arith, p.grows)) room b s)))
    where
      t : Aim
      t = left_aim (scope w names) nowhere l k

      read : ℕ → Val
      read n = expr_value f (scope w names) n

      u : Val
      u = read i

      behind : (v : View) → Aimed fuel m k i a v t c → ((b : View) → Looks m b a → Got fuel m i j a b u y) → Alike m (meaning act (Then t.flow (Then u.flow (Do nowhere (instr.Store t.target u.pure)))) fuel v) (Done (let_cell a c y))
      behind v b then_value = done (then_value b.to b.looks)
        where
          done : Got fuel m i j a b.to u y → Alike m (meaning act (Then t.flow (Then u.flow (Do nowhere (instr.Store t.target u.pure)))) fuel v) (Done (let_cell a c y))
          done g =
              let found : cell_of (length g.to.memory) g.to.locals t.target ≡ Some c = b.found (length g.to.memory) g.to.locals (ap length g.looks.memory) (λ r q. g.kept r q) in
              rw b.does (rw g.does (rw found (rw (g.value g.to.locals (λ r q. refl))
              (record { memory = ap (λ (mem : List ℤ). slice_set mem c y) g.looks.memory; inputs = g.looks.inputs; many = g.looks.many; locals = g.looks.locals }))))

  -- x = f; for a shared variable
  pub assigns_shared : {k j : ℕ} {f : Expr} {y : ℤ} (x : Ident) (g : Spot) → local_of names x ≡ None → spot_of w.parts.spots x ≡ Some g → Gets fuel m a (scope w names) k j f y → Does fuel m w names a seen k seen j (assign x f) (Done (let_cell a g.first y))
  assigns_shared {k = k} x g no_local is q = stores (left.Name x) no_local (rw is (cell_aims k g)) q

  -- x[e] = f;
  pub assigns_elem : {k i j : ℕ} {e f : Expr} {y : ℤ} (x : Ident) (g : Spot) (n : ℕ) → spot_of w.parts.spots x ≡ Some g → n < g.len → Gets fuel m a (scope w names) k i e (pos n) → Gets fuel m a (scope w names) i j f y → Does fuel m w names a seen k seen j (assign_elem x e f) (Done (let_cell a (g.first + n) y))
  assigns_elem {e = e} x g n is below p q = stores (left.Index x e) refl (rw is (indexed_aims g n below p.is)) q

-- ---- values

-- from l, the code of a value leads to what looks like b, and there the value is x
pub record Computed (fuel m : ℕ) (b l : View) (v : Val) (x : ℤ) : Type 0 where
  pub to : View
  pub does : meaning act v.flow fuel l ≡ Done to
  pub looks : Looks m to b
  pub value : value_of v.pure to.locals ≡ x

-- from whatever looks like a
pub record Computes (fuel m : ℕ) (w : Within) (names : List Named) (a b : View) (k j : ℕ) (v : Value) (x : ℤ) : Type 0 where
  pub next : (val_of w names k v).next ≡ j
  pub grows : k ≤ j
  pub by : m ≤ k → j ≤ length a.locals → (l : View) → Looks m l a → Computed fuel m b l (val_of w names k v) x

module _ {fuel m : ℕ} {w : Within} {names : List Named} {a : View} where
  pub plain : {k j : ℕ} {e : Expr} {x : ℤ} → Gets fuel m a (scope w names) k j e x → Computes fuel m w names a a k j (value.Plain e) x
  plain {k = k} {j = j} {e = e} {x = x} g = record { next = g.is.next; grows = g.is.grows; by = λ mk room l look. done l (g.is.by mk room l look) }
    where
      done : (l : View) → Got fuel m k j a l (expr_value e (scope w names) k) x → Computed fuel m a l (expr_value e (scope w names) k) x
      done l h = record { to = h.to; does = h.does; looks = h.looks; value = h.value h.to.locals (λ r q. refl) }

module _ {fuel m : ℕ} {w : Within} {names : List Named} {a b : View} {seen : Seen} where
  -- x = v; for a local
  pub assigns : {k j : ℕ} {v : Value} {y : ℤ} (x : Ident) (r : ℕ) → local_of names x ≡ Some r → m ≤ length b.locals → Computes fuel m w names a b k j v y → Does fuel m w names a seen k seen j (assignment (left.Name x) v) (Done (let_local b r y))
  unfolding assigned
  assigns {k = k} {j = j} {v = v} {y = y} x r is wide q = does_by
      (effect (told seen names k) (set_to nowhere r u))
      (stmt_is (stmt.Assign (tree.left_at nowhere (left.Name x)) v) w (told seen names k) ∙ rw is refl)
      (ap (told seen names) q.next) q.grows
      (λ mk room l look. behind l (q.by mk room l look))
    where
      u : Val
      u = val_of w names k v

      behind : (l : View) → Computed fuel m b l u y → Alike m (then_do (meaning act u.flow fuel l) (act (instr.Set r u.pure))) (Done (let_local b r y))
      behind l g = rw g.does (rw g.value (looks_set m g.to b r y wide g.looks))

  -- v; whose value is let go
  pub effects : {k j : ℕ} {v : Value} {y : ℤ} → Computes fuel m w names a b k j v y → Does fuel m w names a seen k seen j (stmt_of (stmt.Do v)) (Done b)
  effects {k = k} {j = j} {v = v} {y = y} q = does_by
      (effect (told seen names k) (val_of w names k v)) (stmt_is (stmt.Do v) w (told seen names k)) (ap (told seen names) q.next) q.grows
      (λ mk room l look. behind l (q.by mk room l look))
    where
      behind : (l : View) → Computed fuel m b l (val_of w names k v) y → Alike m (meaning act (val_of w names k v).flow fuel l) (Done b)
      behind l g = rw g.does g.looks

  -- return v;
  pub returns : {k j : ℕ} {v : Value} {y : ℤ} (r : ℕ) → w.ret ≡ Some r → m ≤ length b.locals → Computes fuel m w names a b k j v y → Does fuel m w names a seen k seen j (stmt_of (stmt.Return (Some v))) (Left Home (let_local b r y))
  returns {k = k} {j = j} {v = v} {y = y} r is wide q = does_by
      (effect (told seen names k) (returned w nowhere names k (Some v))) (stmt_is (stmt.Return (Some v)) w (told seen names k)) (ap (told seen names) q.next) q.grows
      (λ mk room l look. rw is (behind l (q.by mk room l look)))
    where
      u : Val
      u = val_of w names k v

      behind : (l : View) → Computed fuel m b l u y → Alike m (meaning act (Then u.flow (Then (Do nowhere (instr.Set r u.pure)) (Leave nowhere Home))) fuel l) (Left Home (let_local b r y))
      behind l g = rw g.does (rw g.value (refl, looks_set m g.to b r y wide g.looks))
