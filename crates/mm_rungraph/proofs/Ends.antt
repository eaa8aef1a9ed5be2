-- The edges of issue and of room that end at a step.
use Rattle.std.proofs.Common.{arith, ◌≡◌, ℕ, ◌+◌, ◌-◌, ◌<◌, ◌≤◌, ◌↔◌, Bool, true, false, if◌then◌else◌, List, [], ◌∷◌, ◌++◌, length, Option, Some, None, refl, sym, ◌∙◌, ap, subst, slice_get, nat_lt}
use Rattle.std.specs.Prelude.{Contains, option_to_list}
use Rattle.std.proofs.lemmas.Bool.{ltb-true, ltb-false}
use Rattle.mm_goto.specs.Bounds.{bound_of}
use Rattle.mm_sched.specs.declared.entry.Event.{Event}
use Rattle.mm_sched.specs.declared.entry.Event.TheVariants.{Does, Flushes}
use Rattle.mm_runkeys.specs.Spans.{always, times}
use Rattle.mm_runkeys.specs.declared.keys.Layout.{Layout}
use Rattle.mm_runkeys.specs.Keys.{runs, pushes, pops, limit}
use Rattle.mm_runkeys.specs.reading.Tables.{row}
use Rattle.mm_runkeys.specs.reading.Marks.{Marks, issued, room_for, Below}
use Rattle.mm_rungraph.specs.Edges.{IsNth, IsIssued, IsRoomFor}
use Rattle.mm_rungraph.proofs.Spanning.{at_new, nothing, one}
use Rattle.mm_rungraph.proofs.Nths.{AreNths, within, nth_old, nth_back, nth_new, new_nth}

pub if_below : (n : ℕ) (o : Option ℕ) → Below n o → (x : ℕ) → o ≡ Some x → x < n
if_below n o b x e = rw e at b

none_some : (x : ℕ) → None ≡ Some x → ⊥
none_some x h = cc

pub some_same : (p q : ℕ) → Some p ≡ Some q → p ≡ q
some_same p q h = cc

pub in_option : (o : Option ℕ) (a : ℕ) → Contains (option_to_list o) a ↔ (o ≡ Some a)
in_option None a = (λ c. absurd (nothing a c), λ h. absurd (none_some a h))
in_option (Some x) a = (λ c. ap Some (sym (one x a c)), λ h. (0, omega arith, some_same x a h))

module _ (s : Layout) (es : List Event) (e : Event) (g : Marks) (pushed : AreNths (pushes s) es g.pushed) (popped : AreNths (pops s) es g.popped) where
  abbrev es' : List Event
  es' = es ++ e ∷ []

  pub issue_here : Below (length g.pushed) (pops s e) → Below (length g.popped) (pops s e) → (a : ℕ) → Contains (issued g (pops s e)) a ↔ IsIssued s es' a (length es)
  issue_here p q a = (λ c. there (pops s e) refl c, λ i. back i (pops s e) refl)
    where
      there : (o : Option ℕ) → pops s e ≡ o → Contains (issued g o) a → IsIssued s es' a (length es)
      there None d c = absurd (nothing a c)
      there (Some x) d c =
          let n : IsNth (pushes s) es x (length (row g.popped x)) a = (pushed.each x (length (row g.popped x)) a (if_below (length g.pushed) (pops s e) p x d)).0 ((in_option (slice_get (row g.pushed x) (length (row g.popped x))) a).0 c) in
          let l : a < length es = within (pushes s) es x a n.is in
          let same : length (row g.popped x) ≡ times (pops s) x es = popped.count x (if_below (length g.popped) (pops s e) q x d) in
          record {
            queue = x;
            nth = length (row g.popped x);
            before = l;
            made = nth_old (pushes s) es e x (length (row g.popped x)) a l n;
            flushed = subst (λ j. IsNth (pops s) es' x j (length es)) (sym same) (nth_new (pops s) es e x d);
          }

      back : IsIssued s es' a (length es) → (o : Option ℕ) → pops s e ≡ o → Contains (issued g o) a
      back i o d = go o d (new_nth (pops s) es e i.queue i.nth i.flushed)
        where
          go : (o : Option ℕ) → pops s e ≡ o → (pops s e ≡ Some i.queue) × (i.nth ≡ times (pops s) i.queue es) → Contains (issued g o) a
          go None d z = absurd (none_some i.queue (sym d ∙ z.0))
          go (Some x) d z =
              let same : i.queue ≡ x = some_same i.queue x (sym z.0 ∙ d) in
              let count : length (row g.popped x) ≡ times (pops s) x es = popped.count x (if_below (length g.popped) (pops s e) q x d) in
              let nth : i.nth ≡ length (row g.popped x) = z.1 ∙ ap (λ y. times (pops s) y es) same ∙ sym count in
              let n : IsNth (pushes s) es x (length (row g.popped x)) a = subst (λ j. IsNth (pushes s) es x j a) nth (subst (λ y. IsNth (pushes s) es y i.nth a) same (nth_back (pushes s) es e i.queue i.nth a i.before i.made)) in
              (in_option (slice_get (row g.pushed x) (length (row g.popped x))) a).1 ((pushed.each x (length (row g.popped x)) a (if_below (length g.pushed) (pops s e) p x d)).1 n)

  -- the thread that makes a store pending, and its bound
  by_thread : (x : ℕ) → pushes s e ≡ Some x → (t : ℕ) × (runs e ≡ Some t) × (limit s e ≡ bound_of s.bound t)
  by_thread x d = go e d
    where
      go : (e : Event) → pushes s e ≡ Some x → (t : ℕ) × (runs e ≡ Some t) × (limit s e ≡ bound_of s.bound t)
      go (Does t a) d = (t, refl, refl)
      go (Flushes t c v) d = cc

  limit_is : (t : ℕ) → runs e ≡ Some t → limit s e ≡ bound_of s.bound t
  limit_is t d = go e d
    where
      go : (e : Event) → runs e ≡ Some t → limit s e ≡ bound_of s.bound t
      go (Does u a) d = ap (bound_of s.bound) (some_same u t d)
      go (Flushes u c v) d = cc

  pub room_here : Below (length g.pushed) (pushes s e) → Below (length g.popped) (pushes s e) → (a : ℕ) → Contains (room_for (limit s e) g (pushes s e)) a ↔ IsRoomFor s es' a (length es)
  room_here p q a = (λ c. there (pushes s e) refl c, λ i. back i (pushes s e) refl)
    where
      some : (x : ℕ) → pushes s e ≡ Some x → (b : Bool) → nat_lt (length (row g.pushed x)) (limit s e) ≡ b → Contains (if b then [] else option_to_list (slice_get (row g.popped x) (length (row g.pushed x) - limit s e))) a → IsRoomFor s es' a (length es)
      some x d true h c = absurd (nothing a c)
      some x d false h c =
          let j = length (row g.pushed x) - limit s e in
          let n : IsNth (pops s) es x j a = (popped.each x j a (if_below (length g.popped) (pushes s e) q x d)).0 ((in_option (slice_get (row g.popped x) j) a).0 c) in
          let l : a < length es = within (pops s) es x a n.is in
          let full : limit s e ≤ length (row g.pushed x) = ltb-false (length (row g.pushed x)) (limit s e) h in
          let same : length (row g.pushed x) ≡ times (pushes s) x es = pushed.count x (if_below (length g.pushed) (pushes s e) p x d) in
          let by = by_thread x d in
          let sum : times (pushes s) x es ≡ j + bound_of s.bound by.0 = omega (arith, same, full, by.2) in
          record {
            thread = by.0;
            queue = x;
            nth = j;
            before = l;
            runs_it = at_new (always runs) es e ∙ by.1;
            flushed = nth_old (pops s) es e x j a l n;
            made = subst (λ i. IsNth (pushes s) es' x i (length es)) sum (nth_new (pushes s) es e x d);
          }

      there : (o : Option ℕ) → pushes s e ≡ o → Contains (room_for (limit s e) g o) a → IsRoomFor s es' a (length es)
      there None d c = absurd (nothing a c)
      there (Some x) d c = some x d (nat_lt (length (row g.pushed x)) (limit s e)) refl c

      back : IsRoomFor s es' a (length es) → (o : Option ℕ) → pushes s e ≡ o → Contains (room_for (limit s e) g o) a
      back i o d = go o d (new_nth (pushes s) es e i.queue (i.nth + bound_of s.bound i.thread) i.made)
        where
          go : (o : Option ℕ) → pushes s e ≡ o → (pushes s e ≡ Some i.queue) × (i.nth + bound_of s.bound i.thread ≡ times (pushes s) i.queue es) → Contains (room_for (limit s e) g o) a
          go None d z = absurd (none_some i.queue (sym d ∙ z.0))
          go (Some x) d z = last (nat_lt (length (row g.pushed x)) (limit s e)) refl
            where
              same : i.queue ≡ x
              same = some_same i.queue x (sym z.0 ∙ d)

              most : limit s e ≡ bound_of s.bound i.thread
              most = limit_is i.thread (sym (at_new (always runs) es e) ∙ i.runs_it)

              sum : i.nth + limit s e ≡ length (row g.pushed x)
              sum = ap (λ k. i.nth + k) most ∙ z.1 ∙ ap (λ y. times (pushes s) y es) same ∙ sym (pushed.count x (if_below (length g.pushed) (pushes s e) p x d))

              nth : i.nth ≡ length (row g.pushed x) - limit s e
              nth = omega (arith, sum)

              n : IsNth (pops s) es x (length (row g.pushed x) - limit s e) a
              n = subst (λ j. IsNth (pops s) es x j a) nth (subst (λ y. IsNth (pops s) es y i.nth a) same (nth_back (pops s) es e i.queue i.nth a i.before i.flushed))

              last : (b : Bool) → nat_lt (length (row g.pushed x)) (limit s e) ≡ b → Contains (if b then [] else option_to_list (slice_get (row g.popped x) (length (row g.pushed x) - limit s e))) a
              last true h = absurd (let k : length (row g.pushed x) < limit s e = ltb-true (length (row g.pushed x)) (limit s e) h in omega (arith, sum))
              last false h = (in_option (slice_get (row g.popped x) (length (row g.pushed x) - limit s e)) a).1 ((popped.each x (length (row g.pushed x) - limit s e) a (if_below (length g.popped) (pushes s e) q x d)).1 n)
