-- What is pending can reach memory.
use Rattle.std.proofs.Common.{arith, ◌≡◌, ℕ, zero, suc, ◌+◌, ◌<◌, ◌≤◌, ◌⊎◌, inl, inr, cond, List, [], ◌∷◌, ◌++◌, length, map, Option, Some, None, refl, sym, ◌∙◌, ap, subst, slice_set, slice_index_or, find}
use Rattle.std.proofs.lemmas.Bool.{cases_eq, eq-eqb}
use Rattle.std.proofs.lemmas.List.{get_or-set_same, get_or-set_other, length-set}
use Rattle.mm_goto.specs.declared.model.Model.{Model}
use Rattle.mm_goto.specs.declared.model.Model.TheVariants.{Tso, Pso}
use Rattle.mm_goto.specs.Listing.{Listing}
use Rattle.mm_sched.specs.declared.entry.Entry.{Entry}
use Rattle.mm_sched.specs.declared.entry.Rules.{Rules}
use Rattle.mm_sched.specs.declared.entry.Rules.TheVariants.{Buffered}
use Rattle.mm_sched.specs.declared.entry.Event.{Event}
use Rattle.mm_sched.specs.declared.entry.Event.TheVariants.{Flushes}
use Rattle.mm_sched.specs.Guarded.{◌>>=◌}
use Rattle.mm_sched.specs.State.{State, Pending, pending_of}
use Rattle.mm_sched.specs.Buffer.{without, is_to, flush_of, flush_under}
use Rattle.mm_sched.specs.Event.{event, after, flushed}
use Rattle.mm_rungraph.specs.Traces.{events_of, after_all}
use Rattle.mm_rungraph.specs.Extension.{flush_entry, thread_flushes}

module _ (m : Model) (bound : ℕ) (p : Listing) where
  abbrev r : Rules
  r = Buffered m bound

  takes_first : (t : ℕ) (q : Pending) (ps : List Pending) → flush_of r (flush_entry m t q) (q ∷ ps) ≡ Some q
  takes_first t q ps = go m
    where
      go : (m : Model) → flush_under m (flush_entry m t q) (q ∷ ps) ≡ Some q
      go Tso = refl
      go Pso = ap (λ b. cond b (Some q) (find (is_to q.0) ps)) (eq-eqb q.0 q.0 refl)

  flush_event : (s : State) (t : ℕ) (q : Pending) (ps : List Pending) → pending_of s t ≡ q ∷ ps → event r p s (flush_entry m t q) ≡ Some (Flushes t q.0 q.1)
  unfolding event
  flush_event s t q ps e = go m (takes_first t q ps)
    where
      go : (k : Model) → flush_of r (flush_entry k t q) (q ∷ ps) ≡ Some q → event r p s (flush_entry k t q) ≡ Some (Flushes t q.0 q.1)
      go Tso h = ap (λ o. o >>= λ x. Some (Flushes t x.0 x.1)) (ap (flush_of r (flush_entry Tso t q)) e ∙ h)
      go Pso h = ap (λ o. o >>= λ x. Some (Flushes t x.0 x.1)) (ap (flush_of r (flush_entry Pso t q)) e ∙ h)

  rest : (q : Pending) (ps : List Pending) → without (q ∷ ps) q.0 ≡ ps
  rest q ps = ap (λ b. cond b ps (q ∷ without ps q.0)) (eq-eqb q.0 q.0 refl)

  lists_after : (s : State) (t : ℕ) (q : Pending) (ps : List Pending) → pending_of s t ≡ q ∷ ps → (after s (Flushes t q.0 q.1)).pending ≡ slice_set s.pending t ps
  unfolding flushed
  lists_after s t q ps e = ap (slice_set s.pending t) (ap (λ x. without x q.0) e ∙ rest q ps)

  -- the events of the flushes, and what is pending behind them
  pub record Flushed (s : State) (es : List Entry) (lists : List (List Pending)) : Type 0 where
    pub happens : List Event
    pub are : events_of r p s es ≡ Some happens
    pub lists_are : (after_all s happens).pending ≡ lists

  set_set : (xs : List (List Pending)) (t : ℕ) (a b : List Pending) → slice_set (slice_set xs t a) t b ≡ slice_set xs t b
  set_set [] t a b = refl
  set_set (x ∷ xs) zero a b = refl
  set_set (x ∷ xs) (suc t) a b = ap (λ z. x ∷ z) (set_set xs t a b)

  set_get : (xs : List (List Pending)) (t : ℕ) (a : List Pending) → slice_index_or xs t [] ≡ a → slice_set xs t a ≡ xs
  set_get [] t a e = refl
  set_get (x ∷ xs) zero a e = ap (λ z. z ∷ xs) (sym e)
  set_get (x ∷ xs) (suc t) a e = ap (λ z. x ∷ z) (set_get xs t a e)

  pub one_thread : (ps : List Pending) (s : State) (t : ℕ) → t < length s.pending → pending_of s t ≡ ps → Flushed s (map (flush_entry m t) ps) (slice_set s.pending t [])
  one_thread [] s t l e = record { happens = []; are = refl; lists_are = sym (set_get s.pending t [] e) }
  one_thread (q ∷ ps) s t l e =
      let v = Flushes t q.0 q.1 in
      let lists : (after s v).pending ≡ slice_set s.pending t ps = lists_after s t q ps e in
      let l2 : t < length (after s v).pending = subst (λ xs. t < length xs) (sym lists) (subst (λ n. t < n) (sym (length-set s.pending t ps)) l) in
      let e2 : pending_of (after s v) t ≡ ps = ap (λ xs. slice_index_or xs t []) lists ∙ get_or-set_same s.pending t ps [] l in
      let ih = one_thread ps (after s v) t l2 e2 in
      record {
        happens = v ∷ ih.happens;
        are = ap (λ o. o >>= λ w. events_of r p (after s w) (map (flush_entry m t) ps) >>= λ us. Some (w ∷ us)) (flush_event s t q ps e) ∙ ap (λ o. o >>= λ us. Some (v ∷ us)) ih.are;
        lists_are = ih.lists_are ∙ ap (λ xs. slice_set xs t []) lists ∙ set_set s.pending t ps [];
      }

  pub after_both : (s : State) (vs us : List Event) → after_all s (vs ++ us) ≡ after_all (after_all s vs) us
  after_both s [] us = refl
  after_both s (v ∷ vs) us = after_both (after s v) vs us

  both : (w : Event) (o : Option (List Event)) (vs : List Event) → (o >>= λ us. Some (w ∷ us)) ≡ Some vs → (us : List Event) × (o ≡ Some us) × (w ∷ us ≡ vs)
  both w None vs h = cc
  both w (Some us) vs h = (us, refl, cc)

  pub events_both : (es fs : List Entry) (s : State) (vs us : List Event) → events_of r p s es ≡ Some vs → events_of r p (after_all s vs) fs ≡ Some us → events_of r p s (es ++ fs) ≡ Some (vs ++ us)
  events_both [] fs s [] us h k = k
  events_both [] fs s (v ∷ vs) us h k = cc
  events_both (e ∷ es) fs s vs us h k = go (event r p s e) refl vs h k (λ w xs. events_both es fs (after s w) xs us)
    where
      go : (o : Option Event) → event r p s e ≡ o → (vs : List Event) → (o >>= λ w. events_of r p (after s w) es >>= λ us. Some (w ∷ us)) ≡ Some vs → events_of r p (after_all s vs) fs ≡ Some us
          → ((w : Event) (xs : List Event) → events_of r p (after s w) es ≡ Some xs → events_of r p (after_all (after s w) xs) fs ≡ Some us → events_of r p (after s w) (es ++ fs) ≡ Some (xs ++ us))
          → events_of r p s (e ∷ (es ++ fs)) ≡ Some (vs ++ us)
      go None x vs h k ih = cc
      go (Some w) x vs h k ih =
          let b = both w (events_of r p (after s w) es) vs h in
          let rest : events_of r p (after s w) (es ++ fs) ≡ Some (b.0 ++ us) = ih w b.0 b.1 (subst (λ ys. events_of r p (after_all s ys) fs ≡ Some us) (sym b.2) k) in
          ap (λ o. o >>= λ y. events_of r p (after s y) (es ++ fs) >>= λ ys. Some (y ∷ ys)) x
          ∙ ap (λ o. o >>= λ ys. Some (w ∷ ys)) rest
          ∙ ap (λ ys. Some (ys ++ us)) b.2

  -- the flushes of the threads from one number to another: nothing of these is pending then, and the others' stores stay
  pub record AllFlushed (s : State) (es : List Entry) (from to : ℕ) : Type 0 where
    pub happens : List Event
    pub are : events_of r p s es ≡ Some happens
    pub empty : (k : ℕ) → from ≤ k → k < to → pending_of (after_all s happens) k ≡ []
    pub before : (k : ℕ) → k < from → pending_of (after_all s happens) k ≡ pending_of s k
    pub behind : (k : ℕ) → to ≤ k → pending_of (after_all s happens) k ≡ pending_of s k

  module _ (ps : List Pending) (lists : List (List Pending)) (s : State) (t : ℕ) (l : t + suc (length lists) ≤ length s.pending) (here : pending_of s t ≡ ps) where
    one : Flushed s (map (flush_entry m t) ps) (slice_set s.pending t [])
    one = one_thread ps s t (omega (arith, l)) here

    mid : State
    mid = after_all s one.happens

    size : length mid.pending ≡ length s.pending
    unfolding mid
    size = ap length one.lists_are ∙ length-set s.pending t []

    other : (k : ℕ) → (k ≡ t → ⊥) → pending_of mid k ≡ pending_of s k
    unfolding mid
    other k n = ap (λ xs. slice_index_or xs k []) one.lists_are ∙ get_or-set_other s.pending t k [] [] n

    mine : pending_of mid t ≡ []
    unfolding mid
    mine = ap (λ xs. slice_index_or xs t []) one.lists_are ∙ get_or-set_same s.pending t [] [] (omega (arith, l))

    module _ (ih : AllFlushed mid (thread_flushes m lists (suc t)) (suc t) (suc t + length lists)) where
      on : (k : ℕ) → pending_of (after_all s (one.happens ++ ih.happens)) k ≡ pending_of (after_all mid ih.happens) k
      unfolding mid
      on k = ap (λ (z : State). pending_of z k) (after_both s one.happens ih.happens)

      first : (k : ℕ) → t ≤ k → k < suc t + length lists → (k ≡ t) ⊎ (k ≡ t → ⊥) → pending_of (after_all mid ih.happens) k ≡ []
      first k a b (inl e) = ih.before k (omega (arith, e)) ∙ ap (pending_of mid) e ∙ mine
      first k a b (inr n) = ih.empty k (omega (arith, a, n)) b

      one_more : AllFlushed s (map (flush_entry m t) ps ++ thread_flushes m lists (suc t)) t (t + suc (length lists))
      unfolding mid
      one_more = record {
        happens = one.happens ++ ih.happens;
        are = events_both (map (flush_entry m t) ps) (thread_flushes m lists (suc t)) s one.happens ih.happens one.are ih.are;
        empty = λ k a b. on k ∙ first k a (omega (arith, b)) (cases_eq k t);
        before = λ k a. on k ∙ ih.before k (omega (arith, a)) ∙ other k (λ e. absurd (omega (arith, a, e)));
        behind = λ k a. on k ∙ ih.behind k (omega (arith, a)) ∙ other k (λ e. absurd (omega (arith, a, e)));
      }

  -- all that is pending can reach memory, by thread
  pub all_threads : (lists : List (List Pending)) (s : State) (t : ℕ) → t + length lists ≤ length s.pending → ((i : ℕ) → i < length lists → pending_of s (t + i) ≡ slice_index_or lists i []) → AllFlushed s (thread_flushes m lists t) t (t + length lists)
  all_threads [] s t l h = record { happens = []; are = refl; empty = λ k a b. absurd (omega (arith, a, b)); before = λ k a. refl; behind = λ k a. refl }
  all_threads (ps ∷ lists) s t l h =
      let here : pending_of s t ≡ ps = subst (λ k. pending_of s k ≡ ps) (let z : t + 0 ≡ t = omega arith in z) (h 0 (omega arith)) in
      let room : t + suc (length lists) ≤ length s.pending = omega (arith, l) in
      one_more ps lists s t room here (all_threads lists (mid ps lists s t room here) (suc t) (omega (arith, size ps lists s t room here, l)) (λ i j.
      other ps lists s t room here (suc t + i) (λ e. absurd (omega (arith, e))) ∙ subst (λ k. pending_of s k ≡ slice_index_or lists i []) (let z : t + suc i ≡ suc t + i = omega arith in z) (h (suc i) (omega (arith, j)))))
