-- What the definitions of the edges ask for without need, and what they say in other words.
use Rattle.std.proofs.Common.{arith, ◌≡◌, ℕ, zero, suc, ◌+◌, ◌<◌, ◌≤◌, ℤ, ◌⊎◌, inl, inr, Bool, true, false, cond, if◌then◌else◌, List, [], ◌∷◌, ◌++◌, length, length-append, take, reverse, Option, Some, None, option_map, refl, sym, ◌∙◌, ap, ap₂, subst, nat_lt, slice_get, option_and_then}
use Rattle.std.specs.Prelude.{is_some}
use Rattle.std.specs.List.{filter, find}
use Rattle.std.proofs.lemmas.Bool.{cases_lt, lt-ltb, le-ltb}
use Rattle.std.proofs.lemmas.List.{reverse-append}
use Rattle.std.proofs.lemmas.List.Elements.{filter-append}
use Rattle.std.proofs.lemmas.List.Folds.{find-append}
use Rattle.std.specs.Option.{option_or}
use Rattle.mm_goto.specs.Bounds.{Bounding, bound_of}
use Rattle.mm_goto.specs.declared.model.Model.{Model}
use Rattle.mm_goto.specs.declared.model.Model.TheVariants.{Tso, Pso}
use Rattle.mm_goto.specs.Listing.{Listing}
use Rattle.mm_goto.specs.Valid.{IsValid}
use Rattle.mm_sched.specs.declared.entry.Act.TheVariants.{Pushes, Loads}
use Rattle.mm_sched.specs.declared.entry.Entry.{Entry}
use Rattle.mm_sched.specs.declared.entry.Event.{Event}
use Rattle.mm_sched.specs.declared.entry.Event.TheVariants.{Does}
use Rattle.mm_sched.specs.declared.entry.Rules.TheVariants.{Buffered}
use Rattle.mm_sched.specs.Buffer.{is_to, part, newest}
use Rattle.mm_sched.specs.Event.{event}
use Rattle.mm_sched.specs.State.{State, Pending, initial, pending_of}
use Rattle.mm_sched.proofs.Happens.{HasNames, has_names, IsSoundEvent, event-sound}
use Rattle.mm_sched.proofs.Steps.{if-at}
use Rattle.mm_runkeys.specs.declared.keys.Layout.{Layout}
use Rattle.mm_runkeys.specs.Spans.{is_key, times}
use Rattle.mm_runkeys.specs.Keys.{runs, queue, own, pushes, pops, makes, ends_up, is_own}
use Rattle.mm_rungraph.specs.Edges.{by, IsNth}
use Rattle.mm_rungraph.specs.Traces.{events_of, after_all}
use Rattle.mm_rungraph.proofs.Nths.{times_cons}
use Rattle.mm_rungraph.proofs.Ends.{some_same}
use Rattle.mm_rungraph.proofs.Queues.{takes_first, has_store, left, came_length, left_length, part_push}
use Rattle.mm_rungraph.proofs.Forward.{IsMoment, moment, has_cell, has_cells, event_at, of_push, came_to, left_to}

-- a longer front has a key no less often
times_grow : (key : Event → Option ℕ) (x : ℕ) (es : List Event) (a b : ℕ) → a ≤ b → times key x (take a es) ≤ times key x (take b es)
times_grow key x [] zero zero l = omega arith
times_grow key x [] zero (suc b) l = omega arith
times_grow key x [] (suc a) zero l = absurd (omega (arith, l))
times_grow key x [] (suc a) (suc b) l = omega arith
times_grow key x (e ∷ es) zero b l = none b
  where
    none : (b : ℕ) → times key x [] ≤ times key x (take b (e ∷ es))
    none b = let h : times key x [] ≡ 0 = refl in omega (arith, h)
times_grow key x (e ∷ es) (suc a) zero l = absurd (omega (arith, l))
times_grow key x (e ∷ es) (suc a) (suc b) l =
    let rest : times key x (take a es) ≤ times key x (take b es) = times_grow key x es a b (omega (arith, l)) in
    let one : times key x (e ∷ take a es) ≡ (if is_key x (key e) then 1 else 0) + times key x (take a es) = times_cons key x e (take a es) in
    let two : times key x (e ∷ take b es) ≡ (if is_key x (key e) then 1 else 0) + times key x (take b es) = times_cons key x e (take b es) in
    subst (λ n. n ≤ times key x (e ∷ take b es)) (sym one) (subst (λ n. (if is_key x (key e) then 1 else 0) + times key x (take a es) ≤ n) (sym two) (omega (arith, rest)))

module _ (p : Listing) (valid : IsValid p) (s : Layout) (bound : Bounding) (cells : s.cells ≡ length p.cells) (es : List Entry) (vs : List Event) (happens : events_of (Buffered s.model bound) p (initial p) es ≡ Some vs) where
  at_step : (k : ℕ) (v : Event) → slice_get vs k ≡ Some v → IsMoment p s bound vs k v
  at_step = moment p valid s bound cells es vs happens

  names : (k : ℕ) (v : Event) (at : slice_get vs k ≡ Some v) → HasNames (at_step k v at).state v
  names k v at = let m = at_step k v at in has_names (Buffered s.model bound) p m.state m.fits m.entry v m.is

  -- a store comes before its flush
  pub store_first : (q j a b : ℕ) → IsNth (pushes s) vs q j a → IsNth (pops s) vs q j b → a < b
  store_first q j a b h k = go (cases_lt a b)
    where
      e : (v : Event) × (slice_get vs b ≡ Some v) × (pops s v ≡ Some q)
      e = event_at (pops s) vs b q k.is

      m : IsMoment p s bound vs b e.0
      m = at_step b e.0 e.1

      more_came : times (pops s) q (take b vs) < times (pushes s) q (take b vs)
      more_came = has_store s m.state (take b vs) e.0 m.queues (names b e.0 e.1) (m.fits.memory ∙ sym cells) (takes_first s.model bound p m.state m.entry e.0 m.is) q e.2

      go : (a < b) ⊎ (b ≤ a) → a < b
      go (inl l) = l
      go (inr l) = absurd (let grow : times (pushes s) q (take b vs) ≤ times (pushes s) q (take a vs) = times_grow (pushes s) q vs b a l in omega (arith, grow, more_came, h.nth, k.nth))

  -- room is made before the store that takes it
  pub room_first : (t q j a b : ℕ) → by runs vs b ≡ Some t → IsNth (pops s) vs q j a → IsNth (pushes s) vs q (j + bound_of s.bound t) b → bound ≡ s.bound → a < b
  room_first t q j a b is h k same = go (cases_lt a b)
    where
      e : (v : Event) × (slice_get vs b ≡ Some v) × (pushes s v ≡ Some q)
      e = event_at (pushes s) vs b q k.is

      d : (u : ℕ) × (c : ℕ) × (v : ℤ) × (e.0 ≡ Does u (Pushes c v)) × (queue s u c ≡ q)
      d = of_push s e.0 q e.2

      at : slice_get vs b ≡ Some (Does d.0 (Pushes d.1 d.2))
      at = e.1 ∙ ap Some d.3

      m : IsMoment p s bound vs b (Does d.0 (Pushes d.1 d.2))
      m = at_step b (Does d.0 (Pushes d.1 d.2)) at

      there : d.0 < length m.state.pending
      there = subst (λ n. d.0 < n) (m.fits.threads ∙ sym m.fits.pending) (names b (Does d.0 (Pushes d.1 d.2)) at).0

      thread : d.0 ≡ t
      thread = some_same d.0 t (sym (ap (option_and_then (λ x. runs x)) at) ∙ is)

      fits_one_more : length (part s.model (pending_of m.state d.0 ++ (d.1, d.2) ∷ []) d.1) ≤ bound_of bound d.0
      fits_one_more = (if-at (IsSoundEvent (Buffered s.model bound) m.state) (event (Buffered s.model bound) p m.state m.entry) (Does d.0 (Pushes d.1 d.2)) m.is (event-sound (Buffered s.model bound) p m.state m.entry m.fits)).there.1 d.1

      room : length (part s.model (pending_of m.state d.0) d.1) < bound_of s.bound t
      room =
          let more : length (part s.model (pending_of m.state d.0 ++ (d.1, d.2) ∷ []) d.1) ≡ length (part s.model (pending_of m.state d.0) d.1) + 1 = ap length (part_push s.model (pending_of m.state d.0) d.1 d.1 d.2 refl) ∙ length-append (part s.model (pending_of m.state d.0) d.1) ((d.1, d.2) ∷ []) in
          let most : bound_of bound d.0 ≡ bound_of s.bound t = ap₂ bound_of same thread in
          omega (arith, more, most, fits_one_more)

      queued : times (pushes s) q (take b vs) ≡ times (pops s) q (take b vs) + length (part s.model (pending_of m.state d.0) d.1)
      queued = subst (λ x. times (pushes s) x (take b vs) ≡ times (pops s) x (take b vs) + length (part s.model (pending_of m.state d.0) d.1)) d.4
          (sym (came_length s (queue s d.0 d.1) (take b vs))
          ∙ ap length (m.queues.each d.0 d.1 there (has_cell p valid s bound cells es vs happens b (Does d.0 (Pushes d.1 d.2)) at))
          ∙ length-append (left s (queue s d.0 d.1) (take b vs)) (part s.model (pending_of m.state d.0) d.1)
          ∙ ap (λ n. n + length (part s.model (pending_of m.state d.0) d.1)) (left_length s (queue s d.0 d.1) (take b vs)))

      go : (a < b) ⊎ (b ≤ a) → a < b
      go (inl l) = l
      go (inr l) = absurd (let grow : times (pops s) q (take b vs) ≤ times (pops s) q (take a vs) = times_grow (pops s) q vs b a l in omega (arith, grow, room, queued, h.nth, k.nth))

-- ---- a load of what is pending

filter_part : (m : Model) (ps : List Pending) (c : ℕ) → filter (is_to c) (part m ps c) ≡ filter (is_to c) ps
filter_part Tso ps c = refl
filter_part Pso [] c = refl
filter_part Pso (q ∷ ps) c = go (is_to c q) refl (filter_part Pso ps c)
  where
    go : (b : Bool) → is_to c q ≡ b → filter (is_to c) (filter (is_to c) ps) ≡ filter (is_to c) ps → filter (is_to c) (cond b (q ∷ filter (is_to c) ps) (filter (is_to c) ps)) ≡ cond b (q ∷ filter (is_to c) ps) (filter (is_to c) ps)
    go true e h = ap (λ b. cond b (q ∷ filter (is_to c) (filter (is_to c) ps)) (filter (is_to c) (filter (is_to c) ps))) e ∙ ap (λ xs. q ∷ xs) h
    go false e h = h

-- some store to the cell is pending exactly where there is a newest
newest_there : (ps : List Pending) (c : ℕ) → is_some (newest ps c) ≡ nat_lt 0 (length (filter (is_to c) ps))
newest_there [] c = refl
newest_there (q ∷ ps) c =
    ap (λ (o : Option Pending). is_some (option_map (λ x. x.1) o)) (ap (find (is_to c)) (reverse-append (q ∷ []) ps) ∙ find-append (is_to c) (reverse ps) (q ∷ []))
    ∙ go (is_to c q) (find (is_to c) (reverse ps)) (newest_there ps c)
  where
    more : (n : ℕ) → nat_lt 0 (suc n) ≡ true
    more n = lt-ltb 0 (suc n) (omega arith)

    go : (b : Bool) (o : Option Pending) → is_some (option_map (λ x. x.1) o) ≡ nat_lt 0 (length (filter (is_to c) ps)) → is_some (option_map (λ x. x.1) (option_or o (cond b (Some q) None))) ≡ nat_lt 0 (length (cond b (q ∷ filter (is_to c) ps) (filter (is_to c) ps)))
    go true None h = sym (more (length (filter (is_to c) ps)))
    go true (Some x) h = sym (more (length (filter (is_to c) ps)))
    go false None h = h
    go false (Some x) h = h

more_than : (a n : ℕ) → nat_lt a (a + n) ≡ nat_lt 0 n
more_than a zero = le-ltb a (a + 0) (omega arith)
more_than a (suc n) = lt-ltb a (a + suc n) (omega arith) ∙ sym (lt-ltb 0 (suc n) (omega arith))

module _ (p : Listing) (valid : IsValid p) (s : Layout) (bound : Bounding) (cells : s.cells ≡ length p.cells) (es : List Entry) (vs : List Event) (happens : events_of (Buffered s.model bound) p (initial p) es ≡ Some vs) where
  -- a load takes its thread's own store where one to the cell is pending
  pub own_is : (k t l c : ℕ) (v : ℤ) → slice_get vs k ≡ Some (Does t (Loads l c v)) → is_own s (take k vs) (Does t (Loads l c v)) ≡ is_some (newest (pending_of (after_all (initial p) (take k vs)) t) c)
  own_is k t l c v at = subst (λ (z : State). is_own s (take k vs) (Does t (Loads l c v)) ≡ is_some (newest (pending_of z t) c)) m.reached at_state
    where
      m : IsMoment p s bound vs k (Does t (Loads l c v))
      m = moment p valid s bound cells es vs happens k (Does t (Loads l c v)) at

      named : HasNames m.state (Does t (Loads l c v))
      named = has_names (Buffered s.model bound) p m.state m.fits m.entry (Does t (Loads l c v)) m.is

      cell : c < s.cells
      cell = subst (λ n. c < n) (m.fits.memory ∙ sym cells) named.1

      there : t < length m.state.pending
      there = subst (λ n. t < n) (m.fits.threads ∙ sym m.fits.pending) named.0

      counts : times (makes s) (own s t c) (take k vs) ≡ times (ends_up s) (own s t c) (take k vs) + length (filter (is_to c) (pending_of m.state t))
      counts =
          sym (came_to s t c cell (take k vs) (has_cells p valid s bound cells es vs happens k))
          ∙ ap (λ qs. length (filter (is_to c) qs)) (m.queues.each t c there cell)
          ∙ ap length (filter-append (is_to c) (left s (queue s t c) (take k vs)) (part s.model (pending_of m.state t) c))
          ∙ length-append (filter (is_to c) (left s (queue s t c) (take k vs))) (filter (is_to c) (part s.model (pending_of m.state t) c))
          ∙ ap₂ (λ x y. x + y) (left_to s t c cell (take k vs) (has_cells p valid s bound cells es vs happens k)) (ap length (filter_part s.model (pending_of m.state t) c))

      at_state : is_own s (take k vs) (Does t (Loads l c v)) ≡ is_some (newest (pending_of m.state t) c)
      at_state =
          ap (nat_lt (times (ends_up s) (own s t c) (take k vs))) counts
          ∙ more_than (times (ends_up s) (own s t c) (take k vs)) (length (filter (is_to c) (pending_of m.state t)))
          ∙ sym (newest_there (pending_of m.state t) c)
