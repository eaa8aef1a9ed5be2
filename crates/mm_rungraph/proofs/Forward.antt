-- What leaves a queue is what joined it, in its order; and every edge leads to a later step.
use Rattle.std.proofs.Common.{arith, ◌≡◌, ◌≢◌, ℕ, zero, suc, ◌+◌, ◌<◌, ◌≤◌, ◌==◌, ℤ, ◌⊎◌, inl, inr, Bool, true, false, cond, if◌then◌else◌, List, [], ◌∷◌, ◌++◌, length, length-append, take, Option, Some, None, refl, sym, ◌∙◌, ap, ap₂, subst, slice_get, option_and_then, append_assoc}
use Rattle.std.specs.List.{filter, flat_map}
use Rattle.std.proofs.lemmas.Bool.{cases_eq, cases_order, ltb-true, eq-eqb, ne_eqb}
use Rattle.std.proofs.lemmas.Grind.{flat_map-append}
use Rattle.std.proofs.lemmas.List.Concat.{flat_map-cons}
use Rattle.std.proofs.lemmas.List.Elements.{filter-append}
use Rattle.mm_goto.specs.Bounds.{Bounding}
use Rattle.mm_goto.specs.Listing.{Listing}
use Rattle.mm_goto.specs.Valid.{IsValid}
use Rattle.mm_sched.specs.declared.entry.Act.TheVariants.{Pushes}
use Rattle.mm_sched.specs.declared.entry.Event.{Event}
use Rattle.mm_sched.specs.declared.entry.Event.TheVariants.{Does, Flushes}
use Rattle.mm_sched.specs.declared.entry.Entry.{Entry}
use Rattle.mm_sched.specs.declared.entry.Rules.{Rules}
use Rattle.mm_sched.specs.declared.entry.Rules.TheVariants.{Buffered}
use Rattle.mm_sched.specs.Guarded.{◌>>=◌}
use Rattle.mm_sched.specs.State.{State, Pending, initial, pending_of}
use Rattle.mm_sched.specs.Buffer.{is_to}
use Rattle.mm_sched.specs.Event.{event, after}
use Rattle.mm_sched.specs.Invariant.{Fits}
use Rattle.mm_sched.proofs.Happens.{HasNames, has_names}
use Rattle.mm_sched.proofs.Fitting.{event_fits, initial_fits}
use Rattle.mm_runkeys.specs.declared.graph.EdgeKind.{EdgeKind}
use Rattle.mm_runkeys.specs.declared.graph.EdgeKind.TheVariants.{Program, Issue, Fifo, Reads, Coherence, FromRead, Drain, Mutex, Start, Join, Room}
use Rattle.mm_runkeys.specs.declared.keys.Layout.{Layout}
use Rattle.mm_runkeys.specs.Spans.{at, is_key, times}
use Rattle.mm_runkeys.specs.Keys.{key, queue, own, pushes, pops, makes, ends_up, loads, is_pending, reads_own}
use Rattle.mm_rungraph.specs.Edges.{by, IsIssued, IsOverwritten, IsEdge}
use Rattle.mm_rungraph.specs.Traces.{events_of, after_all}
use Rattle.mm_rungraph.proofs.Spanning.{take_new, none_past, key_is, is_key_at, more}
use Rattle.mm_rungraph.proofs.Nths.{times_cons}
use Rattle.mm_rungraph.proofs.Ends.{some_same}
use Rattle.mm_rungraph.proofs.Whole.{times_up, at_within}
use Rattle.mm_rungraph.proofs.Queues.{AreQueued, IsFirst, takes_first, queued_step, digits, same_queue, came, left, joining, leaving, came_length, left_length}
use Rattle.mm_rungraph.proofs.Starting.{start_queues}
use Rattle.mm_rungraph.proofs.Walks.{after_more}

-- ---- lists

module _ {A : Type 0} where
  get_mid : (xs : List A) (x : A) (r : List A) → slice_get (xs ++ x ∷ r) (length xs) ≡ Some x
  get_mid [] x r = refl
  get_mid (y ∷ xs) x r = get_mid xs x r

  take_split : (xs : List A) (a b : ℕ) (x : A) → a < b → slice_get xs a ≡ Some x → (rest : List A) × (take b xs ≡ take a xs ++ x ∷ rest)
  take_split [] a b x l h = cc
  take_split (y ∷ xs) a zero x l h = absurd (omega arith)
  take_split (y ∷ xs) zero (suc b) x l h = let same : y ≡ x = cc in (take b xs, ap (λ z. z ∷ take b xs) same)
  take_split (y ∷ xs) (suc a) (suc b) x l h = let z = take_split xs a b x (omega arith) h in (z.0, ap (λ zs. y ∷ zs) z.1)

  -- two fronts of one list that are as long
  same_front : (xs ys zs ws : List A) → length xs ≡ length zs → xs ++ ys ≡ zs ++ ws → (xs ≡ zs) × (ys ≡ ws)
  same_front [] ys [] ws l e = (refl, e)
  same_front [] ys (z ∷ zs) ws l e = absurd (omega (arith, l))
  same_front (x ∷ xs) ys [] ws l e = absurd (omega (arith, l))
  same_front (x ∷ xs) ys (z ∷ zs) ws l e =
      let head : x ≡ z = cc in
      let tail : xs ++ ys ≡ zs ++ ws = cc in
      let rest = same_front xs ys zs ws (omega (arith, l)) tail in
      (ap₂ (λ u us. u ∷ us) head rest.0, rest.1)

-- ---- the moments of a run

module _ (p : Listing) (s : Layout) (bound : Bounding) where
  abbrev r : Rules
  r = Buffered s.model bound

  -- what step k does is read off a state whose queues are those of the steps before
  pub record IsMoment (vs : List Event) (k : ℕ) (v : Event) : Type 0 where
    pub state : State
    pub entry : Entry
    pub is : event r p state entry ≡ Some v
    pub fits : Fits r p state
    pub queues : AreQueued s state (take k vs)
    pub reached : state ≡ after_all (initial p) (take k vs)

  module _ (cells : s.cells ≡ length p.cells) where
    moments : (es : List Entry) (st : State) (before us : List Event) → events_of r p st es ≡ Some us → Fits r p st → AreQueued s st before → st ≡ after_all (initial p) before → (k : ℕ) (v : Event) → length before ≤ k → slice_get (before ++ us) k ≡ Some v → IsMoment (before ++ us) k v
    moments [] st before us h fits queues reached k v l at = absurd (nowhere us (let same : [] ≡ us = cc in sym same) at)
      where
        none_some : (v : Event) → None ≡ Some v → ⊥
        none_some v h = cc

        nowhere : (us : List Event) → us ≡ [] → slice_get (before ++ us) k ≡ Some v → ⊥
        nowhere us e at = none_some v (sym (none_past (before ++ us) k (let size : length (before ++ us) ≡ length before + length us = length-append before us in let none : length us ≡ 0 = ap length e in omega (arith, size, none, l))) ∙ at)
    moments (e ∷ es) st before us h fits queues reached k v l at = go (event r p st e) refl us h at (λ w xs. moments es (after st w) (before ++ w ∷ []) xs)
      where
        both : (w : Event) (o : Option (List Event)) (us : List Event) → (o >>= λ xs. Some (w ∷ xs)) ≡ Some us → (xs : List Event) × (o ≡ Some xs) × (w ∷ xs ≡ us)
        both w None us h = cc
        both w (Some xs) us h = (xs, refl, cc)

        step : (w : Event) → event r p st e ≡ Some w → AreQueued s (after st w) (before ++ w ∷ [])
        step w x = queued_step s st before queues w (has_names r p st fits e w x) (fits.memory ∙ sym cells) (fits.threads ∙ sym fits.pending) (takes_first s.model bound p st e w x)

        go : (o : Option Event) → event r p st e ≡ o → (us : List Event) → (o >>= λ w. events_of r p (after st w) es >>= λ xs. Some (w ∷ xs)) ≡ Some us → slice_get (before ++ us) k ≡ Some v
            → ((w : Event) (xs : List Event) → events_of r p (after st w) es ≡ Some xs → Fits r p (after st w) → AreQueued s (after st w) (before ++ w ∷ []) → after st w ≡ after_all (initial p) (before ++ w ∷ []) → (k : ℕ) (v : Event) → length (before ++ w ∷ []) ≤ k → slice_get ((before ++ w ∷ []) ++ xs) k ≡ Some v → IsMoment ((before ++ w ∷ []) ++ xs) k v)
            → IsMoment (before ++ us) k v
        go None x us h at ih = cc
        go (Some w) x us h at ih = subst (λ ys. IsMoment (before ++ ys) k v) b.2 (now (cases_eq k (length before)))
          where
            b : (xs : List Event) × (events_of r p (after st w) es ≡ Some xs) × (w ∷ xs ≡ us)
            b = both w (events_of r p (after st w) es) us h

            here : slice_get (before ++ w ∷ b.0) k ≡ Some v
            here = subst (λ ys. slice_get (before ++ ys) k ≡ Some v) (sym b.2) at

            now : (k ≡ length before) ⊎ (k ≡ length before → ⊥) → IsMoment (before ++ w ∷ b.0) k v
            now (inl i) =
                let same : w ≡ v = one w v (sym (get_mid before w b.0) ∙ subst (λ j. slice_get (before ++ w ∷ b.0) j ≡ Some v) i here) in
                record {
                  state = st;
                  entry = e;
                  is = x ∙ ap Some same;
                  fits = fits;
                  queues = subst (λ ys. AreQueued s st ys) (sym (ap (λ j. take j (before ++ w ∷ b.0)) i ∙ take_new before (w ∷ b.0))) queues;
                  reached = reached ∙ ap (after_all (initial p)) (sym (ap (λ j. take j (before ++ w ∷ b.0)) i ∙ take_new before (w ∷ b.0)));
                }
              where
                one : (w v : Event) → Some w ≡ Some v → w ≡ v
                one w v h = cc
            now (inr n) =
                subst (λ ys. IsMoment ys k v) (append_assoc before (w ∷ []) b.0)
                (ih w b.0 b.1 (event_fits r p st fits e w x) (step w x) (ap (λ (z : State). after z w) reached ∙ sym (after_more (initial p) before w)) k v (let size : length (before ++ w ∷ []) ≡ suc (length before) = more before w in omega (arith, size, l, n))
                (subst (λ ys. slice_get ys k ≡ Some v) (sym (append_assoc before (w ∷ []) b.0)) here))

-- ---- stores and flushes

pub of_push : (s : Layout) (e : Event) (x : ℕ) → pushes s e ≡ Some x → (t : ℕ) × (c : ℕ) × (v : ℤ) × (e ≡ Does t (Pushes c v)) × (queue s t c ≡ x)
of_push s (Does t (Pushes c v)) x h = (t, c, v, refl, cc)
of_push s (Does t a) x h = cc
of_push s (Flushes t c v) x h = cc

pub of_pop : (s : Layout) (e : Event) (x : ℕ) → pops s e ≡ Some x → (t : ℕ) × (c : ℕ) × (v : ℤ) × (e ≡ Flushes t c v) × (queue s t c ≡ x)
of_pop s (Does t a) x h = cc
of_pop s (Flushes t c v) x h = (t, c, v, refl, cc)

-- the event that has the key
pub event_at : (key : Event → Option ℕ) (vs : List Event) (a x : ℕ) → by key vs a ≡ Some x → (e : Event) × (slice_get vs a ≡ Some e) × (key e ≡ Some x)
event_at key vs a x h = go (slice_get vs a) refl h
  where
    go : (o : Option Event) → slice_get vs a ≡ o → option_and_then (λ e. key e) o ≡ Some x → (e : Event) × (slice_get vs a ≡ Some e) × (key e ≡ Some x)
    go None d h = cc
    go (Some e) d h = (e, d, h)

-- the store that is made at a is the one that reaches memory at b; all that left its queue before b came into it before a
pub record IsStore (s : Layout) (vs : List Event) (a b : ℕ) : Type 0 where
  pub thread : ℕ
  pub cell : ℕ
  pub value : ℤ
  pub made : slice_get vs a ≡ Some (Does thread (Pushes cell value))
  pub flushed : slice_get vs b ≡ Some (Flushes thread cell value)
  pub same : left s (queue s thread cell) (take b vs) ≡ came s (queue s thread cell) (take a vs)

-- ---- how many of a queue's stores are to a cell

-- the cell of a store, and of a flush, is one of the program's
abbrev pub HasCell : Layout → Event → Type 0
HasCell s (Does t (Pushes c v)) = c < s.cells
HasCell s (Does t a) = Unit {0}
HasCell s (Flushes t c v) = c < s.cells

abbrev lone : ℕ → ℤ → List Pending
lone d v = (d, v) ∷ []

one_pending : (s : Layout) (u d t c : ℕ) (v : ℤ) → d < s.cells → c < s.cells → length (filter (is_to c) (if queue s u d == queue s t c then lone d v else [])) ≡ (if own s u d == own s t c then 1 else 0)
one_pending s u d t c v l m = go (cases_eq (own s u d) (own s t c)) (cases_eq (queue s u d) (queue s t c))
  where
    kept : (b : Bool) → length (cond b (lone d v) []) ≡ (if b then 1 else 0)
    kept true = refl
    kept false = refl

    go : (own s u d ≡ own s t c) ⊎ (own s u d ≡ own s t c → ⊥) → (queue s u d ≡ queue s t c) ⊎ (queue s u d ≡ queue s t c → ⊥) → length (filter (is_to c) (if queue s u d == queue s t c then lone d v else [])) ≡ (if own s u d == own s t c then 1 else 0)
    go (inl e) (inr n) = absurd (let z = digits s.cells u t d c l m e in n (ap₂ (queue s) z.0 z.1))
    go (inl e) (inl q) =
        let z = digits s.cells u t d c l m e in
        ap (λ b. length (filter (is_to c) (if b then lone d v else []))) (eq-eqb (queue s u d) (queue s t c) q)
        ∙ kept (d == c) ∙ ap (λ b. if b then 1 else 0) (eq-eqb d c z.1 ∙ sym (eq-eqb (own s u d) (own s t c) e))
    go (inr o) (inr n) =
        ap (λ b. length (filter (is_to c) (if b then lone d v else []))) (ne_eqb (queue s u d) (queue s t c) n)
        ∙ sym (ap (λ b. if b then 1 else 0) (ne_eqb (own s u d) (own s t c) o))
    go (inr o) (inl q) =
        let z = same_queue s u t d c l m q in
        let apart : d ≡ c → ⊥ = λ i. o (ap₂ (own s) z.0 i) in
        ap (λ b. length (filter (is_to c) (if b then lone d v else []))) (eq-eqb (queue s u d) (queue s t c) q)
        ∙ kept (d == c) ∙ ap (λ b. if b then 1 else 0) (ne_eqb d c apart ∙ sym (ne_eqb (own s u d) (own s t c) o))

to_cell : (f : Event → List Pending) (key : Event → Option ℕ) (Ok : Event → Type 0) (x c : ℕ) → ((e : Event) → Ok e → length (filter (is_to c) (f e)) ≡ (if is_key x (key e) then 1 else 0)) → (es : List Event) → ((k : ℕ) (e : Event) → slice_get es k ≡ Some e → Ok e) → length (filter (is_to c) (flat_map f es)) ≡ times key x es
to_cell f key Ok x c h [] ok = refl
to_cell f key Ok x c h (e ∷ es) ok =
    ap (λ ps. length (filter (is_to c) ps)) (flat_map-cons f e es)
    ∙ ap length (filter-append (is_to c) (f e) (flat_map f es))
    ∙ length-append (filter (is_to c) (f e)) (filter (is_to c) (flat_map f es))
    ∙ ap₂ (λ m n. m + n) (h e (ok 0 e refl)) (to_cell f key Ok x c h es (λ k d at. ok (suc k) d at))
    ∙ sym (times_cons key x e es)

module _ (s : Layout) (t c : ℕ) (cell : c < s.cells) (es : List Event) (ok : (k : ℕ) (e : Event) → slice_get es k ≡ Some e → HasCell s e) where
  pub came_to : length (filter (is_to c) (came s (queue s t c) es)) ≡ times (makes s) (own s t c) es
  came_to = to_cell (joining s (queue s t c)) (makes s) (HasCell s) (own s t c) c one es ok
    where
      one : (e : Event) → HasCell s e → length (filter (is_to c) (joining s (queue s t c) e)) ≡ (if is_key (own s t c) (makes s e) then 1 else 0)
      one (Does u (Pushes d v)) h = one_pending s u d t c v h cell
      one (Does u a) h = refl
      one (Flushes u d v) h = refl

  pub left_to : length (filter (is_to c) (left s (queue s t c) es)) ≡ times (ends_up s) (own s t c) es
  left_to = to_cell (leaving s (queue s t c)) (ends_up s) (HasCell s) (own s t c) c one es ok
    where
      one : (e : Event) → HasCell s e → length (filter (is_to c) (leaving s (queue s t c) e)) ≡ (if is_key (own s t c) (ends_up s e) then 1 else 0)
      one (Does u a) h = refl
      one (Flushes u d v) h = one_pending s u d t c v h cell

-- ---- counting on

times_zero : (key : Event → Option ℕ) (x : ℕ) (es : List Event) (b : ℕ) → ((k : ℕ) → k < b → by key es k ≢ Some x) → times key x (take b es) ≡ 0
times_zero key x [] zero none = refl
times_zero key x [] (suc b) none = refl
times_zero key x (e ∷ es) zero none = refl
times_zero key x (e ∷ es) (suc b) none =
    times_cons key x e (take b es) ∙ ap₂ (λ m n. m + n) (first (is_key x (key e)) refl) (times_zero key x es b (λ k l. none (suc k) (omega (arith, l))))
  where
    first : (b : Bool) → is_key x (key e) ≡ b → ◌≡◌ {A = ℕ} (if is_key x (key e) then 1 else 0) 0
    first true d = absurd (none 0 (omega arith) (key_is x (key e) d))
    first false d = ap (λ b. if b then 1 else 0) d

times_quiet : (key : Event → Option ℕ) (x : ℕ) (es : List Event) (a b : ℕ) → by key es a ≡ Some x → a < b → ((k : ℕ) → a < k → k < b → by key es k ≢ Some x) → times key x (take b es) ≡ times key x (take a es) + 1
times_quiet key x [] a b h l none = cc
times_quiet key x (e ∷ es) a zero h l none = absurd (omega arith)
times_quiet key x (e ∷ es) zero (suc b) h l none =
    times_cons key x e (take b es)
    ∙ ap₂ (λ m n. m + n) (ap (λ b. if b then 1 else 0) (is_key_at x (key e) h)) (times_zero key x es b (λ k m. none (suc k) (omega arith) (omega (arith, m))))
times_quiet key x (e ∷ es) (suc a) (suc b) h l none =
    let rest : times key x (take b es) ≡ times key x (take a es) + 1 = times_quiet key x es a b h (omega (arith, l)) (λ k m n. none (suc k) (omega (arith, m)) (omega (arith, n))) in
    times_cons key x e (take b es)
    ∙ ap (λ n. (if is_key x (key e) then 1 else 0) + n) rest
    ∙ (let sum : (if is_key x (key e) then 1 else 0) + (times key x (take a es) + 1) ≡ (if is_key x (key e) then 1 else 0) + times key x (take a es) + 1 = omega arith in sum)
    ∙ ap (λ n. n + 1) (sym (times_cons key x e (take a es)))

-- a load of a thread's own store finds one pending
own_pending : (s : Layout) (vs : List Event) (a x : ℕ) → at (reads_own s) vs a ≡ Some x → times (ends_up s) x (take a vs) < times (makes s) x (take a vs)
own_pending s vs a x h = go (slice_get vs a) h
  where
    pending : (o : Option ℕ) → (b : Bool) → is_pending s o (take a vs) ≡ b → (if b then o else None) ≡ Some x → times (ends_up s) x (take a vs) < times (makes s) x (take a vs)
    pending o false d k = cc
    pending None true d k = cc
    pending (Some y) true d k = let same : y ≡ x = cc in subst (λ z. times (ends_up s) z (take a vs) < times (makes s) z (take a vs)) same (ltb-true (times (ends_up s) y (take a vs)) (times (makes s) y (take a vs)) d)

    go : (o : Option Event) → option_and_then (λ e. reads_own s (take a vs) e) o ≡ Some x → times (ends_up s) x (take a vs) < times (makes s) x (take a vs)
    go None k = cc
    go (Some e) k = pending (loads s e) (is_pending s (loads s e) (take a vs)) refl k

-- a flush is no load
flush_loads_nothing : (s : Layout) (vs : List Event) (a x t c : ℕ) (v : ℤ) → slice_get vs a ≡ Some (Flushes t c v) → at (reads_own s) vs a ≡ Some x → ⊥
flush_loads_nothing s vs a x t c v d h = cc_none (sym (ap (option_and_then (λ e. reads_own s (take a vs) e)) d) ∙ h)
  where
    cc_none : None ≡ Some x → ⊥
    cc_none h = cc

named : (s : Layout) (st : State) (v : Event) → HasNames st v → length st.memory ≡ s.cells → HasCell s v
named s st (Does t (Pushes c v)) h e = subst (λ n. c < n) e h.1
named s st (Does t a) h e = tt
named s st (Flushes t c v) h e = subst (λ n. c < n) e h.1

of_take : (es : List Event) (n k : ℕ) (v : Event) → slice_get (take n es) k ≡ Some v → slice_get es k ≡ Some v
of_take [] zero k v h = h
of_take [] (suc n) k v h = h
of_take (e ∷ es) zero k v h = cc
of_take (e ∷ es) (suc n) zero v h = h
of_take (e ∷ es) (suc n) (suc k) v h = of_take es n k v h

-- ---- the whole

module _ (p : Listing) (valid : IsValid p) (s : Layout) (bound : Bounding) (cells : s.cells ≡ length p.cells) (es : List Entry) (vs : List Event) (happens : events_of (Buffered s.model bound) p (initial p) es ≡ Some vs) where
  pub moment : (k : ℕ) (v : Event) → slice_get vs k ≡ Some v → IsMoment p s bound vs k v
  moment k v at = moments p s bound cells es (initial p) [] vs happens (initial_fits (Buffered s.model bound) p valid) (start_queues s p) refl k v (omega arith) at

  pub has_cell : (k : ℕ) (v : Event) → slice_get vs k ≡ Some v → HasCell s v
  has_cell k v at = let m = moment k v at in named s m.state v (has_names (Buffered s.model bound) p m.state m.fits m.entry v m.is) (m.fits.memory ∙ sym cells)

  -- of the first steps too
  pub has_cells : (n k : ℕ) (v : Event) → slice_get (take n vs) k ≡ Some v → HasCell s v
  has_cells n k v at = has_cell k v (of_take vs n k v at)

  -- the first in is the first out
  module _ (a b q : ℕ) (l : a < b) (t c u d : ℕ) (v w : ℤ) (at_a : slice_get vs a ≡ Some (Does t (Pushes c v))) (at_b : slice_get vs b ≡ Some (Flushes u d w)) (qa : queue s t c ≡ q) (qb : queue s u d ≡ q) (count : times (pops s) q (take b vs) ≡ times (pushes s) q (take a vs)) where
    one_thread : (t ≡ u) × (key s.model c ≡ key s.model d)
    one_thread = same_queue s t u c d (has_cell a (Does t (Pushes c v)) at_a) (has_cell b (Flushes u d w) at_b) (qa ∙ sym qb)

    at_moment : IsMoment p s bound vs b (Flushes u d w)
    at_moment = moment b (Flushes u d w) at_b

    first : IsFirst s.model (pending_of at_moment.state u) (d, w)
    first = takes_first s.model bound p at_moment.state at_moment.entry (Flushes u d w) at_moment.is

    thread_there : u < length at_moment.state.pending
    thread_there = (has_names (Buffered s.model bound) p at_moment.state at_moment.fits at_moment.entry (Flushes u d w) at_moment.is).0

    queued : came s q (take b vs) ≡ left s q (take b vs) ++ (d, w) ∷ first.rest
    queued = subst (λ k. came s k (take b vs) ≡ left s k (take b vs) ++ (d, w) ∷ first.rest) qb (at_moment.queues.each u d thread_there (has_cell b (Flushes u d w) at_b) ∙ ap (λ ps. left s (queue s u d) (take b vs) ++ ps) first.first)

    cut : (rest : List Event) × (take b vs ≡ take a vs ++ Does t (Pushes c v) ∷ rest)
    cut = take_split vs a b (Does t (Pushes c v)) l at_a

    joined : came s q (take b vs) ≡ came s q (take a vs) ++ (c, v) ∷ came s q cut.0
    joined =
        ap (came s q) cut.1 ∙ flat_map-append (joining s q) (take a vs) (Does t (Pushes c v) ∷ cut.0)
        ∙ ap (λ ps. came s q (take a vs) ++ ps) (flat_map-cons (joining s q) (Does t (Pushes c v)) cut.0 ∙ ap (λ b. (if b then (c, v) ∷ [] else []) ++ came s q cut.0) (eq-eqb (queue s t c) q qa))

    fronts : (left s q (take b vs) ≡ came s q (take a vs)) × ((d, w) ∷ first.rest ≡ (c, v) ∷ came s q cut.0)
    fronts = same_front (left s q (take b vs)) ((d, w) ∷ first.rest) (came s q (take a vs)) ((c, v) ∷ came s q cut.0) (left_length s q (take b vs) ∙ count ∙ sym (came_length s q (take a vs))) (sym queued ∙ joined)

    same_store : ◌≡◌ {A = Pending} (d, w) (c, v)
    same_store = head (d, w) (c, v) first.rest (came s q cut.0) fronts.1
      where
        head : (x y : Pending) (xs ys : List Pending) → x ∷ xs ≡ y ∷ ys → x ≡ y
        head x y xs ys h = cc

    store_is : IsStore s vs a b
    store_is = record {
      thread = t;
      cell = c;
      value = v;
      made = at_a;
      flushed = at_b ∙ ap (λ k. Some (Flushes k d w)) (sym one_thread.0) ∙ ap (λ (x : Pending). Some (Flushes t x.0 x.1)) same_store;
      same = subst (λ k. left s k (take b vs) ≡ came s k (take a vs)) (sym qa) fronts.0;
    }

  pub issued_is : (a b : ℕ) → IsIssued s vs a b → IsStore s vs a b
  issued_is a b i =
      let pe = event_at (pushes s) vs a i.queue i.made.is in
      let ps = of_push s pe.0 i.queue pe.2 in
      let fe = event_at (pops s) vs b i.queue i.flushed.is in
      let fs = of_pop s fe.0 i.queue fe.2 in
      store_is a b i.queue i.before ps.0 ps.1 fs.0 fs.1 ps.2 fs.2 (pe.1 ∙ ap Some ps.3) (fe.1 ∙ ap Some fs.3) ps.4 fs.4 (i.flushed.nth ∙ sym i.made.nth)

  -- what a load of a thread's own store took is overwritten behind the load
  overwritten_later : (a b : ℕ) → IsOverwritten s vs a b → a < b
  overwritten_later a b o = go (cases_order a o.flush)
    where
      z : IsStore s vs o.store o.flush
      z = issued_is o.store o.flush o.issued

      x : ℕ
      x = own s z.thread z.cell

      made_it : by (makes s) vs o.store ≡ Some x
      made_it = ap (option_and_then (λ e. makes s e)) z.made

      mine : o.took.key ≡ x
      mine = some_same o.took.key x (sym o.took.from ∙ made_it)

      cell : z.cell < s.cells
      cell = has_cell o.store (Does z.thread (Pushes z.cell z.value)) z.made

      counts : times (ends_up s) x (take o.flush vs) ≡ times (makes s) x (take o.store vs)
      counts =
          sym (left_to s z.thread z.cell cell (take o.flush vs) (has_cells o.flush))
          ∙ ap (λ ps. length (filter (is_to z.cell) ps)) z.same
          ∙ came_to s z.thread z.cell cell (take o.store vs) (has_cells o.store)

      quiet : times (makes s) x (take a vs) ≡ times (makes s) x (take o.store vs) + 1
      quiet = times_quiet (makes s) x vs o.store a made_it o.took.before (λ k l m h. o.took.none k l m (h ∙ ap Some (sym mine)))

      finds : times (ends_up s) x (take a vs) < times (makes s) x (take a vs)
      finds = own_pending s vs a x (o.took.to ∙ ap Some mine)

      within_run : a ≤ length vs
      within_run = let h : a < length vs = at_within (reads_own s) vs a o.took.key o.took.to in omega (arith, h)

      go : (a ≡ o.flush) ⊎ ((a < o.flush) ⊎ (o.flush < a)) → a < b
      go (inl e) = absurd (flush_loads_nothing s vs a o.took.key z.thread z.cell z.value (ap (slice_get vs) e ∙ z.flushed) o.took.to)
      go (inr (inl l)) = let h = o.next.before in omega (arith, l, h)
      go (inr (inr l)) = absurd (let up : times (ends_up s) x (take o.flush vs) < times (ends_up s) x (take a vs) = times_up (ends_up s) vs x o.flush a (ap (option_and_then (λ e. ends_up s e)) z.flushed) l within_run in omega (arith, up, counts, quiet, finds))

  -- each edge leads to a later step
  pub leads_on : (k : EdgeKind) (a b : ℕ) → IsEdge s vs k a b → a < b
  leads_on Program a b i = i.before
  leads_on Issue a b i = i.before
  leads_on Fifo a b i = i.before
  leads_on Reads a b i = i.before
  leads_on Coherence a b i = i.before
  leads_on FromRead a b (inl i) = i.before
  leads_on FromRead a b (inr i) = overwritten_later a b i
  leads_on Drain a b i = i.before
  leads_on Mutex a b i = i.before
  leads_on Start a b i = i.before
  leads_on Join a b i = i.before
  leads_on Room a b i = i.before
