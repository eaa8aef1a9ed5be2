-- What is pending is what was stored and has not reached memory, queue by queue: the first in is the first out.
use Rattle.std.proofs.Common.{arith, ◌≡◌, ℕ, suc, ◌+◌, ◌*◌, ◌<◌, ◌≤◌, ◌==◌, ℤ, ◌⊎◌, inl, inr, Bool, true, false, cond, if◌then◌else◌, List, [], ◌∷◌, ◌++◌, length, length-append, length-set, Option, Some, None, refl, sym, ◌∙◌, ap, ap₂, subst, slice_get, slice_set, slice_index_or, append_assoc, append-nil, IfSome}
use Rattle.std.specs.List.{filter, find, flat_map}
use Rattle.std.proofs.lemmas.Bool.{cases_eq, cases_order, eq-eqb, ne_eqb}
use Rattle.std.proofs.lemmas.Grind.{flat_map-append}
use Rattle.std.proofs.lemmas.List.Concat.{flat_map-cons}
use Rattle.std.proofs.lemmas.List.{get_or-set_same, get_or-set_other}
use Rattle.std.proofs.lemmas.List.Elements.{filter-append}
use Rattle.std.proofs.lemmas.Nat.{mul-le}
use Rattle.mm_goto.specs.Bounds.{Bounding}
use Rattle.mm_goto.specs.declared.model.Model.{Model}
use Rattle.mm_goto.specs.declared.model.Model.TheVariants.{Tso, Pso}
use Rattle.mm_goto.specs.declared.program.Instr.{Instr}
use Rattle.mm_goto.specs.Listing.{Listing}
use Rattle.mm_sched.specs.declared.entry.Entry.{Entry}
use Rattle.mm_sched.specs.declared.entry.Entry.TheVariants.{Step, In, Flush, FlushCell}
use Rattle.mm_sched.specs.declared.entry.Rules.TheVariants.{Buffered}
use Rattle.mm_sched.specs.declared.entry.Act.{Act}
use Rattle.mm_sched.specs.declared.entry.Act.TheVariants.{Pushes}
use Rattle.mm_sched.specs.declared.entry.Event.{Event}
use Rattle.mm_sched.specs.declared.entry.Event.TheVariants.{Does, Flushes}
use Rattle.mm_sched.specs.Guarded.{◌>>=◌, guarded}
use Rattle.mm_sched.specs.State.{Frame, State, Pending, pending_of}
use Rattle.mm_sched.specs.Buffer.{is_to, part, without, flush_under, flush_of}
use Rattle.mm_sched.specs.Event.{act, input, acted, flushed, after, may_step, fetched, does, event}
use Rattle.mm_sched.proofs.Happens.{HasNames}
use Rattle.mm_sched.proofs.Steps.{bind-if, if-at}
use Rattle.mm_runkeys.specs.declared.keys.Layout.{Layout}
use Rattle.mm_runkeys.specs.Spans.{is_key, times}
use Rattle.mm_runkeys.specs.Keys.{key, queue, pushes, pops}
use Rattle.mm_rungraph.proofs.Nths.{times_cons}

-- ---- the stores that count for a cell

other_cell : (c d : ℕ) (q : Pending) → q.0 ≡ d → (d ≡ c → ⊥) → is_to c q ≡ false
other_cell c d q e n = ne_eqb q.0 c (λ h. n (sym e ∙ h))

pub part_same : (m : Model) (ps : List Pending) (c d : ℕ) → key m d ≡ key m c → part m ps d ≡ part m ps c
part_same Tso ps c d e = refl
part_same Pso ps c d e = ap (λ k. filter (is_to k) ps) e

pub part_push : (m : Model) (ps : List Pending) (c d : ℕ) (v : ℤ) → key m d ≡ key m c → part m (ps ++ (d, v) ∷ []) c ≡ part m ps c ++ (d, v) ∷ []
part_push Tso ps c d v e = refl
part_push Pso ps c d v e = filter-append (is_to c) ps ((d, v) ∷ []) ∙ ap (λ b. filter (is_to c) ps ++ cond b ((d, v) ∷ []) []) (eq-eqb d c e)

pub part_push_other : (m : Model) (ps : List Pending) (c d : ℕ) (v : ℤ) → (key m d ≡ key m c → ⊥) → part m (ps ++ (d, v) ∷ []) c ≡ part m ps c
part_push_other Tso ps c d v n = absurd (n refl)
part_push_other Pso ps c d v n = filter-append (is_to c) ps ((d, v) ∷ []) ∙ ap (λ b. filter (is_to c) ps ++ cond b ((d, v) ∷ []) []) (ne_eqb d c n) ∙ append-nil (filter (is_to c) ps)

filter_without_other : (ps : List Pending) (c d : ℕ) → (d ≡ c → ⊥) → filter (is_to c) (without ps d) ≡ filter (is_to c) ps
filter_without_other [] c d n = refl
filter_without_other (q ∷ ps) c d n = go (cases_eq q.0 d) (filter_without_other ps c d n)
  where
    go : (q.0 ≡ d) ⊎ (q.0 ≡ d → ⊥) → filter (is_to c) (without ps d) ≡ filter (is_to c) ps → filter (is_to c) (if q.0 == d then ps else q ∷ without ps d) ≡ cond (is_to c q) (q ∷ filter (is_to c) ps) (filter (is_to c) ps)
    go (inl e) ih = ap (λ b. filter (is_to c) (if b then ps else q ∷ without ps d)) (eq-eqb q.0 d e) ∙ sym (ap (λ b. cond b (q ∷ filter (is_to c) ps) (filter (is_to c) ps)) (other_cell c d q e n))
    go (inr o) ih = ap (λ b. filter (is_to c) (if b then ps else q ∷ without ps d)) (ne_eqb q.0 d o) ∙ ap (λ (xs : List Pending). cond (is_to c q) (q ∷ xs) xs) ih

pub part_without_other : (m : Model) (ps : List Pending) (c d : ℕ) → (key m d ≡ key m c → ⊥) → part m (without ps d) c ≡ part m ps c
part_without_other Tso ps c d n = absurd (n refl)
part_without_other Pso ps c d n = filter_without_other ps c d n

-- ---- what a flush takes

-- the store is the first of those that count for its cell
pub record IsFirst (m : Model) (ps : List Pending) (q : Pending) : Type 0 where
  pub rest : List Pending
  pub first : part m ps q.0 ≡ q ∷ rest
  pub left : part m (without ps q.0) q.0 ≡ rest

tso_first : (ps : List Pending) (q : Pending) → slice_get ps 0 ≡ Some q → IsFirst Tso ps q
tso_first [] q e = cc
tso_first (x ∷ ps) q e = let same : x ≡ q = cc in record {
  rest = ps;
  first = ap (λ z. z ∷ ps) same;
  left = ap (λ (z : Pending). without (x ∷ ps) z.0) (sym same) ∙ ap (λ b. if b then ps else x ∷ without ps x.0) (eq-eqb x.0 x.0 refl);
}

-- those to the cell are the one that is found, and then those without it
found_first : (ps : List Pending) (c : ℕ) (q : Pending) → find (is_to c) ps ≡ Some q → (q.0 ≡ c) × (filter (is_to c) ps ≡ q ∷ filter (is_to c) (without ps c))
found_first [] c q e = cc
found_first (x ∷ ps) c q e = go (cases_eq x.0 c) e (found_first ps c q)
  where
    go : (x.0 ≡ c) ⊎ (x.0 ≡ c → ⊥) → cond (x.0 == c) (Some x) (find (is_to c) ps) ≡ Some q → (find (is_to c) ps ≡ Some q → (q.0 ≡ c) × (filter (is_to c) ps ≡ q ∷ filter (is_to c) (without ps c)))
        → (q.0 ≡ c) × (cond (x.0 == c) (x ∷ filter (is_to c) ps) (filter (is_to c) ps) ≡ q ∷ filter (is_to c) (if x.0 == c then ps else x ∷ without ps c))
    go (inl i) f ih =
        let yes : (x.0 == c) ≡ true = eq-eqb x.0 c i in
        let found : Some x ≡ Some q = sym (ap (λ b. cond b (Some x) (find (is_to c) ps)) yes) ∙ f in
        let same : x ≡ q = cc in
        (ap (λ (z : Pending). z.0) (sym same) ∙ i, ap (λ b. cond b (x ∷ filter (is_to c) ps) (filter (is_to c) ps)) yes ∙ ap (λ z. z ∷ filter (is_to c) ps) same ∙ sym (ap (λ b. q ∷ filter (is_to c) (if b then ps else x ∷ without ps c)) yes))
    go (inr i) f ih =
        let no : (x.0 == c) ≡ false = ne_eqb x.0 c i in
        let rest = ih (sym (ap (λ b. cond b (Some x) (find (is_to c) ps)) no) ∙ f) in (
          rest.0,
          ap (λ b. cond b (x ∷ filter (is_to c) ps) (filter (is_to c) ps)) no ∙ rest.1
              ∙ sym (ap (λ b. q ∷ filter (is_to c) (if b then ps else x ∷ without ps c)) no ∙ ap (λ b. q ∷ cond b (x ∷ filter (is_to c) (without ps c)) (filter (is_to c) (without ps c))) no),
        )

pso_first : (ps : List Pending) (c : ℕ) (q : Pending) → find (is_to c) ps ≡ Some q → IsFirst Pso ps q
pso_first ps c q e = let f = found_first ps c q e in record {
  rest = filter (is_to c) (without ps c);
  first = ap (λ k. filter (is_to k) ps) f.0 ∙ f.1;
  left = ap (λ k. filter (is_to k) (without ps k)) f.0;
}

-- what the event takes from pending stores is the first of them
abbrev pub TakesFirst : Model → State → Event → Type 0
TakesFirst m s (Does t a) = Unit {0}
TakesFirst m s (Flushes t c v) = IsFirst m (pending_of s t) (c, v)

module _ (m : Model) (bound : Bounding) (p : Listing) (s : State) where
  does-first : (t : ℕ) (what : Frame → Instr → Option Act) → IfSome (does p s t what) (TakesFirst m s)
  does-first t what = bind-if (TakesFirst m s) (slice_get s.threads t) _ (λ f.
      bind-if (TakesFirst m s) (fetched p t f.place) _ (λ i.
      bind-if (TakesFirst m s) (guarded (may_step s t f) (what f i)) (λ a. Some (Does t a)) (λ a. tt)))

  flush-first : (t : ℕ) (o : Option Pending) → ((q : Pending) → o ≡ Some q → IsFirst m (pending_of s t) q) → IfSome (o >>= λ q. Some (Flushes t q.0 q.1)) (TakesFirst m s)
  flush-first t None h = tt
  flush-first t (Some q) h = h q refl

  takes-under : (e : Entry) (ps : List Pending) (q : Pending) → flush_under m e ps ≡ Some q → IsFirst m ps q
  takes-under e ps q h = go m e h
    where
      go : (m : Model) (e : Entry) → flush_under m e ps ≡ Some q → IsFirst m ps q
      go Tso (Flush t) h = tso_first ps q h
      go Pso (FlushCell t c) h = pso_first ps c q h
      go Tso (Step t) h = cc
      go Pso (Step t) h = cc
      go Tso (In t v) h = cc
      go Pso (In t v) h = cc
      go Tso (FlushCell t c) h = cc
      go Pso (Flush t) h = cc

  event-first : (e : Entry) → IfSome (event (Buffered m bound) p s e) (TakesFirst m s)
  unfolding event
  event-first (Step t) = does-first t (act (Buffered m bound) s t)
  event-first (In t v) = does-first t (λ f i. input i v)
  event-first (Flush t) = flush-first t (flush_of (Buffered m bound) (Flush t) (pending_of s t)) (takes-under (Flush t) (pending_of s t))
  event-first (FlushCell t c) = flush-first t (flush_of (Buffered m bound) (FlushCell t c) (pending_of s t)) (takes-under (FlushCell t c) (pending_of s t))

  pub takes_first : (e : Entry) (v : Event) → event (Buffered m bound) p s e ≡ Some v → TakesFirst m s v
  takes_first e v is = if-at (TakesFirst m s) (event (Buffered m bound) p s e) v is (event-first e)

-- ---- queues by their numbers

key_less : (m : Model) (c n : ℕ) → c < n → key m c < n
key_less Tso c n l = omega arith
key_less Pso c n l = l

-- two numbers below n, behind as many times n
pub digits : (n t u a b : ℕ) → a < n → b < n → t * n + a ≡ u * n + b → (t ≡ u) × (a ≡ b)
digits n t u a b l m e = go (cases_order t u)
  where
    go : (t ≡ u) ⊎ ((t < u) ⊎ (u < t)) → (t ≡ u) × (a ≡ b)
    go (inl i) = (i, let h : t * n ≡ u * n = ap (λ k. k * n) i in omega (arith, h, e))
    go (inr (inl i)) = absurd (let h : suc t * n ≤ u * n = mul-le (suc t) n u n (omega arith) (omega arith) in let g : suc t * n ≡ t * n + n = omega arith in omega (arith, h, g, e, l))
    go (inr (inr i)) = absurd (let h : suc u * n ≤ t * n = mul-le (suc u) n t n (omega arith) (omega arith) in let g : suc u * n ≡ u * n + n = omega arith in omega (arith, h, g, e, m))

pub same_queue : (s : Layout) (t u c d : ℕ) → c < s.cells → d < s.cells → queue s t c ≡ queue s u d → (t ≡ u) × (key s.model c ≡ key s.model d)
same_queue s t u c d l m e = digits s.cells t u (key s.model c) (key s.model d) (key_less s.model c s.cells l) (key_less s.model d s.cells m) e

-- ---- what joins and leaves a queue

abbrev pub stored_by : Event → List Pending
stored_by (Does t (Pushes c v)) = (c, v) ∷ []
stored_by v = []

abbrev pub flushed_by : Event → List Pending
flushed_by (Does t a) = []
flushed_by (Flushes t c v) = (c, v) ∷ []

abbrev pub joining : Layout → ℕ → Event → List Pending
joining s q e = if is_key q (pushes s e) then stored_by e else []

abbrev pub leaving : Layout → ℕ → Event → List Pending
leaving s q e = if is_key q (pops s e) then flushed_by e else []

-- the stores that have joined the queue, and those that have left it
abbrev pub came : Layout → ℕ → List Event → List Pending
came s q es = flat_map (joining s q) es

abbrev pub left : Layout → ℕ → List Event → List Pending
left s q es = flat_map (leaving s q) es

-- what came into each queue is what left it and then what is pending
pub record AreQueued (s : Layout) (st : State) (es : List Event) : Type 0 where
  pub each : (t c : ℕ) → t < length st.pending → c < s.cells → came s (queue s t c) es ≡ left s (queue s t c) es ++ part s.model (pending_of st t) c

module _ (s : Layout) (st : State) (es : List Event) (so_far : AreQueued s st es) where
  came_more : (q : ℕ) (v : Event) → came s q (es ++ v ∷ []) ≡ came s q es ++ joining s q v
  came_more q v = flat_map-append (joining s q) es (v ∷ []) ∙ ap (λ z. came s q es ++ z) (append-nil (joining s q v))

  left_more : (q : ℕ) (v : Event) → left s q (es ++ v ∷ []) ≡ left s q es ++ leaving s q v
  left_more q v = flat_map-append (leaving s q) es (v ∷ []) ∙ ap (λ z. left s q es ++ z) (append-nil (leaving s q v))

  -- the queue is left as it is
  quiet : (t c : ℕ) (v : Event) (ps : List Pending) → t < length st.pending → c < s.cells → joining s (queue s t c) v ≡ [] → leaving s (queue s t c) v ≡ [] → part s.model ps c ≡ part s.model (pending_of st t) c
      → came s (queue s t c) (es ++ v ∷ []) ≡ left s (queue s t c) (es ++ v ∷ []) ++ part s.model ps c
  quiet t c v ps l m j k e =
      came_more (queue s t c) v ∙ ap (λ z. came s (queue s t c) es ++ z) j ∙ append-nil (came s (queue s t c) es) ∙ so_far.each t c l m
      ∙ sym (ap₂ (λ x y. x ++ y) (left_more (queue s t c) v ∙ ap (λ z. left s (queue s t c) es ++ z) k ∙ append-nil (left s (queue s t c) es)) e)

  -- ---- a store is made pending
  module _ (u d : ℕ) (v : ℤ) (thread : u < length st.pending) (cell : d < s.cells) where
    abbrev push : Event
    push = Does u (Pushes d v)

    abbrev lists : List (List Pending)
    lists = slice_set st.pending u (pending_of st u ++ (d, v) ∷ [])

    pushed_same : (t c : ℕ) → t < length st.pending → c < s.cells → queue s u d ≡ queue s t c → came s (queue s t c) (es ++ push ∷ []) ≡ left s (queue s t c) (es ++ push ∷ []) ++ part s.model (slice_index_or lists t []) c
    pushed_same t c l m e =
        let is = same_queue s u t d c cell m e in
        let mine : slice_index_or lists t [] ≡ pending_of st t ++ (d, v) ∷ [] = subst (λ k. slice_index_or lists k [] ≡ pending_of st k ++ (d, v) ∷ []) is.0 (get_or-set_same st.pending u (pending_of st u ++ (d, v) ∷ []) [] thread) in
        let in_part : part s.model (slice_index_or lists t []) c ≡ part s.model (pending_of st t) c ++ (d, v) ∷ [] = ap (λ ps. part s.model ps c) mine ∙ part_push s.model (pending_of st t) c d v is.1 in
        came_more (queue s t c) push
        ∙ ap (λ b. came s (queue s t c) es ++ (if b then (d, v) ∷ [] else [])) (eq-eqb (queue s u d) (queue s t c) e)
        ∙ ap (λ z. z ++ (d, v) ∷ []) (so_far.each t c l m)
        ∙ append_assoc (left s (queue s t c) es) (part s.model (pending_of st t) c) ((d, v) ∷ [])
        ∙ sym (ap₂ (λ x y. x ++ y) (left_more (queue s t c) push ∙ append-nil (left s (queue s t c) es)) in_part)

    pushed_other : (t c : ℕ) → t < length st.pending → c < s.cells → (queue s u d ≡ queue s t c → ⊥) → came s (queue s t c) (es ++ push ∷ []) ≡ left s (queue s t c) (es ++ push ∷ []) ++ part s.model (slice_index_or lists t []) c
    pushed_other t c l m n = quiet t c push (slice_index_or lists t []) l m (ap (λ b. if b then (d, v) ∷ [] else []) (ne_eqb (queue s u d) (queue s t c) n)) refl (go (cases_eq t u))
      where
        go : (t ≡ u) ⊎ (t ≡ u → ⊥) → part s.model (slice_index_or lists t []) c ≡ part s.model (pending_of st t) c
        go (inr o) = ap (λ ps. part s.model ps c) (get_or-set_other st.pending u t (pending_of st u ++ (d, v) ∷ []) [] o)
        go (inl i) =
            let mine : slice_index_or lists t [] ≡ pending_of st t ++ (d, v) ∷ [] = subst (λ k. slice_index_or lists k [] ≡ pending_of st k ++ (d, v) ∷ []) (sym i) (get_or-set_same st.pending u (pending_of st u ++ (d, v) ∷ []) [] thread) in
            ap (λ ps. part s.model ps c) mine ∙ part_push_other s.model (pending_of st t) c d v (λ k. n (ap₂ (λ x y. x * s.cells + y) (sym i) k))

    pushed_queues : AreQueued s (record st { pending = lists }) (es ++ push ∷ [])
    pushed_queues = record { each = λ t c l m. go t c (subst (λ k. t < k) (length-set st.pending u (pending_of st u ++ (d, v) ∷ [])) l) m (cases_eq (queue s u d) (queue s t c)) }
      where
        go : (t c : ℕ) → t < length st.pending → c < s.cells → (queue s u d ≡ queue s t c) ⊎ (queue s u d ≡ queue s t c → ⊥) → came s (queue s t c) (es ++ push ∷ []) ≡ left s (queue s t c) (es ++ push ∷ []) ++ part s.model (slice_index_or lists t []) c
        go t c l m (inl e) = pushed_same t c l m e
        go t c l m (inr n) = pushed_other t c l m n

  -- ---- a store reaches memory
  module _ (u d : ℕ) (v : ℤ) (thread : u < length st.pending) (cell : d < s.cells) (first : IsFirst s.model (pending_of st u) (d, v)) where
    abbrev pop : Event
    pop = Flushes u d v

    abbrev shorter : List (List Pending)
    shorter = slice_set st.pending u (without (pending_of st u) d)

    popped_same : (t c : ℕ) → t < length st.pending → c < s.cells → queue s u d ≡ queue s t c → came s (queue s t c) (es ++ pop ∷ []) ≡ left s (queue s t c) (es ++ pop ∷ []) ++ part s.model (slice_index_or shorter t []) c
    popped_same t c l m e =
        let is = same_queue s u t d c cell m e in
        let mine : slice_index_or shorter t [] ≡ without (pending_of st u) d = subst (λ k. slice_index_or shorter k [] ≡ without (pending_of st u) d) is.0 (get_or-set_same st.pending u (without (pending_of st u) d) [] thread) in
        let after_it : part s.model (slice_index_or shorter t []) c ≡ first.rest = ap (λ ps. part s.model ps c) mine ∙ sym (part_same s.model (without (pending_of st u) d) c d is.1) ∙ first.left in
        let before_it : part s.model (pending_of st t) c ≡ (d, v) ∷ first.rest = ap (λ k. part s.model (pending_of st k) c) (sym is.0) ∙ sym (part_same s.model (pending_of st u) c d is.1) ∙ first.first in
        came_more (queue s t c) pop ∙ append-nil (came s (queue s t c) es) ∙ so_far.each t c l m
        ∙ ap (λ z. left s (queue s t c) es ++ z) before_it
        ∙ sym (append_assoc (left s (queue s t c) es) ((d, v) ∷ []) first.rest)
        ∙ sym (ap₂ (λ x y. x ++ y) (left_more (queue s t c) pop ∙ ap (λ b. left s (queue s t c) es ++ (if b then (d, v) ∷ [] else [])) (eq-eqb (queue s u d) (queue s t c) e)) after_it)

    popped_other : (t c : ℕ) → t < length st.pending → c < s.cells → (queue s u d ≡ queue s t c → ⊥) → came s (queue s t c) (es ++ pop ∷ []) ≡ left s (queue s t c) (es ++ pop ∷ []) ++ part s.model (slice_index_or shorter t []) c
    popped_other t c l m n = quiet t c pop (slice_index_or shorter t []) l m refl (ap (λ b. if b then (d, v) ∷ [] else []) (ne_eqb (queue s u d) (queue s t c) n)) (go (cases_eq t u))
      where
        go : (t ≡ u) ⊎ (t ≡ u → ⊥) → part s.model (slice_index_or shorter t []) c ≡ part s.model (pending_of st t) c
        go (inr o) = ap (λ ps. part s.model ps c) (get_or-set_other st.pending u t (without (pending_of st u) d) [] o)
        go (inl i) =
            let mine : slice_index_or shorter t [] ≡ without (pending_of st t) d = subst (λ k. slice_index_or shorter k [] ≡ without (pending_of st k) d) (sym i) (get_or-set_same st.pending u (without (pending_of st u) d) [] thread) in
            ap (λ ps. part s.model ps c) mine ∙ part_without_other s.model (pending_of st t) c d (λ k. n (ap₂ (λ x y. x * s.cells + y) (sym i) k))

    popped_queues : AreQueued s (record st { pending = shorter }) (es ++ pop ∷ [])
    popped_queues = record { each = λ t c l m. go t c (subst (λ k. t < k) (length-set st.pending u (without (pending_of st u) d)) l) m (cases_eq (queue s u d) (queue s t c)) }
      where
        go : (t c : ℕ) → t < length st.pending → c < s.cells → (queue s u d ≡ queue s t c) ⊎ (queue s u d ≡ queue s t c → ⊥) → came s (queue s t c) (es ++ pop ∷ []) ≡ left s (queue s t c) (es ++ pop ∷ []) ++ part s.model (slice_index_or shorter t []) c
        go t c l m (inl e) = popped_same t c l m e
        go t c l m (inr n) = popped_other t c l m n

  -- what is queued is seen in the lists of pending stores alone
  by_lists : (to : State) (v : Event) (lists : List (List Pending)) → to.pending ≡ lists → AreQueued s (record st { pending = lists }) (es ++ v ∷ []) → AreQueued s to (es ++ v ∷ [])
  by_lists to v _ e h = record { each = λ t c l m. h.each t c (subst (λ xs. t < length xs) e l) m ∙ ap (λ xs. left s (queue s t c) (es ++ v ∷ []) ++ part s.model (slice_index_or xs t []) c) (sym e) }

  acted_queues : (t : ℕ) (a : Act) → t < length st.pending → HasNames st (Does t a) → length st.memory ≡ s.cells → AreQueued s (acted st t a) (es ++ Does t a ∷ [])
  unfolding acted
  acted_queues t (Pushes c v) l h e = by_lists (acted st t (Pushes c v)) (Does t (Pushes c v)) (slice_set st.pending t (pending_of st t ++ (c, v) ∷ [])) refl (pushed_queues t c v l (subst (λ n. c < n) e h.1))
  acted_queues t a l h e = record { each = λ u c m k. quiet u c (Does t a) (pending_of st u) m k refl refl refl }

  -- what happens keeps the queues
  pub queued_step : (v : Event) → HasNames st v → length st.memory ≡ s.cells → length st.threads ≡ length st.pending → TakesFirst s.model st v → AreQueued s (after st v) (es ++ v ∷ [])
  unfolding flushed
  queued_step (Does t a) h e l f = acted_queues t a (subst (λ n. t < n) l h.0) h e
  queued_step (Flushes t c v) h e l f = by_lists (flushed st t c v) (Flushes t c v) (slice_set st.pending t (without (pending_of st t) c)) refl (popped_queues t c v h.0 (subst (λ n. c < n) e h.1) f)

-- ---- as many as there are steps

flat_length : (f : Event → List Pending) (k : Event → Option ℕ) (q : ℕ) → ((e : Event) → length (f e) ≡ (if is_key q (k e) then 1 else 0)) → (es : List Event) → length (flat_map f es) ≡ times k q es
flat_length f k q h [] = refl
flat_length f k q h (e ∷ es) =
    ap length (flat_map-cons f e es) ∙ length-append (f e) (flat_map f es)
    ∙ ap₂ (λ x y. x + y) (h e) (flat_length f k q h es)
    ∙ sym (times_cons k q e es)

pub came_length : (s : Layout) (q : ℕ) (es : List Event) → length (came s q es) ≡ times (pushes s) q es
came_length s q es = flat_length (joining s q) (pushes s) q one es
  where
    either : (b : Bool) (x : Pending) → length (if b then x ∷ [] else []) ≡ (if b then 1 else 0)
    either true x = refl
    either false x = refl

    one : (e : Event) → length (joining s q e) ≡ (if is_key q (pushes s e) then 1 else 0)
    one (Does t (Pushes c v)) = either (queue s t c == q) (c, v)
    one (Does t a) = refl
    one (Flushes t c v) = refl

pub left_length : (s : Layout) (q : ℕ) (es : List Event) → length (left s q es) ≡ times (pops s) q es
left_length s q es = flat_length (leaving s q) (pops s) q one es
  where
    either : (b : Bool) (x : Pending) → length (if b then x ∷ [] else []) ≡ (if b then 1 else 0)
    either true x = refl
    either false x = refl

    one : (e : Event) → length (leaving s q e) ≡ (if is_key q (pops s e) then 1 else 0)
    one (Does t a) = refl
    one (Flushes t c v) = either (queue s t c == q) (c, v)

-- what leaves a queue has come into it
pub has_store : (s : Layout) (st : State) (es : List Event) (v : Event) → AreQueued s st es → HasNames st v → length st.memory ≡ s.cells → TakesFirst s.model st v → (q : ℕ) → pops s v ≡ Some q → times (pops s) q es < times (pushes s) q es
has_store s st es (Does t a) queued h e f q d = cc
has_store s st es (Flushes t c v) queued h e f q d =
    let same : queue s t c ≡ q = cc in
    let all : came s (queue s t c) es ≡ left s (queue s t c) es ++ (c, v) ∷ f.rest = queued.each t c h.0 (subst (λ n. c < n) e h.1) ∙ ap (λ ps. left s (queue s t c) es ++ ps) f.first in
    let size : length (came s (queue s t c) es) ≡ length (left s (queue s t c) es) + suc (length f.rest) = ap length all ∙ length-append (left s (queue s t c) es) ((c, v) ∷ f.rest) in
    let less : times (pops s) (queue s t c) es < times (pushes s) (queue s t c) es = omega (arith, size, came_length s (queue s t c) es, left_length s (queue s t c) es) in
    subst (λ k. times (pops s) k es < times (pushes s) k es) same less
