-- Starts and joins: what main does before, and that nothing of a thread is left behind the wait for it.
use Rattle.std.proofs.Common.{arith, ◌≡◌, ℕ, zero, suc, ◌+◌, ◌<◌, ◌≤◌, ◌⊎◌, inl, inr, ⊎_elim, List, [], ◌∷◌, length, length-append, take, map, Option, Some, None, refl, Bool, true, false, sym, ◌∙◌, ap, subst, slice_get, slice_index_or, if◌then◌else◌}
use Rattle.std.specs.Prelude.{option_and_then}
use Rattle.std.specs.List.{count_by}
use Rattle.std.proofs.lemmas.Bool.{cases_eq, cases_lt, false≢true}
use Rattle.std.proofs.lemmas.Option.{same_Some}
use Rattle.std.proofs.lemmas.List.Sums.{sum_by-append}
use Rattle.std.proofs.lemmas.List.{get_or-set_other}
use Rattle.mm_goto.specs.Bounds.{Bounding}
use Rattle.mm_goto.specs.declared.model.Model.{Model}
use Rattle.mm_goto.specs.declared.model.Model.TheVariants.{Tso, Pso}
use Rattle.mm_goto.specs.declared.program.Instr.{Instr}
use Rattle.mm_goto.specs.declared.program.Instr.TheVariants.{Jump, Branch, Start, Join, End}
use Rattle.mm_goto.specs.declared.program.Thread.{Thread}
use Rattle.mm_goto.specs.Flow.{GoesTo, IsSuccessor}
use Rattle.mm_goto.specs.Listing.{Listing}
use Rattle.mm_goto.specs.Sourcelike.{PassesNone, JumpPassesNone, is_start_or_join}
use Rattle.mm_goto.specs.Valid.{IsValid}
use Rattle.mm_sched.specs.declared.entry.Entry.{Entry}
use Rattle.mm_sched.specs.declared.entry.Rules.TheVariants.{Buffered}
use Rattle.mm_sched.specs.declared.entry.Act.{Act}
use Rattle.mm_sched.specs.declared.entry.Act.TheVariants.{Goes, Pushes, Starts, Joins}
use Rattle.mm_sched.specs.declared.entry.Event.{Event}
use Rattle.mm_sched.specs.declared.entry.Event.TheVariants.{Does, Flushes}
use Rattle.mm_sched.specs.State.{Frame, State, Pending, idle, initial, frame_of, pending_of, at_start, all_at_start}
use Rattle.mm_sched.specs.Buffer.{is_empty, part}
use Rattle.mm_sched.specs.Event.{framed, done, acted, after}
use Rattle.mm_runkeys.specs.Keys.{queue, pushes, pops}
use Rattle.mm_runkeys.specs.Spans.{is_key, times}
use Rattle.mm_rungraph.specs.Edges.{IsIssued}
use Rattle.mm_rungraph.specs.RunGraph.{layout_of}
use Rattle.mm_rungraph.specs.Traces.{events_of, after_all}
use Rattle.mm_rungraph.proofs.Forward.{IsStore, issued_is, has_cell}
use Rattle.mm_rungraph.proofs.Nths.{times_cons}
use Rattle.mm_rungraph.proofs.Queues.{AreQueued, came, left, came_length, left_length}
use Rattle.mm_rungraph.proofs.Whole.{times_up}
use Rattle.mm_keeping.proofs.Telling.{TurnOf}
use Rattle.mm_keeping.proofs.Stepping.{doing, state, frame_is, after_take, flush_frames}

-- ---- the start of a thread, told of its act

pub start_is : (s : State) (t u : ℕ) (i : Instr) → TurnOf s t i (Starts u) → (i ≡ Start u) × (is_empty (pending_of s t) ≡ true)
start_is s t u (Start w) h = let same : Starts u ≡ Starts w = h.0 in (cc, h.1)
start_is s t u (Join w) h = let same : Starts u ≡ Joins w = h.0 in absurd (cc)
start_is s t u i h = absurd h

-- ---- lists

count_cons : {A : Type 0} (f : A → Bool) (y : A) (xs : List A) → count_by f (y ∷ xs) ≡ (if f y then 1 else 0) + count_by f xs
count_cons f y xs = sum_by-append (λ e. if f e then 1 else 0) (y ∷ []) xs ∙ (omega arith)

pub count_zero : {A : Type 0} (f : A → Bool) (xs : List A) (k : ℕ) (x : A) → slice_get xs k ≡ Some x → f x ≡ true → count_by f xs ≡ 0 → ⊥
count_zero f [] k x e h z = cc
count_zero f (y ∷ xs) zero x e h z =
    let same : y ≡ x = cc in
    let one : (if f y then suc zero else zero) ≡ suc zero = ap (λ b. if b then suc zero else zero) (ap f same ∙ h) in
    omega (arith, one, z, count_cons f y xs)
count_zero f (y ∷ xs) (suc k) x e h z = count_zero f xs k x e h (let c = count_cons f y xs in omega (arith, c, z))

times_least : (key : Event → Option ℕ) (x : ℕ) (es : List Event) (n f : ℕ) → n ≤ f → times key x (take n es) ≤ times key x (take f es)
times_least key x es zero f l = omega arith
times_least key x [] (suc n) f l = omega arith
times_least key x (e ∷ es) (suc n) zero l = absurd (omega arith)
times_least key x (e ∷ es) (suc n) (suc f) l =
    let ih : times key x (take n es) ≤ times key x (take f es) = times_least key x es n f (omega arith) in
    let a : times key x (e ∷ take n es) ≡ (if is_key x (key e) then 1 else 0) + times key x (take n es) = times_cons key x e (take n es) in
    let b : times key x (e ∷ take f es) ≡ (if is_key x (key e) then 1 else 0) + times key x (take f es) = times_cons key x e (take f es) in
    omega (arith, ih, a, b)

-- ---- where main goes

succeeds : (code : List Instr) (j k : ℕ) → IsSuccessor code j k → (i : Instr) × (slice_get code j ≡ Some i) × GoesTo j i k
succeeds code j k h = go (slice_get code j) refl
  where
    go : (o : Option Instr) → slice_get code j ≡ o → (i : Instr) × (slice_get code j ≡ Some i) × GoesTo j i k
    go None e = absurd (rw e at h)
    go (Some i) e = (i, e, rw e at h)

leap : (code : List Instr) (j k : ℕ) (i : Instr) → JumpPassesNone code j i → GoesTo j i k → (k ≡ j + 1) ⊎ PassesNone code j k
leap code j k (Jump n) h g = inr (subst (PassesNone code j) (sym g) h)
leap code j k (Branch e n) h (inl g) = inr (subst (PassesNone code j) (sym g) h)
leap code j k (Branch e n) h (inr g) = inl g
leap code j k End h g = absurd g
leap code j k i h g = inl g

module _ (code : List Instr) (jumps : (j : ℕ) (i : Instr) → slice_get code j ≡ Some i → JumpPassesNone code j i) (k : ℕ) (it : Instr) (is_turn : slice_get code k ≡ Some it) (turns : is_start_or_join it ≡ true) where
  way : (j n : ℕ) → IsSuccessor code j n → (n ≡ j + 1) ⊎ PassesNone code j n
  way j n s = let z = succeeds code j n s in leap code j n z.0 (jumps j z.0 z.1) z.2

  -- from behind a start or a join control stays behind it, but for the last place
  pub behind : (j n : ℕ) → IsSuccessor code j n → k < j → (k < n) ⊎ (n + 1 ≡ length code)
  behind j n s l = go (way j n s)
    where
      go : (n ≡ j + 1) ⊎ PassesNone code j n → (k < n) ⊎ (n + 1 ≡ length code)
      go (inl e) = inl (omega (arith, e, l))
      go (inr (inl e)) = inr e
      go (inr (inr f)) = ⊎_elim (λ (c : k < n). inl c) (λ c. absurd (false≢true (sym (f k it (inr (c, l)) is_turn) ∙ turns))) (cases_lt k n)

  -- and from before it leads to it at most
  pub ahead : (j n : ℕ) → IsSuccessor code j n → j < k → (n ≤ k) ⊎ (n + 1 ≡ length code)
  ahead j n s l = go (way j n s)
    where
      go : (n ≡ j + 1) ⊎ PassesNone code j n → (n ≤ k) ⊎ (n + 1 ≡ length code)
      go (inl e) = inl (omega (arith, e, l))
      go (inr (inl e)) = inr e
      go (inr (inr f)) = ⊎_elim (λ c. absurd (false≢true (sym (f k it (inl (l, c)) is_turn) ∙ turns))) (λ (c : n ≤ k). inl c) (cases_lt k n)

  -- behind itself
  pub past : (n : ℕ) → IsSuccessor code k n → k < n
  past n s = let z = succeeds code k n s in one z.0 it (same_Some z.0 it (sym z.1 ∙ is_turn)) turns z.2
    where
      one : (i j : Instr) → i ≡ j → is_start_or_join j ≡ true → GoesTo k i n → k < n
      one i j e h g = by_kind i (ap is_start_or_join e ∙ h) g
        where
          by_kind : (i : Instr) → is_start_or_join i ≡ true → GoesTo k i n → k < n
          by_kind (Start u) h g = omega (arith, g)
          by_kind (Join u) h g = omega (arith, g)
          by_kind i h g = absurd (false≢true h)

-- ---- the start of a run

idle_place : (threads : List Thread) (t : ℕ) → (slice_index_or (map (at_start false) threads) t idle).place ≡ 0
idle_place [] t = refl
idle_place (x ∷ threads) zero = refl
idle_place (x ∷ threads) (suc t) = idle_place threads t

idle_started : (threads : List Thread) (t : ℕ) → (slice_index_or (map (at_start false) threads) t idle).started ≡ false
idle_started [] t = refl
idle_started (x ∷ threads) zero = refl
idle_started (x ∷ threads) (suc t) = idle_started threads t

first_place : (threads : List Thread) (t : ℕ) → (slice_index_or (all_at_start threads) t idle).place ≡ 0
first_place [] t = refl
first_place (x ∷ threads) zero = refl
first_place (x ∷ threads) (suc t) = idle_place threads t

first_started : (threads : List Thread) (t : ℕ) → (slice_index_or (all_at_start threads) t idle).started ≡ true → t ≡ 0
first_started [] t h = absurd (false≢true h)
first_started (x ∷ threads) zero h = refl
first_started (x ∷ threads) (suc t) h = absurd (false≢true (sym (idle_started threads t) ∙ h))

pub initial_place : (p : Listing) (t : ℕ) → (frame_of (initial p) t).place ≡ 0
unfolding initial
initial_place p t = first_place p.threads t

initial_started : (p : Listing) (t : ℕ) → (frame_of (initial p) t).started ≡ true → t ≡ 0
unfolding initial
initial_started p t h = first_started p.threads t h

-- a step that starts a thread is a start of it
started_done : (s : State) (t : ℕ) (a : Act) (u : ℕ) → (slice_index_or (done s t a).threads u idle).started ≡ true → (a ≡ Starts u) ⊎ ((frame_of s u).started ≡ true)
started_done s t (Starts w) u h = go (cases_eq u w)
  where
    go : (u ≡ w) ⊎ (u ≡ w → ⊥) → (Starts w ≡ Starts u) ⊎ ((frame_of s u).started ≡ true)
    go (inl e) = inl (ap Starts (sym e))
    go (inr n) = inr (sym (ap (λ (f : Frame). f.started) (get_or-set_other s.threads w u (record (frame_of s w) { started = true }) idle n)) ∙ h)
started_done s t (Goes k) u h = inr h
started_done s t a u h = inr h

started_acted : (s : State) (t : ℕ) (a : Act) (u : ℕ) → (u ≡ t → ⊥) → (frame_of (acted s t a) u).started ≡ true → (a ≡ Starts u) ⊎ ((frame_of s u).started ≡ true)
unfolding acted
started_acted s t a u n h = started_done s t a u (sym (ap (λ (f : Frame). f.started) (get_or-set_other (done s t a).threads t u (framed (frame_of s t) a) idle n)) ∙ h)

part_nothing : (m : Model) (ps : List Pending) (c : ℕ) → is_empty ps ≡ true → length (part m ps c) ≡ 0
part_nothing Tso [] c e = refl
part_nothing Pso [] c e = refl
part_nothing m (x ∷ ps) c e = absurd (false≢true e)

module _ (m : Model) (bound : Bounding) (p : Listing) (valid : IsValid p) (es : List Entry) (vs : List Event) (happens : events_of (Buffered m bound) p (initial p) es ≡ Some vs) where
  started_step : (n t : ℕ) (v : Event) → slice_get vs n ≡ Some v → (frame_of (after (state m bound p valid es vs happens n) v) t).started ≡ true → ((u : ℕ) × (v ≡ Does u (Starts t))) ⊎ ((frame_of (state m bound p valid es vs happens n) t).started ≡ true)
  started_step n t (Flushes u c x) e h = inr (sym (ap (λ (f : Frame). f.started) (flush_frames (state m bound p valid es vs happens n) u c x t)) ∙ h)
  started_step n t (Does u a) e h = go (cases_eq t u)
    where
      go : (t ≡ u) ⊎ (t ≡ u → ⊥) → ((w : ℕ) × (Does u a ≡ Does w (Starts t))) ⊎ ((frame_of (state m bound p valid es vs happens n) t).started ≡ true)
      go (inl i) = inr (let d = doing m bound p valid es vs happens n u a e in ap (λ w. (frame_of (state m bound p valid es vs happens n) w).started) i ∙ ap (λ (f : Frame). f.started) (frame_is m bound p valid es vs happens n u a d) ∙ d.at.is_started)
      go (inr k) = ⊎_elim (λ q. inl (u, ap (Does u) q)) (λ q. inr q) (started_acted (state m bound p valid es vs happens n) u a t k h)

  -- a thread that is started is main, or some step starts it
  pub started_by : (t n : ℕ) → n ≤ length vs → (frame_of (state m bound p valid es vs happens n) t).started ≡ true → (t ≡ 0) ⊎ ((k : ℕ) × (k < n) × ((u : ℕ) × (slice_get vs k ≡ Some (Does u (Starts t)))))
  started_by t zero l h = inl (initial_started p t (go vs h))
    where
      go : (us : List Event) → (frame_of (after_all (initial p) (take 0 us)) t).started ≡ true → (frame_of (initial p) t).started ≡ true
      go [] h = h
      go (v ∷ us) h = h
  started_by t (suc n) l h = go (slice_get vs n) refl (started_by t n (omega arith))
    where
      past_end : (us : List Event) (i : ℕ) → suc i ≤ length us → slice_get us i ≡ None → ⊥
      past_end [] i l e = absurd (omega arith)
      past_end (u ∷ us) zero l e = cc
      past_end (u ∷ us) (suc i) l e = past_end us i (omega arith) e

      go : (o : Option Event) → slice_get vs n ≡ o → ((frame_of (state m bound p valid es vs happens n) t).started ≡ true → (t ≡ 0) ⊎ ((k : ℕ) × (k < n) × ((u : ℕ) × (slice_get vs k ≡ Some (Does u (Starts t))))))
          → (t ≡ 0) ⊎ ((k : ℕ) × (k < suc n) × ((u : ℕ) × (slice_get vs k ≡ Some (Does u (Starts t)))))
      go None e ih = absurd (past_end vs n l e)
      go (Some v) e ih = ⊎_elim
          (λ q. inr (n, omega arith, (q.0, e ∙ ap Some q.1)))
          (λ q. ⊎_elim (λ z. inl z) (λ z. inr (z.0, (let y : z.0 < n = z.1 in omega (arith, y)), z.2)) (ih q))
          (started_step n t v e (subst (λ (z : State). (frame_of z t).started ≡ true) (after_take (initial p) vs n v e) h))

  -- where nothing of a thread is pending, what it stored before has reached memory
  pub settled : (n a f u : ℕ) (x : Act) → a < n → n ≤ length vs → slice_get vs a ≡ Some (Does u x) → IsIssued (layout_of m bound p) vs a f → AreQueued (layout_of m bound p) (state m bound p valid es vs happens n) (take n vs) → u < length (state m bound p valid es vs happens n).pending → is_empty (pending_of (state m bound p valid es vs happens n) u) ≡ true → f < n
  settled n a f u x l l2 at i queues there none = go (cases_lt f n)
    where
      st : IsStore (layout_of m bound p) vs a f
      st = issued_is p valid (layout_of m bound p) bound refl es vs happens a f i

      one : (t w : ℕ) (y z : Act) → Some (Does t y) ≡ Some (Does w z) → t ≡ w
      one t w y z e = cc

      two : (b c : ℕ) → Some b ≡ Some c → b ≡ c
      two b c e = cc

      queue_is : i.queue ≡ queue (layout_of m bound p) u st.cell
      queue_is = two i.queue (queue (layout_of m bound p) u st.cell) (sym i.made.is ∙ ap (option_and_then (λ e. pushes (layout_of m bound p) e)) st.made ∙ ap (λ w. Some (queue (layout_of m bound p) w st.cell)) (sym (one u st.thread x (Pushes st.cell st.value) (sym at ∙ st.made))))

      go : (f < n) ⊎ (n ≤ f) → f < n
      go (inl c) = c
      go (inr c) = absurd (
          let cells = has_cell p valid (layout_of m bound p) bound refl es vs happens a (Does st.thread (Pushes st.cell st.value)) st.made in
          let all = queues.each u st.cell there cells in
          let size : length (came (layout_of m bound p) (queue (layout_of m bound p) u st.cell) (take n vs)) ≡ length (left (layout_of m bound p) (queue (layout_of m bound p) u st.cell) (take n vs)) + length (part m (pending_of (state m bound p valid es vs happens n) u) st.cell) = ap length all ∙ length-append (left (layout_of m bound p) (queue (layout_of m bound p) u st.cell) (take n vs)) (part m (pending_of (state m bound p valid es vs happens n) u) st.cell) in
          let zero_left = part_nothing m (pending_of (state m bound p valid es vs happens n) u) st.cell none in
          let into = came_length (layout_of m bound p) (queue (layout_of m bound p) u st.cell) (take n vs) in
          let out = left_length (layout_of m bound p) (queue (layout_of m bound p) u st.cell) (take n vs) in
          let up = times_up (pushes (layout_of m bound p)) vs (queue (layout_of m bound p) u st.cell) a n (i.made.is ∙ ap Some queue_is) l l2 in
          let nth_a : times (pushes (layout_of m bound p)) (queue (layout_of m bound p) u st.cell) (take a vs) ≡ i.nth = ap (λ w. times (pushes (layout_of m bound p)) w (take a vs)) (sym queue_is) ∙ i.made.nth in
          let nth_f : times (pops (layout_of m bound p)) (queue (layout_of m bound p) u st.cell) (take f vs) ≡ i.nth = ap (λ w. times (pops (layout_of m bound p)) w (take f vs)) (sym queue_is) ∙ i.flushed.nth in
          let least = times_least (pops (layout_of m bound p)) (queue (layout_of m bound p) u st.cell) vs n f c in
          omega (arith, size, zero_left, into, out, up, nth_a, nth_f, least))
