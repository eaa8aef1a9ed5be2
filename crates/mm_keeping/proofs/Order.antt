-- What must be before comes before.
use Rattle.std.proofs.Common.{arith, ◌≡◌, ℕ, zero, suc, ◌+◌, ◌-◌, ◌<◌, ◌≤◌, ◌⊎◌, inl, inr, ⊎_elim, List, [], length, take, Option, Some, None, refl, true, sym, ◌∙◌, ap, subst, slice_get}
use Rattle.std.proofs.lemmas.Bool.{cases_eq, cases_lt, cases_order, eq-eqb}
use Rattle.std.proofs.lemmas.Option.{get_or_from_slice_get, slice_get_within, same_Some}
use Rattle.mm_goto.specs.Bounds.{Bounding}
use Rattle.mm_goto.specs.declared.model.Model.{Model}
use Rattle.mm_goto.specs.declared.program.Instr.{Instr}
use Rattle.mm_goto.specs.declared.program.Instr.TheVariants.{Start, Join, End}
use Rattle.mm_goto.specs.declared.program.Thread.{Thread}
use Rattle.mm_goto.specs.Flow.{IsSuccessor}
use Rattle.mm_goto.specs.Listing.{Listing}
use Rattle.mm_goto.specs.PointsTo.{instr_at}
use Rattle.mm_goto.specs.Sourcelike.{IsSourcelike, is_start_or_join}
use Rattle.mm_goto.specs.Valid.{code_of, is_start}
use Rattle.mm_sched.specs.declared.entry.Entry.{Entry}
use Rattle.mm_sched.specs.declared.entry.Rules.TheVariants.{Buffered}
use Rattle.mm_sched.specs.declared.entry.Act.{Act}
use Rattle.mm_sched.specs.declared.entry.Act.TheVariants.{Starts}
use Rattle.mm_sched.specs.declared.entry.Event.{Event}
use Rattle.mm_sched.specs.declared.entry.Event.TheVariants.{Does}
use Rattle.mm_sched.specs.State.{Frame, State, idle, initial, frame_of, pending_of}
use Rattle.mm_sched.specs.Buffer.{is_empty}
use Rattle.mm_sched.proofs.Steps.{if-at}
use Rattle.mm_sched.proofs.Within.{All-get}
use Rattle.mm_rungraph.specs.Edges.{IsIssued}
use Rattle.mm_rungraph.specs.RunGraph.{layout_of}
use Rattle.mm_rungraph.specs.Traces.{events_of, after_all}
use Rattle.mm_keeping.proofs.Telling.{TurnOf}
use Rattle.mm_keeping.proofs.Stepping.{Doing, doing, state, frame_is, instr_is, place_at, ended_at, not_ended, goes_on, held}
use Rattle.mm_keeping.proofs.Before.{start_is, count_zero, behind, ahead, past, initial_place, started_by, settled}

-- the thread of an instruction
placed : (p : Listing) (t k : ℕ) (i : Instr) → instr_at p t k ≡ Some i → (thread : Thread) × (slice_get p.threads t ≡ Some thread) × (slice_get thread.code k ≡ Some i)
placed p t k i h = go (slice_get p.threads t) refl
  where
    no_code : List Instr
    no_code = []

    nowhere : slice_get no_code k ≡ Some i → ⊥
    nowhere e = cc

    go : (o : Option Thread) → slice_get p.threads t ≡ o → (thread : Thread) × (slice_get p.threads t ≡ Some thread) × (slice_get thread.code k ≡ Some i)
    go None e = absurd (nowhere (rw e at h))
    go (Some thread) e = (thread, e, rw e at h)

module _ (p : Listing) (source : IsSourcelike p) where
  -- at the last place stands the end
  pub last_is : (k : ℕ) (i : Instr) → instr_at p 0 k ≡ Some i → k + 1 ≡ length (code_of p 0) → i ≡ End
  last_is k i h l =
      let z = placed p 0 k i h in
      let ends = if-at (λ (t : Thread). slice_get t.code (length t.code - 1) ≡ Some End) (slice_get p.threads 0) z.0 z.1 (All-get (λ (t : Thread). slice_get t.code (length t.code - 1) ≡ Some End) p.threads 0 source.ends) in
      let code : length (code_of p 0) ≡ length z.0.code = rw z.1 refl in
      let k_is : length z.0.code - 1 ≡ k = omega (arith, code, l) in
      same_Some i End (sym z.2 ∙ ap (slice_get z.0.code) (sym k_is) ∙ ends)

  not_main : (k : ℕ) → instr_at p 0 k ≡ Some (Start 0) → ⊥
  not_main k h = let z = placed p 0 k (Start 0) h in (source.each 0 k z.0 (Start 0) z.1 z.2).not_main.0 refl

  -- main starts a thread at one place
  one_start : (j k u : ℕ) → instr_at p 0 j ≡ Some (Start u) → instr_at p 0 k ≡ Some (Start u) → j ≡ k
  one_start j k u x y = go (cases_order j k)
    where
      go : (j ≡ k) ⊎ ((j < k) ⊎ (k < j)) → j ≡ k
      go (inl e) = e
      go (inr (inl l)) = absurd (let z = source.order.order j k u u l x y in omega (arith, z))
      go (inr (inr l)) = absurd (let z = source.order.order k j u u l y x in omega (arith, z))

module _ (m : Model) (bound : Bounding) (p : Listing) (source : IsSourcelike p) (es : List Entry) (vs : List Event) (happens : events_of (Buffered m bound) p (initial p) es ≡ Some vs) where
  abbrev D : ℕ → ℕ → Act → Type 0
  D = Doing m bound p source.valid es vs happens

  abbrev did : (n t : ℕ) (a : Act) → slice_get vs n ≡ Some (Does t a) → D n t a
  did = doing m bound p source.valid es vs happens

  abbrev S : ℕ → State
  S = state m bound p source.valid es vs happens

  abbrev At : ℕ → ℕ → ℕ
  At = place_at m bound p source.valid es vs happens

  -- main executes the place as a step before step b
  pub record Ran (k b : ℕ) : Type 0 where
    pub step : ℕ
    pub act : Act
    pub before : step < b
    pub does : slice_get vs step ≡ Some (Does 0 act)
    pub at : At 0 step ≡ k

  pub within : (n : ℕ) (v : Event) → slice_get vs n ≡ Some v → n ≤ length vs
  within n v e = let l = slice_get_within vs n v e in omega (arith, l)

  module _ (k : ℕ) (it : Instr) (is_turn : instr_at p 0 k ≡ Some it) (turns : is_start_or_join it ≡ true) where
    inside : k < length (code_of p 0)
    inside = slice_get_within (code_of p 0) k it is_turn

    abbrev Seen : ℕ → ℕ → Type 0
    Seen n j = (j ≤ k) ⊎ ((j + 1 ≡ length (code_of p 0)) ⊎ Ran k n)

    later : (n : ℕ) → Ran k n → Ran k (suc n)
    later n r = record { step = r.step; act = r.act; before = (let l = r.before in omega (arith, l)); does = r.does; at = r.at }

    seen_step : (n j : ℕ) (a : Act) → slice_get vs n ≡ Some (Does 0 a) → Seen n (At 0 n) → IsSuccessor (code_of p 0) (At 0 n) j → Seen (suc n) j
    seen_step n j a e (inr (inr r)) s = inr (inr (later n r))
    seen_step n j a e (inr (inl l)) s = absurd (no_way (last_is p source (At 0 n) d.instr (instr_is m bound p source.valid es vs happens n 0 a d) l))
      where
        d : D n 0 a
        d = did n 0 a e

        gone : (i : Instr) → i ≡ End → instr_at p 0 (At 0 n) ≡ Some i → ⊥
        gone i q h = rw (h ∙ ap Some q) at s

        no_way : d.instr ≡ End → ⊥
        no_way q = gone d.instr q (instr_is m bound p source.valid es vs happens n 0 a d)
    seen_step n j a e (inl l) s = ⊎_elim
        (λ (q : At 0 n ≡ k). inr (inr (record { step = n; act = a; before = omega arith; does = e; at = q })))
        (λ q. ⊎_elim (λ z. inl z) (λ z. inr (inl z)) (ahead (code_of p 0) source.order.jumps k it is_turn turns (At 0 n) j s (less q)))
        (cases_eq (At 0 n) k)
      where
        less : (At 0 n ≡ k → ⊥) → At 0 n < k
        less q = go (cases_order (At 0 n) k)
          where
            go : (At 0 n ≡ k) ⊎ ((At 0 n < k) ⊎ (k < At 0 n)) → At 0 n < k
            go (inl z) = absurd (q z)
            go (inr (inl z)) = z
            go (inr (inr z)) = absurd (omega (arith, z, l))

    -- behind the place, main has executed it
    pub passed : (b : ℕ) (x : Act) → slice_get vs b ≡ Some (Does 0 x) → k < At 0 b → (At 0 b + 1 ≡ length (code_of p 0) → ⊥) → Ran k b
    passed b x e l inner = ⊎_elim seen (λ z. absurd (not_ended m bound p source.valid es vs happens b 0 x e z))
        (held m bound p source.valid es vs happens 0 Seen b (within b (Does 0 x) e) waits (λ n j a i h q s. seen_step n j a h q s) 0 b (omega arith) (omega arith) (inl start))
      where
        start : Seen 0 (At 0 0)
        start = inl (subst (λ i. i ≤ k) (sym (go vs)) (omega arith))
          where
            go : (us : List Event) → (frame_of (after_all (initial p) (take 0 us)) 0).place ≡ 0
            go us = initial_place p 0

        waits : (n j : ℕ) → Seen n j → Seen (suc n) j
        waits n j (inl z) = inl z
        waits n j (inr (inl z)) = inr (inl z)
        waits n j (inr (inr r)) = inr (inr (later n r))

        seen : Seen b (At 0 b) → Ran k b
        seen (inl z) = absurd (omega (arith, z, l))
        seen (inr (inl z)) = absurd (inner z)
        seen (inr (inr r)) = r

    -- what stands before the place is not executed behind it
    pub over : (n a : ℕ) (x y : Act) → slice_get vs n ≡ Some (Does 0 x) → At 0 n ≡ k → slice_get vs a ≡ Some (Does 0 y) → At 0 a < k → a < n
    over n a x y e at h l = go (cases_order a n)
      where
        on : (i j : ℕ) (z : Act) → i < a → slice_get vs i ≡ Some (Does 0 z) → (k < At 0 i) ⊎ (At 0 i + 1 ≡ length (code_of p 0)) → IsSuccessor (code_of p 0) (At 0 i) j → (k < j) ⊎ (j + 1 ≡ length (code_of p 0))
        on i j z b w (inl q) s = behind (code_of p 0) source.order.jumps k it is_turn turns (At 0 i) j s q
        on i j z b w (inr q) s = absurd (let d = did i 0 z w in let is = instr_is m bound p source.valid es vs happens i 0 z d in let end = last_is p source (At 0 i) d.instr is q in let here : instr_at p 0 (At 0 i) ≡ Some End = is ∙ ap Some end in rw here at s)

        kept : n < a → ((k < At 0 a) ⊎ (At 0 a + 1 ≡ length (code_of p 0))) ⊎ (ended_at m bound p source.valid es vs happens 0 a ≡ true)
        kept b = held m bound p source.valid es vs happens 0 (λ i j. (k < j) ⊎ (j + 1 ≡ length (code_of p 0))) a (within a (Does 0 y) h) (λ i j q. q) (λ i j z c w q s. on i j z c w q s) (suc n) a b (omega arith)
            (⊎_elim (λ s. inl (inl (past (code_of p 0) source.order.jumps k it is_turn turns (At 0 (suc n)) (subst (λ i. IsSuccessor (code_of p 0) i (At 0 (suc n))) at s)))) (λ z. inr z) (goes_on m bound p source.valid es vs happens n 0 x e))

        go : (a ≡ n) ⊎ ((a < n) ⊎ (n < a)) → a < n
        go (inl q) = absurd (let z : At 0 a ≡ k = ap (At 0) q ∙ at in omega (arith, z, l))
        go (inr (inl q)) = q
        go (inr (inr q)) = absurd (⊎_elim (λ z. ⊎_elim (λ (w : k < At 0 a). omega (arith, w, l)) (λ w. let i = inside in omega (arith, w, i, l)) z) (λ z. not_ended m bound p source.valid es vs happens a 0 y h z) (kept q))

  -- a thread that steps is main, or main started it where its start stands
  pub starter : (b t k : ℕ) (x : Act) → slice_get vs b ≡ Some (Does t x) → instr_at p 0 k ≡ Some (Start t) → (n : ℕ) × (n < b) × (slice_get vs n ≡ Some (Does 0 (Starts t))) × (At 0 n ≡ k)
  starter b t k x e h = go (started_by m bound p source.valid es vs happens t b (within b (Does t x) e) running)
    where
      d : D b t x
      d = did b t x e

      running : (frame_of (S b) t).started ≡ true
      running = ap (λ (f : Frame). f.started) (frame_is m bound p source.valid es vs happens b t x d) ∙ d.at.is_started

      there : t < length p.threads
      there = subst (λ n. t < n) d.fits.threads (slice_get_within (S b).threads t d.frame d.at.frame)

      start : (n u : ℕ) → slice_get vs n ≡ Some (Does u (Starts t)) → instr_at p u (At u n) ≡ Some (Start t)
      start n u g = let y = did n u (Starts t) g in instr_is m bound p source.valid es vs happens n u (Starts t) y ∙ ap Some (start_is (S n) u t y.instr y.tells.turn).0

      by_main : (n u : ℕ) → slice_get vs n ≡ Some (Does u (Starts t)) → 1 ≤ t → u ≡ 0
      by_main n zero g l = refl
      by_main n (suc u) g l = absurd (count_zero (is_start t) (code_of p (suc u)) (At (suc u) n) (Start t) (start n (suc u) g) (eq-eqb t t refl) ((source.valid.each_start t l there).no_other (suc u) (omega arith)).0)

      some : (t ≡ 0 → ⊥) → 1 ≤ t
      some z = ⊎_elim (λ q. absurd (z q)) (λ q. ⊎_elim (λ w. absurd (omega (arith, w))) (λ w. omega (arith, w)) q) (cases_order t 0)

      no_main : t ≡ 0 → ⊥
      no_main z = not_main p source k (h ∙ ap (λ u. Some (Start u)) z)

      go : (t ≡ 0) ⊎ ((n : ℕ) × (n < b) × ((u : ℕ) × (slice_get vs n ≡ Some (Does u (Starts t))))) → (n : ℕ) × (n < b) × (slice_get vs n ≡ Some (Does 0 (Starts t))) × (At 0 n ≡ k)
      go (inl z) = absurd (no_main z)
      go (inr (n, l, (u, g))) =
          let main = by_main n u g (some no_main) in
          let does = subst (λ w. slice_get vs n ≡ Some (Does w (Starts t))) main g in
          (n, l, does, one_start p source (At 0 n) k t (start n 0 does) h)

  -- what the wait for a thread leaves: it has ended, and nothing of it is pending
  pub record Joined (u n : ℕ) : Type 0 where
    pub ended : ended_at m bound p source.valid es vs happens u n ≡ true
    pub empty : is_empty (pending_of (S n) u) ≡ true

  pub joins : (k u b : ℕ) → instr_at p 0 k ≡ Some (Join u) → (r : Ran k b) → Joined u r.step
  joins k u b h r = go d.instr (same_Some d.instr (Join u) (sym (instr_is m bound p source.valid es vs happens r.step 0 r.act d) ∙ ap (instr_at p 0) r.at ∙ h)) d.tells.turn
    where
      d : D r.step 0 r.act
      d = did r.step 0 r.act r.does

      go : (i : Instr) → i ≡ Join u → TurnOf (S r.step) 0 i r.act → Joined u r.step
      go i e t =
          let z = subst (λ j. TurnOf (S r.step) 0 j r.act) e t in
          record { ended = ap (λ (f : Frame). f.ended) (get_or_from_slice_get (S r.step).threads u z.2.0 idle z.2.1) ∙ z.2.2; empty = z.1 }

  -- a thread that is joined executes nothing behind it
  pub gone : (u n a : ℕ) (x : Act) → Joined u n → slice_get vs a ≡ Some (Does u x) → a < n
  gone u n a x j e = ⊎_elim (λ (l : a < n). l) (λ l. absurd (⊎_elim (λ q. q.1) (λ z. not_ended m bound p source.valid es vs happens a u x e z) (kept l))) (cases_lt a n)
    where
      kept : n ≤ a → ((Unit {0} × ⊥) ⊎ (ended_at m bound p source.valid es vs happens u a ≡ true))
      kept l = held m bound p source.valid es vs happens u (λ i k. Unit {0} × ⊥) a (within a (Does u x) e) (λ i k q. q) (λ i k z c w q s. q) n a l (omega arith) (inr j.ended)

  -- and what it stored has reached memory
  pub drained : (u n a f : ℕ) (x y : Act) → Joined u n → slice_get vs n ≡ Some (Does 0 y) → slice_get vs a ≡ Some (Does u x) → IsIssued (layout_of m bound p) vs a f → f < n
  drained u n a f x y j g e i =
      let d = did n 0 y g in
      let b = did a u x e in
      let there : u < length (S a).threads = slice_get_within (S a).threads u b.frame b.at.frame in
      let before = gone u n a x j e in
      settled m bound p source.valid es vs happens n a f u x before (within n (Does 0 y) g) e i d.queues (omega (arith, there, b.fits.threads, d.fits.pending)) j.empty
