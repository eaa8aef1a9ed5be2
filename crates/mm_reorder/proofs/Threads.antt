-- What stays along a run: that a thread is started, that it has ended, and that an assertion has failed; and that the steps
-- which change a thread's frame have ways between them.
use Rattle.std.proofs.Common.{arith, ◌≡◌, ℕ, zero, suc, ◌<◌, ◌≤◌, Option, Some, None, option_map, refl, Bool, true, false, not, sym, ◌∙◌, ap, subst, slice_get, ◌⊎◌, inl, inr, ⊎_elim}
use Rattle.std.specs.Prelude.{is_none, ◌&&◌, slice_set, ℤ}
use Rattle.std.proofs.lemmas.Bool.{cases_lt, cases_eq, cases_order, false≢true, and_parts, or_cases, not-true, eqb-true}
use Rattle.std.proofs.lemmas.Option.{get_or_from_slice_get}
use Rattle.mm_goto.specs.Bounds.{Bounding}
use Rattle.mm_goto.specs.declared.model.Model.{Model}
use Rattle.mm_goto.specs.Listing.{Listing}
use Rattle.mm_sched.specs.declared.entry.Act.{Act}
use Rattle.mm_sched.specs.declared.entry.Act.TheVariants.{Goes, Fails, Ends, Starts, Enters, Leaves}
use Rattle.mm_sched.specs.declared.entry.Event.{Event}
use Rattle.mm_sched.specs.declared.entry.Event.TheVariants.{Does, Flushes}
use Rattle.mm_sched.specs.State.{Frame, State, idle, frame_of}
use Rattle.mm_sched.specs.Event.{framed, done, acted, flushed, may_step, is_open_to}
use Rattle.mm_runkeys.specs.Keys.{runs, starts}
use Rattle.mm_runkeys.specs.Spans.{is_key}
use Rattle.mm_reorder.proofs.Course.{Course, ended_of, R, Has, has, program, starting, told, ran}
use Rattle.mm_reorder.proofs.Parts.{Ghost, FrameOf, Whole, changes, follow, get_set_same, get_set_other}

abbrev pub started_of : Option Frame → Bool
started_of None = false
started_of (Some f) = f.started

-- ---- one step

-- what thread t does to a frame of its own: it has ended where it had, or where it ends
ended_framed : (f : Frame) (a : Act) → f.ended ≡ false → (framed f a).ended ≡ true → a ≡ Ends
ended_framed f Ends h e = refl
ended_framed f (Goes k) h e = absurd (false≢true (sym h ∙ e))
ended_framed f a h e = absurd (false≢true (sym h ∙ e))

started_framed : (f : Frame) (a : Act) → (framed f a).started ≡ f.started
started_framed f (Goes k) = refl
started_framed f a = refl

ended_done : (s : State) (t : ℕ) (a : Act) (x : ℕ) → ended_of (slice_get (done s t a).threads x) ≡ ended_of (slice_get s.threads x)
ended_done s t (Starts u) x = go (cases_eq x u)
  where
    mapped : (o : Option Frame) → slice_get s.threads u ≡ o → ended_of (option_map (λ (f : Frame). record (frame_of s u) { started = true }) o) ≡ ended_of o
    mapped None e = refl
    mapped (Some g) e = ap (λ (f : Frame). f.ended) (get_or_from_slice_get s.threads u g idle e)

    go : (x ≡ u) ⊎ (x ≡ u → ⊥) → ended_of (slice_get (done s t (Starts u)).threads x) ≡ ended_of (slice_get s.threads x)
    go (inr n) = ap ended_of (get_set_other s.threads u (record (frame_of s u) { started = true }) x n)
    go (inl c) = subst (λ y. ended_of (slice_get (done s t (Starts u)).threads y) ≡ ended_of (slice_get s.threads y)) (sym c) (ap ended_of (get_set_same s.threads u (record (frame_of s u) { started = true })) ∙ mapped (slice_get s.threads u) refl)
ended_done s t (Goes k) x = refl
ended_done s t a x = refl

started_done : (s : State) (t : ℕ) (a : Act) (x : ℕ) → started_of (slice_get s.threads x) ≡ true → started_of (slice_get (done s t a).threads x) ≡ true
started_done s t (Starts u) x h = go (cases_eq x u)
  where
    mapped : (o : Option Frame) → started_of o ≡ true → started_of (option_map (λ (f : Frame). record (frame_of s u) { started = true }) o) ≡ true
    mapped None e = e
    mapped (Some g) e = refl

    go : (x ≡ u) ⊎ (x ≡ u → ⊥) → started_of (slice_get (done s t (Starts u)).threads x) ≡ true
    go (inr n) = ap started_of (get_set_other s.threads u (record (frame_of s u) { started = true }) x n) ∙ h
    go (inl c) = subst (λ y. started_of (slice_get s.threads y) ≡ true → started_of (slice_get (done s t (Starts u)).threads y) ≡ true) (sym c) (λ g. ap started_of (get_set_same s.threads u (record (frame_of s u) { started = true })) ∙ mapped (slice_get s.threads u) g) h
started_done s t (Goes k) x h = h
started_done s t a x h = h

failed_done : (s : State) (t : ℕ) (a : Act) → is_none s.verdict ≡ false → is_none (done s t a).verdict ≡ false
failed_done s t (Fails n) h = refl
failed_done s t (Goes k) h = h
failed_done s t a h = h

-- the parts of leave to step
pub record Allowed (s : State) (t : ℕ) (f : Frame) : Type 0 where
  pub started : f.started ≡ true
  pub not_ended : f.ended ≡ false
  pub not_failed : is_none s.verdict ≡ true

pub allowed : (s : State) (t : ℕ) (f : Frame) → may_step s t f ≡ true → Allowed s t f
allowed s t f h =
    let all = and_parts (f.started && not f.ended && is_none s.verdict) (is_open_to t s.section) h in
    let some = and_parts (f.started && not f.ended) (is_none s.verdict) all.0 in
    let own = and_parts f.started (not f.ended) some.0 in
    record { started = own.0; not_ended = not-true f.ended own.1; not_failed = some.1 }

module _ (m : Model) (bound : Bounding) (p : Listing) (k : Course m bound p) where
  -- ---- what stays

  stays_up : (P : Ghost → Type 0) → ((n : ℕ) → n < k.walk.size → P (k.walk.at n) → P (follow m (k.walk.at n) (k.walk.what n))) → (i j : ℕ) → i ≤ j → j ≤ k.walk.size → P (k.walk.at i) → P (k.walk.at j)
  stays_up P step i zero l l2 h = subst (λ n. P (k.walk.at n)) (let e : i ≡ zero = omega arith in e) h
  stays_up P step i (suc j) l l2 h = go (cases_lt j i) (λ b. stays_up P step i j b (omega arith) h)
    where
      go : (j < i) ⊎ (i ≤ j) → (i ≤ j → P (k.walk.at j)) → P (k.walk.at (suc j))
      go (inl b) ih = subst (λ n. P (k.walk.at n)) (let e : i ≡ suc j = omega arith in e) h
      go (inr b) ih = subst P (sym (k.walk.goes j (omega arith))) (step j (omega arith) (ih b))

  allowed_at : (n t : ℕ) (a : Act) → n < k.walk.size → k.walk.what n ≡ Does t a → (f : Frame) × (slice_get (k.walk.at n).state.threads t ≡ Some f) × Allowed (k.walk.at n).state t f
  allowed_at n t a l e = let d = ran m bound p k n t a l e in (d.frame, d.there, allowed (k.walk.at n).state t d.frame d.allowed)

  pub started_at : (n t : ℕ) (a : Act) → n < k.walk.size → k.walk.what n ≡ Does t a → started_of (slice_get (k.walk.at n).state.threads t) ≡ true
  started_at n t a l e = let d = allowed_at n t a l e in ap started_of d.1 ∙ d.2.started

  pub running_at : (n t : ℕ) (a : Act) → n < k.walk.size → k.walk.what n ≡ Does t a → ended_of (slice_get (k.walk.at n).state.threads t) ≡ false
  running_at n t a l e = let d = allowed_at n t a l e in ap ended_of d.1 ∙ d.2.not_ended

  pub not_failed_at : (n t : ℕ) (a : Act) → n < k.walk.size → k.walk.what n ≡ Does t a → is_none (k.walk.at n).state.verdict ≡ true
  not_failed_at n t a l e = (allowed_at n t a l e).2.not_failed

  acted_ended : (g : Ghost) (t u : ℕ) (a : Act) → (u ≡ t → ⊥) → ended_of (slice_get (acted g.state t a).threads u) ≡ ended_of (slice_get g.state.threads u)
  unfolding acted
  acted_ended g t u a n = ap ended_of (get_set_other (done g.state t a).threads t (framed (frame_of g.state t) a) u n) ∙ ended_done g.state t a u

  flush_threads : (g : Ghost) (t c u : ℕ) (x : ℤ) → slice_get (flushed g.state t c x).threads u ≡ slice_get g.state.threads u
  unfolding flushed
  flush_threads g t c u x = refl

  ended_step : (u n : ℕ) → n < k.walk.size → ended_of (slice_get (k.walk.at n).state.threads u) ≡ true → ended_of (slice_get (follow m (k.walk.at n) (k.walk.what n)).state.threads u) ≡ true
  ended_step u n l h = go (k.walk.what n) refl
    where
      go : (v : Event) → k.walk.what n ≡ v → ended_of (slice_get (follow m (k.walk.at n) v).state.threads u) ≡ true
      go (Flushes t c x) e = ap ended_of (flush_threads (k.walk.at n) t c u x) ∙ h
      go (Does t a) e = ⊎_elim
          (λ d. absurd (false≢true (sym (running_at n t a l e) ∙ subst (λ y. ended_of (slice_get (k.walk.at n).state.threads y) ≡ true) d h)))
          (λ d. acted_ended (k.walk.at n) t u a d ∙ h)
          (cases_eq u t)

  pub ended_up : (u i j : ℕ) → i ≤ j → j ≤ k.walk.size → ended_of (slice_get (k.walk.at i).state.threads u) ≡ true → ended_of (slice_get (k.walk.at j).state.threads u) ≡ true
  ended_up u = stays_up (λ g. ended_of (slice_get g.state.threads u) ≡ true) (ended_step u)

  started_acted : (g : Ghost) (t u : ℕ) (a : Act) → started_of (slice_get g.state.threads u) ≡ true → started_of (slice_get (acted g.state t a).threads u) ≡ true
  unfolding acted
  started_acted g t u a h = go (cases_eq u t)
    where
      own : (o : Option Frame) → slice_get g.state.threads t ≡ o → started_of o ≡ true → (q : Option Frame) → started_of q ≡ true → started_of (option_map (λ (f : Frame). framed (frame_of g.state t) a) q) ≡ true
      own None e d q r = absurd (false≢true d)
      own (Some f) e d None r = absurd (false≢true r)
      own (Some f) e d (Some z) r = started_framed (frame_of g.state t) a ∙ ap (λ (y : Frame). y.started) (get_or_from_slice_get g.state.threads t f idle e) ∙ d

      go : (u ≡ t) ⊎ (u ≡ t → ⊥) → started_of (slice_get (slice_set (done g.state t a).threads t (framed (frame_of g.state t) a)) u) ≡ true
      go (inr n) = ap started_of (get_set_other (done g.state t a).threads t (framed (frame_of g.state t) a) u n) ∙ started_done g.state t a u h
      go (inl e) =
          let here : started_of (slice_get g.state.threads t) ≡ true = subst (λ y. started_of (slice_get g.state.threads y) ≡ true) e h in
          subst (λ y. started_of (slice_get (slice_set (done g.state t a).threads t (framed (frame_of g.state t) a)) y) ≡ true) (sym e)
          (ap started_of (get_set_same (done g.state t a).threads t (framed (frame_of g.state t) a)) ∙ own (slice_get g.state.threads t) refl here (slice_get (done g.state t a).threads t) (started_done g.state t a t here))

  started_step : (u n : ℕ) → n < k.walk.size → started_of (slice_get (k.walk.at n).state.threads u) ≡ true → started_of (slice_get (follow m (k.walk.at n) (k.walk.what n)).state.threads u) ≡ true
  started_step u n l h = go (k.walk.what n)
    where
      go : (v : Event) → started_of (slice_get (follow m (k.walk.at n) v).state.threads u) ≡ true
      go (Flushes t c x) = ap started_of (flush_threads (k.walk.at n) t c u x) ∙ h
      go (Does t a) = started_acted (k.walk.at n) t u a h

  pub started_up : (u i j : ℕ) → i ≤ j → j ≤ k.walk.size → started_of (slice_get (k.walk.at i).state.threads u) ≡ true → started_of (slice_get (k.walk.at j).state.threads u) ≡ true
  started_up u = stays_up (λ g. started_of (slice_get g.state.threads u) ≡ true) (started_step u)

  failed_after : (g : Ghost) (v : Event) → is_none g.state.verdict ≡ false → is_none (follow m g v).state.verdict ≡ false
  unfolding acted flushed
  failed_after g (Flushes t c x) h = h
  failed_after g (Does t a) h = failed_done g.state t a h

  pub failed_up : (i j : ℕ) → i ≤ j → j ≤ k.walk.size → is_none (k.walk.at i).state.verdict ≡ false → is_none (k.walk.at j).state.verdict ≡ false
  failed_up = stays_up (λ g. is_none g.state.verdict ≡ false) (λ n l h. failed_after (k.walk.at n) (k.walk.what n) h)

  failed_by : (n t i : ℕ) → n < k.walk.size → k.walk.what n ≡ Does t (Fails i) → is_none (k.walk.at (suc n)).state.verdict ≡ false
  unfolding acted
  failed_by n t i l e = ap (λ (g : Ghost). is_none g.state.verdict) (k.walk.goes n l) ∙ ap (λ v. is_none (follow m (k.walk.at n) v).state.verdict) e

  -- nothing runs behind the assertion that fails
  pub fails_last : (f n t u i : ℕ) (a : Act) → f < n → n < k.walk.size → k.walk.what f ≡ Does t (Fails i) → k.walk.what n ≡ Does u a → ⊥
  fails_last f n t u i a l l2 e d = false≢true (sym (failed_up (suc f) n l (omega arith) (failed_by f t i (omega arith) e)) ∙ not_failed_at n u a l2 d)

  -- and no other step changes the verdict or the section
  pub fails_alone : (f n t i : ℕ) → f < k.walk.size → n < k.walk.size → k.walk.what f ≡ Does t (Fails i) → changes m (k.walk.what n) Whole ≡ true → n ≡ f
  fails_alone f n t i l l2 e h = go (k.walk.what n) refl h
    where
      order : (u j : ℕ) → k.walk.what n ≡ Does u (Fails j) → (n ≡ f) ⊎ ((n < f) ⊎ (f < n)) → n ≡ f
      order u j d (inl c) = c
      order u j d (inr (inl c)) = absurd (fails_last n f u t j (Fails i) c l d e)
      order u j d (inr (inr c)) = absurd (fails_last f n t u i (Fails j) c l2 e d)

      go : (v : Event) → k.walk.what n ≡ v → changes m v Whole ≡ true → n ≡ f
      go (Flushes u c x) d y = absurd (false≢true y)
      go (Does u (Fails j)) d y = order u j d (cases_order n f)
      go (Does u Enters) d y = absurd (told m bound p k n u Enters l2 d)
      go (Does u Leaves) d y = absurd (told m bound p k n u Leaves l2 d)
      go (Does u a) d y = absurd (false≢true y)

  -- ---- how a thread ended

  own_end : (g : Ghost) (t : ℕ) (a : Act) → (frame_of g.state t).ended ≡ false → ended_of (slice_get (acted g.state t a).threads t) ≡ true → a ≡ Ends
  unfolding acted
  own_end g t a h e = go (slice_get (done g.state t a).threads t) (sym (ap ended_of (get_set_same (done g.state t a).threads t (framed (frame_of g.state t) a))) ∙ e)
    where
      go : (o : Option Frame) → ended_of (option_map (λ (f : Frame). framed (frame_of g.state t) a) o) ≡ true → a ≡ Ends
      go None d = absurd (false≢true d)
      go (Some f) d = ended_framed (frame_of g.state t) a h d

  -- where a thread has ended, it ended
  pub ended_by : (u v : ℕ) → v ≤ k.walk.size → ended_of (slice_get (k.walk.at v).state.threads u) ≡ true → (n : ℕ) × (n < v) × (k.walk.what n ≡ Does u Ends)
  ended_by u zero l h = absurd (false≢true (sym (k.none_ended u) ∙ h))
  ended_by u (suc v) l h = go (ended_of (slice_get (k.walk.at v).state.threads u)) refl (ended_by u v (omega arith))
    where
      here : ended_of (slice_get (k.walk.at v).state.threads u) ≡ false → (x : Event) → k.walk.what v ≡ x → ended_of (slice_get (follow m (k.walk.at v) x).state.threads u) ≡ true → k.walk.what v ≡ Does u Ends
      here z (Flushes t c x) e d = absurd (false≢true (sym z ∙ sym (ap ended_of (flush_threads (k.walk.at v) t c u x)) ∙ d))
      here z (Does t a) e d = ⊎_elim own (λ n. absurd (false≢true (sym z ∙ sym (acted_ended (k.walk.at v) t u a n) ∙ d))) (cases_eq u t)
        where
          own : u ≡ t → k.walk.what v ≡ Does u Ends
          own i =
              let q = allowed_at v t a l e in
              let still : (frame_of (k.walk.at v).state t).ended ≡ false = ap (λ (f : Frame). f.ended) (get_or_from_slice_get (k.walk.at v).state.threads t q.0 idle q.1) ∙ q.2.not_ended in
              e ∙ ap (Does t) (own_end (k.walk.at v) t a still (subst (λ y. ended_of (slice_get (acted (k.walk.at v).state t a).threads y) ≡ true) i d)) ∙ ap (λ y. Does y Ends) (sym i)

      go : (b : Bool) → ended_of (slice_get (k.walk.at v).state.threads u) ≡ b → (ended_of (slice_get (k.walk.at v).state.threads u) ≡ true → (n : ℕ) × (n < v) × (k.walk.what n ≡ Does u Ends)) → (n : ℕ) × (n < suc v) × (k.walk.what n ≡ Does u Ends)
      go true e ih = let r = ih e in (r.0, (let s : r.0 < v = r.1 in omega arith), r.2)
      go false e ih = (v, omega arith, here e (k.walk.what v) refl (subst (λ (g : Ghost). ended_of (slice_get g.state.threads u) ≡ true) (k.walk.goes v l) h))

  ends_own : (g : Ghost) (u : ℕ) → started_of (slice_get g.state.threads u) ≡ true → ended_of (slice_get (acted g.state u Ends).threads u) ≡ true
  unfolding acted
  ends_own g u h = ap ended_of (get_set_same g.state.threads u (framed (frame_of g.state u) Ends)) ∙ go (slice_get g.state.threads u) h
    where
      go : (o : Option Frame) → started_of o ≡ true → ended_of (option_map (λ (f : Frame). framed (frame_of g.state u) Ends) o) ≡ true
      go None e = absurd (false≢true e)
      go (Some f) e = refl

  pub ends_at : (u n : ℕ) → n < k.walk.size → k.walk.what n ≡ Does u Ends → ended_of (slice_get (k.walk.at (suc n)).state.threads u) ≡ true
  ends_at u n l e =
      ap (λ (g : Ghost). ended_of (slice_get g.state.threads u)) (k.walk.goes n l)
      ∙ ap (λ v. ended_of (slice_get (follow m (k.walk.at n) v).state.threads u)) e
      ∙ ends_own (k.walk.at n) u (started_at n u Ends l e)

  -- a thread that has ended takes no step
  pub ended_still : (u v n : ℕ) (a : Act) → v ≤ n → n < k.walk.size → ended_of (slice_get (k.walk.at v).state.threads u) ≡ true → k.walk.what n ≡ Does u a → ⊥
  ended_still u v n a l l2 h e = false≢true (sym (running_at n u a l2 e) ∙ ended_up u v n l (omega arith) h)

  -- ---- starts

  -- a thread that is started is not started again
  pub not_again : (u v n t : ℕ) → v ≤ n → n < k.walk.size → started_of (slice_get (k.walk.at v).state.threads u) ≡ true → k.walk.what n ≡ Does t (Starts u) → ⊥
  not_again u v n t l l2 h e =
      let q = (told m bound p k n t (Starts u) l2 e).1 in
      false≢true (sym q.2 ∙ sym (ap started_of q.1) ∙ started_up u v n l (omega arith) h)

  starts_other : (g : Ghost) (t u : ℕ) → (f : Frame) → slice_get g.state.threads u ≡ Some f → started_of (slice_get (done g.state t (Starts u)).threads u) ≡ true
  starts_other g t u f e = ap started_of (get_set_same g.state.threads u (record (frame_of g.state u) { started = true }) ∙ ap (option_map (λ (z : Frame). record (frame_of g.state u) { started = true })) e)

  starts_acted : (g : Ghost) (t u : ℕ) (f : Frame) → slice_get g.state.threads u ≡ Some f → started_of (slice_get g.state.threads t) ≡ true → started_of (slice_get (acted g.state t (Starts u)).threads u) ≡ true
  unfolding acted
  starts_acted g t u f e h = go (cases_eq u t)
    where
      own : (o : Option Frame) → slice_get g.state.threads t ≡ o → started_of o ≡ true → (frame_of g.state t).started ≡ true
      own None d q = absurd (false≢true q)
      own (Some z) d q = ap (λ (y : Frame). y.started) (get_or_from_slice_get g.state.threads t z idle d) ∙ q

      mapped : (o : Option Frame) → started_of o ≡ true → started_of (option_map (λ (z : Frame). framed (frame_of g.state t) (Starts u)) o) ≡ true
      mapped None q = absurd (false≢true q)
      mapped (Some z) q = own (slice_get g.state.threads t) refl h

      go : (u ≡ t) ⊎ (u ≡ t → ⊥) → started_of (slice_get (slice_set (done g.state t (Starts u)).threads t (framed (frame_of g.state t) (Starts u))) u) ≡ true
      go (inr n) = ap started_of (get_set_other (done g.state t (Starts u)).threads t (framed (frame_of g.state t) (Starts u)) u n) ∙ starts_other g t u f e
      go (inl i) = subst (λ y. started_of (slice_get (slice_set (done g.state t (Starts u)).threads t (framed (frame_of g.state t) (Starts u))) y) ≡ true) (sym i) (ap started_of (get_set_same (done g.state t (Starts u)).threads t (framed (frame_of g.state t) (Starts u))) ∙ mapped (slice_get (done g.state t (Starts u)).threads t) (started_done g.state t (Starts u) t h))

  pub started_by : (u n t : ℕ) → n < k.walk.size → k.walk.what n ≡ Does t (Starts u) → started_of (slice_get (k.walk.at (suc n)).state.threads u) ≡ true
  started_by u n t l e =
      let q = (told m bound p k n t (Starts u) l e).1 in
      ap (λ (g : Ghost). started_of (slice_get g.state.threads u)) (k.walk.goes n l)
      ∙ ap (λ v. started_of (slice_get (follow m (k.walk.at n) v).state.threads u)) e
      ∙ starts_acted (k.walk.at n) t u q.0 q.1 (started_at n t (Starts u) l e)

  -- ---- the steps that change a frame

  abbrev pub Runs : ℕ → ℕ → Type 0
  Runs x n = (a : Act) × (k.walk.what n ≡ Does x a)

  abbrev pub StartsIt : ℕ → ℕ → Type 0
  StartsIt x n = (t : ℕ) × (k.walk.what n ≡ Does t (Starts x))

  pub runs_by : (x n : ℕ) (v : Event) → k.walk.what n ≡ v → is_key x (runs v) ≡ true → Runs x n
  runs_by x n (Flushes t c y) e h = absurd (false≢true h)
  runs_by x n (Does t a) e h = (a, e ∙ ap (λ y. Does y a) (eqb-true t x h))

  starts_by : (x n : ℕ) (v : Event) → k.walk.what n ≡ v → is_key x (starts v) ≡ true → StartsIt x n
  starts_by x n (Flushes t c y) e h = absurd (false≢true h)
  starts_by x n (Does t (Starts u)) e h = (t, e ∙ ap (λ y. Does t (Starts y)) (eqb-true u x h))
  starts_by x n (Does t (Goes j)) e h = absurd (false≢true h)
  starts_by x n (Does t a) e h = absurd (false≢true h)

  pub frame_changed : (x n : ℕ) → changes m (k.walk.what n) (FrameOf x) ≡ true → Runs x n ⊎ StartsIt x n
  frame_changed x n h = ⊎_elim (λ d. inl (runs_by x n (k.walk.what n) refl d)) (λ d. inr (starts_by x n (k.walk.what n) refl d)) (or_cases (is_key x (runs (k.walk.what n))) (is_key x (starts (k.walk.what n))) h)

  pub runs_it : (x n : ℕ) (a : Act) → n < k.walk.size → k.walk.what n ≡ Does x a → Has m bound p k runs x n
  runs_it x n a l e = has m bound p k runs x n l (ap runs e)

  pub starts_it : (x n t : ℕ) → n < k.walk.size → k.walk.what n ≡ Does t (Starts x) → Has m bound p k starts x n
  starts_it x n t l e = has m bound p k starts x n l (ap starts e)

  -- a start comes before each step of its thread
  pub start_first : (x a b t : ℕ) (c : Act) → a < k.walk.size → b < k.walk.size → k.walk.what a ≡ Does t (Starts x) → k.walk.what b ≡ Does x c → (b < a → ⊥)
  start_first x a b t c l l2 e d h = not_again x b a t (omega arith) l (started_at b x c l2 d) e

  pub frame_ordered : (x a b : ℕ) → a < b → b < k.walk.size → changes m (k.walk.what a) (FrameOf x) ≡ true → changes m (k.walk.what b) (FrameOf x) ≡ true → R m bound p k a b
  frame_ordered x a b l l2 h d = go (frame_changed x a h) (frame_changed x b d)
    where
      go : Runs x a ⊎ StartsIt x a → Runs x b ⊎ StartsIt x b → R m bound p k a b
      go (inl (c, e)) (inl (f, q)) = program m bound p k x a b l (runs_it x a c (omega arith) e) (runs_it x b f l2 q)
      go (inr (t, e)) (inl (f, q)) = starting m bound p k x a b l (starts_it x a t (omega arith) e) (runs_it x b f l2 q)
      go (inl (c, e)) (inr (t, q)) = absurd (start_first x b a t c l2 (omega arith) q e l)
      go (inr (t, e)) (inr (u, q)) = absurd (not_again x (suc a) b u l l2 (started_by x a t (omega arith) e) q)
