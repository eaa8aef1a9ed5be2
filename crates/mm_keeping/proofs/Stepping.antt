-- The steps of a run: what each is, and how a thread's place goes on.
use Rattle.std.proofs.Common.{arith, ◌≡◌, ℕ, zero, suc, ◌<◌, ◌≤◌, ℤ, ◌⊎◌, inl, inr, ⊎_elim, List, [], ◌∷◌, length, take, Option, Some, None, refl, Bool, true, sym, ◌∙◌, ap, subst, slice_get, slice_set, slice_index_or}
use Rattle.std.proofs.lemmas.Bool.{cases_eq, cases_order, false≢true}
use Rattle.std.proofs.lemmas.Option.{get_or_from_slice_get, option_and_then_some, same_Some, slice_get_within}
use Rattle.std.proofs.lemmas.List.{get_or-set_same, get_or-set_other}
use Rattle.mm_goto.specs.Bounds.{Bounding}
use Rattle.mm_goto.specs.declared.model.Model.{Model}
use Rattle.mm_goto.specs.declared.program.Instr.{Instr}
use Rattle.mm_goto.specs.declared.program.Thread.{Thread}
use Rattle.mm_goto.specs.Flow.{GoesTo, IsSuccessor}
use Rattle.mm_goto.specs.Listing.{Listing}
use Rattle.mm_goto.specs.PointsTo.{instr_at}
use Rattle.mm_goto.specs.Valid.{IsValid, code_of}
use Rattle.mm_sched.specs.declared.entry.Entry.{Entry}
use Rattle.mm_sched.specs.declared.entry.Entry.TheVariants.{Step, In, Flush, FlushCell}
use Rattle.mm_sched.specs.declared.entry.Rules.TheVariants.{Buffered}
use Rattle.mm_sched.specs.declared.entry.Act.{Act}
use Rattle.mm_sched.specs.declared.entry.Act.TheVariants.{Goes, Ends, Starts}
use Rattle.mm_sched.specs.declared.entry.Event.{Event}
use Rattle.mm_sched.specs.declared.entry.Event.TheVariants.{Does, Flushes}
use Rattle.mm_sched.specs.State.{Frame, State, Pending, idle, initial, frame_of, pending_of}
use Rattle.mm_sched.specs.Buffer.{flush_of}
use Rattle.mm_sched.specs.Event.{act, input, event, fetched, framed, done, acted, flushed, after}
use Rattle.mm_sched.specs.Invariant.{Fits}
use Rattle.mm_sched.specs.Turn.{IsAt}
use Rattle.mm_sched.proofs.Steps.{if-at}
use Rattle.mm_sched.proofs.Turns.{does-some}
use Rattle.mm_rungraph.specs.RunGraph.{layout_of}
use Rattle.mm_rungraph.specs.Traces.{events_of, after_all}
use Rattle.mm_rungraph.proofs.Forward.{moment}
use Rattle.mm_rungraph.proofs.Queues.{AreQueued}
use Rattle.mm_keeping.proofs.Telling.{FlowOf, Tells, act_tells, input_tells}

-- ---- lists of frames

module _ {A : Type 0} (g : Frame → A) (same : (f : Frame) → g (record f { started = true }) ≡ g f) where
  start_keeps : (xs : List Frame) (v u : ℕ) → g (slice_index_or (slice_set xs v (record (slice_index_or xs v idle) { started = true })) u idle) ≡ g (slice_index_or xs u idle)
  start_keeps [] v u = refl
  start_keeps (x ∷ xs) zero zero = same x
  start_keeps (x ∷ xs) zero (suc u) = refl
  start_keeps (x ∷ xs) (suc v) zero = refl
  start_keeps (x ∷ xs) (suc v) (suc u) = start_keeps xs v u

  done_keeps : (s : State) (t : ℕ) (a : Act) (u : ℕ) → g (slice_index_or (done s t a).threads u idle) ≡ g (frame_of s u)
  done_keeps s t (Starts v) u = start_keeps s.threads v u
  done_keeps s t (Goes k) u = refl
  done_keeps s t a u = refl

  -- what another thread does
  pub other_keeps : (s : State) (t : ℕ) (a : Act) (u : ℕ) → (u ≡ t → ⊥) → g (frame_of (acted s t a) u) ≡ g (frame_of s u)
  unfolding acted
  other_keeps s t a u n = ap g (get_or-set_other (done s t a).threads t u (framed (frame_of s t) a) idle n) ∙ done_keeps s t a u

done_length : (s : State) (t : ℕ) (a : Act) → length (done s t a).threads ≡ length s.threads
done_length s t (Starts u) = length_set s.threads u _
  where
    length_set : (xs : List Frame) (k : ℕ) (x : Frame) → length (slice_set xs k x) ≡ length xs
    length_set [] k x = refl
    length_set (y ∷ xs) zero x = refl
    length_set (y ∷ xs) (suc k) x = ap suc (length_set xs k x)
done_length s t (Goes k) = refl
done_length s t a = refl

-- what a thread does itself
pub own_frame : (s : State) (t : ℕ) (a : Act) (f : Frame) → slice_get s.threads t ≡ Some f → frame_of (acted s t a) t ≡ framed f a
unfolding acted
own_frame s t a f e =
    let within : t < length s.threads = slice_get_within s.threads t f e in
    get_or-set_same (done s t a).threads t (framed (frame_of s t) a) idle (subst (λ n. t < n) (sym (done_length s t a)) within) ∙ ap (λ g. framed g a) (get_or_from_slice_get s.threads t f idle e)

pub flush_frames : (s : State) (t c : ℕ) (v : ℤ) (u : ℕ) → frame_of (flushed s t c v) u ≡ frame_of s u
unfolding flushed
flush_frames s t c v u = refl

-- ---- the state behind one step more

pub after_take : (s : State) (vs : List Event) (n : ℕ) (v : Event) → slice_get vs n ≡ Some v → after_all s (take (suc n) vs) ≡ after (after_all s (take n vs)) v
after_take s [] n v h = cc
after_take s (w ∷ vs) zero v h = let same : w ≡ v = cc in ap (after s) same
after_take s (w ∷ vs) (suc n) v h = after_take (after s w) vs n v h

pub get_there : {A : Type 0} (xs : List A) (n : ℕ) → n < length xs → (x : A) × (slice_get xs n ≡ Some x)
get_there [] n l = absurd (omega arith)
get_there (x ∷ xs) zero l = (x, refl)
get_there (x ∷ xs) (suc n) l = get_there xs n (omega arith)

pub fetched_is : (p : Listing) (t k : ℕ) → fetched p t k ≡ instr_at p t k
fetched_is p t k = go (slice_get p.threads t) refl
  where
    go : (o : Option Thread) → slice_get p.threads t ≡ o → fetched p t k ≡ instr_at p t k
    go None e = rw e refl
    go (Some thread) e = rw e refl

-- ---- what is executed

module _ (m : Model) (bound : Bounding) (p : Listing) (valid : IsValid p) (es : List Entry) (vs : List Event) (happens : events_of (Buffered m bound) p (initial p) es ≡ Some vs) where
  abbrev pub state : ℕ → State
  state n = after_all (initial p) (take n vs)

  -- thread t does the act as step n
  pub record Doing (n t : ℕ) (a : Act) : Type 0 where
    pub frame : Frame
    pub instr : Instr
    pub at : IsAt p (state n) t frame instr
    pub tells : Tells (state n) t frame instr a
    pub fits : Fits (Buffered m bound) p (state n)
    pub queues : AreQueued (layout_of m bound p) (state n) (take n vs)
    pub way : (act (Buffered m bound) (state n) t frame instr ≡ Some a) ⊎ ((v : ℤ) × (input instr v ≡ Some a))

  one_act : (t u : ℕ) (a b : Act) → Does t a ≡ Does u b → (t ≡ u) × (a ≡ b)
  one_act t u a b e = (cc, cc)

  no_flush : (t u c : ℕ) (a : Act) (v : ℤ) → Does t a ≡ Flushes u c v → ⊥
  no_flush t u c a v e = cc

  abbrev Found : State → ℕ → Act → Type 0
  Found s t a = (f : Frame) × (i : Instr) × IsAt p s t f i × Tells s t f i a × ((act (Buffered m bound) s t f i ≡ Some a) ⊎ ((v : ℤ) × (input i v ≡ Some a)))

  found : (s : State) (e : Entry) (t : ℕ) (a : Act) → event (Buffered m bound) p s e ≡ Some (Does t a) → Found s t a
  unfolding event
  found s (Step u) t a x =
      let d = does-some p s u (act (Buffered m bound) s u) (Does t a) x in
      let same = one_act t u a d.act d.event in
      subst (λ w. Found s w a) (sym same.0) (subst (Found s u) (sym same.1) (d.frame, d.instr, d.at, if-at (Tells s u d.frame d.instr) (act (Buffered m bound) s u d.frame d.instr) d.act d.is (act_tells m bound s u d.frame d.instr), inl d.is))
  found s (In u v) t a x =
      let d = does-some p s u (λ f i. input i v) (Does t a) x in
      let same = one_act t u a d.act d.event in
      subst (λ w. Found s w a) (sym same.0) (subst (Found s u) (sym same.1) (d.frame, d.instr, d.at, if-at (Tells s u d.frame d.instr) (input d.instr v) d.act d.is (input_tells m bound s u d.frame d.instr v), inr (v, d.is)))
  found s (Flush u) t a x = option_and_then_some (λ (q : Pending). Some (Flushes u q.0 q.1)) (flush_of (Buffered m bound) (Flush u) (pending_of s u)) (Does t a) x (λ q d y. absurd (no_flush t u q.0 a q.1 (sym (same_Some (Flushes u q.0 q.1) (Does t a) y))))
  found s (FlushCell u c) t a x = option_and_then_some (λ (q : Pending). Some (Flushes u q.0 q.1)) (flush_of (Buffered m bound) (FlushCell u c) (pending_of s u)) (Does t a) x (λ q d y. absurd (no_flush t u q.0 a q.1 (sym (same_Some (Flushes u q.0 q.1) (Does t a) y))))

  pub doing : (n t : ℕ) (a : Act) → slice_get vs n ≡ Some (Does t a) → Doing n t a
  doing n t a h =
      let mo = moment p valid (layout_of m bound p) bound refl es vs happens n (Does t a) h in
      let d = found (state n) mo.entry t a (subst (λ (z : State). event (Buffered m bound) p z mo.entry ≡ Some (Does t a)) mo.reached mo.is) in
      record { frame = d.0; instr = d.1; at = d.2; tells = d.3; way = d.4; fits = subst (Fits (Buffered m bound) p) mo.reached mo.fits; queues = subst (λ z. AreQueued (layout_of m bound p) z (take n vs)) mo.reached mo.queues }

  -- ---- the place of a thread

  abbrev pub place_at : ℕ → ℕ → ℕ
  place_at t n = (frame_of (state n) t).place

  abbrev pub ended_at : ℕ → ℕ → Bool
  ended_at t n = (frame_of (state n) t).ended

  pub frame_is : (n t : ℕ) (a : Act) (d : Doing n t a) → frame_of (state n) t ≡ d.frame
  frame_is n t a d = get_or_from_slice_get (state n).threads t d.frame idle d.at.frame

  pub instr_is : (n t : ℕ) (a : Act) (d : Doing n t a) → instr_at p t (place_at t n) ≡ Some d.instr
  instr_is n t a d = ap (instr_at p t) (ap (λ (f : Frame). f.place) (frame_is n t a d)) ∙ sym (fetched_is p t d.frame.place) ∙ d.at.instr

  pub not_ended : (n t : ℕ) (a : Act) → slice_get vs n ≡ Some (Does t a) → ended_at t n ≡ true → ⊥
  not_ended n t a h e = let d = doing n t a h in false≢true (sym d.at.has_not_ended ∙ sym (ap (λ (f : Frame). f.ended) (frame_is n t a d)) ∙ e)

  -- what a step leaves of a thread that does not step
  module _ {A : Type 0} (g : Frame → A) (same : (f : Frame) → g (record f { started = true }) ≡ g f) where
    pub rests : (n t : ℕ) (v : Event) → slice_get vs n ≡ Some v → ((a : Act) → v ≡ Does t a → ⊥) → g (frame_of (state (suc n)) t) ≡ g (frame_of (state n) t)
    rests n t (Flushes u c x) h none = ap (λ (z : State). g (frame_of z t)) (after_take (initial p) vs n (Flushes u c x) h) ∙ ap g (flush_frames (state n) u c x t)
    rests n t (Does u a) h none = ap (λ (z : State). g (frame_of z t)) (after_take (initial p) vs n (Does u a) h) ∙ other_keeps g same (state n) u a t (λ e. none a (ap (λ w. Does w a) (sym e)))

  pub own_next : (n t : ℕ) (a : Act) (h : slice_get vs n ≡ Some (Does t a)) (d : Doing n t a) → frame_of (state (suc n)) t ≡ framed d.frame a
  own_next n t a h d = ap (λ (z : State). frame_of z t) (after_take (initial p) vs n (Does t a) h) ∙ own_frame (state n) t a d.frame d.at.frame

  -- control goes on, or the thread ends
  pub goes_on : (n t : ℕ) (a : Act) → slice_get vs n ≡ Some (Does t a) → IsSuccessor (code_of p t) (place_at t n) (place_at t (suc n)) ⊎ (ended_at t (suc n) ≡ true)
  goes_on n t a h = go a refl d.tells.flow
    where
      d : Doing n t a
      d = doing n t a h

      next : frame_of (state (suc n)) t ≡ framed d.frame a
      next = own_next n t a h d

      successor : (i : Instr) (j k : ℕ) → instr_at p t j ≡ Some i → GoesTo j i k → IsSuccessor (code_of p t) j k
      successor i j k e g = rw e g

      flows : GoesTo d.frame.place d.instr (framed d.frame a).place → IsSuccessor (code_of p t) (place_at t n) (place_at t (suc n))
      flows g =
          let j : place_at t n ≡ d.frame.place = ap (λ (f : Frame). f.place) (frame_is n t a d) in
          let k : place_at t (suc n) ≡ (framed d.frame a).place = ap (λ (f : Frame). f.place) next in
          successor d.instr (place_at t n) (place_at t (suc n)) (instr_is n t a d) (subst (λ x. GoesTo x d.instr (place_at t (suc n))) (sym j) (subst (GoesTo d.frame.place d.instr) (sym k) g))

      go : (b : Act) → a ≡ b → FlowOf d.frame d.instr a → IsSuccessor (code_of p t) (place_at t n) (place_at t (suc n)) ⊎ (ended_at t (suc n) ≡ true)
      go Ends e g = inr (ap (λ (f : Frame). f.ended) next ∙ ap (λ x. (framed d.frame x).ended) e)
      go (Goes k) e g = inl (flows (subst (λ x. FlowOf d.frame d.instr x → GoesTo d.frame.place d.instr (framed d.frame x).place) (sym e) (λ y. y) g))
      go b e g = inl (flows (subst (λ x. FlowOf d.frame d.instr x → GoesTo d.frame.place d.instr (framed d.frame x).place) (sym e) (λ y. y) g))

  -- ---- what is kept of a thread's place

  module _ (t : ℕ) (Q : ℕ → ℕ → Type 0) (b : ℕ) (within : b ≤ length vs)
      (wait : (n j : ℕ) → Q n j → Q (suc n) j)
      (step : (n k : ℕ) (a : Act) → n < b → slice_get vs n ≡ Some (Does t a) → Q n (place_at t n) → IsSuccessor (code_of p t) (place_at t n) k → Q (suc n) k) where
    abbrev pub Held : ℕ → Type 0
    Held n = Q n (place_at t n) ⊎ (ended_at t n ≡ true)

    held_next : (n : ℕ) → n < b → Held n → Held (suc n)
    held_next n l h = let v = get_there vs n (omega (arith, within, l)) in go v.0 v.1
      where
        still : (v : Event) → slice_get vs n ≡ Some v → ((a : Act) → v ≡ Does t a → ⊥) → Held (suc n)
        still v e none = ⊎_elim
            (λ q. inl (subst (Q (suc n)) (sym (rests (λ (f : Frame). f.place) (λ f. refl) n t v e none)) (wait n (place_at t n) q)))
            (λ x. inr (rests (λ (f : Frame). f.ended) (λ f. refl) n t v e none ∙ x)) h

        own : (a : Act) → slice_get vs n ≡ Some (Does t a) → Held (suc n)
        own a e = ⊎_elim
            (λ q. ⊎_elim (λ s. inl (step n (place_at t (suc n)) a l e q s)) (λ x. inr x) (goes_on n t a e))
            (λ x. absurd (not_ended n t a e x)) h

        apart : (u : ℕ) (a x : Act) → Does u a ≡ Does t x → t ≡ u
        apart u a x e = cc

        go : (v : Event) → slice_get vs n ≡ Some v → Held (suc n)
        go (Flushes u c x) e = still (Flushes u c x) e (λ a y. no_flush t u c a x (sym y))
        go (Does u a) e = ⊎_elim (λ (i : t ≡ u). own a (subst (λ w. slice_get vs n ≡ Some (Does w a)) (sym i) e)) (λ differ. still (Does u a) e (λ x y. differ (apart u a x y))) (cases_eq t u)

    pub held : (a n : ℕ) → a ≤ n → n ≤ b → Held a → Held n
    held a zero l l2 h = subst Held (let e : a ≡ zero = omega arith in e) h
    held a (suc n) l l2 h = ⊎_elim
        (λ (e : a ≡ suc n). subst Held e h)
        (λ differ. held_next n (omega arith) (held a n (let z : a < suc n = no_eq a (suc n) l differ in omega (arith, z)) (omega arith) h))
        (cases_eq a (suc n))
      where
        no_eq : (a n : ℕ) → a ≤ n → (a ≡ n → ⊥) → a < n
        no_eq a n l differ = go (cases_order a n)
          where
            go : (a ≡ n) ⊎ ((a < n) ⊎ (n < a)) → a < n
            go (inl e) = absurd (differ e)
            go (inr (inl m)) = m
            go (inr (inr m)) = absurd (omega arith)
