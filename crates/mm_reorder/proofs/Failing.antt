-- The assertion that fails, in the run that is extended by flushes.
use Rattle.std.proofs.Common.{arith, ◌≡◌, ℕ, ℤ, zero, suc, ◌<◌, ◌≤◌, List, [], ◌∷◌, ◌++◌, length, map, take, Option, Some, None, refl, Bool, true, false, IfSome, sym, ◌∙◌, ap, subst, slice_get, ◌⊎◌, inl, inr, ⊎_elim, length-append, append_assoc}
use Rattle.std.specs.Prelude.{is_none}
use Rattle.std.specs.List.{All}
use Rattle.std.proofs.lemmas.Bool.{cases_lt, cases_order, false≢true}
use Rattle.std.proofs.lemmas.List.{take_at}
use Rattle.std.proofs.lemmas.Option.{same_Some, slice_get_within}
use Rattle.mm_goto.specs.Bounds.{Bounding}
use Rattle.mm_goto.specs.declared.model.Model.{Model}
use Rattle.mm_goto.specs.declared.model.Model.TheVariants.{Tso, Pso}
use Rattle.mm_goto.specs.declared.program.Instr.{Instr}
use Rattle.mm_goto.specs.declared.program.Instr.TheVariants.{Input}
use Rattle.mm_goto.specs.Listing.{Listing}
use Rattle.mm_sched.specs.declared.entry.Act.TheVariants.{Assigns, Fails}
use Rattle.mm_sched.specs.declared.entry.Entry.{Entry}
use Rattle.mm_sched.specs.declared.entry.Entry.TheVariants.{Step, In, Flush, FlushCell}
use Rattle.mm_sched.specs.declared.entry.Event.{Event}
use Rattle.mm_sched.specs.declared.entry.Event.TheVariants.{Does, Flushes}
use Rattle.mm_sched.specs.declared.entry.Rules.{Rules}
use Rattle.mm_sched.specs.declared.entry.Rules.TheVariants.{Buffered}
use Rattle.mm_sched.specs.Failing.{IsFlush, FailsFrom}
use Rattle.mm_sched.specs.Guarded.{◌>>=◌, guarded}
use Rattle.mm_sched.specs.Runs.{run, failing_thread}
use Rattle.mm_sched.specs.State.{Frame, State, Pending, initial, frame_of}
use Rattle.mm_sched.specs.Event.{event, after, input, is_int}
use Rattle.mm_sched.proofs.Failures.{fails-from, last-step}
use Rattle.mm_sched.proofs.Within.{All-get}
use Rattle.mm_rungraph.specs.Extension.{flush_entry, thread_flushes, extension}
use Rattle.mm_rungraph.specs.Traces.{events_of, after_all}
use Rattle.mm_rungraph.proofs.Concluding.{run_is}
use Rattle.mm_rungraph.proofs.Totals.{events_length}
use Rattle.mm_reorder.proofs.Course.{Course, ran}
use Rattle.mm_reorder.proofs.Cut.{stays}
use Rattle.mm_reorder.proofs.Doing.{acts, IsRunOf, IsFlushOf, Ran, Did}
use Rattle.mm_reorder.proofs.Finishing.{failed_locals}
use Rattle.mm_reorder.proofs.Parts.{Ghost, Part, FrameOf, Same, same_refl, same_sym, same_trans, changes, follow, frame_alike}
use Rattle.mm_reorder.proofs.Threads.{fails_last, failed_up, not_failed_at}
use Rattle.mm_reorder.proofs.Walking.{changed, frame}

-- ---- entries that are flushes

-- each entry of the list is a flush
abbrev pub Flushing : List Entry → Type 0
Flushing es = (i : ℕ) (e : Entry) → slice_get es i ≡ Some e → IsFlush e

flushing_all : (es : List Entry) → All IsFlush es → Flushing es
flushing_all es h i e d = go (slice_get es i) d (All-get IsFlush es i h)
  where
    go : (o : Option Entry) → o ≡ Some e → IfSome o IsFlush → IsFlush e
    go None x y = absurd (clash x)
      where
        clash : None ≡ Some e → ⊥
        clash z = cc
    go (Some f) x y = let same : f ≡ e = cc in subst IsFlush same y

flushing_more : (x : Entry) (es fs : List Entry) → Flushing (x ∷ es) → Flushing (es ++ fs) → Flushing (x ∷ (es ++ fs))
flushing_more x es fs a b zero e d = a zero e d
flushing_more x es fs a b (suc i) e d = b i e d

flushing_both : (es fs : List Entry) → Flushing es → Flushing fs → Flushing (es ++ fs)
flushing_both [] fs a b = b
flushing_both (x ∷ es) fs a b = flushing_more x es fs a (flushing_both es fs (λ i e d. a (suc i) e d) b)

flush_is : (m : Model) (t : ℕ) (q : Pending) → IsFlush (flush_entry m t q)
flush_is Tso t q = tt
flush_is Pso t q = tt

flushing_map : (m : Model) (t : ℕ) (ps : List Pending) → Flushing (map (flush_entry m t) ps)
flushing_map m t [] i e d = absurd (clash d)
  where
    clash : None ≡ Some e → ⊥
    clash z = cc
flushing_map m t (q ∷ ps) zero e d = subst IsFlush (same_Some (flush_entry m t q) e d) (flush_is m t q)
flushing_map m t (q ∷ ps) (suc i) e d = flushing_map m t ps i e d

none_flush : Flushing []
none_flush i e d = absurd (clash d)
  where
    clash : None ≡ Some e → ⊥
    clash z = cc

flushing_threads : (m : Model) (lists : List (List Pending)) (t : ℕ) → Flushing (thread_flushes m lists t)
flushing_threads m [] t = none_flush
flushing_threads m (ps ∷ lists) t = flushing_both (map (flush_entry m t) ps) (thread_flushes m lists (suc t)) (flushing_map m t ps) (flushing_threads m lists (suc t))

-- what stands behind the front and one more is of the rest
behind_front : (xs : List Entry) (x : Entry) (ys : List Entry) (i : ℕ) (e : Entry) → Flushing ys → length xs < i → slice_get (xs ++ x ∷ ys) i ≡ Some e → IsFlush e
behind_front [] x ys zero e h l d = absurd (omega arith)
behind_front [] x ys (suc i) e h l d = h i e d
behind_front (y ∷ xs) x ys zero e h l d = absurd (omega arith)
behind_front (y ∷ xs) x ys (suc i) e h l d = behind_front xs x ys i e h (omega arith) d

there : (xs : List Entry) (x : Entry) (ys : List Entry) → slice_get (xs ++ x ∷ ys) (length xs) ≡ Some x
there [] x ys = refl
there (y ∷ xs) x ys = there xs x ys

-- ---- a run and what comes behind it

pub record InTwo (r : Rules) (p : Listing) (s : State) (es : List Entry) (ws : List Event) : Type 0 where
  pub front : List Event
  pub back : List Event
  pub all : ws ≡ front ++ back
  pub one : events_of r p s es ≡ Some front

pub in_two : (r : Rules) (p : Listing) (es fs : List Entry) (s : State) (ws : List Event) → events_of r p s (es ++ fs) ≡ Some ws → InTwo r p s es ws
in_two r p [] fs s ws h = record { front = []; back = ws; all = refl; one = refl }
in_two r p (e ∷ es) fs s ws h = go (event r p s e) refl h (λ w us. in_two r p es fs (after s w) us)
  where
    both : (w : Event) (o : Option (List Event)) → (o >>= λ us. Some (w ∷ us)) ≡ Some ws → (us : List Event) × (o ≡ Some us) × (w ∷ us ≡ ws)
    both w None x = cc
    both w (Some us) x = (us, refl, cc)

    go : (o : Option Event) → event r p s e ≡ o → (o >>= λ w. events_of r p (after s w) (es ++ fs) >>= λ us. Some (w ∷ us)) ≡ Some ws → ((w : Event) (us : List Event) → events_of r p (after s w) (es ++ fs) ≡ Some us → InTwo r p (after s w) es us) → InTwo r p s (e ∷ es) ws
    go None x y ih = absurd (clash y)
      where
        clash : None ≡ Some ws → ⊥
        clash z = cc
    go (Some w) x y ih =
        let b = both w (events_of r p (after s w) (es ++ fs)) y in
        let rest = ih w b.0 b.1 in
        record {
          front = w ∷ rest.front;
          back = rest.back;
          all = sym b.2 ∙ ap (λ us. w ∷ us) rest.all;
          one = ap (λ o. o >>= λ z. events_of r p (after s z) es >>= λ us. Some (z ∷ us)) x ∙ ap (λ o. o >>= λ us. Some (w ∷ us)) rest.one;
        }

-- ---- who fails

no_failure : (i : Instr) (v : ℤ) (n : ℕ) → input i v ≡ Some (Fails n) → ⊥
no_failure (Input l) v n x = go (is_int v) x
  where
    go : (b : Bool) → guarded b (Some (Assigns l v)) ≡ Some (Fails n) → ⊥
    go true y = cc
    go false y = cc
no_failure _ v n x = cc

-- an assertion fails by a step of its thread
pub fails_by : (r : Rules) (p : Listing) (s : State) (e : Entry) (t n : ℕ) → Ran r p s e t (Fails n) → e ≡ Step t
fails_by r p s e t n d = go e d.act_is d.by
  where
    go : (e : Entry) → acts r s t d.frame d.instr e ≡ Some (Fails n) → IsRunOf e t → e ≡ Step t
    go (Step u) x b = ap Step b
    go (In u v) x b = absurd (no_failure d.instr v n x)
    go (Flush u) x b = absurd b
    go (FlushCell u c) x b = absurd b

pub initial_verdict : (p : Listing) → (initial p).verdict ≡ None
unfolding initial
initial_verdict p = refl

module _ (m : Model) (bound : Bounding) (p : Listing) (k : Course m bound p) (es : List Entry) (last : State) (entries : k.entries ≡ es ++ extension m last)
    (n : ℕ) (runs : run (Buffered m bound) p (initial p) es ≡ Some last) (verdict : last.verdict ≡ Some n)
    (thread fail : ℕ) (lf : fail < k.walk.size) (ef : k.walk.what fail ≡ Does thread (Fails n)) where
  two : InTwo (Buffered m bound) p (initial p) es k.events
  two = in_two (Buffered m bound) p es (extension m last) (initial p) k.events (subst (λ xs. events_of (Buffered m bound) p (initial p) xs ≡ Some k.events) entries k.happen)

  front_size : length two.front ≡ length es
  front_size = events_length (Buffered m bound) p (initial p) es two.front two.one

  size_within : length es ≤ k.walk.size
  size_within = let a : length k.events ≡ length (two.front ++ two.back) = ap length two.all in let b = length-append two.front two.back in let c = k.size in let d = front_size in omega (arith, a, b, c, d)

  last_is : (k.walk.at (length es)).state ≡ last
  last_is =
      k.states (length es) size_within
      ∙ ap (λ xs. after_all (initial p) (take (length es) xs)) two.all
      ∙ ap (after_all (initial p)) (take_at two.front two.back (length es) front_size)
      ∙ same_Some (after_all (initial p) two.front) last (sym (run_is (Buffered m bound) p es (initial p) two.front two.one) ∙ runs)

  fail_within : fail < length es
  fail_within = ⊎_elim (λ l. l) (λ l. absurd (late l)) (cases_lt fail (length es))
    where
      late : length es ≤ fail → ⊥
      late l =
          let failed : is_none (k.walk.at (length es)).state.verdict ≡ false = ap (λ (s : State). is_none s.verdict) last_is ∙ ap is_none verdict in
          false≢true (sym (failed_up m bound p k (length es) fail l (omega arith) failed) ∙ not_failed_at m bound p k fail thread (Fails n) lf ef)

  none_behind : (j : ℕ) → suc fail ≤ j → j < length es → changes m (k.walk.what j) (FrameOf thread) ≡ false
  none_behind j l l2 = go (k.walk.what j) refl
    where
      lj : j < k.walk.size
      lj = let w : length es ≤ k.walk.size = size_within in omega (arith, l2, w)

      go : (v : Event) → k.walk.what j ≡ v → changes m v (FrameOf thread) ≡ false
      go (Flushes t c x) e = refl
      go (Does t a) e = absurd (fails_last m bound p k fail j thread t n a l lj ef e)

  -- the thread's locals stay to the end of the run
  pub last_locals : (frame_of last thread).locals ≡ (frame_of (k.walk.at fail).state thread).locals
  last_locals =
      ap (λ (s : State). (frame_of s thread).locals) (sym last_is)
      ∙ ap (λ (f : Frame). f.locals) (frame_alike (k.walk.at (length es)).state (k.walk.at (suc fail)).state thread (stays Part Ghost Same same_refl same_sym same_trans k.walk.size k.walk.at (changed m bound p k.walk) (frame m bound p k.walk) (FrameOf thread) (suc fail) (length es) fail_within size_within none_behind))
      ∙ ap (λ (g : Ghost). (frame_of g.state thread).locals) (k.walk.goes fail lf)
      ∙ ap (λ v. (frame_of (follow m (k.walk.at fail) v).state thread).locals) ef
      ∙ failed_locals (k.walk.at fail).state thread n (let d = ran m bound p k fail thread (Fails n) lf ef in slice_get_within (k.walk.at fail).state.threads thread d.frame d.there)

  -- and the thread is the one that fails
  pub fails_in : failing_thread es ≡ Some thread
  fails_in = go (fails-from (Buffered m bound) p n es (initial p) last (initial_verdict p) runs verdict)
    where
      go : (t : ℕ) × FailsFrom (Buffered m bound) p (initial p) n es t → failing_thread es ≡ Some thread
      go (t, by) = ap failing_thread by.parts ∙ last-step by.before by.behind t by.flushes ∙ ap Some (order (cases_order fail (length by.before)))
        where
          whole : k.entries ≡ by.before ++ Step t ∷ (by.behind ++ extension m last)
          whole = entries ∙ ap (λ xs. xs ++ extension m last) by.parts ∙ append_assoc by.before (Step t ∷ by.behind) (extension m last)

          lb : length by.before < k.walk.size
          lb = let a : length es ≡ length (by.before ++ Step t ∷ by.behind) = ap length by.parts in let b = length-append by.before (Step t ∷ by.behind) in let w : length es ≤ k.walk.size = size_within in omega (arith, a, b, w)

          by_it : k.walk.by (length by.before) ≡ Step t
          by_it = same_Some (k.walk.by (length by.before)) (Step t) (sym (k.taken (length by.before) lb) ∙ ap (λ xs. slice_get xs (length by.before)) whole ∙ there by.before (Step t) (by.behind ++ extension m last))

          by_fail : k.walk.by fail ≡ Step thread
          by_fail = fails_by (Buffered m bound) p (k.walk.at fail).state (k.walk.by fail) thread n (ran m bound p k fail thread (Fails n) lf ef)

          steps_same : Step t ≡ Step thread → t ≡ thread
          steps_same h = cc

          not_flush : (e : Entry) → e ≡ Step thread → IsFlush e → ⊥
          not_flush e h f = subst IsFlush h f

          not_flush_of : (e : Entry) (u : ℕ) → e ≡ Step t → IsFlushOf e u → ⊥
          not_flush_of e u h f = subst (λ x. IsFlushOf x u) h f

          runs_there : (v : Event) → k.walk.what (length by.before) ≡ v → Did (Buffered m bound) p (k.walk.at (length by.before)).state (k.walk.by (length by.before)) v → fail < length by.before → ⊥
          runs_there (Flushes u c x) e d l = not_flush_of (k.walk.by (length by.before)) u by_it d.1
          runs_there (Does u a) e d l = fails_last m bound p k fail (length by.before) thread u n a l lb ef e

          order : (fail ≡ length by.before) ⊎ ((fail < length by.before) ⊎ (length by.before < fail)) → t ≡ thread
          order (inl e) = steps_same (sym by_it ∙ ap k.walk.by (sym e) ∙ by_fail)
          order (inr (inl l)) = absurd (runs_there (k.walk.what (length by.before)) refl (k.walk.did (length by.before) lb) l)
          order (inr (inr l)) = absurd (not_flush (k.walk.by fail) by_fail (behind_front by.before (Step t) (by.behind ++ extension m last) fail (k.walk.by fail) (flushing_both by.behind (extension m last) (flushing_all by.behind by.flushes) (flushing_threads m last.pending 0)) l (ap (λ xs. slice_get xs fail) (sym whole) ∙ k.taken fail lf)))
