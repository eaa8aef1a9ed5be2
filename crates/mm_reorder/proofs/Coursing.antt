-- Each trace is a run.
use Rattle.std.proofs.Common.{arith, ◌≡◌, ℕ, zero, suc, ◌<◌, ◌≤◌, pos, List, [], ◌∷◌, length, map, Some, refl, false, sym, ◌∙◌, ap, subst, slice_get, slice_index_or}
use Rattle.std.proofs.lemmas.Option.{slice_get-get_or}
use Rattle.mm_goto.specs.Bounds.{Bounding}
use Rattle.mm_goto.specs.declared.model.Model.{Model}
use Rattle.mm_goto.specs.declared.program.Thread.{Thread}
use Rattle.mm_goto.specs.Listing.{Listing}
use Rattle.mm_goto.specs.Valid.{IsValid}
use Rattle.mm_sched.specs.declared.entry.Entry.{Entry}
use Rattle.mm_sched.specs.declared.entry.Entry.TheVariants.{Step}
use Rattle.mm_sched.specs.declared.entry.Rules.TheVariants.{Buffered}
use Rattle.mm_sched.specs.declared.entry.Act.TheVariants.{Goes, Pushes}
use Rattle.mm_sched.specs.declared.entry.Event.{Event}
use Rattle.mm_sched.specs.declared.entry.Event.TheVariants.{Does, Flushes}
use Rattle.mm_sched.specs.Sections.{HasNoSection}
use Rattle.mm_sched.specs.State.{State, Pending, initial, pending_of, all_at_start, at_start}
use Rattle.mm_sched.specs.Buffer.{part}
use Rattle.mm_sched.specs.Event.{event}
use Rattle.mm_sched.proofs.Happens.{HasNames, has_names}
use Rattle.mm_runkeys.specs.Keys.{key}
use Rattle.mm_rungraph.specs.RunGraph.{layout_of}
use Rattle.mm_rungraph.specs.Traces.{events_of}
use Rattle.mm_rungraph.proofs.Forward.{IsMoment, moment, has_cell}
use Rattle.mm_rungraph.proofs.Totals.{events_length}
use Rattle.mm_reorder.proofs.Counting.{pushes_it}
use Rattle.mm_reorder.proofs.Course.{Course, ended_of}
use Rattle.mm_reorder.proofs.Doing.{Did, event_did}
use Rattle.mm_reorder.proofs.Part.{part_none, takes_head}
use Rattle.mm_reorder.proofs.Parts.{Ghost}
use Rattle.mm_reorder.proofs.Queue.{live_none}
use Rattle.mm_reorder.proofs.Tracing.{ghost_at, collect, collected, goes_at, state_at, pushed_times, popped_times, event_at}
use Rattle.mm_reorder.proofs.Walking.{Walk, Queued, Fresh, queued_more}

abbrev no_lists : List Thread → List (List Pending)
no_lists threads = map (λ thread. []) threads

nothing_pending : (threads : List Thread) (t : ℕ) → slice_index_or (no_lists threads) t [] ≡ []
nothing_pending [] t = refl
nothing_pending (x ∷ threads) zero = refl
nothing_pending (x ∷ threads) (suc t) = nothing_pending threads t

none_ended : (threads : List Thread) (u : ℕ) → ended_of (slice_get (map (at_start false) threads) u) ≡ false
none_ended [] u = refl
none_ended (x ∷ threads) zero = refl
none_ended (x ∷ threads) (suc u) = none_ended threads u

none_ended_first : (threads : List Thread) (u : ℕ) → ended_of (slice_get (all_at_start threads) u) ≡ false
none_ended_first [] u = refl
none_ended_first (x ∷ threads) zero = refl
none_ended_first (x ∷ threads) (suc u) = none_ended threads u

initial_pending : (p : Listing) (t : ℕ) → pending_of (initial p) t ≡ []
unfolding initial
initial_pending p t = nothing_pending p.threads t

initial_ended : (p : Listing) (u : ℕ) → ended_of (slice_get (initial p).threads u) ≡ false
unfolding initial
initial_ended p u = none_ended_first p.threads u

abbrev start : Listing → Ghost
start p = record { state = initial p; pushed = λ t q. 0; popped = λ t q. 0 }

module _ (m : Model) (bound : Bounding) (p : Listing) (valid : IsValid p) (calm : HasNoSection p) (es : List Entry) (vs : List Event) (happens : events_of (Buffered m bound) p (initial p) es ≡ Some vs) where
  abbrev at_step : ℕ → Ghost
  at_step n = ghost_at m (start p) vs n

  abbrev event_of : ℕ → Event
  event_of n = slice_index_or vs n (Flushes 0 0 (pos 0))

  abbrev entry_of : ℕ → Entry
  entry_of n = slice_index_or es n (Step 0)

  abbrev stores_of : ℕ → ℕ → List Pending
  stores_of t q = collect m t q vs

  each_is : (n : ℕ) → n < length vs → slice_get vs n ≡ Some (event_of n)
  each_is n l = slice_get-get_or vs n (Flushes 0 0 (pos 0)) l

  did_is : (n : ℕ) → n < length vs → Did (Buffered m bound) p (at_step n).state (entry_of n) (event_of n)
  did_is n l = event_did (Buffered m bound) p (at_step n).state (entry_of n) (event_of n) (ap (λ s. event (Buffered m bound) p s (entry_of n)) (state_at m (start p) vs n) ∙ event_at (Buffered m bound) p es (initial p) vs happens n l)

  moment_is : (n : ℕ) → n < length vs → IsMoment p (layout_of m bound p) bound vs n (event_of n)
  moment_is n l = moment p valid (layout_of m bound p) bound refl es vs happens n (event_of n) (each_is n l)

  here_is : (n : ℕ) (l : n < length vs) → (moment_is n l).state ≡ (at_step n).state
  here_is n l = (moment_is n l).reached ∙ sym (state_at m (start p) vs n)

  names_is : (n : ℕ) → n < length vs → HasNames (at_step n).state (event_of n)
  names_is n l = let k = moment_is n l in subst (λ s. HasNames s (event_of n)) (here_is n l) (has_names (Buffered m bound) p k.state k.fits k.entry (event_of n) k.is)

  cells_is : (n : ℕ) → n < length vs → length (at_step n).state.memory ≡ length p.cells
  cells_is n l = ap (λ (s : State). length s.memory) (sym (here_is n l)) ∙ (moment_is n l).fits.memory

  threads_is : (n : ℕ) → n < length vs → length (at_step n).state.threads ≡ length p.threads
  threads_is n l = ap (λ (s : State). length s.threads) (sym (here_is n l)) ∙ (moment_is n l).fits.threads

  lists_is : (n : ℕ) → n < length vs → length (at_step n).state.pending ≡ length p.threads
  lists_is n l = ap (λ (s : State). length s.pending) (sym (here_is n l)) ∙ (moment_is n l).fits.pending

  fresh_by : (n : ℕ) (l : n < length vs) (v : Event) → event_of n ≡ v → Fresh m stores_of (at_step n) v
  fresh_by n l (Flushes t c x) e =
      let d : Did (Buffered m bound) p (at_step n).state (entry_of n) (Flushes t c x) = subst (Did (Buffered m bound) p (at_step n).state (entry_of n)) e (did_is n l) in (
        takes_head m (entry_of n) (pending_of (at_step n).state t) c x d.0,
        (subst (HasNames (at_step n).state) e (names_is n l)).0,
      )
  fresh_by n l (Does t (Pushes c x)) e = (
    collected m t (key m c) (start p) vs n ((at_step n).pushed t (key m c)) (Does t (Pushes c x)) (each_is n l ∙ ap Some e) (pushes_it m (Does t (Pushes c x)) t c x refl) (omega arith),
    let thread : t < length (at_step n).state.threads = (subst (HasNames (at_step n).state) e (names_is n l)).0 in
        let a = threads_is n l in
        let b = lists_is n l in
        omega (arith, thread, a, b),
  )
  fresh_by n l (Does t (Goes j)) e = tt
  fresh_by n l (Does t _) e = tt

  queued_is : (n : ℕ) → n ≤ length vs → Queued m stores_of (at_step n)
  queued_is zero l = λ t d. (omega arith, ap (λ ps. part m ps d) (initial_pending p t) ∙ part_none m d ∙ sym (live_none (stores_of t (key m d)) 0))
  queued_is (suc n) l = subst (Queued m stores_of) (sym (goes_at m (start p) vs n l)) (queued_more m stores_of (at_step n) (event_of n) (queued_is n (omega arith)) (fresh_by n l (event_of n) refl))

  walk_is : Walk m bound p
  walk_is = record {
    size = length vs;
    at = at_step;
    what = event_of;
    by = entry_of;
    stores = stores_of;
    goes = λ n l. goes_at m (start p) vs n l;
    did = did_is;
    queued = queued_is;
    fresh = λ n l. fresh_by n l (event_of n) refl;
    names = names_is;
    none_in = λ t q. refl;
    none_out = λ t q. refl;
  }

  entry_is : (n : ℕ) → n < length vs → slice_get es n ≡ Some (entry_of n)
  entry_is n l = slice_get-get_or es n (Step 0) (let e : length vs ≡ length es = events_length (Buffered m bound) p (initial p) es vs happens in omega (arith, l, e))

  course : Course m bound p
  unfolding walk_is
  course = record {
    walk = walk_is;
    entries = es;
    events = vs;
    happen = happens;
    valid = valid;
    calm = calm;
    size = refl;
    each = each_is;
    taken = entry_is;
    states = λ n l. state_at m (start p) vs n;
    into = λ n l t c b. pushed_times m bound p t c b (start p) vs n (has_cell p valid (layout_of m bound p) bound refl es vs happens) ∙ (omega arith);
    out = λ n l t c b. popped_times m bound p t c b (start p) vs n (has_cell p valid (layout_of m bound p) bound refl es vs happens) ∙ (omega arith);
    cells = cells_is;
    threads = threads_is;
    none_ended = initial_ended p;
  }

  -- the trace is a run
  pub run_of : (k : Course m bound p) × (k.entries ≡ es) × (k.events ≡ vs)
  unfolding course
  run_of = (course, refl, refl)
