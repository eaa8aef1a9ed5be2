-- A run with store buffers of a program of one thread, without its flushes, is a run under sequential consistency.
use Rattle.std.proofs.Common.{arith, ◌≡◌, ℕ, zero, suc, ◌<◌, ℤ, List, [], ◌∷◌, ◌++◌, length, length-set, map, slice_get, slice_index_or, Option, Some, None, option_map, refl, sym, ◌∙◌, ap, subst, IfSome}
use Rattle.std.specs.List.{flat_map}
use Rattle.std.proofs.lemmas.List.{length-map}
use Rattle.std.proofs.lemmas.Option.{slice_get_past, IfSome_then}
use Rattle.mm_goto.specs.declared.program.Thread.{Thread}
use Rattle.mm_goto.specs.declared.program.Instr.{Instr}
use Rattle.mm_goto.specs.declared.program.Instr.TheVariants.{Load}
use Rattle.mm_goto.specs.Bounds.{Bounding}
use Rattle.mm_goto.specs.declared.model.Model.{Model}
use Rattle.mm_goto.specs.declared.model.Model.TheVariants.{Tso, Pso}
use Rattle.mm_sched.specs.declared.entry.Entry.{Entry}
use Rattle.mm_sched.specs.declared.entry.Entry.TheVariants.{Step, In, Flush, FlushCell}
use Rattle.mm_sched.specs.declared.entry.Rules.TheVariants.{Sc, Buffered}
use Rattle.mm_sched.specs.declared.entry.Act.{Act}
use Rattle.mm_sched.specs.declared.entry.Act.TheVariants.{Pushes, Puts, Updates}
use Rattle.mm_sched.specs.declared.entry.Event.{Event}
use Rattle.mm_sched.specs.declared.entry.Event.TheVariants.{Does, Flushes}
use Rattle.mm_sched.specs.Guarded.{◌>>=◌, guarded}
use Rattle.mm_goto.specs.Listing.{Listing}
use Rattle.mm_sched.specs.State.{Frame, State, Pending, initial, pending_of}
use Rattle.mm_sched.specs.Buffer.{without, flush_under}
use Rattle.mm_sched.specs.Event.{act, acted, after, event, next, input, does, fetched, flushed, may_step, cell_of}
use Rattle.mm_sched.specs.Runs.{run, Reaches}
use Rattle.mm_goto.specs.Value.{value_of}
use Rattle.mm_goto.specs.Valid.{IsValid}
use Rattle.mm_sched.proofs.Steps.{if-at}
use Rattle.mm_sched.proofs.Joins.{run-append}
use Rattle.mm_sched.proofs.Laid.{IsOldest, flush-oldest}
use Rattle.mm_sched.proofs.Matched.{Matched, matched-bind, matched-guarded, matched-map, matched-wrap, matched-at}
use Rattle.mm_sched.proofs.Within.{IsInstrOf, cell-within, fetched-valid}
use Rattle.mm_sched.proofs.Settled.{loaded, settled, settle, SettlesTo, LoadsWithin, act-alike, input-alike}

-- ---- what every step keeps

-- memory has the program's cells, and there is one list of pending stores
pub record Fits (p : Listing) (s : State) : Type 0 where
  pub memory : length s.memory ≡ length p.cells
  pub pending : length s.pending ≡ 1

pub acted-memory : (s : State) (t : ℕ) (a : Act) → length (acted s t a).memory ≡ length s.memory
unfolding acted
acted-memory s t (Puts c v) = length-set s.memory c v
acted-memory s t (Updates l v c w) = length-set s.memory c w
acted-memory s t _ = refl

pub acted-pending : (s : State) (t : ℕ) (a : Act) → length (acted s t a).pending ≡ length s.pending
unfolding acted
acted-pending s t (Pushes c v) = length-set s.pending t (pending_of s t ++ (c, v) ∷ [])
acted-pending s t _ = refl

after-fits : (p : Listing) (s : State) → Fits p s → (v : Event) → Fits p (after s v)
unfolding flushed
after-fits p s h (Does t a) = record { memory = acted-memory s t a ∙ h.memory; pending = acted-pending s t a ∙ h.pending }
after-fits p s h (Flushes t c v) = record { memory = length-set s.memory c v ∙ h.memory; pending = length-set s.pending t (without (pending_of s t) c) ∙ h.pending }

map-all : {A B : Type 0} (P : B → Type 0) (f : A → B) (o : Option A) → ((a : A) → P (f a)) → IfSome (option_map f o) P
map-all P f None h = tt
map-all P f (Some a) h = h a

alone-is : (xs : List (List Pending)) → length xs ≡ 1 → xs ≡ slice_index_or xs 0 [] ∷ []
alone-is [] e = absurd (omega arith)
alone-is (ps ∷ []) e = refl
alone-is (ps ∷ qs ∷ xs) e = absurd (omega arith)

pub fits-loaded : (p : Listing) (s : State) → Fits p s → s ≡ loaded s (pending_of s 0)
fits-loaded p s h = ap (λ (xs : List (List Pending)). record s { pending = xs }) (alone-is s.pending h.pending)

-- ---- one step

-- the entry, where it is no flush
abbrev pub kept : Entry → List Entry
kept (Step t) = Step t ∷ []
kept (In t v) = In t v ∷ []
kept (Flush t) = []
kept (FlushCell t c) = []

pub flush-none : (m : Model) (e : Entry) → flush_under m e [] ≡ None
flush-none Tso (Flush t) = refl
flush-none Pso (FlushCell t c) = refl
flush-none _ _ = refl

pub other-does : (p : Listing) → length p.threads ≡ 1 → (s : State) (t : ℕ) (what : Frame → Instr → Option Act) → does p s (suc t) what ≡ None
other-does p one s t what = go (slice_get s.threads (suc t))
  where
    rest : Frame → Option Instr → Option Event
    rest f o = o >>= (λ i. guarded (may_step s (suc t) f) (what f i) >>= (λ a. Some (Does (suc t) a)))

    go : (o : Option Frame) → (o >>= (λ f. rest f (fetched p (suc t) f.place))) ≡ None
    go None = refl
    go (Some f) = ap (λ (o : Option Thread). rest f (o >>= (λ thread. slice_get thread.code f.place))) (slice_get_past p.threads (suc t) (omega arith))

module _ (m : Model) (bound : Bounding) (p : Listing) (valid : IsValid p) (one : length p.threads ≡ 1) (s : State) (ps : List Pending) (cells : length s.memory ≡ length p.cells) where
  -- what the entries that are kept lead to without store buffers
  abbrev pub DropsTo : Entry → State → Type 0
  DropsTo e s' = run Sc p (settled s ps) (kept e) ≡ Some (settle s')

  abbrev EventSettlesTo : Event → Event → Type 0
  EventSettlesTo v w = settle (after (loaded s ps) v) ≡ after (settled s ps) w

  does-alike : (this other : Frame → Instr → Option Act) → ((f : Frame) (i : Instr) → fetched p 0 f.place ≡ Some i → Matched (SettlesTo s ps) (this f i) (other f i)) → Matched EventSettlesTo (does p (loaded s ps) 0 this) (does p (settled s ps) 0 other)
  does-alike this other h =
      matched-bind EventSettlesTo (slice_get s.threads 0) (λ f. fetched p 0 f.place >>= (λ i. by_one f i)) (λ f. fetched p 0 f.place >>= (λ i. by_other f i)) (λ f a.
      matched-bind EventSettlesTo (fetched p 0 f.place) (by_one f) (by_other f) (λ i b.
      matched-wrap EventSettlesTo (SettlesTo s ps) (Does 0) (Does 0) (guarded (may_step s 0 f) (this f i)) (guarded (may_step s 0 f) (other f i)) (matched-guarded (SettlesTo s ps) (may_step s 0 f) (this f i) (other f i) (h f i b)) (λ a b k. k)))
    where
      by_one : Frame → Instr → Option Event
      by_one f i = guarded (may_step s 0 f) (this f i) >>= (λ a. Some (Does 0 a))

      by_other : Frame → Instr → Option Event
      by_other f i = guarded (may_step s 0 f) (other f i) >>= (λ a. Some (Does 0 a))

  loads-within : (f : Frame) (i : Instr) → fetched p 0 f.place ≡ Some i → LoadsWithin s f i
  loads-within f i e = go i (if-at (IsInstrOf p) (fetched p 0 f.place) i e (fetched-valid p valid 0 f.place))
    where
      go : (i : Instr) → IsInstrOf p i → LoadsWithin s f i
      go (Load l target) h = subst (λ n. IfSome (cell_of n f.locals target) (λ c. c < n)) (sym cells) (cell-within p h.0 f.locals target h.1.1)
      go _ h = tt

  -- one step of the one machine is one step of the other
  abbrev StatesSettle : State → State → Type 0
  StatesSettle s' t' = settle s' ≡ t'

  one-run : (e : Entry) (o : Option State) → Matched StatesSettle o (next Sc p (settled s ps) e) → IfSome o (λ s'. run Sc p (settled s ps) (e ∷ []) ≡ Some (settle s'))
  one-run e o h = IfSome_then o (matched-at StatesSettle o (next Sc p (settled s ps) e) h) (λ s' k. ap (λ (q : Option State). q >>= (λ mid. Some mid)) k.1 ∙ ap (λ (t' : State). Some t') (sym k.2))

  flush-settles : (q : Pending) → IsOldest ps q → settled s ps ≡ settle (flushed (loaded s ps) 0 q.0 q.1)
  unfolding flushed
  flush-settles q h = ap (λ (memory : List ℤ). record (settled s ps) { memory = memory }) (sym (h s.memory))

  flush-drops : (e : Entry) → IfSome (option_map (after (loaded s ps)) (flush_under m e ps >>= (λ q. Some (Flushes 0 q.0 q.1)))) (λ s'. Some (settled s ps) ≡ Some (settle s'))
  flush-drops e = go (flush_under m e ps) (flush-oldest m e ps)
    where
      go : (o : Option Pending) → IfSome o (IsOldest ps) → IfSome (option_map (after (loaded s ps)) (o >>= (λ q. Some (Flushes 0 q.0 q.1)))) (λ s'. Some (settled s ps) ≡ Some (settle s'))
      go None h = tt
      go (Some q) h = ap (λ (z : State). Some z) (flush-settles q h)

  pub entry-drops : (e : Entry) → IfSome (next (Buffered m bound) p (loaded s ps) e) (DropsTo e)
  unfolding event
  entry-drops (Step zero) = one-run (Step 0) (next (Buffered m bound) p (loaded s ps) (Step 0))
      (matched-map StatesSettle EventSettlesTo (after (loaded s ps)) (after (settled s ps)) (event (Buffered m bound) p (loaded s ps) (Step 0)) (event Sc p (settled s ps) (Step 0))
      (does-alike (act (Buffered m bound) (loaded s ps) 0) (act Sc (settled s ps) 0) (λ f i e. act-alike m bound s ps f i (loads-within f i e)))
      (λ v w k. k))
  entry-drops (In zero v) = one-run (In 0 v) (next (Buffered m bound) p (loaded s ps) (In 0 v))
      (matched-map StatesSettle EventSettlesTo (after (loaded s ps)) (after (settled s ps)) (event (Buffered m bound) p (loaded s ps) (In 0 v)) (event Sc p (settled s ps) (In 0 v))
      (does-alike (λ f i. input i v) (λ f i. input i v) (λ f i e. input-alike m bound s ps i v))
      (λ v w k. k))
  entry-drops (Step (suc t)) = rw (other-does p one (loaded s ps) t (act (Buffered m bound) (loaded s ps) (suc t))) tt
  entry-drops (In (suc t) v) = rw (other-does p one (loaded s ps) t (λ f i. input i v)) tt
  entry-drops (Flush zero) = flush-drops (Flush 0)
  entry-drops (FlushCell zero c) = flush-drops (FlushCell 0 c)
  entry-drops (Flush (suc t)) = rw (flush-none m (Flush (suc t))) tt
  entry-drops (FlushCell (suc t) c) = rw (flush-none m (FlushCell (suc t) c)) tt

-- ---- whole runs

module _ (m : Model) (bound : Bounding) (p : Listing) (valid : IsValid p) (one : length p.threads ≡ 1) where
  step-drops : (s : State) (e : Entry) → Fits p s → IfSome (next (Buffered m bound) p s e) (λ s'. run Sc p (settle s) (kept e) ≡ Some (settle s'))
  step-drops s e h = subst (λ (z : State). IfSome (next (Buffered m bound) p z e) (λ s'. run Sc p (settle z) (kept e) ≡ Some (settle s'))) (sym (fits-loaded p s h)) (entry-drops m bound p valid one s (pending_of s 0) h.memory e)

  pub run-drops : (es : List Entry) (s last : State) → Fits p s → run (Buffered m bound) p s es ≡ Some last → run Sc p (settle s) (flat_map kept es) ≡ Some (settle last)
  run-drops [] s last h e = let same : s ≡ last = cc in ap (λ (z : State). Some (settle z)) same
  run-drops (x ∷ es) s last h e = go (next (Buffered m bound) p s x) (step-drops s x h) (map-all (Fits p) (after s) (event (Buffered m bound) p s x) (after-fits p s h)) e (λ mid. run-drops es mid last)
    where
      go : (o : Option State) → IfSome o (λ s'. run Sc p (settle s) (kept x) ≡ Some (settle s')) → IfSome o (Fits p) → (o >>= (λ mid. run (Buffered m bound) p mid es)) ≡ Some last → ((mid : State) → Fits p mid → run (Buffered m bound) p mid es ≡ Some last → run Sc p (settle mid) (flat_map kept es) ≡ Some (settle last)) → run Sc p (settle s) (kept x ++ flat_map kept es) ≡ Some (settle last)
      go None a b d ih = cc
      go (Some mid) a b d ih = run-append Sc p (settle s) (kept x) (flat_map kept es) ∙ ap (λ (o : Option State). o >>= (λ z. run Sc p z (flat_map kept es))) a ∙ ih mid b d

-- ---- the start

none-pending : (xs : List Thread) → length xs ≡ 1 → map {B = List Pending} (λ thread. []) xs ≡ [] ∷ []
none-pending [] e = absurd (omega arith)
none-pending (x ∷ []) e = refl
none-pending (x ∷ y ∷ xs) e = absurd (omega arith)

pub starts-empty : (p : Listing) → length p.threads ≡ 1 → initial p ≡ loaded (initial p) []
unfolding initial
starts-empty p one = ap (λ (xs : List (List Pending)). record (initial p) { pending = xs }) (none-pending p.threads one)

pub starts-fit : (p : Listing) → length p.threads ≡ 1 → Fits p (initial p)
unfolding initial
starts-fit p one = record {
  memory = length-map p.cells (λ cell. value_of cell.init []);
  pending = length-map {B = List Pending} p.threads (λ thread. []) ∙ one;
}

pub drops : (m : Model) (bound : Bounding) (p : Listing) → IsValid p → length p.threads ≡ 1 → (n : ℕ) → Reaches (Buffered m bound) p n → Reaches Sc p n
drops m bound p valid one n h = (
  flat_map kept h.0,
  record {
    last = settle h.1.last;
    runs = subst (λ (z : State). run Sc p z (flat_map kept h.0) ≡ Some (settle h.1.last)) (sym (starts-settled)) (run-drops m bound p valid one h.0 (initial p) h.1.last (starts-fit p one) h.1.runs);
    verdict = h.1.verdict;
  },
)
  where
    starts-settled : initial p ≡ settle (initial p)
    starts-settled = starts-empty p one ∙ ap settle (sym (starts-empty p one))
