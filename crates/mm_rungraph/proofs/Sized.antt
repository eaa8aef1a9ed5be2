-- The tables have the keys of what happens.
use Rattle.std.proofs.Common.{arith, ◌≡◌, ℕ, suc, ◌+◌, ◌*◌, ◌<◌, ◌≤◌, Bool, true, false, if◌then◌else◌, List, [], ◌∷◌, length, Option, Some, None, ◌∙◌, ap, length-append}
use Rattle.std.specs.Prelude.{IfSome}
use Rattle.std.proofs.lemmas.Nat.{mul-le}
use Rattle.mm_goto.specs.declared.model.Model.{Model}
use Rattle.mm_goto.specs.declared.model.Model.TheVariants.{Tso, Pso}
use Rattle.mm_goto.specs.Listing.{Listing}
use Rattle.mm_sched.specs.declared.entry.Rules.{Rules}
use Rattle.mm_sched.specs.declared.entry.Act.TheVariants.{Ends, Loads, Pushes, Puts, Takes, Gives, Updates, Misses, Starts, Joins}
use Rattle.mm_sched.specs.declared.entry.Event.{Event}
use Rattle.mm_sched.specs.declared.entry.Event.TheVariants.{Does, Flushes}
use Rattle.mm_sched.specs.State.{State}
use Rattle.mm_sched.specs.Invariant.{Fits}
use Rattle.mm_sched.proofs.Happens.{HasNames}
use Rattle.mm_runkeys.specs.declared.keys.Layout.{Layout}
use Rattle.mm_runkeys.specs.Keys.{deed, runs, drains, flushes, settles, starts, joins, joins_by, takes, gives, key, queue, own, pushes, pops, makes, ends_up, loads, writes, reads_by, only_reads_by}
use Rattle.mm_runkeys.specs.reading.Marks.{Marks, Below, InRange, AreSmall, marked}
use Rattle.mm_rungraph.specs.reading.Walking.{IsSized}
use Rattle.mm_runkeys.specs.Spans.{is_key}
use Rattle.mm_runkeys.specs.reading.Tables.{row, stepped}
use Rattle.mm_rungraph.proofs.Spanning.{row_stepped, stepped_length}

pair : (t c n k : ℕ) → t < n → c < k → t * k + c < n * k
pair t c n k l m = let h : suc t * k ≤ n * k = mul-le (suc t) k n k (omega arith) (omega arith) in let g : suc t * k ≡ t * k + k = omega arith in omega (arith, h, g, m)

key_below : (m : Model) (c k : ℕ) → c < k → key m c < k
key_below Tso c k l = omega arith
key_below Pso c k l = l

as_large : (n m : ℕ) (o : Option ℕ) → m ≡ n → Below n o → Below m o
as_large n m o e h = rw e h

module _ (p : Listing) (s : State) (layout : Layout) (cells : layout.cells ≡ length p.cells) (threads : layout.threads ≡ length p.threads) (memory : length s.memory ≡ length p.cells) (mutexes : length s.owners ≡ length p.mutexes) (frames : length s.threads ≡ length p.threads) (lists : length s.pending ≡ length p.threads) where
  abbrev T : ℕ
  T = length p.threads

  abbrev C : ℕ
  C = length p.cells

  abbrev M : ℕ
  M = length p.mutexes

  abbrev Q : ℕ
  Q = T * C

  thread : (t : ℕ) → t < length s.threads → t < T
  thread t l = rw frames at l

  runs_in : (v : Event) → HasNames s v → Below T (runs v)
  runs_in (Does t a) h = thread t h.0
  runs_in (Flushes t c v) h = tt

  starts_in : (v : Event) → HasNames s v → Below T (starts v)
  starts_in (Does t (Starts u)) h = thread u h.1
  starts_in v h = tt

  drains_in : (v : Event) → HasNames s v → Below T (drains v)
  drains_in (Does t a) h = go (deed a).drained
    where
      go : (b : Bool) → Below T (if b then Some t else None)
      go true = thread t h.0
      go false = tt
  drains_in (Flushes t c v) h = tt

  flushes_in : (v : Event) → HasNames s v → Below T (flushes v)
  flushes_in (Does t a) h = tt
  flushes_in (Flushes t c v) h = rw lists at h.0

  settles_in : (v : Event) → HasNames s v → Below T (settles v)
  settles_in (Does t Ends) h = thread t h.0
  settles_in (Flushes t c v) h = rw lists at h.0
  settles_in v h = tt

  joins_by_in : (v : Event) → HasNames s v → Below T (joins_by true v)
  joins_by_in (Does t (Joins u)) h = thread u h.1
  joins_by_in v h = tt

  joins_in : (v : Event) → HasNames s v → Below (T * T) (joins layout v)
  joins_in (Does t (Joins u)) h = rw threads (pair t u T T (thread t h.0) (thread u h.1))
  joins_in v h = tt

  takes_in : (v : Event) → HasNames s v → Below M (takes v)
  takes_in (Does t (Takes m)) h = rw mutexes at h.1
  takes_in v h = tt

  gives_in : (v : Event) → HasNames s v → Below M (gives v)
  gives_in (Does t (Gives m)) h = rw mutexes at h.1
  gives_in v h = tt

  cell : (c : ℕ) → c < length s.memory → c < C
  cell c l = rw memory at l

  writes_in : (v : Event) → HasNames s v → Below C (writes v)
  writes_in (Does t (Puts c v)) h = cell c h.1
  writes_in (Does t (Updates l v c w)) h = cell c h.1
  writes_in (Flushes t c v) h = cell c h.1
  writes_in v h = tt

  reads_in : (v : Event) → HasNames s v → Below C (reads_by false v)
  reads_in (Does t (Loads l c v)) h = cell c h.1
  reads_in (Does t (Updates l v c w)) h = cell c h.1
  reads_in (Does t (Misses l c)) h = cell c h.1
  reads_in v h = tt

  only_reads_in : (v : Event) → HasNames s v → Below C (only_reads_by false v)
  only_reads_in (Does t (Loads l c v)) h = cell c h.1
  only_reads_in (Does t (Misses l c)) h = cell c h.1
  only_reads_in v h = tt

  own_is : (t c : ℕ) → t < T → c < C → own layout t c < Q
  own_is t c l m = rw cells (pair t c T C l m)

  queue_is : (t c : ℕ) → t < T → c < C → queue layout t c < Q
  queue_is t c l m = rw cells (pair t (key layout.model c) T C l (key_below layout.model c C m))

  pushes_in : (v : Event) → HasNames s v → Below Q (pushes layout v)
  pushes_in (Does t (Pushes c v)) h = queue_is t c (thread t h.0) (cell c h.1)
  pushes_in v h = tt

  pops_in : (v : Event) → HasNames s v → Below Q (pops layout v)
  pops_in (Flushes t c v) h = queue_is t c (rw lists at h.0) (cell c h.1)
  pops_in v h = tt

  makes_in : (v : Event) → HasNames s v → Below Q (makes layout v)
  makes_in (Does t (Pushes c v)) h = own_is t c (thread t h.0) (cell c h.1)
  makes_in v h = tt

  ends_in : (v : Event) → HasNames s v → Below Q (ends_up layout v)
  ends_in (Flushes t c v) h = own_is t c (rw lists at h.0) (cell c h.1)
  ends_in v h = tt

  own_in : (v : Event) → HasNames s v → Below Q (loads layout v)
  own_in (Does t (Loads l c v)) h = own_is t c (thread t h.0) (cell c h.1)
  own_in v h = tt

counted_step : (rows : List (List ℕ)) (o : Option ℕ) (n : ℕ) → ((t : ℕ) → t < length rows → length (row rows t) ≤ n) → (t : ℕ) → t < length (stepped rows None o n) → length (row (stepped rows None o n) t) ≤ n + 1
counted_step rows o n few t l =
    let here : t < length rows = rw (stepped_length rows None o n) at l in
    let size : length (row (stepped rows None o n) t) ≡ length (row rows t) + length (if is_key t o then n ∷ [] else []) = ap length (row_stepped rows None o n t here) ∙ length-append (row rows t) (if is_key t o then n ∷ [] else []) in
    one (is_key t o) (few t here) size
  where
    one : (b : Bool) → length (row rows t) ≤ n → length (row (stepped rows None o n) t) ≡ length (row rows t) + length (if b then n ∷ [] else []) → length (row (stepped rows None o n) t) ≤ n + 1
    one true m z = omega (arith, m, z)
    one false m z = omega (arith, m, z)

pub in_range : (r : Rules) (p : Listing) (s : State) (layout : Layout) (g : Marks) (v : Event) → Fits r p s → IsSized p layout g → HasNames s v → InRange layout g v
in_range r p s layout g v f z h = record {
  in_ran = as_large (length p.threads) (length g.ran) (runs v) z.ran (runs_in p s layout z.cells z.threads f.memory f.owners f.threads f.pending v h);
  in_executed = as_large (length p.threads) (length g.executed) (runs v) z.executed (runs_in p s layout z.cells z.threads f.memory f.owners f.threads f.pending v h);
  counted = counted_in v h;
  in_started = as_large (length p.threads) (length g.started) (runs v) z.started (runs_in p s layout z.cells z.threads f.memory f.owners f.threads f.pending v h);
  in_starts = as_large (length p.threads) (length g.started) (starts v) z.started (starts_in p s layout z.cells z.threads f.memory f.owners f.threads f.pending v h);
  in_left = as_large (length p.threads * length p.cells) (length g.left) (pops layout v) z.left (pops_in p s layout z.cells z.threads f.memory f.owners f.threads f.pending v h);
  in_written = as_large (length p.cells) (length g.written) (writes v) z.written (writes_in p s layout z.cells z.threads f.memory f.owners f.threads f.pending v h);
  in_reads = as_large (length p.cells) (length g.written) (reads_by false v) z.written (reads_in p s layout z.cells z.threads f.memory f.owners f.threads f.pending v h);
  in_overwritten = as_large (length p.cells) (length g.read) (writes v) z.read (writes_in p s layout z.cells z.threads f.memory f.owners f.threads f.pending v h);
  in_only_reads = as_large (length p.cells) (length g.read) (only_reads_by false v) z.read (only_reads_in p s layout z.cells z.threads f.memory f.owners f.threads f.pending v h);
  in_drains = as_large (length p.threads) (length g.flushed) (drains v) z.flushed (drains_in p s layout z.cells z.threads f.memory f.owners f.threads f.pending v h);
  in_flushes = as_large (length p.threads) (length g.flushed) (flushes v) z.flushed (flushes_in p s layout z.cells z.threads f.memory f.owners f.threads f.pending v h);
  in_settles = as_large (length p.threads) (length g.settled) (settles v) z.settled (settles_in p s layout z.cells z.threads f.memory f.owners f.threads f.pending v h);
  in_drains_settled = as_large (length p.threads) (length g.settled) (drains v) z.settled (drains_in p s layout z.cells z.threads f.memory f.owners f.threads f.pending v h);
  in_joins = as_large (length p.threads) (length g.settled) (joins_by true v) z.settled (joins_by_in p s layout z.cells z.threads f.memory f.owners f.threads f.pending v h);
  in_joined = as_large (length p.threads * length p.threads) (length g.joined) (joins layout v) z.joined (joins_in p s layout z.cells z.threads f.memory f.owners f.threads f.pending v h);
  in_gives = as_large (length p.mutexes) (length g.given) (gives v) z.given (gives_in p s layout z.cells z.threads f.memory f.owners f.threads f.pending v h);
  in_takes = as_large (length p.mutexes) (length g.given) (takes v) z.given (takes_in p s layout z.cells z.threads f.memory f.owners f.threads f.pending v h);
  in_pushed = as_large (length p.threads * length p.cells) (length g.pushed) (pushes layout v) z.pushed (pushes_in p s layout z.cells z.threads f.memory f.owners f.threads f.pending v h);
  in_pushed_pops = as_large (length p.threads * length p.cells) (length g.pushed) (pops layout v) z.pushed (pops_in p s layout z.cells z.threads f.memory f.owners f.threads f.pending v h);
  in_popped = as_large (length p.threads * length p.cells) (length g.popped) (pops layout v) z.popped (pops_in p s layout z.cells z.threads f.memory f.owners f.threads f.pending v h);
  in_popped_pushes = as_large (length p.threads * length p.cells) (length g.popped) (pushes layout v) z.popped (pushes_in p s layout z.cells z.threads f.memory f.owners f.threads f.pending v h);
  in_made = as_large (length p.threads * length p.cells) (length g.made) (makes layout v) z.made (makes_in p s layout z.cells z.threads f.memory f.owners f.threads f.pending v h);
  in_made_loads = as_large (length p.threads * length p.cells) (length g.made) (loads layout v) z.made (own_in p s layout z.cells z.threads f.memory f.owners f.threads f.pending v h);
  in_newest = as_large (length p.threads * length p.cells) (length g.newest) (makes layout v) z.newest (makes_in p s layout z.cells z.threads f.memory f.owners f.threads f.pending v h);
  in_newest_loads = as_large (length p.threads * length p.cells) (length g.newest) (loads layout v) z.newest (own_in p s layout z.cells z.threads f.memory f.owners f.threads f.pending v h);
  in_ended = as_large (length p.threads * length p.cells) (length g.ended) (ends_up layout v) z.ended (ends_in p s layout z.cells z.threads f.memory f.owners f.threads f.pending v h);
  in_ended_loads = as_large (length p.threads * length p.cells) (length g.ended) (loads layout v) z.ended (own_in p s layout z.cells z.threads f.memory f.owners f.threads f.pending v h);
}
  where
    counted_in : (v : Event) → HasNames s v → IfSome (runs v) (λ t. length (row g.executed t) ≤ g.count)
    counted_in (Does t a) h = z.counted t (let l : t < length p.threads = rw f.threads at h.0 in rw z.executed l)
    counted_in (Flushes t c v) h = tt

pub small : (p : Listing) (layout : Layout) (g : Marks) → IsSized p layout g → AreSmall g
small p layout g z = record {
  pushed = rw z.pushed z.few;
  popped = rw z.popped z.few;
  left = rw z.left z.few;
  made = rw z.made z.few;
  ended = rw z.ended z.few;
  joined = rw z.joined z.few_joins;
  newest = rw z.newest z.few;
}

pub sized_step : (p : Listing) (layout : Layout) (g : Marks) (v : Event) → IsSized p layout g → IsSized p layout (marked layout g v)
sized_step p layout g v z = record {
  few = z.few;
  few_joins = z.few_joins;
  cells = z.cells;
  threads = z.threads;
  ran = stepped_length g.ran (runs v) (runs v) g.count ∙ z.ran;
  left = stepped_length g.left (pops layout v) (pops layout v) g.count ∙ z.left;
  written = stepped_length g.written (writes v) (writes v) g.count ∙ z.written;
  read = stepped_length g.read (writes v) _ g.count ∙ z.read;
  flushed = stepped_length g.flushed (drains v) (flushes v) g.count ∙ z.flushed;
  settled = stepped_length g.settled (drains v) (settles v) g.count ∙ z.settled;
  given = stepped_length g.given (takes v) (gives v) g.count ∙ z.given;
  started = stepped_length g.started (runs v) (starts v) g.count ∙ z.started;
  executed = stepped_length g.executed None (runs v) g.count ∙ z.executed;
  counted = counted_step g.executed (runs v) g.count z.counted;
  joined = stepped_length g.joined None (joins layout v) g.count ∙ z.joined;
  pushed = stepped_length g.pushed None (pushes layout v) g.count ∙ z.pushed;
  popped = stepped_length g.popped None (pops layout v) g.count ∙ z.popped;
  made = stepped_length g.made None (makes layout v) g.count ∙ z.made;
  newest = stepped_length g.newest (makes layout v) (makes layout v) g.count ∙ z.newest;
  ended = stepped_length g.ended None (ends_up layout v) g.count ∙ z.ended;
}
