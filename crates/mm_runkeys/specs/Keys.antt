-- What the steps of a run have to do with: threads, queues of pending stores, cells and mutexes, by their numbers.
use Rattle.std.specs.Prelude.{ℕ, ◌+◌, ◌*◌, Bool, true, false, ◌||◌, ◌==◌, nat_lt, if◌then◌else◌, List, Option, Some, None, is_some, option_map}
use Rattle.mm_goto.specs.Bounds.{bound_of}
use Rattle.mm_goto.specs.declared.model.Model.{Model}
use Rattle.mm_goto.specs.declared.model.Model.TheVariants.{Tso, Pso}
use Rattle.mm_sched.specs.declared.entry.Act.{Act}
use Rattle.mm_sched.specs.declared.entry.Act.TheVariants.{Goes, Assigns, Fails, Ends, Loads, Pushes, Puts, Fences, Takes, Gives, Updates, Misses, Starts, Joins, Enters, Leaves}
use Rattle.mm_sched.specs.declared.entry.Event.{Event}
use Rattle.mm_sched.specs.declared.entry.Event.TheVariants.{Does, Flushes}
use Rattle.mm_runkeys.specs.declared.keys.Layout.{Layout}
use Rattle.mm_runkeys.specs.Spans.{Key, times}

-- ---- acts

-- what an act has to do with beside its thread
pub record Deed : Type 0 where
  -- it waits until nothing of its thread is pending
  pub drained : Bool
  -- it is the last of its thread
  pub ends : Bool
  -- the thread that it starts, and the one that it joins
  pub starts : Option ℕ
  pub joins : Option ℕ
  -- the mutex that it takes, and the one that it gives back
  pub takes : Option ℕ
  pub gives : Option ℕ
  -- the cell to which it makes a store pending, and the one that it loads
  pub stores : Option ℕ
  pub loads : Option ℕ
  -- the cell that it reads, for a load in memory or in its thread's own store, and the one that it writes in memory
  pub reads : Option ℕ
  pub writes : Option ℕ

abbrev pub nothing : Deed
nothing = record { drained = false; ends = false; starts = None; joins = None; takes = None; gives = None; stores = None; loads = None; reads = None; writes = None }

abbrev pub deed : Act → Deed
deed (Goes k) = nothing
deed (Assigns l v) = nothing
deed (Fails n) = nothing
deed Ends = record nothing { ends = true }
deed (Loads l c v) = record nothing { loads = Some c; reads = Some c }
deed (Pushes c v) = record nothing { stores = Some c }
deed (Puts c v) = record nothing { writes = Some c }
deed Fences = record nothing { drained = true }
deed (Takes m) = record nothing { drained = true; takes = Some m }
deed (Gives m) = record nothing { drained = true; gives = Some m }
deed (Updates l v c w) = record nothing { drained = true; reads = Some c; writes = Some c }
deed (Misses l c) = record nothing { drained = true; reads = Some c }
deed (Starts u) = record nothing { drained = true; starts = Some u }
deed (Joins u) = record nothing { drained = true; joins = Some u }
deed Enters = nothing
deed Leaves = nothing

-- ---- threads

-- the thread that executes an instruction
abbrev pub runs : Event → Option ℕ
runs (Does t a) = Some t
runs (Flushes t c v) = None

-- the thread that executes a drained instruction
abbrev pub drains : Event → Option ℕ
drains (Does t a) = if (deed a).drained then Some t else None
drains (Flushes t c v) = None

-- the thread of which a store reaches memory
abbrev pub flushes : Event → Option ℕ
flushes (Does t a) = None
flushes (Flushes t c v) = Some t

-- the thread that ends, or of which a store reaches memory
abbrev pub settles : Event → Option ℕ
settles (Does t a) = if (deed a).ends then Some t else None
settles (Flushes t c v) = Some t

-- the thread that is started
abbrev pub starts : Event → Option ℕ
starts (Does t a) = (deed a).starts
starts (Flushes t c v) = None

-- the thread that joins another, with that one
abbrev pub joins : Layout → Event → Option ℕ
joins s (Does t a) = option_map (λ u. t * s.threads + u) (deed a).joins
joins s (Flushes t c v) = None

-- the thread that is joined, where the joining one has not joined it before
abbrev pub joins_by : Bool → Event → Option ℕ
joins_by first (Does t a) = if first then (deed a).joins else None
joins_by first (Flushes t c v) = None

-- no event of the list has the key, if there is one
abbrev pub is_new : (Event → Option ℕ) → Option ℕ → List Event → Bool
is_new key None before = true
is_new key (Some x) before = times key x before == 0

abbrev pub joins_first : Layout → Key
joins_first s before e = joins_by (is_new (joins s) (joins s e) before) e

-- ---- mutexes

abbrev pub takes : Event → Option ℕ
takes (Does t a) = (deed a).takes
takes (Flushes t c v) = None

abbrev pub gives : Event → Option ℕ
gives (Does t a) = (deed a).gives
gives (Flushes t c v) = None

-- ---- queues of pending stores: under TSO one for each thread, under PSO one for each thread and cell

abbrev pub key : Model → ℕ → ℕ
key Tso c = 0
key Pso c = c

-- the queue of thread t's stores to cell c
abbrev pub queue : Layout → ℕ → ℕ → ℕ
queue s t c = t * s.cells + key s.model c

-- the queue that a store joins, and the one that it leaves
abbrev pub pushes : Layout → Event → Option ℕ
pushes s (Does t a) = option_map (queue s t) (deed a).stores
pushes s (Flushes t c v) = None

abbrev pub pops : Layout → Event → Option ℕ
pops s (Does t a) = None
pops s (Flushes t c v) = Some (queue s t c)

-- how many stores may be pending in a queue of the event's thread
abbrev pub limit : Layout → Event → ℕ
limit s (Does t a) = bound_of s.bound t
limit s (Flushes t c v) = bound_of s.bound t

-- ---- cells

-- the cell that is written in memory
abbrev pub writes : Event → Option ℕ
writes (Does t a) = (deed a).writes
writes (Flushes t c v) = Some c

-- the thread and the cell of a store that is made pending, and of one that reaches memory
abbrev pub own : Layout → ℕ → ℕ → ℕ
own s t c = t * s.cells + c

abbrev pub makes : Layout → Event → Option ℕ
makes s (Does t a) = option_map (own s t) (deed a).stores
makes s (Flushes t c v) = None

abbrev pub ends_up : Layout → Event → Option ℕ
ends_up s (Does t a) = None
ends_up s (Flushes t c v) = Some (own s t c)

-- the thread and the cell that a load is of
abbrev pub loads : Layout → Event → Option ℕ
loads s (Does t a) = option_map (own s t) (deed a).loads
loads s (Flushes t c v) = None

-- of the thread and the cell, if there is one, a store is pending: more were made than have reached memory
abbrev pub is_pending : Layout → Option ℕ → List Event → Bool
is_pending s None before = false
is_pending s (Some x) before = nat_lt (times (ends_up s) x before) (times (makes s) x before)

-- the event loads its own thread's pending store
abbrev pub is_own : Layout → List Event → Event → Bool
is_own s before e = is_pending s (loads s e) before

-- the cell that is read in memory, where a load reads its own thread's pending store or not
abbrev pub reads_by : Bool → Event → Option ℕ
reads_by owns (Does t a) = if owns then None else (deed a).reads
reads_by owns (Flushes t c v) = None

-- the same where the cell is not written
abbrev pub only_reads_by : Bool → Event → Option ℕ
only_reads_by owns (Does t a) = if owns || is_some (deed a).writes then None else (deed a).reads
only_reads_by owns (Flushes t c v) = None

abbrev pub reads : Layout → Key
reads s before e = reads_by (is_own s before e) e

abbrev pub only_reads : Layout → Key
only_reads s before e = only_reads_by (is_own s before e) e

-- the thread and the cell, where the thread reads its own newest pending store to it
abbrev pub own_by : Layout → Bool → Event → Option ℕ
own_by s owns e = if owns then loads s e else None

abbrev pub reads_own : Layout → Key
reads_own s before e = own_by s (is_own s before e) e
