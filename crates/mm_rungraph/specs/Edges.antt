-- The edges of a run, whose steps are those of the list: the orders of x86-TSO (Owens, Sarkar and Sewell) between a thread's
-- instructions and its flushes, and communication by reads-from, coherence and from-reads (Alglave, Kroening, Nimal and
-- Tautschnig, ESOP 2013). Here a flush is a step of its own.
use Rattle.std.specs.Prelude.{◌≡◌, ◌⊎◌, ℕ, ◌+◌, ◌<◌, List, take, Option, Some}
use Rattle.mm_goto.specs.Bounds.{bound_of}
use Rattle.mm_sched.specs.declared.entry.Event.{Event}
use Rattle.mm_runkeys.specs.declared.graph.EdgeKind.{EdgeKind}
use Rattle.mm_runkeys.specs.declared.graph.EdgeKind.TheVariants.{Program, Issue, Fifo, Reads, Coherence, FromRead, Drain, Mutex, Start, Join, Room}
use Rattle.mm_runkeys.specs.Spans.{Span, Next, Last, at, always, times}
use Rattle.mm_runkeys.specs.declared.keys.Layout.{Layout}
use Rattle.mm_runkeys.specs.Keys.{runs, drains, flushes, settles, starts, joins_first, takes, gives, pushes, pops, makes, writes, reads, only_reads, reads_own}

-- the key of the step k, where the key does not depend on what was before
abbrev pub by : (Event → Option ℕ) → List Event → ℕ → Option ℕ
by key = at (always key)

-- a is the j-th step, from 0, that has the key x
pub record IsNth (key : Event → Option ℕ) (es : List Event) (x j a : ℕ) : Type 0 where
  pub is : by key es a ≡ Some x
  pub nth : times key x (take a es) ≡ j

-- the j-th store into a queue is made at a and reaches memory at b
pub record IsIssued (s : Layout) (es : List Event) (a b : ℕ) : Type 0 where
  pub queue : ℕ
  pub nth : ℕ
  pub before : a < b
  pub made : IsNth (pushes s) es queue nth a
  pub flushed : IsNth (pops s) es queue nth b

-- the j-th store into a queue of the thread reaches memory at a, and the one that is behind it by the thread's bound is made
-- at b
pub record IsRoomFor (s : Layout) (es : List Event) (a b : ℕ) : Type 0 where
  pub thread : ℕ
  pub queue : ℕ
  pub nth : ℕ
  pub before : a < b
  pub runs_it : by runs es b ≡ Some thread
  pub flushed : IsNth (pops s) es queue nth a
  pub made : IsNth (pushes s) es queue (nth + bound_of s.bound thread) b

-- a writes a cell, and b is the next to write it
abbrev pub IsCoherent : List Event → ℕ → ℕ → Type 0
IsCoherent es = Next (by writes es) (by writes es)

-- a takes its own thread's pending store, which is made at `store` and reaches memory at `flush`; b is the next to write the
-- cell behind that
pub record IsOverwritten (s : Layout) (es : List Event) (a b : ℕ) : Type 0 where
  pub store : ℕ
  pub flush : ℕ
  pub took : Last (by (makes s) es) (at (reads_own s) es) store a
  pub issued : IsIssued s es store flush
  pub next : IsCoherent es flush b

-- an edge of the kind leads from a to b. A read of memory takes what the last write of the cell left, or the start value: so
-- the write that is next behind what it read is the next behind the read
abbrev pub IsEdge : Layout → List Event → EdgeKind → ℕ → ℕ → Type 0
IsEdge s es Program a b = Next (by runs es) (by runs es) a b
IsEdge s es Issue a b = IsIssued s es a b
IsEdge s es Fifo a b = Next (by (pops s) es) (by (pops s) es) a b
IsEdge s es Reads a b = Last (by writes es) (at (reads s) es) a b
IsEdge s es Coherence a b = IsCoherent es a b
IsEdge s es FromRead a b = Next (at (only_reads s) es) (by writes es) a b ⊎ IsOverwritten s es a b
IsEdge s es Drain a b = Next (by flushes es) (by drains es) a b
IsEdge s es Mutex a b = Next (by gives es) (by takes es) a b
IsEdge s es Start a b = Next (by starts es) (by runs es) a b
IsEdge s es Join a b = Span (by settles es) (by drains es) (at (joins_first s) es) a b
IsEdge s es Room a b = IsRoomFor s es a b
