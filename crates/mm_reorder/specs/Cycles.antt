-- Cycles of a run graph with the edges that a set adds, and how a store outside the set is then overtaken: a later access of
-- its thread, with no drained instruction between, is seen by another thread, and from there edges lead back to the store
-- (after Shasha and Snir, TOPLAS 1988).
use Rattle.std.specs.Prelude.{◌≡◌, ◌≢◌, ◌⊎◌, ℕ, ◌<◌, ◌≤◌, Bool, List, slice_get, Some}
use Rattle.mm_goto.specs.declared.model.Model.{Model}
use Rattle.mm_goto.specs.declared.model.Model.TheVariants.{Pso}
use Rattle.mm_goto.specs.Listing.{Listing}
use Rattle.mm_sched.specs.declared.entry.Act.{Act}
use Rattle.mm_sched.specs.declared.entry.Act.TheVariants.{Goes, Assigns, Fails, Ends, Loads, Pushes, Puts, Fences, Takes, Gives, Updates, Misses, Starts, Joins, Enters, Leaves}
use Rattle.mm_sched.specs.declared.entry.Event.{Event}
use Rattle.mm_sched.specs.declared.entry.Event.TheVariants.{Does, Flushes}
use Rattle.mm_runkeys.specs.declared.graph.EdgeKind.{EdgeKind}
use Rattle.mm_runkeys.specs.declared.graph.EdgeKind.TheVariants.{Program, Issue, Fifo, Reads, Coherence, FromRead, Drain, Mutex, Start, Join, Room}
use Rattle.mm_runkeys.specs.declared.keys.Layout.{Layout}
use Rattle.mm_rungraph.specs.Edges.{by, IsIssued, IsEdge}
use Rattle.mm_runkeys.specs.Keys.{drains}
use Rattle.mm_reorder.specs.AddedEdges.{IsDirect, IsAdded}

-- an edge of the run, or one that the set adds
abbrev pub Link : Layout → Listing → List (List Bool) → List Event → ℕ → ℕ → Type 0
Link s p set es a b = ((kind : EdgeKind) × IsEdge s es kind a b) ⊎ IsAdded s p set es a b

-- a walk along edges from a to c
pub data Walk (E : ℕ → ℕ → Type 0) (c : ℕ) : ℕ → Type 0 where
  here : Walk E c c
  step : {a : ℕ} (b : ℕ) → E a b → Walk E c b → Walk E c a

-- an edge from a, and a walk back
abbrev pub Cycle : (ℕ → ℕ → Type 0) → ℕ → Type 0
Cycle E a = (b : ℕ) × E a b × Walk E a b

-- threads communicate through memory by reads-from, coherence and from-reads
abbrev pub IsCommunication : EdgeKind → Type 0
IsCommunication Program = ⊥
IsCommunication Issue = ⊥
IsCommunication Fifo = ⊥
IsCommunication Reads = Unit {0}
IsCommunication Coherence = Unit {0}
IsCommunication FromRead = Unit {0}
IsCommunication Drain = ⊥
IsCommunication Mutex = ⊥
IsCommunication Start = ⊥
IsCommunication Join = ⊥
IsCommunication Room = ⊥

-- the thread of which it is an instruction or a flush
abbrev pub thread_of : Event → ℕ
thread_of (Does t a) = t
thread_of (Flushes t c v) = t

-- it may overtake a pending store to cell d, and is to another cell: a load, under PSO also a store
abbrev pub Overtakes : Model → Act → ℕ → Type 0
Overtakes m (Goes k) d = ⊥
Overtakes m (Assigns l v) d = ⊥
Overtakes m (Fails n) d = ⊥
Overtakes m Ends d = ⊥
Overtakes m (Loads l c v) d = c ≢ d
Overtakes m (Pushes c v) d = (m ≡ Pso) × (c ≢ d)
Overtakes m (Puts c v) d = ⊥
Overtakes m Fences d = ⊥
Overtakes m (Takes k) d = ⊥
Overtakes m (Gives k) d = ⊥
Overtakes m (Updates l v c w) d = ⊥
Overtakes m (Misses l c) d = ⊥
Overtakes m (Starts u) d = ⊥
Overtakes m (Joins u) d = ⊥
Overtakes m Enters d = ⊥
Overtakes m Leaves d = ⊥

-- thread t executes no drained instruction behind a, up to b
abbrev pub Undrained : List Event → ℕ → ℕ → ℕ → Type 0
Undrained es t a b = (j : ℕ) → a < j → j ≤ b → by drains es j ≢ Some t

-- a later access of the store's thread overtakes it: it is a load, or a store that reaches memory at `from`, and a
-- communication edge leads from there to a step of another thread
pub record IsOvertakenAt (s : Layout) (p : Listing) (set : List (List Bool)) (es : List Event) (store other : ℕ) : Type 0 where
  pub direct : IsDirect p set es store
  pub access : ℕ
  pub act : Act
  pub does : slice_get es access ≡ Some (Does direct.thread act)
  pub later : store < access
  pub undrained : Undrained es direct.thread store access
  pub overtakes : Overtakes s.model act direct.cell
  pub from : ℕ
  pub shows : (from ≡ access) ⊎ IsIssued s es access from
  pub kind : EdgeKind
  pub communicates : IsCommunication kind
  pub out : IsEdge s es kind from other
  pub event : Event
  pub at_other : slice_get es other ≡ Some event
  pub leaves : thread_of event ≢ direct.thread

-- and from that step edges lead back to the store's flush
pub record IsOvertaken (s : Layout) (p : Listing) (set : List (List Bool)) (es : List Event) (store : ℕ) : Type 0 where
  pub other : ℕ
  pub at : IsOvertakenAt s p set es store other
  pub flush : ℕ
  pub issued : IsIssued s es store flush
  pub back : Walk (Link s p set es) flush other
