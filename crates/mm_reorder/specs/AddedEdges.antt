-- The edges that a set of stores adds to a run graph. A store outside the set is direct: it reaches memory before its thread
-- goes on, as under sequential consistency (Lamport, 1979). So its flush comes before the thread's next instruction.
use Rattle.std.specs.Prelude.{◌≡◌, ℕ, ℤ, Bool, false, List, slice_get, take, Some}
use Rattle.mm_goto.specs.Listing.{Listing}
use Rattle.mm_sched.specs.declared.entry.Act.TheVariants.{Pushes}
use Rattle.mm_sched.specs.declared.entry.Event.{Event}
use Rattle.mm_sched.specs.declared.entry.Event.TheVariants.{Does}
use Rattle.mm_sched.specs.Buffer.{is_in}
use Rattle.mm_sched.specs.State.{initial, frame_of}
use Rattle.mm_runkeys.specs.declared.graph.EdgeKind.TheVariants.{Program}
use Rattle.mm_runkeys.specs.declared.keys.Layout.{Layout}
use Rattle.mm_rungraph.specs.Edges.{IsIssued, IsEdge}
use Rattle.mm_rungraph.specs.Traces.{after_all}

-- the place at which thread t was before step k
abbrev pub place_before : Listing → List Event → ℕ → ℕ → ℕ
place_before p es k t = (frame_of (after_all (initial p) (take k es)) t).place

-- step k is a store outside the set
pub record IsDirect (p : Listing) (set : List (List Bool)) (es : List Event) (k : ℕ) : Type 0 where
  pub thread : ℕ
  pub cell : ℕ
  pub value : ℤ
  pub stores : slice_get es k ≡ Some (Does thread (Pushes cell value))
  pub outside : is_in set thread (place_before p es k thread) ≡ false

-- an added edge leads from the flush of a direct store to the instruction behind the store in its thread
pub record IsAdded (s : Layout) (p : Listing) (set : List (List Bool)) (es : List Event) (a b : ℕ) : Type 0 where
  pub store : ℕ
  pub direct : IsDirect p set es store
  pub flush : IsIssued s es store a
  pub next : IsEdge s es Program store b
