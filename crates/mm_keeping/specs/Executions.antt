-- Which instruction of a program a step of its run is.
use Rattle.std.specs.Prelude.{◌≡◌, ℕ, List, slice_get, take, Option, Some, None}
use Rattle.mm_goto.specs.Listing.{Listing}
use Rattle.mm_goto.specs.declared.spot.Spot.{Spot}
use Rattle.mm_sched.specs.declared.entry.Act.{Act}
use Rattle.mm_sched.specs.declared.entry.Act.TheVariants.{Goes, Assigns, Fails, Ends, Loads, Pushes, Puts, Fences, Takes, Gives, Updates, Misses, Starts, Joins, Enters, Leaves}
use Rattle.mm_sched.specs.declared.entry.Event.{Event}
use Rattle.mm_sched.specs.declared.entry.Event.TheVariants.{Does}
use Rattle.mm_sched.specs.State.{initial, frame_of}
use Rattle.mm_rungraph.specs.Traces.{after_all}

-- step k of the run is an execution of the instruction at the spot
pub record Executes (p : Listing) (es : List Event) (k : ℕ) (s : Spot) : Type 0 where
  pub act : Act
  pub does : slice_get es k ≡ Some (Does s.thread act)
  pub place : (frame_of (after_all (initial p) (take k es)) s.thread).place ≡ s.index

-- the cell that an act reads or writes, if there is one
abbrev pub touched : Act → Option ℕ
touched (Goes k) = None
touched (Assigns l v) = None
touched (Fails n) = None
touched Ends = None
touched (Loads l c v) = Some c
touched (Pushes c v) = Some c
touched (Puts c v) = Some c
touched Fences = None
touched (Takes m) = None
touched (Gives m) = None
touched (Updates l v c w) = Some c
touched (Misses l c) = Some c
touched (Starts u) = None
touched (Joins u) = None
touched Enters = None
touched Leaves = None
