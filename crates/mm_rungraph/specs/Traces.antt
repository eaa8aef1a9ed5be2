-- Runs with what happens in them.
use Rattle.std.specs.Prelude.{◌≡◌, List, [], ◌∷◌, Option, Some}
use Rattle.mm_goto.specs.Listing.{Listing}
use Rattle.mm_sched.specs.declared.entry.Entry.{Entry}
use Rattle.mm_sched.specs.declared.entry.Rules.{Rules}
use Rattle.mm_sched.specs.declared.entry.Event.{Event}
use Rattle.mm_sched.specs.Guarded.{◌>>=◌}
use Rattle.mm_sched.specs.State.{State, initial}
use Rattle.mm_sched.specs.Event.{event, after}

-- what happens by the entries, where each is enabled in its turn
abbrev pub events_of : Rules → Listing → State → List Entry → Option (List Event)
events_of r p s [] = Some []
events_of r p s (e ∷ es) = do
  v ← event r p s e
  vs ← events_of r p (after s v) es
  Some (v ∷ vs)

-- the state behind the events
abbrev pub after_all : State → List Event → State
after_all s [] = s
after_all s (v ∷ vs) = after_all (after s v) vs

-- a run from the start by the entries
pub record Trace (r : Rules) (p : Listing) (es : List Entry) : Type 0 where
  pub events : List Event
  pub happen : events_of r p (initial p) es ≡ Some events
