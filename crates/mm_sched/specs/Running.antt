-- A machine at work.
use Rattle.std.specs.Prelude.{◌≡◌, ℕ, List, Option, Some, None, Result, Ok, Err}
use Rattle.mm_goto.specs.Listing.{Listing}
use Rattle.mm_sched.specs.declared.entry.Stuck.{Stuck}
use Rattle.mm_sched.specs.State.{State, Pending}

-- a program, and the state of the machine that runs it
pub record Running : Type 0 where
  pub program : Listing
  pub state : State

-- a state, with room for so many pending stores of each thread
pub record Roomy : Type 0 where
  pub state : State
  pub room : ℕ

-- the pending stores of each thread, with room for so many of each
pub record Queues : Type 0 where
  pub lists : List (List Pending)
  pub room : ℕ

-- a call goes on to the next state, or there is none and the state stays
abbrev pub Follows : Option State → State → Result (Unit {0}) Stuck → State → Type 0
Follows next old (Ok u) new = next ≡ Some new
Follows next old (Err e) new = (next ≡ None) × (new ≡ old)
