-- A program as it runs with store buffers.
use Rattle.mm_goto.specs.Bounds.{Bounding}
use Rattle.mm_goto.specs.declared.model.Model.{Model}
use Rattle.mm_goto.specs.Listing.{Listing}
use Rattle.mm_sched.specs.declared.entry.Rules.{Rules}
use Rattle.mm_sched.specs.declared.entry.Rules.TheVariants.{Buffered}
use Rattle.mm_sched.specs.State.{State}

-- a program, the model and the bound that it runs under, and its state
pub record Buffering : Type 0 where
  pub program : Listing
  pub model : Model
  pub bound : Bounding
  pub state : State

-- the rules that it runs by: each store is made pending
abbrev pub rules_of : Buffering → Rules
rules_of b = Buffered b.model b.bound
