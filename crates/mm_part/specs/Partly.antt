-- A program as it runs with partial buffers.
use Rattle.mm_goto.specs.declared.shape.Shape.{Shape}
use Rattle.mm_goto.specs.Listing.{Listing}
use Rattle.mm_sched.specs.declared.entry.Rules.{Rules}
use Rattle.mm_sched.specs.declared.entry.Rules.TheVariants.{Partial}
use Rattle.mm_sched.specs.State.{State}

-- a program, the rules that it runs by, and its state
pub record Partly : Type 0 where
  pub program : Listing
  pub rules : Rules
  pub state : State

-- the rules for a shape: just the stores that it buffers are made pending
abbrev pub rules_for : Shape → Rules
rules_for shape = Partial shape.model shape.bound shape.buffered
