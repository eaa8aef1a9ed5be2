-- Which inputs are accepted whole, so that only a fault or want of memory keeps a command from its end.
use Rattle.std.specs.Prelude.{◌≡◌, ℕ, List, Some}
use Rattle.std.specs.Str.{IsUtf8}
use Rattle.mm_goto.specs.Listing.{Listing}
use Rattle.mm_graph.specs.Graphs.{IsSmall}
use Rattle.mm_tree.specs.declared.side.Side.{Side}
use Rattle.mm_tree.specs.declared.side.Side.TheVariants.{Source}
use Rattle.mm_sched.specs.declared.entry.Rules.{Rules}
use Rattle.mm_sched.specs.declared.entry.Rules.TheVariants.{Sc, Buffered}
use Rattle.mm_sched.specs.declared.schedule.Line.{Line}
use Rattle.mm_sched.specs.State.{State, initial}
use Rattle.mm_sched.specs.Runs.{run}
use Rattle.mm_sched.specs.ScheduleText.{IsSchedule, entries_in}
use Rattle.mm_run.specs.declared.command.Settings.{Settings}
use Rattle.mm_run.specs.declared.command.Settings.TheVariants.{Instrument, Cycles, ReplaySc, Replay}
use Rattle.mm_run.specs.Parts.{IsSplit}
use Rattle.mm_run.specs.Program.{IsProgramText, side_for}

-- a program and a schedule that is a run of it
pub record IsRun (side_of : List ℕ → Side) (r : Rules) (input : List ℕ) : Type 0 where
  pub program : List ℕ
  pub schedule : List ℕ
  pub listing : Listing
  pub lines : List Line
  pub last : State
  pub split : IsSplit input program schedule
  pub accepted : IsProgramText (side_of program) program listing
  pub fits : IsSchedule schedule lines
  pub runs : run r listing (initial listing) (entries_in lines) ≡ Some last

-- the parts of the input are what the command asks for
abbrev pub HasParts : Settings → List ℕ → Type 0
HasParts (Instrument m bound) input = (p : Listing) × IsProgramText Source input p × IsSmall p
HasParts (Cycles m bound) input = (p : Listing) × IsProgramText Source input p × IsSmall p
HasParts ReplaySc input = IsRun (side_for Sc) Sc input
HasParts (Replay m bound) input = IsRun (side_for (Buffered m bound)) (Buffered m bound) input

-- the input is a text whose parts are what the command asks for
pub record IsAccepted (s : Settings) (input : List ℕ) : Type 0 where
  pub text : IsUtf8 input
  pub parts : HasParts s input
