-- What the tool answers for the words of a command and an input.
use Rattle.std.specs.Prelude.{◌≡◌, ◌↔◌, ◌++◌, ℕ, List, codes, Option}
use Rattle.std.specs.Str.{IsUtf8, chars}
use Rattle.std.specs.Io.KnownBytes.{Appends}
use Rattle.mm_goto.specs.declared.ident.At.{At}
use Rattle.mm_goto.specs.declared.model.Model.{Model}
use Rattle.mm_goto.specs.Bounds.{Bounding}
use Rattle.mm_goto.specs.Listing.{Listing}
use Rattle.mm_goto.specs.Place.{place_after, start}
use Rattle.mm_goto.specs.declared.shape.Head.{Head}
use Rattle.mm_goto.specs.declared.shape.Shape.{Shape}
use Rattle.mm_graph.specs.declared.fault.GraphFault.TheVariants.{TooManySites, TooManyCells}
use Rattle.mm_graph.specs.Graphs.{IsSmall}
use Rattle.mm_graph.specs.Refusals.{IsRefused as IsTooLarge}
use Rattle.mm_delay.specs.Plans.{IsHeadOf, IsPlanOf}
use Rattle.mm_report.specs.Reports.{IsReport}
use Rattle.mm_sched.specs.declared.entry.Rules.{Rules}
use Rattle.mm_sched.specs.declared.entry.Rules.TheVariants.{Sc, Buffered}
use Rattle.mm_sched.specs.Runs.{Reaches}
use Rattle.mm_tree.specs.declared.side.Side.{Side}
use Rattle.mm_tree.specs.declared.side.Side.TheVariants.{Source, Output}
use Rattle.mm_print.specs.Meaning.{IsProgramOf}
use Rattle.mm_print.specs.Items.{printed_text}
use Rattle.mm_instr.specs.Woven.{woven}
use Rattle.mm_small.specs.Flat.{listing_of}
use Rattle.mm_small.specs.SmallTree.{IsWithinLimits}
use Rattle.mm_small.specs.declared.tree.Small.{Small}
use Rattle.mm_run.specs.declared.command.Settings.{Settings}
use Rattle.mm_run.specs.declared.command.Settings.TheVariants.{Instrument, Cycles, ReplaySc, Replay}
use Rattle.mm_run.specs.declared.status.Status.{Status}
use Rattle.mm_run.specs.declared.status.Status.TheVariants.{Done, Words, ReadFault, TooLong, Refused, BadSchedule, Stuck, NotFailing, WriteFault, NoMemory}
use Rattle.mm_run.specs.Input.{IsWhole, IsTooLong}
use Rattle.mm_run.specs.Lines.{refusal_line}
use Rattle.mm_run.specs.Output.{AppendsPart}
use Rattle.mm_run.specs.Parts.{IsNotUtf8, IsSplit, LacksPart}
use Rattle.mm_run.specs.Program.{IsNoProgram, IsProgramText, side_for}
use Rattle.mm_run.specs.Outcome.{Outcome, TellsVerdict}

-- ---- the size of a program

-- the answer where a program is too large for an event graph
pub data IsTooLargeFor (p : Listing) : Status → List ℕ → Type 0 where
  too_many_sites : IsTooLarge p TooManySites
      → IsTooLargeFor p Refused (refusal_line start (codes "too many sites"))
  too_many_cells : IsTooLarge p TooManyCells
      → IsTooLargeFor p Refused (refusal_line start (codes "too many shared cells"))

-- ---- the woven program

-- The output is the text of the woven program of p for its plan: just the stores that have a delay cycle are buffered, and the
-- first lines list them.
pub record IsWoven (p : Listing) (m : Model) (bound : Bounding) (out : List ℕ) : Type 0 where
  pub shape : Shape
  pub head : Head
  pub plan : IsPlanOf p m bound shape head
  pub text : out ≡ printed_text (woven p shape) head

-- p is the goto program of a small program: main alone, which stores numbers and globals in globals and asserts that a global
-- has a number
pub record IsOfSmall (p : Listing) : Type 0 where
  pub small : Small
  pub within : IsWithinLimits small
  pub flat : p ≡ listing_of small

-- under sequential consistency q fails just the assertions that p fails with store buffers of this bound under the model
abbrev pub FailsAsBuffered : Listing → Listing → Model → Bounding → Type 0
FailsAsBuffered q p m bound = (n : ℕ) → Reaches Sc q n ↔ Reaches (Buffered m bound) p n

-- The output is a program again: by the same grammar, and by the rules of names and types and the limits for woven programs.
abbrev pub IsReadAgain : List ℕ → Type 0
IsReadAgain out = (q : Listing) × IsProgramText Output out q

-- any goto program that the output has fails under sequential consistency as p does with store buffers of this bound under the model
abbrev pub IsAlike : Listing → Model → Bounding → List ℕ → Type 0
IsAlike p m bound out = (q : Listing) → IsProgramOf Output out q → FailsAsBuffered q p m bound

-- the status and the output of `instrument` for a goto program; that the output fails alike is said of small programs
pub data PrintsWoven (m : Model) (bound : Bounding) (p : Listing) : Status → List ℕ → Type 0 where
  too_large : {status : Status} {out : List ℕ}
      → IsTooLargeFor p status out
      → PrintsWoven m bound p status out
  done : {out : List ℕ}
      → IsSmall p
      → IsWoven p m bound out
      → IsReadAgain out
      → (IsOfSmall p → IsAlike p m bound out)
      → PrintsWoven m bound p Done out

-- ---- delay cycles

-- The status and the output of `cycles` for a goto program: the report on the stores that have a delay cycle, in one line, but where
-- the program is too large for an event graph.
pub data ReportsCycles (m : Model) (bound : Bounding) (p : Listing) : Status → List ℕ → Type 0 where
  too_large : {status : Status} {out : List ℕ}
      → IsTooLargeFor p status out
      → ReportsCycles m bound p status out
  reported : {line : List ℕ} (head : Head)
      → IsSmall p
      → IsHeadOf p m bound head
      → IsReport p head line
      → ReportsCycles m bound p Done (line ++ codes "\n")

-- ---- parts of an input

-- the text is refused, and the output says where and why
pub data Refusing (side : Side) (text : List ℕ) : Status → List ℕ → Type 0 where
  refused : (at : At) (why : List ℕ)
      → IsNoProgram side text at why
      → Refusing side text Refused (refusal_line at why)

-- What a command answers for the goto program of its input, or for one and the text of a schedule.
abbrev pub ProgramAnswer : Type 1
ProgramAnswer = Listing → Status → List ℕ → Type 0

abbrev pub ScheduleAnswer : Type 1
ScheduleAnswer = Listing → List ℕ → Status → List ℕ → Type 0

-- the status and the output of a command that takes a program
pub data AnswersProgram (side : Side) (Gives : ProgramAnswer) (input : List ℕ) : Status → List ℕ → Type 0 where
  refused : {status : Status} {out : List ℕ}
      → Refusing side input status out
      → AnswersProgram side Gives input status out
  program : {status : Status} {out : List ℕ} (p : Listing)
      → IsProgramText side input p
      → Gives p status out
      → AnswersProgram side Gives input status out

-- the status and the output of a command that takes a program and a schedule, by the side on which a program of this text is read
pub data AnswersParts (side_of : List ℕ → Side) (Gives : ScheduleAnswer) (input : List ℕ) : Status → List ℕ → Type 0 where
  one_part : LacksPart input
      → AnswersParts side_of Gives input Refused (refusal_line (place_after (chars input)) (codes "missing part"))
  refused : {status : Status} {out : List ℕ} (program schedule : List ℕ)
      → IsSplit input program schedule
      → Refusing (side_of program) program status out
      → AnswersParts side_of Gives input status out
  both : {status : Status} {out : List ℕ} (program schedule : List ℕ) (p : Listing)
      → IsSplit input program schedule
      → IsProgramText (side_of program) program p
      → Gives p schedule status out
      → AnswersParts side_of Gives input status out

-- ---- the whole input

-- `replay` runs the schedule on the program of the input
abbrev pub Replays : Rules → ScheduleAnswer
Replays r p = Outcome r p TellsVerdict

-- the status and the output for an input that is a text
abbrev pub AnswersText : Settings → List ℕ → Status → List ℕ → Type 0
AnswersText (Instrument m bound) = AnswersProgram Source (PrintsWoven m bound)
AnswersText (Cycles m bound) = AnswersProgram Source (ReportsCycles m bound)
AnswersText ReplaySc = AnswersParts (side_for Sc) (Replays Sc)
AnswersText (Replay m bound) = AnswersParts (side_for (Buffered m bound)) (Replays (Buffered m bound))

-- the status and the output for an input of at most the greatest length
pub data AnswersWhole (s : Settings) (input : List ℕ) : Status → List ℕ → Type 0 where
  no_text : (at : At)
      → IsNotUtf8 input at
      → AnswersWhole s input Refused (refusal_line at (codes "not UTF-8"))
  text : {status : Status} {out : List ℕ}
      → IsUtf8 input
      → AnswersText s input status out
      → AnswersWhole s input status out

-- the status and the output of a command that reads its input, by what is left of it
pub data AnswersInput (s : Settings) (old new : Option (List ℕ)) : Status → List ℕ → Type 0 where
  whole : {status : Status} {out : List ℕ} (bytes : List ℕ)
      → IsWhole old new bytes
      → AnswersWhole s bytes status out
      → AnswersInput s old new status out
  too_long : IsTooLong old new → AnswersInput s old new TooLong (codes "too long\n")

-- what a command reads, and the status and the output for it; each of these commands reads its input
abbrev pub Responds : Settings → Option (List ℕ) → Option (List ℕ) → Status → List ℕ → Type 0
Responds (Instrument m bound) = AnswersInput (Instrument m bound)
Responds (Cycles m bound) = AnswersInput (Cycles m bound)
Responds ReplaySc = AnswersInput ReplaySc
Responds (Replay m bound) = AnswersInput (Replay m bound)

-- ---- the output

-- the output was written whole
pub record Writes (s : Settings) (old new taken now : Option (List ℕ)) (status : Status) : Type 0 where
  pub out : List ℕ
  pub responds : Responds s old new status out
  pub written : Appends taken now out

-- a write failed, and the output lacks its end
pub record BreaksOff (s : Settings) (old new taken now : Option (List ℕ)) : Type 0 where
  pub status : Status
  pub out : List ℕ
  pub responds : Responds s old new status out
  pub written : AppendsPart taken now out

-- how a command ends, by what is left of the input and what is taken of the output
abbrev pub Ends : Settings → Option (List ℕ) → Option (List ℕ) → Option (List ℕ) → Option (List ℕ) → Status → Type 0
Ends s old new taken now Done = Writes s old new taken now Done
Ends s old new taken now Words = ⊥
Ends s old new taken now ReadFault = Unit {0}
Ends s old new taken now TooLong = Writes s old new taken now TooLong
Ends s old new taken now Refused = Writes s old new taken now Refused
Ends s old new taken now BadSchedule = Writes s old new taken now BadSchedule
Ends s old new taken now Stuck = Writes s old new taken now Stuck
Ends s old new taken now NotFailing = Writes s old new taken now NotFailing
Ends s old new taken now WriteFault = BreaksOff s old new taken now
Ends s old new taken now NoMemory = Unit {0}

-- nothing is written where the words are no command, a read failed or memory was wanting
abbrev pub WritesNothing : Status → Type 0
WritesNothing Done = ⊥
WritesNothing Words = Unit {0}
WritesNothing ReadFault = Unit {0}
WritesNothing TooLong = ⊥
WritesNothing Refused = ⊥
WritesNothing BadSchedule = ⊥
WritesNothing Stuck = ⊥
WritesNothing NotFailing = ⊥
WritesNothing WriteFault = ⊥
WritesNothing NoMemory = Unit {0}

-- the status tells what came of an input that was read
abbrev pub IsOfInput : Status → Type 0
IsOfInput Done = Unit {0}
IsOfInput Words = ⊥
IsOfInput ReadFault = ⊥
IsOfInput TooLong = Unit {0}
IsOfInput Refused = Unit {0}
IsOfInput BadSchedule = Unit {0}
IsOfInput Stuck = Unit {0}
IsOfInput NotFailing = Unit {0}
IsOfInput WriteFault = ⊥
IsOfInput NoMemory = ⊥

-- done, or kept from it by a fault or by want of memory
abbrev pub IsDoneOrKept : Status → Type 0
IsDoneOrKept Done = Unit {0}
IsDoneOrKept Words = ⊥
IsDoneOrKept ReadFault = Unit {0}
IsDoneOrKept TooLong = ⊥
IsDoneOrKept Refused = ⊥
IsDoneOrKept BadSchedule = ⊥
IsDoneOrKept Stuck = ⊥
IsDoneOrKept NotFailing = ⊥
IsDoneOrKept WriteFault = Unit {0}
IsDoneOrKept NoMemory = Unit {0}
