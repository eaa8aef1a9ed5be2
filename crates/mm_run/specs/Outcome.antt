-- What comes of a schedule on a machine.
use Rattle.std.specs.Prelude.{◌≡◌, ℕ, ◌+◌, List, ◌∷◌, ◌++◌, length, Some, None}
use Rattle.mm_goto.specs.Listing.{Listing}
use Rattle.mm_sched.specs.declared.entry.Entry.{Entry}
use Rattle.mm_sched.specs.declared.entry.Rules.{Rules}
use Rattle.mm_sched.specs.declared.schedule.Line.{Line}
use Rattle.mm_sched.specs.State.{State, initial}
use Rattle.mm_sched.specs.Event.{next}
use Rattle.mm_sched.specs.Runs.{run}
use Rattle.mm_sched.specs.ScheduleText.{IsSchedule, IsBadLine, entries_in}
use Rattle.mm_run.specs.declared.status.Status.{Status}
use Rattle.mm_run.specs.declared.status.Status.TheVariants.{Done, BadSchedule, Stuck}
use Rattle.mm_run.specs.Lines.{bad_line, stuck_line, verdict_line}

-- k entries, each of which is enabled in its turn, come before one that is not
pub record IsStuckBehind (r : Rules) (p : Listing) (from : State) (es : List Entry) (k : ℕ) : Type 0 where
  pub before : List Entry
  pub entry : Entry
  pub behind : List Entry
  pub mid : State
  pub parts : es ≡ before ++ entry ∷ behind
  pub count : length before ≡ k
  pub runs : run r p from before ≡ Some mid
  pub stuck : next r p mid entry ≡ None

-- What a command answers where the schedule is a run: from the entries and the last state, the status and the output.
abbrev pub RunAnswer : Type 1
RunAnswer = List Entry → State → Status → List ℕ → Type 0

-- the status and the output for the text of a schedule of p under the rules
pub data Outcome (r : Rules) (p : Listing) (Ends : RunAnswer) (schedule : List ℕ) : Status → List ℕ → Type 0 where
  bad : (k : ℕ)
      → IsBadLine schedule k
      → Outcome r p Ends schedule BadSchedule (bad_line k)
  stuck : (lines : List Line) (k : ℕ)
      → IsSchedule schedule lines
      → IsStuckBehind r p (initial p) (entries_in lines) k
      → Outcome r p Ends schedule Stuck (stuck_line (k + 1))
  ends : {status : Status} {out : List ℕ} (lines : List Line) (last : State)
      → IsSchedule schedule lines
      → run r p (initial p) (entries_in lines) ≡ Some last
      → Ends (entries_in lines) last status out
      → Outcome r p Ends schedule status out

-- `replay` tells the verdict of the last state
pub data TellsVerdict (es : List Entry) (last : State) : Status → List ℕ → Type 0 where
  verdict : TellsVerdict es last Done (verdict_line last.verdict)
