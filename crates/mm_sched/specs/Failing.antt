-- How a schedule fails.
use Rattle.std.specs.Prelude.{◌≡◌, ℕ, true, List, ◌∷◌, ◌++◌, All, Some}
use Rattle.mm_goto.specs.declared.program.Instr.TheVariants.{Assert}
use Rattle.mm_goto.specs.declared.pure.Pure.{Pure}
use Rattle.mm_goto.specs.Listing.{Listing}
use Rattle.mm_goto.specs.Value.{value_of, is_zero}
use Rattle.mm_sched.specs.declared.entry.Entry.{Entry}
use Rattle.mm_sched.specs.declared.entry.Entry.TheVariants.{Step, In, Flush, FlushCell}
use Rattle.mm_sched.specs.declared.entry.Rules.{Rules}
use Rattle.mm_sched.specs.State.{Frame, State, initial}
use Rattle.mm_sched.specs.Runs.{run}
use Rattle.mm_sched.specs.Turn.{IsAt}

-- the entry executes no instruction
abbrev pub IsFlush : Entry → Type 0
IsFlush (Step t) = ⊥
IsFlush (In t v) = ⊥
IsFlush (Flush t) = Unit {0}
IsFlush (FlushCell t c) = Unit {0}

-- the last instruction that the entries execute, from the state s, is thread t's assertion n, whose value is 0: nothing has
-- failed before it, and flushes alone come after it
pub record FailsFrom (r : Rules) (p : Listing) (s : State) (n : ℕ) (es : List Entry) (t : ℕ) : Type 0 where
  pub before : List Entry
  pub behind : List Entry
  pub parts : es ≡ before ++ Step t ∷ behind
  pub mid : State
  pub runs : run r p s before ≡ Some mid
  pub frame : Frame
  pub value : Pure
  pub at : IsAt p mid t frame (Assert value n)
  pub zero : is_zero (value_of value frame.locals) ≡ true
  pub flushes : All IsFlush behind

-- the last instruction of the schedule, from the start
abbrev pub FailsBy : Rules → Listing → ℕ → List Entry → ℕ → Type 0
FailsBy r p n es t = FailsFrom r p (initial p) n es t
