-- Atomic sections: from its begin to its end the code is the thread's own.
use Rattle.std.specs.Prelude.{◌≡◌, ℕ, ◌+◌, ◌<◌, ℤ, true, false, List, [], length, slice_get, slice_set, Some, None, ◌⊎◌}
use Rattle.mm_goto.specs.Listing.{Listing}
use Rattle.mm_goto.specs.declared.program.Instr.{Instr}
use Rattle.mm_goto.specs.declared.program.Instr.TheVariants.{AtomBegin, AtomEnd}
use Rattle.mm_sched.specs.declared.entry.Entry.{Entry}
use Rattle.mm_sched.specs.declared.entry.Rules.TheVariants.{Sc}
use Rattle.mm_sched.specs.State.{State, Frame, pending_of}
use Rattle.mm_sched.specs.Event.{fetched}
use Rattle.mm_sched.specs.Runs.{run}
use Rattle.mm_flow.specs.Flow.{Flow, Ways, size}
use Rattle.mm_meaning.specs.Meaning.{View, Outcome, Done, Left, Failed, Halted, Other}
use Rattle.mm_meaning.specs.Standing.{Is, Stands}
use Rattle.mm_meaning.specs.Inside.{inputs_of, stays, frame}

-- thread t has this code
abbrev pub HasCode : Listing → ℕ → List Instr → Type 0
HasCode p t code = (k : ℕ) → fetched p t k ≡ slice_get code k

-- thread t has the frame f and may step, nobody is in a section, and it has nothing pending
pub record MayEnter (s : State) (t : ℕ) (f : Frame) : Type 0 where
  pub has : slice_get s.threads t ≡ Some f
  pub started : f.started ≡ true
  pub going : f.ended ≡ false
  pub free : s.section ≡ None
  pub unfailed : s.verdict ≡ None
  pub dry : pending_of s t ≡ []

-- a section stands at place k: its begin, its body and its end
pub record SectionAt (code : List Instr) (k : ℕ) (c : Flow) (x : Ways) : Type 0 where
  pub first : Is code k AtomBegin
  pub body : Stands code x c (k + 1)
  pub last : Is code (k + 1 + size c) AtomEnd

-- what a thread sees where these inputs are to come
abbrev pub sees : State → Frame → List ℤ → View
sees s f ins = record { memory = s.memory; locals = f.locals; inputs = ins }

-- s, but that thread t is at place k outside of sections, and sees this
abbrev pub behind : State → ℕ → ℕ → View → State
behind s t k v = record s { memory = v.memory; section = None; verdict = None; threads = slice_set s.threads t (frame k v) }

-- the rest es of a schedule, which ends in z, leads over the section to place k, and goes on from there with fewer entries
pub record GoesOn (p : Listing) (s : State) (t : ℕ) (k : ℕ) (v : View) (es : List Entry) (z : State) : Type 0 where
  pub later : List Entry
  pub fewer : length later < length es
  pub left : inputs_of later ≡ v.inputs
  pub goes : run Sc p (behind s t k v) later ≡ Some z

-- how the rest es of any schedule, which ends in z, goes on from a section whose body has this outcome and which ends before
-- place k: over it, to the assertion that fails in it, or it ends in it
abbrev pub Section : Listing → State → ℕ → ℕ → List Entry → State → Outcome → Type 0
Section p s t k es z (Done v) = GoesOn p s t k v es z ⊎ (stays z t ≡ true)
Section p s t k es z (Left w v) = Unit {0}
Section p s t k es z (Failed a) = (z.verdict ≡ Some a) ⊎ (stays z t ≡ true)
Section p s t k es z Halted = stays z t ≡ true
Section p s t k es z Other = Unit {0}
