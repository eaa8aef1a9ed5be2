-- A thread that may step, and its step.
use Rattle.std.specs.Prelude.{◌≡◌, ℕ, Bool, true, false, slice_get, Some, None, IfSome}
use Rattle.mm_goto.specs.declared.model.Model.{Model}
use Rattle.mm_goto.specs.declared.program.Instr.{Instr}
use Rattle.mm_goto.specs.declared.program.Instr.TheVariants.{Set, Load, Store, Input, Jump, Branch, Assert, Assume, Fence, Lock, Unlock, Add, Cas, Start, Join, AtomBegin, AtomEnd, End}
use Rattle.mm_goto.specs.Listing.{Listing}
use Rattle.mm_sched.specs.declared.entry.Entry.TheVariants.{Step}
use Rattle.mm_sched.specs.declared.entry.Rules.{Rules}
use Rattle.mm_sched.specs.declared.entry.Rules.TheVariants.{Sc, Buffered, Partial}
use Rattle.mm_sched.specs.State.{Frame, State}
use Rattle.mm_sched.specs.Event.{fetched, next}

-- thread t has the frame f and is at the instruction i, and it may step: it is started and has not ended, no assertion has
-- failed, and no other thread is in an atomic section
pub record IsAt (p : Listing) (s : State) (t : ℕ) (f : Frame) (i : Instr) : Type 0 where
  pub frame : slice_get s.threads t ≡ Some f
  pub instr : fetched p t f.place ≡ Some i
  pub is_started : f.started ≡ true
  pub has_not_ended : f.ended ≡ false
  pub has_not_failed : s.verdict ≡ None
  pub is_open : IfSome s.section (λ u. u ≡ t)

-- what holds of each thread that is at the instruction and may step
abbrev pub Whenever : Instr → (Rules → Listing → State → ℕ → Frame → Type 0) → Type 0
Whenever i Holds = (r : Rules) (p : Listing) (s : State) (t : ℕ) (f : Frame) → IsAt p s t f i → Holds r p s t f

-- the thread's step leads to the state
abbrev pub StepsTo : Rules → Listing → State → ℕ → State → Type 0
StepsTo r p s t after = next r p s (Step t) ≡ Some after

-- the thread does not step
abbrev pub Waits : Rules → Listing → State → ℕ → Type 0
Waits r p s t = next r p s (Step t) ≡ None

-- the machine's pending stores go by the model
abbrev pub IsUnder : Model → Rules → Type 0
IsUnder m Sc = ⊥
IsUnder m (Buffered n bound) = n ≡ m
IsUnder m (Partial n bound set) = n ≡ m

-- the instruction waits until its thread's stores have reached memory
abbrev pub is_drained : Instr → Bool
is_drained (Set l e) = false
is_drained (Load l target) = false
is_drained (Store target e) = false
is_drained (Input l) = false
is_drained (Jump k) = false
is_drained (Branch e k) = false
is_drained (Assert e n) = false
is_drained (Assume e) = false
is_drained Fence = true
is_drained (Lock m) = true
is_drained (Unlock m) = true
is_drained (Add l target e) = true
is_drained (Cas l target e g) = true
is_drained (Start u) = true
is_drained (Join u) = true
is_drained AtomBegin = false
is_drained AtomEnd = false
is_drained End = false
