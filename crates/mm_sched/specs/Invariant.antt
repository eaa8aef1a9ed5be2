-- What a program's machine goes by: its states fit the program, and its events what there is in the state.
use Rattle.std.specs.Prelude.{◌≡◌, ◌≢◌, ℕ, ◌+◌, ◌*◌, ◌^◌, ◌<◌, ◌≤◌, List, [], All, length, slice_get, Some}
use Rattle.mm_goto.specs.Bounds.{Bounding, bound_of, greatest}
use Rattle.mm_goto.specs.declared.model.Model.{Model}
use Rattle.mm_goto.specs.declared.model.Model.TheVariants.{Tso, Pso}
use Rattle.mm_goto.specs.declared.program.Thread.{Thread}
use Rattle.mm_goto.specs.declared.program.Target.{Target}
use Rattle.mm_goto.specs.declared.program.Target.TheVariants.{Cell, Elem, Deref}
use Rattle.mm_goto.specs.declared.program.Instr.{Instr}
use Rattle.mm_goto.specs.declared.program.Instr.TheVariants.{Set, Load, Store, Input, Jump, Branch, Assert, Assume, Fence, Lock, Unlock, Add, Cas, Start, Join, AtomBegin, AtomEnd, End}
use Rattle.mm_goto.specs.Listing.{Listing}
use Rattle.mm_goto.specs.Locals.{local_bound}
use Rattle.mm_goto.specs.Valid.{IsValid}
use Rattle.mm_sched.specs.declared.entry.Rules.{Rules}
use Rattle.mm_sched.specs.declared.entry.Rules.TheVariants.{Sc, Buffered, Partial}
use Rattle.mm_sched.specs.declared.entry.Act.{Act}
use Rattle.mm_sched.specs.declared.entry.Act.TheVariants.{Goes, Assigns, Fails, Ends, Loads, Pushes, Puts, Fences, Takes, Gives, Updates, Misses, Starts, Joins, Enters, Leaves}
use Rattle.mm_sched.specs.declared.entry.Event.{Event}
use Rattle.mm_sched.specs.declared.entry.Event.TheVariants.{Does, Flushes}
use Rattle.mm_sched.specs.State.{State, Pending, frame_of, pending_of}
use Rattle.mm_sched.specs.Buffer.{part}
use Rattle.mm_sched.specs.Running.{Roomy}

-- ---- states

-- no more stores of thread t are pending than the rules let be
abbrev pub IsBounded : Rules → ℕ → List Pending → Type 0
IsBounded Sc t ps = ps ≡ []
IsBounded (Buffered m bound) t ps = (c : ℕ) → length (part m ps c) ≤ bound_of bound t
IsBounded (Partial m bound set) t ps = (c : ℕ) → length (part m ps c) ≤ bound_of bound t

-- how many stores of any thread may be pending: under PSO the bound for each cell
abbrev pub room_under : Model → Bounding → ℕ → ℕ
room_under Tso bound cells = greatest bound
room_under Pso bound cells = greatest bound * cells

abbrev pub room_of : Rules → ℕ → ℕ
room_of Sc cells = 0
room_of (Buffered m bound) cells = room_under m bound cells
room_of (Partial m bound set) cells = room_under m bound cells

-- the program is valid, the state has its cells, mutexes, threads and locals, and what is pending is to its cells, within the
-- bound
pub record Fits (r : Rules) (p : Listing) (s : State) : Type 0 where
  pub valid : IsValid p
  pub memory : length s.memory ≡ length p.cells
  pub owners : length s.owners ≡ length p.mutexes
  pub threads : length s.threads ≡ length p.threads
  pub pending : length s.pending ≡ length p.threads
  pub locals : (t : ℕ) (thread : Thread) → slice_get p.threads t ≡ Some thread → length (frame_of s t).locals ≡ thread.locals
  pub cells : (t : ℕ) → All (λ q. q.0 < length p.cells) (pending_of s t)
  pub bounded : (t : ℕ) → IsBounded r t (pending_of s t)

-- ---- instructions

abbrev pub IsTargetWithin : ℕ → ℕ → Target → Type 0
IsTargetWithin cells locals (Cell c) = c < cells
IsTargetWithin cells locals (Elem first len index) = (first + len ≤ cells) × (local_bound index ≤ locals)
IsTargetWithin cells locals (Deref e) = local_bound e ≤ locals

-- the instruction names so many cells and locals at most
abbrev pub IsWithin : ℕ → ℕ → Instr → Type 0
IsWithin cells locals (Set l e) = (l < locals) × (local_bound e ≤ locals)
IsWithin cells locals (Load l target) = (l < locals) × IsTargetWithin cells locals target
IsWithin cells locals (Store target e) = IsTargetWithin cells locals target × (local_bound e ≤ locals)
IsWithin cells locals (Input l) = l < locals
IsWithin cells locals (Jump k) = Unit {0}
IsWithin cells locals (Branch e k) = local_bound e ≤ locals
IsWithin cells locals (Assert e n) = local_bound e ≤ locals
IsWithin cells locals (Assume e) = local_bound e ≤ locals
IsWithin cells locals Fence = Unit {0}
IsWithin cells locals (Lock m) = Unit {0}
IsWithin cells locals (Unlock m) = Unit {0}
IsWithin cells locals (Add l target e) = (l < locals) × IsTargetWithin cells locals target × (local_bound e ≤ locals)
IsWithin cells locals (Cas l target e g) =
    (l < locals) × IsTargetWithin cells locals target × (local_bound e ≤ locals) × (local_bound g ≤ locals)
IsWithin cells locals (Start u) = Unit {0}
IsWithin cells locals (Join u) = Unit {0}
IsWithin cells locals AtomBegin = Unit {0}
IsWithin cells locals AtomEnd = Unit {0}
IsWithin cells locals End = Unit {0}

-- ---- events

-- the local that the act changes is one of so many
abbrev pub IsLocalWithin : ℕ → Act → Type 0
IsLocalWithin locals (Goes k) = Unit {0}
IsLocalWithin locals (Assigns l v) = l < locals
IsLocalWithin locals (Fails n) = Unit {0}
IsLocalWithin locals Ends = Unit {0}
IsLocalWithin locals (Loads l c v) = l < locals
IsLocalWithin locals (Pushes c v) = Unit {0}
IsLocalWithin locals (Puts c v) = Unit {0}
IsLocalWithin locals Fences = Unit {0}
IsLocalWithin locals (Takes m) = Unit {0}
IsLocalWithin locals (Gives m) = Unit {0}
IsLocalWithin locals (Updates l v c w) = l < locals
IsLocalWithin locals (Misses l c) = l < locals
IsLocalWithin locals (Starts u) = Unit {0}
IsLocalWithin locals (Joins u) = Unit {0}
IsLocalWithin locals Enters = Unit {0}
IsLocalWithin locals Leaves = Unit {0}

-- what else the act of thread t changes is there
abbrev pub IsThere : Roomy → ℕ → Act → Type 0
IsThere m t (Goes k) = Unit {0}
IsThere m t (Assigns l v) = Unit {0}
IsThere m t (Fails n) = Unit {0}
IsThere m t Ends = Unit {0}
IsThere m t (Loads l c v) = Unit {0}
IsThere m t (Pushes c v) = length (pending_of m.state t) < m.room
IsThere m t (Puts c v) = c < length m.state.memory
IsThere m t Fences = Unit {0}
IsThere m t (Takes k) = k < length m.state.owners
IsThere m t (Gives k) = k < length m.state.owners
IsThere m t (Updates l v c w) = c < length m.state.memory
IsThere m t (Misses l c) = Unit {0}
IsThere m t (Starts u) = (u < length m.state.threads) × (u ≢ t)
IsThere m t (Joins u) = Unit {0}
IsThere m t Enters = Unit {0}
IsThere m t Leaves = Unit {0}

-- the machine can do the act of thread t
pub record CanDo (m : Roomy) (t : ℕ) (a : Act) : Type 0 where
  pub thread : t < length m.state.threads
  pub pending : t < length m.state.pending
  pub place : (frame_of m.state t).place + 1 < 2 ^ 32
  pub local : IsLocalWithin (length (frame_of m.state t).locals) a
  pub there : IsThere m t a

-- the event can happen in the machine
abbrev pub CanHappen : Roomy → Event → Type 0
CanHappen m (Does t a) = CanDo m t a
CanHappen m (Flushes t c v) = (t < length m.state.pending) × (c < length m.state.memory)
