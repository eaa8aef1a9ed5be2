-- The state of a machine.
use Rattle.std.specs.Prelude.{ℕ, ℤ, pos, Bool, true, false, List, [], ◌∷◌, map, replicate, slice_index_or, Option, None}
use Rattle.mm_goto.specs.declared.program.Thread.{Thread}
use Rattle.mm_goto.specs.Listing.{Listing}
use Rattle.mm_goto.specs.Value.{value_of}

-- where a thread is in its code, what its locals have, and whether it is started and has ended
pub record Frame : Type 0 where
  pub place : ℕ
  pub locals : List ℤ
  pub started : Bool
  pub ended : Bool

-- a store that has not reached memory: the cell and the value
abbrev pub Pending : Type 0
Pending = ℕ × ℤ

-- all that a machine's next step depends on beside the program
pub record State : Type 0 where
  -- the value of each cell
  pub memory : List ℤ
  -- the thread that has each mutex
  pub owners : List (Option ℕ)
  -- the thread that is in an atomic section
  pub section : Option ℕ
  -- the number of the assertion that failed
  pub verdict : Option ℕ
  pub threads : List Frame
  -- the pending stores of each thread, the oldest first
  pub pending : List (List Pending)

-- a thread that does not exist
abbrev pub idle : Frame
idle = record { place = 0; locals = []; started = false; ended = false }

-- the frame of thread t
abbrev pub frame_of : State → ℕ → Frame
frame_of s t = slice_index_or s.threads t idle

-- the pending stores of thread t, the oldest first
abbrev pub pending_of : State → ℕ → List Pending
pending_of s t = slice_index_or s.pending t []

-- what memory has for cell c
abbrev pub at_cell : State → ℕ → ℤ
at_cell s c = slice_index_or s.memory c (pos 0)

-- what local l of thread t has
abbrev pub at_local : State → ℕ → ℕ → ℤ
at_local s t l = slice_index_or (frame_of s t).locals l (pos 0)

-- a thread before its first instruction, each local 0
abbrev pub at_start : Bool → Thread → Frame
at_start started thread = record { place = 0; locals = replicate thread.locals (pos 0); started = started; ended = false }

-- the threads at the start: main alone is started
abbrev pub all_at_start : List Thread → List Frame
all_at_start [] = []
all_at_start (main ∷ others) = at_start true main ∷ map (at_start false) others

-- the state at the start: each cell has its start value, nobody owns a mutex or a section, and nothing is pending
unfoldable pub initial : Listing → State
initial p = record {
  memory = map (λ cell. value_of cell.init []) p.cells;
  owners = map (λ name. None) p.mutexes;
  section = None;
  verdict = None;
  threads = all_at_start p.threads;
  pending = map (λ thread. []) p.threads;
}
