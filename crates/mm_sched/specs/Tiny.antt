-- Small programs, and what is seen of a machine that runs them: examples of the definitions.
use Rattle.std.specs.Prelude.{ℕ, ℤ, pos, Bool, true, false, List, [], ◌∷◌, Option, None, is_some, option_map}
use Rattle.mm_goto.specs.Bounds.{uniform}
use Rattle.mm_goto.specs.declared.model.Model.TheVariants.{Tso, Pso}
use Rattle.mm_goto.specs.declared.program.Cell.{Cell}
use Rattle.mm_goto.specs.declared.program.Thread.{Thread}
use Rattle.mm_goto.specs.declared.program.Target.TheVariants as target
use Rattle.mm_goto.specs.declared.program.Instr.{Instr}
use Rattle.mm_goto.specs.declared.program.Instr.TheVariants.{Set, Load, Store, Assert, Cas, Start, End}
use Rattle.mm_sched.specs.declared.entry.Entry.{Entry}
use Rattle.mm_sched.specs.declared.entry.Rules.{Rules}
use Rattle.mm_sched.specs.declared.entry.Rules.TheVariants.{Buffered}
use Rattle.mm_goto.specs.declared.pure.Binary.{Binary}
use Rattle.mm_goto.specs.Listing.{Listing}
use Rattle.mm_sched.specs.State.{State, initial, frame_of, at_local}
use Rattle.mm_sched.specs.Event.{next}
use Rattle.mm_sched.specs.Runs.{run}
use Rattle.mm_goto.specs.Terms.{constant, combined}
use Rattle.mm_goto.specs.Value.{value_of}

-- ---- programs

-- a cell that is 0 at the start
abbrev pub zero_cell : Cell
zero_cell = record { name = []; index = None; pointer = false; init = constant (pos 0) }

-- a cell that is z at the start
abbrev pub cell_from : ℤ → Cell
cell_from z = record zero_cell { init = constant z }

-- a thread of two locals
abbrev pub thread_of : List Instr → Thread
thread_of code = record { locals = 2; code = code; places = [] }

-- two cells, a mutex, and the code of main
abbrev pub alone : List Instr → Listing
alone code = record { cells = zero_cell ∷ zero_cell ∷ []; mutexes = [] ∷ []; threads = thread_of code ∷ [] }

-- the same with a second thread
abbrev pub beside : List Instr → List Instr → Listing
beside code other = record (alone code) { threads = thread_of code ∷ thread_of other ∷ [] }

-- cell c becomes z
abbrev pub put : ℕ → ℕ → Instr
put c z = Store (target.Cell c) (constant (pos z))

-- local l becomes what cell c has
abbrev pub get : ℕ → ℕ → Instr
get l c = Load l (target.Cell c)

-- where cell c is `from` it becomes `to`, and local l says whether it did
abbrev pub cas : ℕ → ℕ → ℕ → ℕ → Instr
cas l c from to = Cas l (target.Cell c) (constant (pos from)) (constant (pos to))

-- an assertion that fails n
abbrev pub fail : ℕ → Instr
fail n = Assert (constant (pos 0)) n

-- a number before its operator, one behind it, and the value
abbrev pub result_of : Binary → ℤ → ℤ → ℤ
result_of op x y = value_of (combined op (constant x) (constant y)) []

-- the same code with two mutexes
abbrev pub of_two_mutexes : List Instr → Listing
of_two_mutexes code = record (alone code) { mutexes = [] ∷ [] ∷ [] }

-- main has so many locals, of which the first becomes z, and assertion 3 fails
abbrev pub failing : ℕ → ℤ → Listing
failing n z = record (alone []) { threads = record { locals = n; code = Set 0 (constant z) ∷ fail 3 ∷ End ∷ []; places = [] } ∷ [] }

-- two cells that begin so, and main reads the second
abbrev pub from_values : ℤ → ℤ → Listing
from_values x y = record (alone (get 1 1 ∷ End ∷ [])) { cells = cell_from x ∷ cell_from y ∷ [] }

-- each thread writes a cell and reads the other
abbrev pub store_buffering : Listing
store_buffering = beside (Start 1 ∷ put 0 1 ∷ get 0 1 ∷ End ∷ []) (put 1 1 ∷ get 0 0 ∷ End ∷ [])

-- main writes a message and then a flag, and the other thread reads the flag and then the message
abbrev pub message_passing : Listing
message_passing = beside (Start 1 ∷ put 0 5 ∷ put 1 1 ∷ End ∷ []) (get 0 1 ∷ get 1 0 ∷ End ∷ [])

-- ---- machines

abbrev pub tso : ℕ → Rules
tso n = Buffered Tso (uniform n)

abbrev pub pso : ℕ → Rules
pso n = Buffered Pso (uniform n)

-- of main's stores the one at its first place
abbrev pub first_alone : List (List Bool)
first_alone = (true ∷ []) ∷ []

-- the one at its second place
abbrev pub second_alone : List (List Bool)
second_alone = (false ∷ true ∷ []) ∷ []

-- ---- what is seen after a schedule, from the start

abbrev pub state_after : Rules → Listing → List Entry → Option State
state_after r p es = run r p (initial p) es

abbrev pub memory_after : Rules → Listing → List Entry → Option (List ℤ)
memory_after r p es = option_map (λ s. s.memory) (state_after r p es)

abbrev pub verdict_after : Rules → Listing → List Entry → Option (Option ℕ)
verdict_after r p es = option_map (λ s. s.verdict) (state_after r p es)

-- the place of thread t
abbrev pub place_after : Rules → Listing → List Entry → ℕ → Option ℕ
place_after r p es t = option_map (λ s. (frame_of s t).place) (state_after r p es)

-- what local l of thread t has
abbrev pub local_after : Rules → Listing → List Entry → ℕ → ℕ → Option ℤ
local_after r p es t l = option_map (λ s. at_local s t l) (state_after r p es)

-- whether the entry is enabled then
abbrev pub enabled_after : Rules → Listing → List Entry → Entry → Option Bool
enabled_after r p es e = option_map (λ s. is_some (next r p s e)) (state_after r p es)
