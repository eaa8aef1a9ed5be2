-- Pending stores. A machine differs from another in what stands here alone: how a store acts, which pending stores count
-- for a cell, and which of them a flush takes. After x86-TSO (Owens, Sarkar and Sewell, "A better x86 memory model:
-- x86-TSO"), and for partial store order the same with a list for each cell (SPARC Architecture Manual, version 8, PSO).
use Rattle.std.specs.Prelude.{ℕ, ℤ, Bool, true, false, if◌then◌else◌, ◌==◌, nat_lt, List, [], ◌∷◌, length, filter, find, reverse, slice_get, slice_index_or, Option, None, option_map, unwrap_or}
use Rattle.mm_goto.specs.Bounds.{bound_of}
use Rattle.mm_goto.specs.declared.model.Model.{Model}
use Rattle.mm_goto.specs.declared.model.Model.TheVariants.{Tso, Pso}
use Rattle.mm_sched.specs.declared.entry.Entry.{Entry}
use Rattle.mm_sched.specs.declared.entry.Entry.TheVariants.{Step, In, Flush, FlushCell}
use Rattle.mm_sched.specs.declared.entry.Rules.{Rules}
use Rattle.mm_sched.specs.declared.entry.Rules.TheVariants.{Sc, Buffered, Partial}
use Rattle.mm_sched.specs.declared.entry.How.{How}
use Rattle.mm_sched.specs.declared.entry.How.TheVariants.{AtOnce, Delayed, NotEnabled}
use Rattle.mm_sched.specs.State.{State, Pending, pending_of, at_cell}

-- there is nothing in the list
abbrev pub is_empty : {A : Type 0} → List A → Bool
is_empty [] = true
is_empty (x ∷ xs) = false

-- the pending store is to cell c
abbrev pub is_to : ℕ → Pending → Bool
is_to c q = q.0 == c

-- the pending stores that count for cell c: all of the thread under TSO, those to the cell under PSO. A flush takes the first
-- of them
abbrev pub part : Model → List Pending → ℕ → List Pending
part Tso ps c = ps
part Pso ps c = filter (is_to c) ps

-- the pending stores without the oldest one to cell c
abbrev pub without : List Pending → ℕ → List Pending
without [] c = []
without (q ∷ ps) c = if is_to c q then ps else q ∷ without ps c

-- the value of the newest pending store to cell c
abbrev pub newest : List Pending → ℕ → Option ℤ
newest ps c = option_map (λ q. q.1) (find (is_to c) (reverse ps))

-- what thread t reads at cell c: its own newest pending store, else memory
abbrev pub seen : State → ℕ → ℕ → ℤ
seen s t c = unwrap_or (newest (pending_of s t) c) (at_cell s c)

-- the store of thread t at place k is one of the set
abbrev pub is_in : List (List Bool) → ℕ → ℕ → Bool
is_in set t k = slice_index_or (slice_index_or set t []) k false

-- there is room for one more, where so many may be pending
abbrev pub pends : Model → ℕ → List Pending → ℕ → How
pends m room ps c = if nat_lt (length (part m ps c)) room then Delayed else NotEnabled

-- none that counts is pending
abbrev pub writes : Model → List Pending → ℕ → How
writes m ps c = if is_empty (part m ps c) then AtOnce else NotEnabled

-- how the store of thread t at place k to cell c acts where these are pending
abbrev pub store_of : Rules → ℕ → ℕ → List Pending → ℕ → How
store_of Sc t k ps c = AtOnce
store_of (Buffered m bound) t k ps c = pends m (bound_of bound t) ps c
store_of (Partial m bound set) t k ps c = if is_in set t k then pends m (bound_of bound t) ps c else writes m ps c

-- the pending store that the entry moves to memory under the model: the oldest under TSO, the oldest to the cell under PSO
abbrev pub flush_under : Model → Entry → List Pending → Option Pending
flush_under m (Step t) ps = None
flush_under m (In t v) ps = None
flush_under Tso (Flush t) ps = slice_get ps 0
flush_under Pso (Flush t) ps = None
flush_under Tso (FlushCell t c) ps = None
flush_under Pso (FlushCell t c) ps = find (is_to c) ps

-- the pending store that the entry moves to memory: none under sequential consistency, where none is ever pending
abbrev pub flush_of : Rules → Entry → List Pending → Option Pending
flush_of Sc e ps = None
flush_of (Buffered m bound) e ps = flush_under m e ps
flush_of (Partial m bound set) e ps = flush_under m e ps
