-- The flushes that a program's inputs ask for.
use Rattle.std.specs.Prelude.{◌≡◌, ℕ, zero, suc, ◌+◌, ◌<◌, ℤ, pos, negsuc, nat_lt, List, [], ◌∷◌, length, slice_get, Option, Some, None}
use Rattle.mm_sched.specs.State.{State, Pending, pending_of}
use Rattle.mm_sched.specs.Event.{is_int, flushed}
use Rattle.mm_meaning.specs.Meaning.{View, pick}
use Rattle.mm_pieces.specs.Mirroring.{Table}

-- the state behind the flushes, and the inputs that are left
pub record Rest : Type 0 where
  pub state : State
  pub inputs : List ℤ

-- the rows: how many there are, the pending stores of each, and the thread whose they are
pub record AllRows : Type 0 where
  pub count : ℕ
  pub stores : State → ℕ → List Pending
  pub thread : ℕ → ℕ

-- a row for each of so many threads
abbrev pub thread_rows : ℕ → AllRows
thread_rows threads = record { count = threads; stores = pending_of; thread = λ t. t }

-- with the oldest of the stores, where there is one
abbrev pub with_oldest : List Pending → (Pending → Option Rest) → Option Rest
with_oldest [] go = None
with_oldest (q ∷ rest) go = go q

-- the value b + 1 asks for a flush of row b, and 0 ends; behind a flush the next input is the next value
abbrev pub flushing : AllRows → State → ℤ → List ℤ → Option Rest
flushing rows s (pos zero) ins = Some (record { state = s; inputs = ins })
flushing rows s (pos (suc b)) [] = None
flushing rows s (pos (suc b)) (v ∷ vs) = pick (nat_lt b rows.count) (with_oldest (rows.stores s b) (λ q. pick (is_int v) (flushing rows (flushed s (rows.thread b) q.0 q.1) v vs) None)) None
flushing rows s (negsuc k) ins = None

-- what inputs ask for, the first of which is the first value
abbrev pub asked : AllRows → State → List ℤ → Option Rest
asked rows s [] = None
asked rows s (v ∷ vs) = pick (is_int v) (flushing rows s v vs) None

-- each pending store is to a cell that is one of the shared array's, which begins at mem, and each row is shorter than the bound
pub record Safe (t : Table) (count : ℕ) (home : ℕ → ℕ) (mem shorter : ℕ) (s : State) : Type 0 where
  pub to : (b k : ℕ) (q : Pending) → b < t.rows → slice_get (pending_of s b) k ≡ Some q → (q.0 < count) × (home q.0 ≡ mem + q.0) × (q.0 < length s.memory)
  pub short : (b : ℕ) → b < t.rows → length (pending_of s b) < shorter

-- the woven program's memory is like the state behind the flushes, and the same inputs are left
pub record Leaves (R : View → State → Type 0) (a : View) (r : Rest) : Type 0 where
  pub like : R a r.state
  pub inputs : a.inputs ≡ r.inputs
