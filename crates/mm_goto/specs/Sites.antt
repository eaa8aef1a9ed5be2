-- The event graph of a program: its sites, which are the instructions that other threads can see, and what leads from one to another:
-- program order, communication, and order by mutexes, starts and joins (Alglave, Kroening, Nimal, Tautschnig, ESOP 2013).
use Rattle.std.specs.Prelude.{◌≡◌, ◌≢◌, ◌⊎◌, ℕ, ◌+◌, ◌<◌, Bool, true, false, not, Some, IsSomeAnd, List, [], ◌∷◌, ◌++◌, if◌then◌else◌, slice_get}
use Rattle.std.specs.List.{Contains}
use Rattle.mm_goto.specs.declared.spot.Spot.{Spot}
use Rattle.mm_goto.specs.declared.program.Instr.{Instr}
use Rattle.mm_goto.specs.declared.program.Instr.TheVariants as i
use Rattle.mm_goto.specs.declared.program.Thread.{Thread}
use Rattle.mm_goto.specs.Checks.{targets}
use Rattle.mm_goto.specs.Flow.{IsSuccessor}
use Rattle.mm_goto.specs.Listing.{Listing}
use Rattle.mm_goto.specs.Valid.{code_of}
use Rattle.mm_goto.specs.PointsTo.{MayName, place, instr_at}

-- it accesses a cell, takes or gives a mutex, or starts or awaits a thread
abbrev pub is_site : Instr → Bool
is_site (i.Set l e) = false
is_site (i.Load l t) = true
is_site (i.Store t e) = true
is_site (i.Input l) = false
is_site (i.Jump k) = false
is_site (i.Branch e k) = false
is_site (i.Assert e n) = false
is_site (i.Assume e) = false
is_site i.Fence = false
is_site (i.Lock m) = true
is_site (i.Unlock m) = true
is_site (i.Add l t e) = true
is_site (i.Cas l t e f) = true
is_site (i.Start u) = true
is_site (i.Join u) = true
is_site i.AtomBegin = false
is_site i.AtomEnd = false
is_site i.End = false

-- the sites of thread t's code from place k on
abbrev pub sites_from : ℕ → ℕ → List Instr → List Spot
sites_from t k [] = []
sites_from t k (it ∷ rest) = if is_site it then record { thread = t; index = k } ∷ sites_from t (k + 1) rest else sites_from t (k + 1) rest

-- the sites of the threads from thread t on
abbrev pub sites_of : ℕ → List Thread → List Spot
sites_of t [] = []
sites_of t (thread ∷ rest) = sites_from t 0 thread.code ++ sites_of (t + 1) rest

-- the sites of the program, each by its number
abbrev pub sites : Listing → List Spot
sites p = sites_of 0 p.threads

-- the instruction that stands there is so
abbrev pub Is : Listing → Spot → (Instr → Type 0) → Type 0
Is p s P = IsSomeAnd (instr_at p s.thread s.index) P

-- ---- program order

-- it waits until nothing of its thread is pending
abbrev pub drains : Instr → Bool
drains (i.Set l e) = false
drains (i.Load l t) = false
drains (i.Store t e) = false
drains (i.Input l) = false
drains (i.Jump k) = false
drains (i.Branch e k) = false
drains (i.Assert e n) = false
drains (i.Assume e) = false
drains i.Fence = true
drains (i.Lock m) = true
drains (i.Unlock m) = true
drains (i.Add l t e) = true
drains (i.Cas l t e f) = true
drains (i.Start u) = true
drains (i.Join u) = true
drains i.AtomBegin = false
drains i.AtomEnd = false
drains i.End = false

-- control can go on from the instruction at the place, and it passes
abbrev pub PassesAt : (Instr → Bool) → List Instr → ℕ → Type 0
PassesAt passes code j = IsSomeAnd (slice_get code j) (λ it. passes it ≡ true)

-- a flow path of one step or more leads from a place to another, and what stands strictly between passes
pub data FlowsBy (passes : Instr → Bool) (code : List Instr) (from : ℕ) : ℕ → Type 0 where
  once : {k : ℕ} → IsSuccessor code from k → FlowsBy passes code from k
  more : {k : ℕ} (j : ℕ) → FlowsBy passes code from j → PassesAt passes code j → IsSuccessor code j k → FlowsBy passes code from k

-- program order: one thread, and a flow path leads from the one to the other
pub record Po (p : Listing) (a b : Spot) : Type 0 where
  pub thread : a.thread ≡ b.thread
  pub flow : FlowsBy (λ it. true) (code_of p a.thread) a.index b.index

-- a store may stay pending across it
abbrev pub is_undrained : Instr → Bool
is_undrained it = not (drains it)

-- program order on a path on which a store may stay pending
pub record Undrained (p : Listing) (a b : Spot) : Type 0 where
  pub thread : a.thread ≡ b.thread
  pub flow : FlowsBy is_undrained (code_of p a.thread) a.index b.index

-- ---- order by main's Starts and Joins

-- the first is over before the second begins, in every run
pub data MustBefore (p : Listing) (a b : Spot) : Type 0 where
  before_start : (k : ℕ) → a.thread ≡ 0 → instr_at p 0 k ≡ Some (i.Start b.thread) → a.index < k → MustBefore p a b
  behind_join : (k : ℕ) → b.thread ≡ 0 → instr_at p 0 k ≡ Some (i.Join a.thread) → k < b.index → MustBefore p a b
  one_after_other : (j k : ℕ) → instr_at p 0 j ≡ Some (i.Join a.thread) → instr_at p 0 k ≡ Some (i.Start b.thread) → j < k → MustBefore p a b

-- ---- communication

-- the access at the spot may be to the cell
abbrev pub Names : Listing → Spot → ℕ → Type 0
Names p s c = Is p s (λ it. (to : _) × Contains (targets it) to × MayName p (place s.thread to) c)

-- it accesses a cell
abbrev pub Accesses : Instr → Type 0
Accesses (i.Set l e) = ⊥
Accesses (i.Load l t) = Unit {0}
Accesses (i.Store t e) = Unit {0}
Accesses (i.Input l) = ⊥
Accesses (i.Jump k) = ⊥
Accesses (i.Branch e k) = ⊥
Accesses (i.Assert e n) = ⊥
Accesses (i.Assume e) = ⊥
Accesses i.Fence = ⊥
Accesses (i.Lock m) = ⊥
Accesses (i.Unlock m) = ⊥
Accesses (i.Add l t e) = Unit {0}
Accesses (i.Cas l t e f) = Unit {0}
Accesses (i.Start u) = ⊥
Accesses (i.Join u) = ⊥
Accesses i.AtomBegin = ⊥
Accesses i.AtomEnd = ⊥
Accesses i.End = ⊥

-- it may write a cell
abbrev pub Writes : Instr → Type 0
Writes (i.Set l e) = ⊥
Writes (i.Load l t) = ⊥
Writes (i.Store t e) = Unit {0}
Writes (i.Input l) = ⊥
Writes (i.Jump k) = ⊥
Writes (i.Branch e k) = ⊥
Writes (i.Assert e n) = ⊥
Writes (i.Assume e) = ⊥
Writes i.Fence = ⊥
Writes (i.Lock m) = ⊥
Writes (i.Unlock m) = ⊥
Writes (i.Add l t e) = Unit {0}
Writes (i.Cas l t e f) = Unit {0}
Writes (i.Start u) = ⊥
Writes (i.Join u) = ⊥
Writes i.AtomBegin = ⊥
Writes i.AtomEnd = ⊥
Writes i.End = ⊥

-- two threads may access one cell there, one of them to write it, and the second access may follow the first
pub record Com (p : Listing) (a b : Spot) : Type 0 where
  pub from : Is p a Accesses
  pub to : Is p b Accesses
  pub apart : a.thread ≢ b.thread
  pub meet : (c : ℕ) × Names p a c × Names p b c
  pub writes : Is p a Writes ⊎ Is p b Writes
  pub may_follow : ¬ (MustBefore p b a)

-- ---- mutexes and threads

-- it takes or gives the mutex
abbrev pub Handles : ℕ → Instr → Type 0
Handles m (i.Set l e) = ⊥
Handles m (i.Load l t) = ⊥
Handles m (i.Store t e) = ⊥
Handles m (i.Input l) = ⊥
Handles m (i.Jump k) = ⊥
Handles m (i.Branch e k) = ⊥
Handles m (i.Assert e n) = ⊥
Handles m (i.Assume e) = ⊥
Handles m i.Fence = ⊥
Handles m (i.Lock n) = n ≡ m
Handles m (i.Unlock n) = n ≡ m
Handles m (i.Add l t e) = ⊥
Handles m (i.Cas l t e f) = ⊥
Handles m (i.Start u) = ⊥
Handles m (i.Join u) = ⊥
Handles m i.AtomBegin = ⊥
Handles m i.AtomEnd = ⊥
Handles m i.End = ⊥

-- one mutex in two threads, a thread's start and what it does, what it does and the wait for it
pub data Ord (p : Listing) (a b : Spot) : Type 0 where
  mutex : (m : ℕ) → Is p a (Handles m) → Is p b (Handles m) → a.thread ≢ b.thread → ¬ (MustBefore p b a) → Ord p a b
  start : instr_at p a.thread a.index ≡ Some (i.Start b.thread) → Ord p a b
  join : instr_at p b.thread b.index ≡ Some (i.Join a.thread) → Ord p a b

-- ---- by numbers

-- the sites with these numbers are so related
abbrev pub Between : Listing → (Spot → Spot → Type 0) → ℕ → ℕ → Type 0
Between p R a b = IsSomeAnd (slice_get (sites p) a) (λ x. IsSomeAnd (slice_get (sites p) b) (R x))
