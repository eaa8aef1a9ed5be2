-- Which programs are valid: each number in them is in range, and main starts each other thread once.
use Rattle.std.specs.Prelude.{◌≡◌, ℕ, ℤ, pos, ◌+◌, ◌-◌, ◌^◌, ◌<◌, ◌≤◌, ◌==◌, nat_lt, Bool, true, false, IsTrue, Option, Some, None, IsSomeAnd, List, [], All, length, slice_get, count_by, sum_by, FitsSigned}
use Rattle.std.specs.Int.{w32}
use Rattle.mm_goto.specs.declared.limits.TheConstants.{MAX_THREADS, MAX_INSTRUCTIONS, MAX_LOCALS, MAX_MUTEXES, MAX_CELLS}
use Rattle.mm_goto.specs.declared.pure.Pure.{Pure}
use Rattle.mm_goto.specs.declared.pure.Pure.TheOpen as pure
use Rattle.mm_goto.specs.declared.pure.Pure.TheFolds.{fold-Pure}
use Rattle.mm_goto.specs.declared.program.Target.{Target}
use Rattle.mm_goto.specs.declared.program.Target.TheVariants as target
use Rattle.mm_goto.specs.declared.program.Instr.{Instr}
use Rattle.mm_goto.specs.declared.program.Instr.TheVariants.{Set, Load, Store, Input, Jump, Branch, Assert, Assume, Fence, Lock, Unlock, Add, Cas, Start, Join, AtomBegin, AtomEnd, End}
use Rattle.mm_goto.specs.declared.program.Cell.{Cell}
use Rattle.mm_goto.specs.declared.program.Thread.{Thread}
use Rattle.mm_goto.specs.Listing.{Listing}
use Rattle.mm_goto.specs.declared.row.Row.{Row}
use Rattle.mm_goto.specs.Locals.{local_bound, rows_of}
use Rattle.mm_goto.specs.Parts.{numbers}

-- an int has 32 bits
abbrev pub IsInt : ℤ → Type 0
IsInt = FitsSigned w32

-- the second cell is the element behind the first in one array
abbrev pub IsNextElement : Cell → Cell → Type 0
IsNextElement a b = (a.name ≡ b.name) × IsSomeAnd a.index (λ i. b.index ≡ Some (i + 1))

-- one cell, or neighbouring elements of one array
pub record IsRow (cells : List Cell) (row : Row) : Type 0 where
  pub some : 1 ≤ row.len
  pub within : row.first + row.len ≤ length cells
  pub together : (k : ℕ)
      → k + 1 < row.len
      → IsSomeAnd (slice_get cells (row.first + k)) (λ a. IsSomeAnd (slice_get cells (row.first + k + 1)) (IsNextElement a))

-- the expression names locals of the thread, addresses of cells or arrays, and ints of 32 bits
pub record IsPureIn (p : Listing) (t : Thread) (e : Pure) : Type 0 where
  pub locals : local_bound e ≤ t.locals
  pub cells : All (IsRow p.cells) (rows_of e)
  pub ints : All IsInt (numbers e)

abbrev pub IsTargetIn : Listing → Thread → Target → Type 0
IsTargetIn p t (target.Cell c) = c < length p.cells
IsTargetIn p t (target.Elem first len index) = IsRow p.cells (record { first = first; len = len }) × IsPureIn p t index
IsTargetIn p t (target.Deref e) = IsPureIn p t e

-- each number in the instruction is in range
abbrev pub IsInstrIn : Listing → Thread → Instr → Type 0
IsInstrIn p t (Set l e) = (l < t.locals) × IsPureIn p t e
IsInstrIn p t (Load l target) = (l < t.locals) × IsTargetIn p t target
IsInstrIn p t (Store target e) = IsTargetIn p t target × IsPureIn p t e
IsInstrIn p t (Input l) = l < t.locals
IsInstrIn p t (Jump k) = k < length t.code
IsInstrIn p t (Branch e k) = IsPureIn p t e × (k < length t.code)
IsInstrIn p t (Assert e n) = IsPureIn p t e × (n < 2 ^ 32)
IsInstrIn p t (Assume e) = IsPureIn p t e
IsInstrIn p t Fence = Unit {0}
IsInstrIn p t (Lock m) = m < length p.mutexes
IsInstrIn p t (Unlock m) = m < length p.mutexes
IsInstrIn p t (Add l target e) = (l < t.locals) × IsTargetIn p t target × IsPureIn p t e
IsInstrIn p t (Cas l target e f) = (l < t.locals) × IsTargetIn p t target × IsPureIn p t e × IsPureIn p t f
IsInstrIn p t (Start u) = u < length p.threads
IsInstrIn p t (Join u) = u < length p.threads
IsInstrIn p t AtomBegin = Unit {0}
IsInstrIn p t AtomEnd = Unit {0}
IsInstrIn p t End = Unit {0}

-- control does not run past the instruction
abbrev pub IsLast : Instr → Type 0
IsLast End = Unit {0}
IsLast (Jump k) = Unit {0}
IsLast _ = ⊥

pub record IsThreadIn (p : Listing) (t : Thread) : Type 0 where
  pub locals : t.locals ≤ MAX_LOCALS
  pub instructions : All (IsInstrIn p t) t.code
  pub last : IsSomeAnd (slice_get t.code (length t.code - 1)) IsLast
  pub places : length t.places ≡ length t.code

abbrev pub is_start : ℕ → Instr → Bool
is_start u (Start v) = v == u
is_start u _ = false

abbrev pub is_join : ℕ → Instr → Bool
is_join u (Join v) = v == u
is_join u _ = false

-- the code of thread t, and none where there is no such thread
abbrev pub code_of : Listing → ℕ → List Instr
code_of p t = code_in (slice_get p.threads t)
  where
    code_in : Option Thread → List Instr
    code_in (Some thread) = thread.code
    code_in None = []

-- how often thread t starts thread u, and how often it waits for it
abbrev pub starts : Listing → ℕ → ℕ → ℕ
starts p t u = count_by (is_start u) (code_of p t)

abbrev pub joins : Listing → ℕ → ℕ → ℕ
joins p t u = count_by (is_join u) (code_of p t)

-- main starts the thread once and waits for it at most once, and no other thread does either
pub record IsStartedByMain (p : Listing) (u : ℕ) : Type 0 where
  pub start : starts p 0 u ≡ 1
  pub join : joins p 0 u ≤ 1
  pub no_other : (t : ℕ) → 1 ≤ t → (starts p t u ≡ 0) × (joins p t u ≡ 0)

-- what a start value may be: a number, an address, or the address of an element by a constant index within its array
pub record StartKind : Type 0 where
  pub constant : Option ℤ
  pub fits : Bool

abbrev pub is_index : Option ℤ → ℕ → Bool
is_index (Some (pos k)) len = nat_lt k len
is_index _ len = false

abbrev pub start_step : pure.Pure-F StartKind → StartKind
start_step (pure.Const c) = record { constant = Some c; fits = true }
start_step (pure.Addr c) = record { constant = None; fits = true }
start_step (pure.AddrElem first len index) = record { constant = None; fits = is_index index.constant len }
start_step _ = record { constant = None; fits = false }

abbrev pub start_kind : Pure → StartKind
start_kind = fold-Pure StartKind start_step

pub record IsCellIn (cells : List Cell) (cell : Cell) : Type 0 where
  pub kind : IsTrue (start_kind cell.init).fits
  pub rows : All (IsRow cells) (rows_of cell.init)
  pub ints : All IsInt (numbers cell.init)

-- each number in the program is in range, and main starts each other thread once
pub record IsValid (p : Listing) : Type 0 where
  pub main : 1 ≤ length p.threads
  pub threads : length p.threads ≤ MAX_THREADS
  pub mutexes : length p.mutexes ≤ MAX_MUTEXES
  pub cells : length p.cells ≤ MAX_CELLS
  pub instructions : sum_by (λ t. length t.code) p.threads ≤ MAX_INSTRUCTIONS
  pub each_cell : All (IsCellIn p.cells) p.cells
  pub each_thread : All (IsThreadIn p) p.threads
  pub each_start : (u : ℕ) → 1 ≤ u → u < length p.threads → IsStartedByMain p u
