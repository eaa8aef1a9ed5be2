-- What flattening gives for a source. The analyses and the weaving of programs rest on it, and not on how a source is
-- flattened.
use Rattle.std.specs.Prelude.{◌≡◌, ◌≢◌, ◌⊎◌, ℕ, pos, negsuc, ◌+◌, ◌-◌, ◌<◌, ◌≤◌, Bool, true, false, ◌≤ℤ◌, List, [], ◌∷◌, ◌++◌, All, length, sum_by, slice_get, Option, Some, None, IsSomeAnd, IfSome}
use Rattle.std.specs.List.{flat_map}
use Rattle.mm_goto.specs.declared.ident.Ident.{Ident}
use Rattle.mm_goto.specs.declared.program.Cell.{Cell}
use Rattle.mm_goto.specs.declared.program.Instr.{Instr}
use Rattle.mm_goto.specs.declared.program.Instr.TheVariants.{Jump, Branch, Assert, Add, Cas, Start, Join, AtomBegin, AtomEnd, End}
use Rattle.mm_goto.specs.declared.program.Target.{Target}
use Rattle.mm_goto.specs.declared.program.Target.TheVariants as target
use Rattle.mm_goto.specs.declared.program.Thread.{Thread}
use Rattle.mm_goto.specs.declared.pure.Pure.{Pure}
use Rattle.mm_goto.specs.Checks.{DividesInTime, checks_of, target_checks, names, targets, target_exprs, value_exprs, written_local}
use Rattle.mm_goto.specs.Flow.{IsFlow}
use Rattle.mm_goto.specs.Kinds.{IsCellTyped, IsInstrTyped, NamesInts}
use Rattle.mm_goto.specs.Listing.{Listing}
use Rattle.mm_goto.specs.declared.row.Row.{Row}
use Rattle.mm_goto.specs.Names.{IsDeclarable}
use Rattle.mm_goto.specs.Parts.{addressed, arrays_of, levels, nodes, numbers}
use Rattle.mm_goto.specs.Valid.{IsValid, code_of}

-- ---- limits of a source

pub record IsWithinSource (p : Listing) : Type 0 where
  pub threads : length p.threads ≤ 16
  pub instructions : sum_by (λ t. length t.code) p.threads ≤ 16384
  pub locals : All (λ t. t.locals ≤ 4096) p.threads
  pub mutexes : length p.mutexes ≤ 64

-- ---- guards

-- all checks that an instruction wants
abbrev pub wants : Instr → List Pure
wants i = flat_map target_checks (targets i) ++ flat_map checks_of (flat_map target_exprs (targets i)) ++ flat_map checks_of (value_exprs i)

-- at place k of the code stands the check, as assertion 0
abbrev pub IsCheckAt : List Instr → Pure → ℕ → Type 0
IsCheckAt code check k = slice_get code k ≡ Some (Assert check 0)

-- the instruction at place k writes no local of the check
abbrev pub KeepsCheck : List Instr → Pure → ℕ → Type 0
KeepsCheck code check k = IfSome (slice_get code k) (λ i. IfSome (written_local i) (λ l. names l check ≡ false))

-- the check stands somewhere on the path, and behind it no local of the check is written
pub data Passes (code : List Instr) (check : Pure) : List ℕ → Type 0 where
  here : {k : ℕ} {behind : List ℕ}
      → IsCheckAt code check k
      → All (KeepsCheck code check) behind
      → Passes code check (k ∷ behind)
  later : {k : ℕ} {behind : List ℕ}
      → Passes code check behind
      → Passes code check (k ∷ behind)

-- every flow path from place 0 to the instruction at place k passes each check that it wants
abbrev pub IsGuarded : List Instr → ℕ → Instr → Type 0
IsGuarded code k i = All (λ check. (path : List ℕ) → IsFlow code 0 path k → Passes code check path) (wants i)

-- ---- the places of Starts and Joins in main

abbrev pub is_start_or_join : Instr → Bool
is_start_or_join (Start u) = true
is_start_or_join (Join u) = true
is_start_or_join _ = false

-- A jump from place j to place k that is not the last passes no Start and no Join: from before one it leads to it at most,
-- and from behind one neither to it nor to before it.
abbrev pub PassesNone : List Instr → ℕ → ℕ → Type 0
PassesNone code j k =
    (k + 1 ≡ length code)
    ⊎ ((m : ℕ) (i : Instr) → ((j < m) × (m < k)) ⊎ ((k ≤ m) × (m < j)) → slice_get code m ≡ Some i → is_start_or_join i ≡ false)

abbrev pub JumpPassesNone : List Instr → ℕ → Instr → Type 0
JumpPassesNone code j (Jump k) = PassesNone code j k
JumpPassesNone code j (Branch e k) = PassesNone code j k
JumpPassesNone code j _ = Unit {0}

abbrev pub started_by : Instr → Option ℕ
started_by (Start u) = Some u
started_by _ = None

-- main starts the threads in the order of their numbers, and waits for none before it is started
pub record StartsInOrder (p : Listing) : Type 0 where
  pub order : (j k u v : ℕ) → j < k → slice_get (code_of p 0) j ≡ Some (Start u) → slice_get (code_of p 0) k ≡ Some (Start v) → u < v
  pub joins : (j k u : ℕ) → slice_get (code_of p 0) j ≡ Some (Start u) → slice_get (code_of p 0) k ≡ Some (Join u) → j < k
  pub jumps : (j : ℕ) (i : Instr) → slice_get (code_of p 0) j ≡ Some i → JumpPassesNone (code_of p 0) j i

-- ---- names and arrays

-- two different cells of one name are two elements of one array
pub record AreApart (p : Listing) : Type 0 where
  pub cells : (c d : ℕ) (a b : Cell)
      → slice_get p.cells c ≡ Some a
      → slice_get p.cells d ≡ Some b
      → a.name ≡ b.name
      → (c ≡ d) ⊎ ((a.index ≢ None) × (b.index ≢ None) × (a.index ≢ b.index))
  pub mutexes : (m n : ℕ) (x : Ident) → slice_get p.mutexes m ≡ Some x → slice_get p.mutexes n ≡ Some x → m ≡ n
  pub neither : (c m : ℕ) (a : Cell) (x : Ident) → slice_get p.cells c ≡ Some a → slice_get p.mutexes m ≡ Some x → a.name ≢ x

-- the elements of an array stand together in the order of their indexes, and are ints
pub record HasWholeArrays (p : Listing) : Type 0 where
  pub before : (c i : ℕ) (a : Cell)
      → slice_get p.cells c ≡ Some a
      → a.index ≡ Some (i + 1)
      → (1 ≤ c) × IsSomeAnd (slice_get p.cells (c - 1)) (λ b. (b.name ≡ a.name) × (b.index ≡ Some i))
  pub ints : (c i : ℕ) (a : Cell) → slice_get p.cells c ≡ Some a → a.index ≡ Some i → a.pointer ≡ false

-- the row is a whole array
pub record IsWholeArray (p : Listing) (row : Row) : Type 0 where
  pub first : IsSomeAnd (slice_get p.cells row.first) (λ a. a.index ≡ Some 0)
  pub last : (a : Cell) → slice_get p.cells (row.first + row.len) ≡ Some a → a.index ≢ Some row.len

-- the cell is no element
abbrev pub IsSingle : Listing → ℕ → Type 0
IsSingle p c = IsSomeAnd (slice_get p.cells c) (λ a. a.index ≡ None)

-- ---- the whole

abbrev pub exprs_of : Instr → List Pure
exprs_of i = flat_map target_exprs (targets i) ++ value_exprs i

-- the instruction begins or ends an atomic section
abbrev pub is_section : Instr → Bool
is_section AtomBegin = true
is_section AtomEnd = true
is_section _ = false

-- the local that a locked instruction writes
abbrev pub updated_local : Instr → Option ℕ
updated_local (Add l t e) = Some l
updated_local (Cas l t e f) = Some l
updated_local _ = None

-- it stands in none of the instruction's expressions
abbrev pub UpdatesApart : Instr → Type 0
UpdatesApart i = IfSome (updated_local i) (λ l. All (λ e. names l e ≡ false) (exprs_of i))

-- how many nodes the target's expression has
abbrev pub target_nodes : Instr → ℕ
target_nodes i = sum_by nodes (flat_map target_exprs (targets i))

-- the rows that the instruction's targets and addresses name, where they are arrays
abbrev pub target_rows : Target → List Row
target_rows (target.Elem first len index) = record { first = first; len = len } ∷ []
target_rows _ = []

abbrev pub target_cells : Target → List ℕ
target_cells (target.Cell c) = c ∷ []
target_cells _ = []

pub record IsSourceInstr (p : Listing) (code : List Instr) (k : ℕ) (i : Instr) : Type 0 where
  pub sections : is_section i ≡ false
  pub not_main : (i ≢ Start 0) × (i ≢ Join 0)
  pub ints : All (NamesInts p) (exprs_of i)
  pub numbers : All (λ e. All (λ z. (n : ℕ) × (z ≡ pos n)) (numbers e)) (exprs_of i)
  pub arrays : All (IsWholeArray p) (flat_map target_rows (targets i) ++ flat_map arrays_of (exprs_of i))
  pub singles : All (IsSingle p) (flat_map target_cells (targets i) ++ flat_map addressed (exprs_of i))
  pub guarded : IsGuarded code k i
  pub apart : UpdatesApart i
  pub late : All DividesInTime (exprs_of i)
  pub size : (target_nodes i ≤ 410) × All (λ e. target_nodes i + nodes e ≤ 410) (value_exprs i)
  pub levels : All (λ e. levels e ≤ 210) (exprs_of i)

-- a cell's start value fits it, is above the least int, and takes the addresses of whole arrays and of cells that are no elements, which
-- hold ints
pub record IsSourceCell (p : Listing) (cell : Cell) : Type 0 where
  pub typed : IsCellTyped cell
  pub numbers : All (λ z. negsuc 2147483646 ≤ℤ z) (numbers cell.init)
  pub ints : NamesInts p cell.init
  pub arrays : All (IsWholeArray p) (arrays_of cell.init)
  pub singles : All (IsSingle p) (addressed cell.init)

pub record IsSourcelike (p : Listing) : Type 0 where
  pub valid : IsValid p
  pub limits : IsWithinSource p
  pub ends : All (λ t. slice_get t.code (length t.code - 1) ≡ Some End) p.threads
  pub each : (t k : ℕ) (thread : Thread) (i : Instr)
      → slice_get p.threads t ≡ Some thread
      → slice_get thread.code k ≡ Some i
      → IsSourceInstr p thread.code k i
  pub typed : (t : ℕ) (thread : Thread)
      → slice_get p.threads t ≡ Some thread
      → (pointers : ℕ → Bool) × All (IsInstrTyped p pointers) thread.code
  pub cells : All (IsSourceCell p) p.cells
  pub cell_names : All (λ cell. IsDeclarable cell.name) p.cells
  pub mutex_names : All IsDeclarable p.mutexes
  pub apart : AreApart p
  pub arrays : HasWholeArrays p
  pub order : StartsInOrder p
