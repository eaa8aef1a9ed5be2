-- Which expressions are ints and which are pointers.
use Rattle.std.specs.Prelude.{◌≡◌, ℕ, ◌+◌, ◌<◌, Bool, true, false, not, ◌&&◌, ◌||◌, IsTrue, All, IsSomeAnd, slice_get}
use Rattle.mm_goto.specs.declared.pure.Unary.{Unary}
use Rattle.mm_goto.specs.declared.pure.Unary.TheVariants as unary
use Rattle.mm_goto.specs.declared.pure.Binary.{Binary}
use Rattle.mm_goto.specs.declared.pure.Binary.TheVariants as binary
use Rattle.mm_goto.specs.declared.pure.Pure.{Pure}
use Rattle.mm_goto.specs.declared.pure.Pure.TheOpen as pure
use Rattle.mm_goto.specs.declared.pure.Pure.TheFolds.{fold-Pure}
use Rattle.mm_goto.specs.declared.program.Target.{Target}
use Rattle.mm_goto.specs.declared.program.Target.TheVariants as target
use Rattle.mm_goto.specs.declared.program.Instr.{Instr}
use Rattle.mm_goto.specs.declared.program.Instr.TheVariants.{Set, Load, Store, Input, Jump, Branch, Assert, Assume, Fence, Lock, Unlock, Add, Cas, Start, Join, AtomBegin, AtomEnd, End}
use Rattle.mm_goto.specs.declared.program.Cell.{Cell}
use Rattle.mm_goto.specs.Listing.{Listing}
use Rattle.mm_goto.specs.declared.row.Row.{Row}
use Rattle.mm_goto.specs.Locals.{rows_of}
use Rattle.mm_goto.specs.Value.{is_zero}

-- what an expression can be called: the number 0 is both
pub record Kinds : Type 0 where
  pub int : Bool
  pub pointer : Bool

abbrev pub int_where : Bool → Kinds
int_where b = record { int = b; pointer = false }

-- it can be called something
abbrev pub is_typed : Kinds → Bool
is_typed k = k.int || k.pointer

-- both can be called the same
abbrev pub are_alike : Kinds → Kinds → Bool
are_alike x y = (x.int && y.int) || (x.pointer && y.pointer)

abbrev pub unary_kinds : Unary → Kinds → Kinds
unary_kinds unary.Not x = int_where (is_typed x)
unary_kinds op x = int_where x.int

abbrev pub binary_kinds : Binary → Kinds → Kinds → Kinds
binary_kinds binary.Eq x y = int_where (are_alike x y)
binary_kinds binary.Ne x y = int_where (are_alike x y)
binary_kinds binary.Land x y = int_where (is_typed x && is_typed y)
binary_kinds binary.Lor x y = int_where (is_typed x && is_typed y)
binary_kinds op x y = int_where (x.int && y.int)

-- where the locals that hold a pointer are these
abbrev pub kinds_step : (ℕ → Bool) → pure.Pure-F Kinds → Kinds
kinds_step pointers (pure.Const c) = record { int = true; pointer = is_zero c }
kinds_step pointers (pure.Local l) = record { int = not (pointers l); pointer = pointers l }
kinds_step pointers (pure.Addr c) = record { int = false; pointer = true }
kinds_step pointers (pure.AddrElem first len index) = record { int = false; pointer = index.int }
kinds_step pointers (pure.Un op x) = unary_kinds op x
kinds_step pointers (pure.Bin op x y) = binary_kinds op x y
kinds_step pointers (pure.Cond c x y) = record { int = is_typed c && (x.int && y.int); pointer = is_typed c && (x.pointer && y.pointer) }

abbrev pub kinds_of : (ℕ → Bool) → Pure → Kinds
kinds_of pointers = fold-Pure Kinds (kinds_step pointers)

-- the expression can be called a pointer, or an int
abbrev pub IsOf : (ℕ → Bool) → Pure → Bool → Type 0
IsOf pointers e true = IsTrue (kinds_of pointers e).pointer
IsOf pointers e false = IsTrue (kinds_of pointers e).int

-- the target's cells hold pointers, or ints; those behind an index or a pointer hold ints
abbrev pub IsTargetOf : Listing → (ℕ → Bool) → Target → Bool → Type 0
IsTargetOf p pointers (target.Cell c) b = IsSomeAnd (slice_get p.cells c) (λ cell. cell.pointer ≡ b)
IsTargetOf p pointers (target.Elem first len index) b = (b ≡ false) × IsOf pointers index false
IsTargetOf p pointers (target.Deref e) b = (b ≡ false) × IsOf pointers e true

-- the instruction fits the types
abbrev pub IsInstrTyped : Listing → (ℕ → Bool) → Instr → Type 0
IsInstrTyped p pointers (Set l e) = IsOf pointers e (pointers l)
IsInstrTyped p pointers (Load l t) = IsTargetOf p pointers t (pointers l)
IsInstrTyped p pointers (Store t e) = (b : Bool) × IsTargetOf p pointers t b × IsOf pointers e b
IsInstrTyped p pointers (Input l) = pointers l ≡ false
IsInstrTyped p pointers (Jump k) = Unit {0}
IsInstrTyped p pointers (Branch e k) = IsTrue (is_typed (kinds_of pointers e))
IsInstrTyped p pointers (Assert e n) = IsTrue (is_typed (kinds_of pointers e))
IsInstrTyped p pointers (Assume e) = IsTrue (is_typed (kinds_of pointers e))
IsInstrTyped p pointers Fence = Unit {0}
IsInstrTyped p pointers (Lock m) = Unit {0}
IsInstrTyped p pointers (Unlock m) = Unit {0}
IsInstrTyped p pointers (Add l t e) = (pointers l ≡ false) × IsTargetOf p pointers t false × IsOf pointers e false
IsInstrTyped p pointers (Cas l t e f) = (pointers l ≡ false) × IsTargetOf p pointers t false × IsOf pointers e false × IsOf pointers f false
IsInstrTyped p pointers (Start u) = Unit {0}
IsInstrTyped p pointers (Join u) = Unit {0}
IsInstrTyped p pointers AtomBegin = Unit {0}
IsInstrTyped p pointers AtomEnd = Unit {0}
IsInstrTyped p pointers End = Unit {0}

-- each cell of the row holds an int
abbrev pub IsRowOfInts : Listing → Row → Type 0
IsRowOfInts p row = (k : ℕ) → k < row.len → IsSomeAnd (slice_get p.cells (row.first + k)) (λ cell. cell.pointer ≡ false)

-- the addresses in the expression are those of cells that hold ints
abbrev pub NamesInts : Listing → Pure → Type 0
NamesInts p e = All (IsRowOfInts p) (rows_of e)

-- the start value fits the cell
abbrev pub IsCellTyped : Cell → Type 0
IsCellTyped cell = IsOf (λ l. false) cell.init cell.pointer
