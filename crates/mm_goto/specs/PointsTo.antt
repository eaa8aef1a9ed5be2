-- Points-to sets: which cells a local, a cell, an expression or a target may name, whatever the order of the instructions. They are the
-- least sets that four rules close (Andersen, Program Analysis and Specialization for the C Programming Language, 1994).
use Rattle.std.specs.Prelude.{◌≡◌, ℕ, ℤ, pos, negsuc, ◌+◌, ◌<◌, ◌≤◌, nat_lt, true, if◌then◌else◌, Option, Some, None, IsSomeAnd, List, [], ◌∷◌, ◌++◌, slice_get}
use Rattle.mm_goto.specs.declared.pure.Pure.{Pure}
use Rattle.mm_goto.specs.declared.pure.Pure.TheOpen as pure
use Rattle.mm_goto.specs.declared.pure.Pure.TheFolds.{fold-Pure}
use Rattle.mm_goto.specs.declared.program.Cell.{Cell}
use Rattle.mm_goto.specs.declared.program.Target.{Target}
use Rattle.mm_goto.specs.declared.program.Target.TheVariants as target
use Rattle.mm_goto.specs.declared.program.Instr.{Instr}
use Rattle.mm_goto.specs.declared.program.Instr.TheVariants.{Set, Load, Store}
use Rattle.mm_goto.specs.Listing.{Listing}
use Rattle.mm_goto.specs.declared.row.Row.{Row}
use Rattle.mm_goto.specs.Valid.{code_of}

-- the cells of an array's element: one where the index is a number within the array, else all of the array
abbrev pub element_row : ℕ → ℕ → Option ℤ → Row
element_row first len (Some (pos k)) = if nat_lt k len then record { first = first + k; len = 1 } else record { first = first; len = len }
element_row first len (Some (negsuc k)) = record { first = first; len = len }
element_row first len None = record { first = first; len = len }

-- an expression's number where it is one, the rows whose addresses stand in it, and the locals that stand in it
pub record Aims : Type 0 where
  pub constant : Option ℤ
  pub rows : List Row
  pub locals : List ℕ

abbrev pub joined : Aims → Aims → Aims
joined x y = record { constant = None; rows = x.rows ++ y.rows; locals = x.locals ++ y.locals }

abbrev pub aims_step : pure.Pure-F Aims → Aims
aims_step (pure.Const c) = record { constant = Some c; rows = []; locals = [] }
aims_step (pure.Local l) = record { constant = None; rows = []; locals = l ∷ [] }
aims_step (pure.Addr c) = record { constant = None; rows = record { first = c; len = 1 } ∷ []; locals = [] }
aims_step (pure.AddrElem first len index) = record { constant = None; rows = element_row first len index.constant ∷ index.rows; locals = index.locals }
aims_step (pure.Un op x) = record { constant = None; rows = x.rows; locals = x.locals }
aims_step (pure.Bin op x y) = joined x y
aims_step (pure.Cond c x y) = joined (joined c x) y

abbrev pub aims_of : Pure → Aims
aims_of = fold-Pure Aims aims_step

-- the cell is one of the row
abbrev pub IsInRow : Row → ℕ → Type 0
IsInRow row c = (row.first ≤ c) × (c < row.first + row.len)

-- the instruction at a place of a thread
abbrev pub instr_at : Listing → ℕ → ℕ → Option Instr
instr_at p t i = slice_get (code_of p t) i

-- the cell holds an address
abbrev pub HoldsPointer : Listing → ℕ → Type 0
HoldsPointer p k = IsSomeAnd (slice_get p.cells k) (λ cell. cell.pointer ≡ true)

-- what may name cells: a local of a thread, a cell, an expression over a thread's locals, and a target
pub data Holder : Type 0 where
  local : ℕ → ℕ → Holder
  cell : ℕ → Holder
  expr : ℕ → Pure → Holder
  place : ℕ → Target → Holder

-- the holder may name the cell
pub data MayName (p : Listing) : Holder → ℕ → Type 0 where
  -- an expression: what the addresses and the locals in it may name
  address : {t : ℕ} {e : Pure} (k : ℕ) (row : Row) {c : ℕ} → slice_get (aims_of e).rows k ≡ Some row → IsInRow row c → MayName p (expr t e) c
  copy : {t : ℕ} {e : Pure} (k l : ℕ) {c : ℕ} → slice_get (aims_of e).locals k ≡ Some l → MayName p (local t l) c → MayName p (expr t e) c
  -- a target: the cell, the element, or what the pointer may name
  itself : {t c : ℕ} → MayName p (place t (target.Cell c)) c
  element : {t first len : ℕ} {index : Pure} {c : ℕ} → IsInRow (element_row first len (aims_of index).constant) c → MayName p (place t (target.Elem first len index)) c
  behind : {t : ℕ} {e : Pure} {c : ℕ} → MayName p (expr t e) c → MayName p (place t (target.Deref e)) c
  -- the four rules: an address as a start value, a copy, a load from a pointer, a store to a pointer
  start : {k : ℕ} (of : Cell) {c : ℕ} → slice_get p.cells k ≡ Some of → MayName p (expr 0 of.init) c → MayName p (cell k) c
  set : {t l : ℕ} (i : ℕ) (e : Pure) {c : ℕ} → instr_at p t i ≡ Some (Set l e) → MayName p (expr t e) c → MayName p (local t l) c
  load : {t l : ℕ} (i : ℕ) (to : Target) (k : ℕ) {c : ℕ} → instr_at p t i ≡ Some (Load l to) → MayName p (place t to) k → HoldsPointer p k → MayName p (cell k) c → MayName p (local t l) c
  store : {k : ℕ} (t i : ℕ) (to : Target) (e : Pure) {c : ℕ} → instr_at p t i ≡ Some (Store to e) → MayName p (place t to) k → HoldsPointer p k → MayName p (expr t e) c → MayName p (cell k) c
