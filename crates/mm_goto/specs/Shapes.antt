-- When a shape fits a program: which stores it buffers decides which cells move to the shared array, and where pending stores may be
-- flushed.
use Rattle.std.specs.Prelude.{◌≡◌, ◌⊎◌, ◌↔◌, ℕ, ◌≤◌, Bool, false, IsTrue, Some, IsSomeAnd, List, [], length, slice_get, slice_index_or}
use Rattle.std.specs.List.{Contains}
use Rattle.mm_goto.specs.declared.model.Model.{Model}
use Rattle.mm_goto.specs.declared.model.Model.TheVariants as model
use Rattle.mm_goto.specs.declared.program.Cell.{Cell}
use Rattle.mm_goto.specs.declared.program.Instr.{Instr}
use Rattle.mm_goto.specs.declared.program.Instr.TheVariants as i
use Rattle.mm_goto.specs.declared.program.Thread.{Thread}
use Rattle.mm_goto.specs.declared.pure.Pure.{Pure}
use Rattle.mm_goto.specs.declared.shape.Shape.{Shape}
use Rattle.mm_goto.specs.Listing.{Listing}
use Rattle.mm_goto.specs.declared.row.Row.{Row}
use Rattle.mm_goto.specs.Sourcelike.{exprs_of}
use Rattle.mm_goto.specs.PointsTo.{aims_of, IsInRow, instr_at}
use Rattle.mm_goto.specs.declared.spot.Spot.{Spot}
use Rattle.mm_goto.specs.Sites.{Names}
use Rattle.mm_goto.specs.DelayCycles.{IsStore}

-- the flag of an instruction, in lists per thread
abbrev pub flag_at : List (List Bool) → ℕ → ℕ → Bool
flag_at flags t k = slice_index_or (slice_index_or flags t []) k false

-- ---- moved cells

-- the cell's address stands in the expression
abbrev pub TakesAddress : ℕ → Pure → Type 0
TakesAddress c e = (row : Row) × Contains (aims_of e).rows row × IsInRow row c

-- the cell's address stands in an instruction or in a start value
pub data IsAddressed (p : Listing) (c : ℕ) : Type 0 where
  in_code : (t k : ℕ) (it : Instr) (e : Pure) → instr_at p t k ≡ Some it → Contains (exprs_of it) e → TakesAddress c e → IsAddressed p c
  in_start : (k : ℕ) (of : Cell) → slice_get p.cells k ≡ Some of → TakesAddress c of.init → IsAddressed p c

-- a buffered store may be to the cell
pub record IsBuffered (p : Listing) (flags : List (List Bool)) (c : ℕ) : Type 0 where
  pub t : ℕ
  pub k : ℕ
  pub flag : IsTrue (flag_at flags t k)
  pub names : Names p (record { thread = t; index = k }) c

-- the cells are one, or elements of one array
abbrev pub AreOfOneName : Listing → ℕ → ℕ → Type 0
AreOfOneName p c d = IsSomeAnd (slice_get p.cells c) (λ x. IsSomeAnd (slice_get p.cells d) (λ y. x.name ≡ y.name))

-- an array moves whole
abbrev pub IsMoved : Listing → List (List Bool) → ℕ → Type 0
IsMoved p flags c = (d : ℕ) × AreOfOneName p c d × (IsAddressed p d ⊎ IsBuffered p flags d)

-- ---- flush points

-- a store of the thread is buffered
abbrev pub IsThreadBuffered : List (List Bool) → ℕ → Type 0
IsThreadBuffered flags t = (k : ℕ) × IsTrue (flag_at flags t k)

-- the access may be to a cell to which a buffered store may be
abbrev pub NamesBuffered : Listing → List (List Bool) → Spot → Type 0
NamesBuffered p flags s = (c : ℕ) × Names p s c × IsBuffered p flags c

-- pending stores may be flushed before the instruction that stands at the spot
abbrev pub IsFlushPoint : Listing → Model → List (List Bool) → Spot → Instr → Type 0
IsFlushPoint p m flags s (i.Load l t) = NamesBuffered p flags s
IsFlushPoint p m flags s (i.Store t e) = IsTrue (flag_at flags s.thread s.index) ⊎ NamesBuffered p flags s ⊎ ((m ≡ model.Tso) × IsThreadBuffered flags s.thread)
IsFlushPoint p m flags s (i.Add l t e) = NamesBuffered p flags s ⊎ IsThreadBuffered flags s.thread
IsFlushPoint p m flags s (i.Cas l t e f) = NamesBuffered p flags s ⊎ IsThreadBuffered flags s.thread
IsFlushPoint p m flags s i.Fence = IsThreadBuffered flags s.thread
IsFlushPoint p m flags s (i.Lock n) = IsThreadBuffered flags s.thread
IsFlushPoint p m flags s (i.Unlock n) = IsThreadBuffered flags s.thread
IsFlushPoint p m flags s (i.Start u) = IsThreadBuffered flags s.thread
IsFlushPoint p m flags s (i.Join u) = IsThreadBuffered flags s.thread ⊎ IsThreadBuffered flags u
IsFlushPoint p m flags s (i.Set l e) = ⊥
IsFlushPoint p m flags s (i.Input l) = ⊥
IsFlushPoint p m flags s (i.Jump k) = ⊥
IsFlushPoint p m flags s (i.Branch e k) = ⊥
IsFlushPoint p m flags s (i.Assert e n) = ⊥
IsFlushPoint p m flags s (i.Assume e) = ⊥
IsFlushPoint p m flags s i.AtomBegin = ⊥
IsFlushPoint p m flags s i.AtomEnd = ⊥
IsFlushPoint p m flags s i.End = ⊥

-- ---- the shape

-- one flag for each instruction
abbrev pub HasFlags : Listing → List (List Bool) → Type 0
HasFlags p flags = (length flags ≡ length p.threads) × ((t : ℕ) (thread : Thread) (row : List Bool) → slice_get p.threads t ≡ Some thread → slice_get flags t ≡ Some row → length row ≡ length thread.code)

pub record Fits (p : Listing) (shape : Shape) : Type 0 where
  pub buffered_flags : HasFlags p shape.buffered
  pub moved_flags : length shape.moved ≡ length p.cells
  pub point_flags : HasFlags p shape.points
  pub stores : (t k : ℕ) → IsTrue (flag_at shape.buffered t k) → IsSomeAnd (instr_at p t k) IsStore × (1 ≤ length p.cells)
  pub moved : (c : ℕ) → IsTrue (slice_index_or shape.moved c false) ↔ IsMoved p shape.buffered c
  pub points : (t k : ℕ) (it : Instr) → instr_at p t k ≡ Some it → IsTrue (flag_at shape.points t k) ↔ IsFlushPoint p shape.model shape.buffered (record { thread = t; index = k }) it
