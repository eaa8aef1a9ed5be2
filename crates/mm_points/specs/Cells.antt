-- When a table of cells is a program's.
use Rattle.std.specs.Prelude.{◌≡◌, ◌↔◌, ℕ, ◌<◌, List, [], length, slice_get, slice_index_or, Some}
use Rattle.std.specs.List.{Contains}
use Rattle.std.specs.List.Sorted.{IsStrictlyIncreasing}
use Rattle.mm_goto.specs.declared.program.Instr.{Instr}
use Rattle.mm_goto.specs.declared.program.Thread.{Thread}
use Rattle.mm_goto.specs.declared.spot.Spot.{Spot}
use Rattle.mm_goto.specs.Listing.{Listing}
use Rattle.mm_goto.specs.PointsTo.{instr_at}
use Rattle.mm_goto.specs.Sites.{Names}
use Rattle.mm_points.specs.declared.points.PointsTo.{PointsTo}

-- the cells that are named, each once and in order
pub record AreCells (names : ℕ → Type 0) (cells : List ℕ) : Type 0 where
  pub ordered : IsStrictlyIncreasing cells
  pub each : (c : ℕ) → Contains cells c ↔ names c

-- the table has a list for the instruction
abbrev pub IsListed : PointsTo → ℕ → ℕ → Type 0
IsListed points t i = (t < length points.cells) × (i < length (slice_index_or points.cells t []))

-- the list of the instruction
abbrev pub cells_at : PointsTo → ℕ → ℕ → List ℕ
cells_at points t i = slice_index_or (slice_index_or points.cells t []) i []

-- the table has for each instruction of the program the cells that it may access
pub record ArePointsOf (p : Listing) (points : PointsTo) : Type 0 where
  pub threads : length points.cells ≡ length p.threads
  pub code : (t : ℕ) (thread : Thread) → slice_get p.threads t ≡ Some thread → length (slice_index_or points.cells t []) ≡ length thread.code
  pub cells : (s : Spot) (it : Instr) → instr_at p s.thread s.index ≡ Some it → AreCells (Names p s) (cells_at points s.thread s.index)
