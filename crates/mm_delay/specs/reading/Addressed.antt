-- The cells whose addresses stand in parts of a program.
use Rattle.std.specs.Prelude.{◌≡◌, ℕ, ◌<◌, List, Some, slice_get}
use Rattle.std.specs.List.{Contains}
use Rattle.mm_goto.specs.declared.program.Cell.{Cell}
use Rattle.mm_goto.specs.declared.program.Instr.{Instr}
use Rattle.mm_goto.specs.declared.program.Thread.{Thread}
use Rattle.mm_goto.specs.declared.pure.Pure.{Pure}
use Rattle.mm_goto.specs.Shapes.{TakesAddress}
use Rattle.mm_goto.specs.Sourcelike.{exprs_of}

-- in one of the expressions
abbrev pub InExprs : List Pure → ℕ → Type 0
InExprs es c = (e : Pure) × Contains es e × TakesAddress c e

-- in an instruction of the code
abbrev pub InCode : List Instr → ℕ → Type 0
InCode code c = (k : ℕ) × (it : Instr) × (slice_get code k ≡ Some it) × InExprs (exprs_of it) c

-- in the code of one of the threads
abbrev pub InThreads : List Thread → ℕ → Type 0
InThreads threads c = (t : ℕ) × (thread : Thread) × (slice_get threads t ≡ Some thread) × InCode thread.code c

-- in a start value of one of the cells
abbrev pub InStarts : List Cell → ℕ → Type 0
InStarts cells c = (k : ℕ) × (of : Cell) × (slice_get cells k ≡ Some of) × TakesAddress c of.init

-- each is a number that a set can have
abbrev pub AreBelow : (ℕ → Type 0) → Type 0
AreBelow P = (c : ℕ) → P c → c < 1024
