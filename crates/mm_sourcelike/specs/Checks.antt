-- Where a flattened source divides.
use Rattle.std.specs.Prelude.{◌≡◌, ◌⊎◌, ℕ, false, All, Some, slice_get}
use Rattle.mm_goto.specs.Checks.{late_parts}
use Rattle.mm_goto.specs.Listing.{Listing}
use Rattle.mm_goto.specs.Parts.{divides}
use Rattle.mm_goto.specs.Sourcelike.{exprs_of}
use Rattle.mm_goto.specs.declared.program.Instr.{Instr}
use Rattle.mm_goto.specs.declared.program.Thread.{Thread}
use Rattle.mm_goto.specs.declared.pure.Pure.{Pure}

-- a part that is not always reached divides only in the whole expression, which is the check of an index
abbrev pub DividesAlone : Pure → Type 0
DividesAlone e = All (λ late. (divides late.part ≡ false) ⊎ (late.whole ≡ e)) (late_parts e)

-- so do all expressions of the program
abbrev pub ChecksStandAlone : Listing → Type 0
ChecksStandAlone p = (t k : ℕ) (thread : Thread) (it : Instr) → slice_get p.threads t ≡ Some thread → slice_get thread.code k ≡ Some it → All DividesAlone (exprs_of it)
