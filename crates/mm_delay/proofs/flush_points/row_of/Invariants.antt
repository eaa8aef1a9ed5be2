use Rattle.std.proofs.Common.{◌≡◌, ℕ, ◌<◌, length, Some}
use Rattle.std.specs.Prelude.{◌↔◌, IsTrue, slice_get}
use Rattle.mm_bits.specs.Words.{Has}
use Rattle.mm_goto.specs.declared.program.Instr.{Instr}
use Rattle.mm_delay.specs.reading.Points.{IsPoint}
use Rattle.mm_delay.specs.reading.Sets.{Raised}
use Rattle.mm_delay.proofs.flush_points.row_of.Given as goal

abbrev pub invariant-code : goal.invariant-code
invariant-code l = record {
  size : length l.row.items ≡ l.k;
  points : (j : ℕ) → j < l.k → (it : Instr) → slice_get l.code j ≡ Some it → Raised l.row.items j ↔ IsPoint l.model (Raised l.near j) (Raised l.own j) (IsTrue l.thread) (Has l.threads.words) it;
}
