use Rattle.std.proofs.Common.{◌≡◌, ℕ, ◌<◌, Some}
use Rattle.std.specs.Prelude.{slice_get}
use Rattle.mm_bits.specs.Words.{Has}
use Rattle.mm_goto.specs.declared.program.Cell.{Cell}
use Rattle.mm_delay.proofs.moved.is_named.Given as goal

abbrev pub invariant-cells : goal.invariant-cells
invariant-cells l = (j : ℕ) → j < l.d → (y : Cell) → slice_get l.cells j ≡ Some y → l.name ≡ y.name → ¬ (Has l.set.words j)
