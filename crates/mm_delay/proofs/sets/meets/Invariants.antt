use Rattle.std.proofs.Common.{◌≡◌, ℕ, ◌<◌, Some}
use Rattle.std.specs.Prelude.{slice_get}
use Rattle.mm_bits.specs.Words.{Has}
use Rattle.mm_delay.proofs.sets.meets.Given as goal

abbrev pub invariant-cells : goal.invariant-cells
invariant-cells l = (j : ℕ) → j < l.k → (c : ℕ) → slice_get l.cells j ≡ Some c → ¬ (Has l.set.words c)
