use Rattle.std.proofs.Common.{ℕ, ◌<◌}
use Rattle.std.specs.Prelude.{◌↔◌, ◌⊎◌}
use Rattle.mm_bits.specs.Words.{Has}
use Rattle.mm_goto.specs.Shapes.{TakesAddress}
use Rattle.mm_points.proofs.Indexes.{SomeBefore}
use Rattle.mm_delay.proofs.addressed.add_starts.Given as goal

abbrev pub invariant-cells : goal.invariant-cells
invariant-cells l = (c : ℕ) → Has l.into.words c ↔ (Has l.fn.into.words c ⊎ SomeBefore l.cells l.k (λ of. TakesAddress c of.init × (c < 1024)))
