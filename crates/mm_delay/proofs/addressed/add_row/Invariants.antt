use Rattle.std.proofs.Common.{ℕ, ◌<◌, ◌≤◌}
use Rattle.std.specs.Prelude.{◌↔◌, ◌⊎◌}
use Rattle.mm_bits.specs.Words.{Has}
use Rattle.mm_delay.proofs.addressed.add_row.Given as goal

abbrev pub invariant-cells : goal.invariant-cells
invariant-cells l = (n : ℕ) → Has l.into.words n ↔ (Has l.fn.into.words n ⊎ ((l.fn.row.first ≤ n) × (n < l.c) × (n < l.past)))
