use Rattle.std.proofs.Common.{ℕ, ◌<◌}
use Rattle.std.specs.Prelude.{◌↔◌}
use Rattle.mm_bits.specs.Table.{Linked}
use Rattle.mm_bits.specs.Words.{Has}
use Rattle.mm_bits.proofs.levels.before.Given as goal

abbrev pub invariant-nodes : goal.invariant-nodes
invariant-nodes l = (x : ℕ) → Has l.found.words x ↔ ((y : ℕ) × (y < l.y) × Linked l.back y x × Has l.set.words y)
