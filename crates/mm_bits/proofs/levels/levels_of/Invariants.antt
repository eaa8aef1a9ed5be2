use Rattle.std.proofs.Common.{ℕ, ◌<◌, length}
use Rattle.std.specs.Prelude.{◌↔◌}
use Rattle.mm_bits.specs.Near.{Near}
use Rattle.mm_bits.specs.Table.{Linked}
use Rattle.mm_bits.specs.Words.{Has}
use Rattle.mm_bits.proofs.Frontiers.{IsFrontier}
use Rattle.mm_bits.proofs.Missing.{missing}
use Rattle.mm_bits.proofs.Wordwise.{tests}
use Rattle.mm_bits.proofs.levels.levels_of.Given as goal

abbrev pub invariant-levels : goal.invariant-levels
invariant-levels l = record {
  near : (d : ℕ) → d < length l.sets.items → (x : ℕ) → Linked l.sets.items d x ↔ Near (Linked l.rows) l.b d x;
  last : (x : ℕ) → Has l.seen.words x ↔ Near (Linked l.rows) l.b (length l.sets.items) x;
  frontier : IsFrontier (Linked l.rows) l.seen.words l.fresh.words;
}

abbrev pub decreases-levels : goal.decreases-levels
decreases-levels l = missing (tests l.seen.words) 1024
