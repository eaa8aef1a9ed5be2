use Rattle.std.proofs.Common.{◌≡◌, ℕ, ◌<◌}
use Rattle.std.specs.Prelude.{◌↔◌, ◌⊎◌}
use Rattle.mm_bits.specs.Table.{Linked}
use Rattle.mm_bits.specs.Words.{Has}
use Rattle.mm_bits.proofs.table.Bits.turn_row.Given as goal

abbrev pub invariant-columns : goal.invariant-columns
invariant-columns l = record {
  side : l.self.side ≡ l.fn.self.side;
  turned : (x y : ℕ) → Linked l.self.rows.items x y ↔ (Linked l.fn.self.rows.items x y ⊎ ((x < l.b) × Has l.row.words x × (y ≡ l.a)));
}
