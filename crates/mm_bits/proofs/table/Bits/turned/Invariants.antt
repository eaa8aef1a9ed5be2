use Rattle.std.proofs.Common.{◌≡◌, ℕ, ◌<◌}
use Rattle.std.specs.Prelude.{◌↔◌}
use Rattle.mm_bits.specs.Table.{Linked}
use Rattle.mm_bits.proofs.table.Bits.turned.Given as goal

abbrev pub invariant-rows : goal.invariant-rows
invariant-rows l = record {
  side : l.back.side ≡ l.self.side;
  turned : (x y : ℕ) → Linked l.back.rows.items x y ↔ ((y < l.a) × Linked l.self.rows.items y x);
}
