use Rattle.std.proofs.Common.{◌≡◌, ℕ}
use Rattle.std.specs.Prelude.{◌↔◌, ◌⊎◌}
use Rattle.mm_bits.specs.Table.{Linked}
use Rattle.mm_graph.proofs.Filling.{InRows}
use Rattle.mm_graph.proofs.tables.join.Given as goal

abbrev pub invariant-rows : goal.invariant-rows
invariant-rows l = record {
  size : l.into.side ≡ l.fn.into.side;
  rows : (x y : ℕ) → Linked l.into.rows.items x y ↔ (Linked l.fn.into.rows.items x y ⊎ InRows l.a (Linked l.other.rows.items) x y);
}
