use Rattle.std.proofs.Common.{◌≡◌, ℕ}
use Rattle.std.specs.Prelude.{◌↔◌, ◌⊎◌}
use Rattle.mm_bits.specs.Table.{Linked}
use Rattle.mm_graph.proofs.Filling.{InRow}
use Rattle.mm_graph.proofs.tables.join_row.Given as goal

abbrev pub invariant-columns : goal.invariant-columns
invariant-columns l = record {
  size : l.into.side ≡ l.fn.into.side;
  row : (x y : ℕ) → Linked l.into.rows.items x y ↔ (Linked l.fn.into.rows.items x y ⊎ InRow l.a l.b (Linked l.other.rows.items) x y);
}
