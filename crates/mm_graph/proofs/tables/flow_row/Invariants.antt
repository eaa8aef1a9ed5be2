use Rattle.std.proofs.Common.{◌≡◌, ℕ}
use Rattle.std.specs.Prelude.{◌↔◌, ◌⊎◌}
use Rattle.mm_bits.specs.Table.{Linked}
use Rattle.mm_graph.specs.reading.Tables.{OnBoth, IsMarkedIn}
use Rattle.mm_graph.proofs.Filling.{InRow}
use Rattle.mm_graph.proofs.tables.flow_row.Given as goal

abbrev pub invariant-columns : goal.invariant-columns
invariant-columns l = record {
  size : l.table.side ≡ l.fn.table.side;
  row : (x y : ℕ) → Linked l.table.rows.items x y ↔ (Linked l.fn.table.rows.items x y ⊎ InRow l.a l.b (OnBoth (IsMarkedIn l.seen) l.spots) x y);
}
