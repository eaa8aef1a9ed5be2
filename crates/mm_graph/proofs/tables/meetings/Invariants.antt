use Rattle.std.proofs.Common.{◌≡◌, ℕ, length}
use Rattle.std.specs.Prelude.{◌↔◌, ◌⊎◌}
use Rattle.mm_bits.specs.Table.{Linked}
use Rattle.mm_graph.specs.reading.Accesses.{AreMet}
use Rattle.mm_graph.specs.reading.Tables.{OnBoth}
use Rattle.mm_graph.proofs.Filling.{InRows}
use Rattle.mm_graph.proofs.tables.meetings.Given as goal

abbrev pub invariant-rows : goal.invariant-rows
invariant-rows l = record {
  size : l.table.side ≡ length l.accesses;
  rows : (x y : ℕ) → Linked l.table.rows.items x y ↔ (⊥ ⊎ InRows l.a (OnBoth AreMet l.accesses) x y);
}
