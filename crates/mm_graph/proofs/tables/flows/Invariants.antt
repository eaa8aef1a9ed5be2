use Rattle.std.proofs.Common.{◌≡◌, ℕ, length}
use Rattle.std.specs.Prelude.{◌↔◌, ◌⊎◌}
use Rattle.mm_bits.specs.Table.{Linked}
use Rattle.mm_graph.specs.reading.Marks.{passes_where}
use Rattle.mm_graph.specs.reading.Tables.{OnBoth, FlowsIn}
use Rattle.mm_graph.proofs.Filling.{InRows}
use Rattle.mm_graph.proofs.tables.flows.Given as goal

abbrev pub invariant-rows : goal.invariant-rows
invariant-rows l = record {
  size : l.table.side ≡ length l.spots;
  rows : (x y : ℕ) → Linked l.table.rows.items x y ↔ (⊥ ⊎ InRows l.a (OnBoth (FlowsIn l.program (passes_where l.all)) l.spots) x y);
}
