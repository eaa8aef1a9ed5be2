use Rattle.std.proofs.Common.{ℕ, arith, refl}
use Rattle.mm_bits.specs.Table.{Linked}
use Rattle.mm_graph.specs.reading.Accesses.{AreOrdered}
use Rattle.mm_graph.specs.reading.Tables.{OnBoth}
use Rattle.mm_graph.proofs.Filling.{row_none, row_more, row_all, on_both_within}
use Rattle.mm_graph.proofs.tables.order_row.Goals as goal

pub columns-init : goal.columns-init
columns-init c = record { size = refl; row = row_none c.args.a (OnBoth AreOrdered c.args.accesses.now) (Linked c.args.table.now.rows.items) }

pub columns-preserved : goal.columns-preserved
columns-preserved c =
    let R : ℕ → ℕ → Type 0 = OnBoth AreOrdered c.args.accesses.now in
    record {
      size = omega arith;
      row = row_more c.args.a c.columns.b R (Linked c.args.table.now.rows.items) (Linked c.columns.table.rows.items) c.columns.invariant.row
          c.are_ordered_at-ordered.result c.are_ordered_at-ordered.ensures (Linked c.relate.new.table.rows.items) c.relate.ensures.put;
    }

pub returns-clause-row : goal.returns-clause-row
returns-clause-row c =
    let R : ℕ → ℕ → Type 0 = OnBoth AreOrdered c.args.accesses.now in
    row_all c.args.a c.columns.b R (Linked c.args.table.now.rows.items) (Linked c.columns.table.rows.items) c.columns.invariant.row
    (λ x y r. let w = (on_both_within AreOrdered c.args.accesses.now x y r).1 in omega arith)
