use Rattle.std.proofs.Common.{ℕ, arith, refl}
use Rattle.mm_bits.specs.Table.{Linked}
use Rattle.mm_graph.specs.reading.Tables.{OnBoth, IsMarkedIn}
use Rattle.mm_graph.proofs.Filling.{row_none, row_more, row_all, on_both_within}
use Rattle.mm_graph.proofs.tables.flow_row.Goals as goal

pub columns-init : goal.columns-init
columns-init c = record { size = refl; row = row_none c.args.a (OnBoth (IsMarkedIn c.args.seen.now) c.args.spots.now) (Linked c.args.table.now.rows.items) }

pub columns-preserved : goal.columns-preserved
columns-preserved c =
    let R : ℕ → ℕ → Type 0 = OnBoth (IsMarkedIn c.args.seen.now) c.args.spots.now in
    record {
      size = omega arith;
      row = row_more c.args.a c.columns.b R (Linked c.args.table.now.rows.items) (Linked c.columns.table.rows.items) c.columns.invariant.row
          c.is_marked_at-marked.result c.is_marked_at-marked.ensures (Linked c.relate.new.table.rows.items) c.relate.ensures.put;
    }

pub returns-clause-row : goal.returns-clause-row
returns-clause-row c =
    let R : ℕ → ℕ → Type 0 = OnBoth (IsMarkedIn c.args.seen.now) c.args.spots.now in
    row_all c.args.a c.columns.b R (Linked c.args.table.now.rows.items) (Linked c.columns.table.rows.items) c.columns.invariant.row
    (λ x y r. let w = (on_both_within (IsMarkedIn c.args.seen.now) c.args.spots.now x y r).1 in omega arith)
