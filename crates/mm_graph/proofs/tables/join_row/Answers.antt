use Rattle.std.proofs.Common.{ℕ, arith, refl}
use Rattle.mm_bits.specs.Table.{Linked}
use Rattle.mm_graph.proofs.Filling.{row_none, row_more, row_all}
use Rattle.mm_graph.proofs.tables.join_row.Goals as goal

pub columns-init : goal.columns-init
columns-init c = record { size = refl; row = row_none c.args.a (Linked c.args.other.now.rows.items) (Linked c.args.into.now.rows.items) }

pub columns-preserved : goal.columns-preserved
columns-preserved c =
    let R : ℕ → ℕ → Type 0 = Linked c.args.other.now.rows.items in
    record {
      size = omega arith;
      row = row_more c.args.a c.columns.b R (Linked c.args.into.now.rows.items) (Linked c.columns.into.rows.items) c.columns.invariant.row
          c.get-related.result c.get-related.ensures (Linked c.relate.new.table.rows.items) c.relate.ensures.put;
    }

pub returns-clause-row : goal.returns-clause-row
returns-clause-row c =
    let R : ℕ → ℕ → Type 0 = Linked c.args.other.now.rows.items in
    row_all c.args.a c.columns.b R (Linked c.args.into.now.rows.items) (Linked c.columns.into.rows.items) c.columns.invariant.row
    (λ x y r. let w = c.args.other.now.within x y r in omega arith)
