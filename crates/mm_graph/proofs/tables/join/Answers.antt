use Rattle.std.proofs.Common.{ℕ, arith, refl}
use Rattle.mm_bits.specs.Table.{Linked}
use Rattle.mm_bits.proofs.Wordwise.{linked_below}
use Rattle.mm_graph.proofs.Filling.{rows_none, rows_more, rows_all}
use Rattle.mm_graph.proofs.tables.join.Goals as goal

pub rows-init : goal.rows-init
rows-init c = record { size = refl; rows = rows_none (Linked c.args.other.now.rows.items) (Linked c.args.into.now.rows.items) }

pub rows-preserved : goal.rows-preserved
rows-preserved c =
    let R : ℕ → ℕ → Type 0 = Linked c.args.other.now.rows.items in
    record {
      size = omega arith;
      rows = rows_more c.rows.a R (Linked c.args.into.now.rows.items) (Linked c.rows.into.rows.items) c.rows.invariant.rows (Linked c.join_row.new.into.rows.items) c.join_row.ensures.row;
    }

pub returns-clause-all : goal.returns-clause-all
returns-clause-all c =
    let R : ℕ → ℕ → Type 0 = Linked c.args.other.now.rows.items in
    rows_all c.rows.a R (Linked c.args.into.now.rows.items) (Linked c.rows.into.rows.items) c.rows.invariant.rows
    (λ x y r. let w = linked_below c.args.other.now.rows.items x y r in let size = c.args.other.now.sized in omega arith)
