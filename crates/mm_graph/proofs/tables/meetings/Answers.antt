use Rattle.std.proofs.Common.{ℕ, inl, inr, arith}
use Rattle.mm_bits.specs.Table.{Linked}
use Rattle.mm_graph.specs.reading.Accesses.{AreMet}
use Rattle.mm_graph.specs.reading.Tables.{OnBoth}
use Rattle.mm_graph.proofs.Filling.{rows_more, rows_only, on_both_within}
use Rattle.mm_graph.proofs.tables.meetings.Goals as goal

pub rows-init : goal.rows-init
rows-init c = record {
  size = c.in_ok-table.ensures.side;
  rows = λ x y. (
    λ h. absurd (c.in_ok-table.ensures.empty x y h),
    λ h. elim h [ inl e ↦ absurd e | inr i ↦ absurd (omega (arith, i.0)) ],
  );
}

pub rows-preserved : goal.rows-preserved
rows-preserved c =
    let R : ℕ → ℕ → Type 0 = OnBoth AreMet c.args.accesses.now in
    let none : ℕ → ℕ → Type 0 = λ x y. ⊥ in
    record {
      size = omega arith;
      rows = rows_more c.rows.a R none (Linked c.rows.table.rows.items) c.rows.invariant.rows (Linked c.meet_row.new.table.rows.items) c.meet_row.ensures.row;
    }

pub returns-clause-all : goal.returns-clause-all
returns-clause-all c =
    let R : ℕ → ℕ → Type 0 = OnBoth AreMet c.args.accesses.now in
    let none : ℕ → ℕ → Type 0 = λ x y. ⊥ in
    rows_only c.rows.a R none (Linked c.rows.table.rows.items) c.rows.invariant.rows (λ x y h. h)
    (λ x y r. let w = (on_both_within AreMet c.args.accesses.now x y r).0 in omega arith)
