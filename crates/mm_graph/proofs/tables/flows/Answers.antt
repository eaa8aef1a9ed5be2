use Rattle.std.proofs.Common.{ℕ, inl, inr, arith}
use Rattle.mm_bits.specs.Table.{Linked}
use Rattle.std.proofs.lemmas.Option.{slice_get-get_or}
use Rattle.mm_graph.specs.reading.Marks.{passes_where}
use Rattle.mm_graph.specs.reading.Tables.{OnBoth, FlowsIn}
use Rattle.mm_graph.proofs.Flowing.{flow_same}
use Rattle.mm_graph.proofs.Filling.{rows_more, rows_only, on_both_within}
use Rattle.mm_graph.proofs.tables.flows.Goals as goal

pub rows-init : goal.rows-init
rows-init c = record {
  size = c.in_ok-table.ensures.side;
  rows = λ x y. (
    λ h. absurd (c.in_ok-table.ensures.empty x y h),
    λ h. elim h [ inl e ↦ absurd e | inr i ↦ absurd (omega (arith, i.0)) ],
  );
}

pub rows-preserved : goal.rows-preserved
rows-preserved c =
    let R : ℕ → ℕ → Type 0 = OnBoth (FlowsIn c.args.program.now (passes_where c.args.all)) c.args.spots.now in
    let none : ℕ → ℕ → Type 0 = λ x y. ⊥ in
    record {
      size = omega arith;
      rows = rows_more c.rows.a R none (Linked c.rows.table.rows.items) c.rows.invariant.rows (Linked c.flow_row.new.table.rows.items)
          (flow_same c.args.program.now c.args.spots.now c.requires.sites (passes_where c.args.all) c.rows.a _ (slice_get-get_or c.args.spots.now c.rows.a _ c.rows-test.true)
          c.in_ok-seen.seen.items c.in_ok-seen.ensures (Linked c.flow_row.new.table.rows.items) (Linked c.rows.table.rows.items) (rw c.as_slice.ensures.value at c.flow_row.ensures.row));
    }

pub returns-clause-all : goal.returns-clause-all
returns-clause-all c =
    let R : ℕ → ℕ → Type 0 = OnBoth (FlowsIn c.args.program.now (passes_where c.args.all)) c.args.spots.now in
    let none : ℕ → ℕ → Type 0 = λ x y. ⊥ in
    rows_only c.rows.a R none (Linked c.rows.table.rows.items) c.rows.invariant.rows (λ x y h. h)
    (λ x y r. let w = (on_both_within (FlowsIn c.args.program.now (passes_where c.args.all)) c.args.spots.now x y r).0 in omega arith)
