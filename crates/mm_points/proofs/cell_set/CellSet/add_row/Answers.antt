use Rattle.std.proofs.Common.{inl, inr, arith}
use Rattle.std.proofs.lemmas.Bool.{cases_eq}
use Rattle.mm_points.proofs.cell_set.CellSet.add_row.Goals as goal

pub cells-preserved : goal.cells-preserved
cells-preserved c = λ m. (
  λ h. elim ((c.in_ok-add.ensures.added m).0 h) [
    | inl old ↦ elim ((c.cells.invariant m).0 old) [ inl was ↦ inl was | inr row ↦ inr (row.0, omega (arith, row.1)) ]
    | inr e ↦ let low = c.cells.auto.c in inr (omega (arith, e, low), omega (arith, e))
  ],
  λ h. elim h [
    | inl was ↦ (c.in_ok-add.ensures.added m).1 (inl ((c.cells.invariant m).1 (inl was)))
    | inr row ↦ elim (cases_eq m c.cells.c) [
      | inl e ↦ (c.in_ok-add.ensures.added m).1 (inr e)
      | inr other ↦ (c.in_ok-add.ensures.added m).1 (inl ((c.cells.invariant m).1 (inr (row.0, omega (arith, row.1, other)))))
    ]
  ],
)

pub returns : goal.returns
returns c = λ m. (
  λ h. elim ((c.cells.invariant m).0 h) [ inl was ↦ inl was | inr row ↦ let end = c.cells.auto.c-end in inr (row.0, omega (arith, row.1, end)) ],
  λ h. elim h [ inl was ↦ (c.cells.invariant m).1 (inl was) | inr row ↦ (c.cells.invariant m).1 (inr (row.0, omega (arith, row.1))) ],
)
