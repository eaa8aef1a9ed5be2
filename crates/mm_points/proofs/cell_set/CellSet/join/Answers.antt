use Rattle.std.proofs.Common.{◌≡◌, inl, inr, arith}
use Rattle.std.proofs.lemmas.Option.{slice_get-get_or}
use Rattle.mm_points.specs.Sets.{Has}
use Rattle.mm_points.proofs.Growing.{neither}
use Rattle.mm_points.proofs.Indexes.{adds_more, adds_all}
use Rattle.mm_points.proofs.Insertions.{has_by_index}
use Rattle.mm_points.proofs.cell_set.CellSet.join.Goals as goal

pub cells-preserved : goal.cells-preserved
cells-preserved c = record {
  added = λ m. adds_more c.args.cells.now c.cells.k _ (λ x. m ≡ x) (Has c.args.self.now m) (Has c.cells.self m) (Has c.add.new.self m)
      (slice_get-get_or c.args.cells.now c.cells.k 0 c.cells-test.true) (c.cells.invariant.added m) (c.in_ok-more.ensures.added m);
  stays = λ e m h. let two = neither c.cells.grew c.in_ok-more.more e in c.cells.invariant.stays two.0 m (c.in_ok-more.ensures.stays two.1 m h);
}

pub returns-clause-added : goal.returns-clause-added
returns-clause-added c = λ m.
    let all = adds_all c.args.cells.now c.cells.k (λ x. m ≡ x) (Has c.args.self.now m) (Has c.cells.self m) (omega arith) (c.cells.invariant.added m) in
    let by = has_by_index c.args.cells.now m in (
      λ h. elim (all.0 h) [ inl was ↦ inl was | inr s ↦ inr (by.0 s) ],
      λ h. elim h [ inl was ↦ all.1 (inl was) | inr has ↦ all.1 (inr (by.1 has)) ],
    )
