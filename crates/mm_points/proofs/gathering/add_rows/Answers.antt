use Rattle.std.proofs.Common.{arith}
use Rattle.std.proofs.lemmas.Option.{slice_get-get_or}
use Rattle.mm_goto.specs.PointsTo.{IsInRow}
use Rattle.mm_points.specs.Sets.{Has}
use Rattle.mm_points.proofs.Indexes.{adds_more, adds_all}
use Rattle.mm_points.proofs.gathering.add_rows.Goals as goal

pub rows-preserved : goal.rows-preserved
rows-preserved c = λ x. adds_more c.args.rows.now c.rows.k _ (λ row. IsInRow row x) (Has c.args.into.now x) (Has c.rows.into x) (Has c.add_row.new.self x)
    (slice_get-get_or c.args.rows.now c.rows.k _ c.rows-test.true) (c.rows.invariant x) (c.in_ok-add_row.ensures x)

pub returns : goal.returns
returns c = λ x. adds_all c.args.rows.now c.rows.k (λ row. IsInRow row x) (Has c.args.into.now x) (Has c.rows.into x) (omega arith) (c.rows.invariant x)
