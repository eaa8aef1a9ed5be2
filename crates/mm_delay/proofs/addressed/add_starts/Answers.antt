use Rattle.std.proofs.Common.{arith}
use Rattle.std.proofs.lemmas.Option.{slice_get-get_or}
use Rattle.std.specs.Prelude.{◌<◌}
use Rattle.mm_goto.specs.declared.program.Cell.{Cell}
use Rattle.mm_goto.specs.Shapes.{TakesAddress}
use Rattle.mm_delay.proofs.Gathering.{item_more, item_all}
use Rattle.mm_delay.proofs.addressed.add_starts.Goals as goal

pub cells-preserved : goal.cells-preserved
cells-preserved c = λ n. item_more (λ (of : Cell). TakesAddress n of.init) (n < 1024) _ c.args.cells.now c.cells.k _ _ _
    (slice_get-get_or c.args.cells.now c.cells.k c.index-cells-k.result c.cells-test.true) (c.cells.invariant n) (c.add_expr.ensures n)

pub returns : goal.returns
returns c = λ n. item_all (λ (of : Cell). TakesAddress n of.init) (n < 1024) _ c.args.cells.now c.cells.k _ (omega arith) (c.cells.invariant n)
