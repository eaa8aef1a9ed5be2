use Rattle.std.proofs.Common.{◌∙◌}
use Rattle.mm_run.proofs.Replaying.{line_taken, line_stuck}
use Rattle.mm_run.proofs.machine.take_lines.Goals as goal

pub returns-in-Err-clause-taken : goal.returns-in-Err-clause-taken
returns-in-Err-clause-taken g c =
    let i = c.loop-line.invariant in
    line_stuck _ _ _ _ i.0 i.1 _ _ _ _ _ _ i.2 c.loop-line-test.true _ c.in-Err.ensures.taken

pub loop-line-preserved : goal.loop-line-preserved
loop-line-preserved g c =
    let i = c.loop-line.invariant in
    (c.take_line.ensures.rules ∙ i.0, c.take_line.ensures.program ∙ i.1, line_taken _ _ _ _ i.0 i.1 _ _ _ _ _ _ i.2 c.loop-line-test.true _ c.in-Ok.ensures.taken)
