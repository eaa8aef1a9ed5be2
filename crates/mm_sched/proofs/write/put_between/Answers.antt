use Rattle.std.specs.Prelude.{string_bytes}
use Rattle.std.proofs.lemmas.Result.{on_ok_weaker}
use Rattle.mm_sched.proofs.Spelled.{line_written_at, last_written_at}
use Rattle.mm_sched.proofs.write.put_between.Goals as goal

pub loop-line-preserved : goal.loop-line-preserved
loop-line-preserved c =
    (line_written_at (string_bytes c.loop-line.out) _ _ c.loop-line.held c.in_ok-held.held c.args.lines.now c.loop-line.line-index _ c.loop-line-test.true c.loop-line.invariant.1 c.loop-line.invariant.0 c.in_ok-held.ensures.text c.in_ok-held.ensures.held, c.in_ok-held.ensures.few)

pub returns : goal.returns
returns c = on_ok_weaker c.put_held.result (λ put. last_written_at (string_bytes c.loop-line.out) _ _ c.loop-line.held c.args.lines.now c.loop-line.line-index c.loop-line-test.false c.loop-line.invariant.1 c.loop-line.invariant.0 put) c.put_held.ensures
