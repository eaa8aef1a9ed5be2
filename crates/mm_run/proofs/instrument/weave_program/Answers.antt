use Rattle.mm_run.specs.Answer.{PrintsWoven}
use Rattle.mm_run.proofs.Answering.{if_ok}
use Rattle.mm_run.proofs.instrument.weave_program.Goals as goal

pub returns-in-Err : goal.returns-in-Err
returns-in-Err c = if_ok _ _ _ c.too_large.ensures (λ a h. PrintsWoven.too_large (h c.args.program.now c.in-Err.ensures.refused))
