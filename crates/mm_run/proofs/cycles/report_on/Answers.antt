use Rattle.mm_run.specs.Answer.{ReportsCycles}
use Rattle.mm_run.proofs.Answering.{if_ok}
use Rattle.mm_run.proofs.cycles.report_on.Goals as goal

pub returns-in-Err : goal.returns-in-Err
returns-in-Err c = if_ok _ _ _ c.too_large.ensures (λ a h. ReportsCycles.too_large (h c.args.program.now c.in-Err.ensures.refused))
