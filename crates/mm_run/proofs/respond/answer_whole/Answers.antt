use Rattle.mm_run.proofs.Answering.{if_ok, has_text, no_text}
use Rattle.mm_run.proofs.respond.answer_whole.Goals as goal

pub returns-in-Ok : goal.returns-in-Ok
returns-in-Ok c = if_ok _ _ _ c.answer_text.ensures (λ a h. has_text _ _ _ _ _ c.in-Ok.ensures.1 c.in-Ok.ensures.0 h)

pub returns-in-Err : goal.returns-in-Err
returns-in-Err c = if_ok _ _ _ c.refused.ensures (λ a h. no_text _ _ _ _ _ c.in-Err.ensures h.0 h.1)
