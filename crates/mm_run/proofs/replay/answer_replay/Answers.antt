use Rattle.std.proofs.Common.{subst}
use Rattle.mm_tree.specs.declared.side.Side.{Side}
use Rattle.mm_run.specs.declared.answer.Answer.{Answer}
use Rattle.mm_run.specs.Answer.{AnswersParts}
use Rattle.mm_run.specs.Program.{IsProgramText}
use Rattle.mm_run.specs.Refusal.{Rejects}
use Rattle.mm_run.proofs.Answering.{if_ok, one_part}
use Rattle.mm_run.proofs.Refused.{rejects_any}
use Rattle.mm_run.proofs.replay.answer_replay.Goals as goal

pub returns-in-None : goal.returns-in-None
returns-in-None c = if_ok _ _ _ c.missing_part.ensures (λ (a : Answer) h. one_part _ _ c.args.rules.now c.args.input.now c.in-None.ensures h.0 h.1)

pub returns-in-Ok : goal.returns-in-Ok
returns-in-Ok c =
    let p = subst (λ (side : Side). IsProgramText side c.in-Some.program.now c.in-Ok.program) c.side_for.ensures c.in-Ok.ensures.program in
    if_ok _ _ _ c.replay_text.ensures (λ a h. AnswersParts.both _ _ _ c.in-Some.ensures p h)

pub returns-in-Err : goal.returns-in-Err
returns-in-Err c =
    let r = subst (λ (side : Side). Rejects side c.in-Some.program.now c.in-Err.fault) c.side_for.ensures c.in-Err.ensures.refused in
    if_ok _ _ _ c.answer_fault.ensures (λ a h. AnswersParts.refused _ _ c.in-Some.ensures (rejects_any _ _ _ _ _ h r))
