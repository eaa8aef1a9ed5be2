use Rattle.std.proofs.Common.{arith}
use Rattle.mm_run.specs.Answer.{AnswersProgram}
use Rattle.mm_run.proofs.Answering.{if_ok}
use Rattle.mm_run.proofs.Refused.{rejects_any}
use Rattle.mm_run.proofs.instrument.answer_instrument.Goals as goal

pub returns-in-Ok : goal.returns-in-Ok
returns-in-Ok c = if_ok _ _ _ c.weave_program.ensures (λ a h. AnswersProgram.program _ c.in-Ok.ensures.program h)

pub returns-in-Err : goal.returns-in-Err
returns-in-Err c = if_ok _ _ _ c.answer_fault.ensures (λ a h. AnswersProgram.refused (rejects_any _ _ _ _ _ h c.in-Err.ensures.refused))

pub weave_program-requires : goal.weave_program-requires
weave_program-requires c = (let short = c.requires in record { text = c.args.input.now; utf8 = c.utf8.input; short = omega (arith, short); read = c.in-Ok.ensures.program })
