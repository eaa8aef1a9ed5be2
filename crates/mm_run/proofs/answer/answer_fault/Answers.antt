use Rattle.std.proofs.Common.{◌∙◌, string_bytes, ap, subst, sym}
use Rattle.mm_run.specs.declared.answer.Answer.{Answer}
use Rattle.mm_run.specs.declared.program.ProgramFault.{ProgramFault}
use Rattle.mm_run.specs.Lines.{refusal_line}
use Rattle.mm_run.specs.Refusal.{Tells}
use Rattle.mm_run.proofs.Answering.{if_ok}
use Rattle.mm_run.proofs.answer.answer_fault.Goals as goal

pub returns-in-Refused : goal.returns-in-Refused
returns-in-Refused c = if_ok _ _ _ c.refused.ensures (λ (a : Answer) h. subst (λ (f : ProgramFault). Tells f a.status (string_bytes a.output)) (sym c.in-Refused.is) (h.0, h.1 ∙ ap (refusal_line c.in-Refused.refusal.at) c.deref.ensures))
