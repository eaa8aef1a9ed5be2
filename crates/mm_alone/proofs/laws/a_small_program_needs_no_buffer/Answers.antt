use Rattle.mm_alone.proofs.Planned.{plan_printed, plan_unbuffered}
use Rattle.mm_alone.proofs.laws.a_small_program_needs_no_buffer.Goals as goal

pub returns-clause-unbuffered : goal.returns-clause-unbuffered
returns-clause-unbuffered c = plan_unbuffered

pub returns-clause-printed : goal.returns-clause-printed
returns-clause-printed c = plan_printed
