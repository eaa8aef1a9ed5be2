use Rattle.mm_planned.proofs.Unique.{one_plan}
use Rattle.mm_planned.proofs.laws.a_program_has_one_plan.Goals as goal

pub returns : goal.returns
returns c = one_plan
