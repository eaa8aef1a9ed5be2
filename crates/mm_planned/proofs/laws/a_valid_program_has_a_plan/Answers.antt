use Rattle.mm_planned.proofs.Existing.{a_plan}
use Rattle.mm_planned.proofs.laws.a_valid_program_has_a_plan.Goals as goal

pub returns : goal.returns
returns c = a_plan
