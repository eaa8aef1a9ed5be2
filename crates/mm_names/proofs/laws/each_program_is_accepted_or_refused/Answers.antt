use Rattle.mm_names.proofs.Decided.{each}
use Rattle.mm_names.proofs.laws.each_program_is_accepted_or_refused.Goals as goal

pub returns : goal.returns
returns c = each
