use Rattle.mm_decided.proofs.First.{first_cycle_or_none}
use Rattle.mm_decided.proofs.laws.a_store_has_a_first_delay_cycle_or_none.Goals as goal

pub returns : goal.returns
returns c = first_cycle_or_none
