use Rattle.mm_sourcelike.proofs.Arrays.{arrays_continue}
use Rattle.mm_sourcelike.proofs.laws.elements_stand_in_order.Goals as goal

pub returns : goal.returns
returns c = arrays_continue
