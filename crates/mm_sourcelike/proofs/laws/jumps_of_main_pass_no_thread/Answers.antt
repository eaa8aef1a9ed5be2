use Rattle.mm_sourcelike.proofs.Jumped.{jumps_pass_none}
use Rattle.mm_sourcelike.proofs.laws.jumps_of_main_pass_no_thread.Goals as goal

pub returns : goal.returns
returns c = jumps_pass_none
