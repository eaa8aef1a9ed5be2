use Rattle.mm_sched.proofs.RoundTrip.{spelled_is}
use Rattle.mm_sched.proofs.text.what_is_spelled_is_read.Goals as goal

pub returns : goal.returns
returns c = spelled_is
