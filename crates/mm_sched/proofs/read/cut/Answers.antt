use Rattle.mm_sched.proofs.Cutting.{split_is_cut}
use Rattle.mm_sched.proofs.read.cut.Goals as goal

pub returns : goal.returns
returns c = split_is_cut c.args.mark c.args.text.now c.split_once.result c.split_once.ensures.cases c.requires
