use Rattle.mm_sched.proofs.Adds.{adds}
use Rattle.mm_sched.proofs.Drops.{drops}
use Rattle.mm_sched.proofs.alone.main_alone_needs_no_buffer.Goals as goal

pub returns : goal.returns
returns c = λ p m bound n valid one room. (adds m bound room p one n, drops m bound p valid one n)
