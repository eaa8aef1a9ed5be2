use Rattle.mm_sched.proofs.ReadingOn.{read_schedule_is}
use Rattle.mm_sched.proofs.ReadingLoop.{fault_is}
use Rattle.mm_sched.proofs.read.read_schedule.Goals as goal

pub returns-in-Ok-clause-fits : goal.returns-in-Ok-clause-fits
returns-in-Ok-clause-fits c = rw c.new.ensures (read_schedule_is c.args.text.now c.in-Ok.lines.items c.in-Ok.ensures)

pub returns-in-Err-clause-fault : goal.returns-in-Err-clause-fault
returns-in-Err-clause-fault c = fault_is c.args.text.now c.in-Err.fault c.in-Err.ensures
