use Rattle.std.proofs.Common.{arith, ap, length}
use Rattle.mm_sched.specs.declared.entry.Rules.TheVariants.{Buffered}
use Rattle.mm_sched.proofs.Fitting.{pending_within}
use Rattle.mm_buf.proofs.buf.Buf.pending.Goals as goal

pub overflow_cast-result : goal.overflow_cast-result
overflow_cast-result c =
    let within = pending_within (Buffered c.self.inside.model c.self.inside.bound) c.self.inside.program.now c.self.inside.machine.state c.self.invariant.fits c.args.t in
    omega (arith, within, ap length c.pending.ensures)
