use Rattle.std.proofs.Common.{sym, ap, subst}
use Rattle.mm_sched.specs.State.{State}
use Rattle.mm_sched.proofs.Happens.{can_happen}
use Rattle.mm_sched.proofs.Fitting.{event_fits}
use Rattle.mm_sched.specs.Invariant.{Fits}
use Rattle.mm_sched.proofs.interpreter.Interpreter.take.Goals as goal

pub apply-requires : goal.apply-requires
apply-requires c = can_happen c.args.rules.now c.args.program.now c.args.self.now c.requires.fits c.requires.room c.args.entry c.in_ok-event.event (sym c.in_ok-event.ensures)

pub returns-clause-fits : goal.returns-clause-fits
returns-clause-fits c =
    subst (λ (s : State). Fits c.args.rules.now c.args.program.now s) (sym (ap (λ m. m.state) c.apply.ensures))
    (event_fits c.args.rules.now c.args.program.now c.args.self.now.state c.requires.fits c.args.entry c.in_ok-event.event (sym c.in_ok-event.ensures))
