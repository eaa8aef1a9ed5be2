use Rattle.std.proofs.Common.{rules, subst}
use Rattle.mm_sched.specs.State.{State, initial}
use Rattle.mm_sched.specs.Invariant.{Fits}
use Rattle.mm_sched.proofs.Fitting.{initial_fits}
use Rattle.mm_sched.proofs.interpreter.Interpreter.new.Goals as goal

pub returns-clause-fits : goal.returns-clause-fits
unfolding initial
returns-clause-fits c =
    subst (λ (s : State). Fits c.args.rules.now c.args.program.now s) (search rules) (initial_fits c.args.rules.now c.args.program.now c.threads-threads.ensures.valid)
