use Rattle.std.proofs.Common.{refl, ap, ◌∙◌}
use Rattle.mm_sched.specs.State.{initial}
use Rattle.mm_sched.specs.Runs.{failing_thread}
use Rattle.mm_sched.proofs.Failures.{fails-from, last-step, locals-stay}
use Rattle.mm_sched.proofs.laws.runs.a_failing_schedule_ends_in_its_assertion.Goals as goal

pub returns-clause-thread : goal.returns-clause-thread
unfolding initial
returns-clause-thread c = λ r p n es fails.
    let found = fails-from r p n es (initial p) fails.last refl fails.runs fails.verdict in
    (found.0, ap failing_thread found.1.parts ∙ last-step found.1.before found.1.behind found.0 found.1.flushes, found.1)

pub returns-clause-locals : goal.returns-clause-locals
returns-clause-locals c = λ r p n es fails t by. locals-stay r p n es t fails.last fails.runs by
