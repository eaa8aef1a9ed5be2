use Rattle.mm_part.proofs.Failing.{a_full_run, fails_alike}
use Rattle.mm_part.proofs.laws.a_failing_run_with_partial_buffers_is_one_with_store_buffers.Goals as goal

pub returns-clause-runs : goal.returns-clause-runs
returns-clause-runs c = a_full_run

pub returns-clause-alike : goal.returns-clause-alike
returns-clause-alike c = fails_alike
