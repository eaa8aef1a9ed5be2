use Rattle.std.proofs.Common.{sym}
use Rattle.mm_sched.specs.Buffer.{is_to}
use Rattle.mm_sched.proofs.Parts.{first_of_filter}
use Rattle.mm_sched.proofs.laws.runs.a_flush_takes_the_first_that_counts.Goals as goal

pub returns : goal.returns
returns c = λ ps cell. sym (first_of_filter (is_to cell) ps)
