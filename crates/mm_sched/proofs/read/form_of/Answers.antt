use Rattle.std.proofs.Common.{rules, tests}
use Rattle.mm_sched.proofs.read.form_of.Goals as goal

pub returns-in_default : goal.returns-in_default
returns-in_default c = search (tests, rules)
