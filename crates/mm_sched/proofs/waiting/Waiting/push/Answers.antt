use Rattle.std.proofs.Common.{arith, rules}
use Rattle.std.proofs.lemmas.Grind.{common_steps}
use Rattle.mm_sched.proofs.Removing.{writing}
use Rattle.mm_sched.proofs.waiting.Waiting.push.Goals as goal

pub returns : goal.returns
returns c = first_of (grind (arith, common_steps, writing), search (rules, writing))
