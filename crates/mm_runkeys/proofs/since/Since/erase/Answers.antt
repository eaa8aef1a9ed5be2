use Rattle.std.proofs.Common.{arith, rules}
use Rattle.std.proofs.lemmas.Grind.{common_steps}
use Rattle.mm_runkeys.proofs.Rows.{writing}
use Rattle.mm_runkeys.proofs.since.Since.erase.Goals as goal

pub returns : goal.returns
returns c = first_of (grind (arith, common_steps, writing), search (rules, writing))
