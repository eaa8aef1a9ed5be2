use Rattle.std.proofs.Common.{arith, rules}
use Rattle.std.proofs.lemmas.Grind.{common_steps}
use Rattle.std.proofs.lemmas.Int.{to_z-of_z}
use Rattle.mm_sched.proofs.interpreter.Interpreter.event.Goals as goal

pub returns-in-In : goal.returns-in-In
returns-in-In c = first_of (search (rules, to_z-of_z, c.does_input.ensures c.args.rules.now), grind (arith, common_steps, to_z-of_z, c.does_input.ensures c.args.rules.now))
