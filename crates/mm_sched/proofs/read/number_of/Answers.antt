use Rattle.std.proofs.Common.{sym, rules}
use Rattle.mm_sched.proofs.Numerals.{no_number, number_none}
use Rattle.mm_sched.proofs.read.number_of.Goals as goal

pub returns-in-Err : goal.returns-in-Err
returns-in-Err c = sym (number_none c.args.word.now (no_number c.args.word.now c.parse.result c.in-Err.field-0 c.parse.ensures.value.0 c.in-Err.is (cc) (search rules)))
