use Rattle.std.proofs.Common.{sym, rules}
use Rattle.mm_scope.proofs.Numerals.{no_number, numeral_none}
use Rattle.mm_scope.proofs.assertion.is_numeral.Goals as goal

pub returns-in-Err : goal.returns-in-Err
returns-in-Err c = sym (numeral_none c.args.word.now (no_number c.args.word.now c.parse.result c.in-Err.field-0 c.parse.ensures.value.0 c.in-Err.is (cc) (search rules)))
