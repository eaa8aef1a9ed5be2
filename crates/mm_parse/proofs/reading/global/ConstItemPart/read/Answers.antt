use Rattle.std.proofs.lemmas.Result.{err_from_is_err_and}
use Rattle.mm_reading.specs.Parsing.{peek}
use Rattle.mm_grammar.specs.reading.ProgramReading.{const}
use Rattle.mm_parse.proofs.reading.global.ConstItemPart.read.Goals as goal

pub returns-in_err-number : goal.returns-in_err-number
unfolding const peek
returns-in_err-number c =
    let p = err_from_is_err_and c.from_residual.result c.from_residual.ensures.1 in
    rw (p.1, p.2) c.in_err-number.ensures

pub returns : goal.returns
unfolding const peek
returns c = rw c.into_inner.ensures c.in_ok-number.ensures
