use Rattle.std.proofs.Common.{rules, ◌≡◌, None}
use Rattle.std.proofs.lemmas.Str.Pattern.{strip_prefix_char}
use Rattle.mm_sched.specs.reading.Reading.{number_of}
use Rattle.mm_sched.proofs.Numerals.{int_unsigned}
use Rattle.mm_sched.proofs.read.int_of.Goals as goal

pub returns-in_err-number_of-in-None : goal.returns-in_err-number_of-in-None
returns-in_err-number_of-in-None c =
    let no = strip_prefix_char 45 c.args.word.now c.strip_prefix.result c.strip_prefix.ensures.cases (search rules) in
    let e = int_unsigned c.args.word.now (rw c.in-None.is at no) in
    let n : number_of c.args.word.now ≡ None = cc in
    rw (e, n) (search rules)
