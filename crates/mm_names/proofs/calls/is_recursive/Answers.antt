use Rattle.std.proofs.Common.{arith, ◌<◌, get_or}
use Rattle.std.proofs.lemmas.Grind.{common_steps}
use Rattle.mm_names.proofs.Marking.{not_recursive}
use Rattle.mm_names.proofs.calls.is_recursive.Goals as goal

pub returns-then-ranks-call-clause-no : goal.returns-then-ranks-call-clause-no
returns-then-ranks-call-clause-no c = λ e r is.
    let low : get_or c.args.ranks.now c.args.call.callee 0 < c.args.limit = grind (arith, common_steps, c.if-ranks-call.true) in
    not_recursive c.args.ranks.now c.requires.descend is low r
