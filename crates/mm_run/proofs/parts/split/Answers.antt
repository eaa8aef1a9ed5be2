use Rattle.std.proofs.Common.{rules, arith}
use Rattle.mm_run.proofs.Parting.{at_start, splits, with_next}
use Rattle.mm_run.proofs.parts.split.Goals as goal

pub returns-in-Some : goal.returns-in-Some
returns-in-Some c = at_start _ _ c.in-Some.ensures.cases

pub returns-in-Some-split_once : goal.returns-in-Some-split_once
returns-in-Some-split_once c =
    let cut = c.in-Some-split_once.ensures.cases in
    splits _ c.in_default.ensures.cases cut.0 cut.1 cut.2 _ _ (with_next _ _ c.in-Some-split_once.program.now _ cut.6 c.range.ensures.value) (search (rules, arith)) cut.4
