use Rattle.std.proofs.Common.{◌-◌, ◌∙◌, List, length, take, drop, subst, sym}
use Rattle.mm_parse_expr.specs.declared.terminal.Terminal.{Terminal}
use Rattle.mm_parse_expr.specs.reading.ExprReading.{HasNoOperator, HasOperator}
use Rattle.mm_parse_expr.proofs.Operators.{whole, none_at_end, none, some}
use Rattle.mm_parse_expr.proofs.reading.next_operator.Goals as goal

pub returns-in-empty : goal.returns-in-empty
returns-in-empty c = none_at_end _ _ c.in-empty.len_below

pub returns-in-Some : goal.returns-in-Some
returns-in-Some c =
    let rest : List Terminal = take (length c.args.ts.now - 1) (drop 1 c.args.ts.now) in
    subst (λ (ts : List Terminal). HasOperator c.args.level ts c.in-Some.op rest) (sym (whole c.first-item.result c.args.ts.now c.in-len1-up.len_at_least c.first-item.is))
    (some c.args.level c.first-item.result rest c.in-Some.op (sym c.in-Some.is ∙ c.joins.ensures))

pub returns-in-None : goal.returns-in-None
returns-in-None c =
    let rest : List Terminal = take (length c.args.ts.now - 1) (drop 1 c.args.ts.now) in
    subst (λ (ts : List Terminal). HasNoOperator c.args.level ts) (sym (whole c.first-item.result c.args.ts.now c.in-len1-up.len_at_least c.first-item.is))
    (none c.args.level c.first-item.result rest (sym c.in-None.is ∙ c.joins.ensures))
