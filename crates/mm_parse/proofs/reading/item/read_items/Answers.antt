use Rattle.std.proofs.Common.{◌-◌, ◌∙◌, arith, sym, ap}
use Rattle.std.proofs.lemmas.Result.{err_from_is_err_and}
use Rattle.mm_reading.specs.Gives.{left_at}
use Rattle.mm_grammar.specs.reading.ProgramReading.{items}
use Rattle.mm_parse.proofs.Items.{items_on, items_none}
use Rattle.mm_parse.proofs.Joined.{joined_none, fails_after, none_next, some_next}
use Rattle.mm_parse.proofs.reading.item.read_items.Goals as goal

pub loop-left-init : goal.loop-left-init
loop-left-init c = let none = c.new-items.ensures.items in rw none (joined_none (items c.args.bound c.args.ts.now))

pub returns-in_err-next : goal.returns-in_err-next
returns-in_err-next c =
    let on = items_on (c.loop-left.left - 1) c.loop-left.items.items c.loop-left.left c.loop-left.rest.now (omega arith) in
    let p = err_from_is_err_and c.from_residual.result c.from_residual.ensures.1 in
    rw (p.1, p.2, ← c.loop-left.invariant, on) (fails_after _ _ _ c.in_err-next.ensures)

pub returns-in_default : goal.returns-in_default
returns-in_default c =
    let on = items_on (c.loop-left.left - 1) c.loop-left.items.items c.loop-left.left c.loop-left.rest.now (omega arith) in
    sym c.loop-left.invariant ∙ none_next _ (items (c.loop-left.left - 1)) _ _ _ _ on c.in_ok-next.ensures c.in_default.is

pub loop-left-preserved : goal.loop-left-preserved
loop-left-preserved c =
    let on = items_on (c.loop-left.left - 1) c.loop-left.items.items c.loop-left.left c.loop-left.rest.now (omega arith) in
    let items_are = c.in_ok-push.ensures.items in
    let rest = c.onwards-rest.ensures in
    rw (items_are, rest) (some_next _ (items (c.loop-left.left - 1)) _ _ _ _ _ on c.in_ok-next.ensures c.in-Some.is ∙ c.loop-left.invariant)

pub returns : goal.returns
returns c = ap left_at (sym c.loop-left.invariant ∙ items_none 0 c.loop-left.items.items c.loop-left.left c.loop-left.rest.now (omega arith))
