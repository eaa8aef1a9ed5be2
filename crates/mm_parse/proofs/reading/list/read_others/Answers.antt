use Rattle.std.proofs.Common.{◌∙◌, ◌-◌, arith, sym}
use Rattle.std.proofs.lemmas.Result.{err_from_is_err_and}
use Rattle.mm_grammar.specs.reading.StatementReading.{others}
use Rattle.mm_parse.proofs.Joined.{others_on, others_end, others_none, joined_end, more_goes, more_fails}
use Rattle.mm_parse.proofs.reading.list.read_others.Goals as goal

pub returns-then-left-eq0 : goal.returns-then-left-eq0
returns-then-left-eq0 g c =
    let none = others_none g.P.Part.item c.loop-behind.rest.now in
    sym c.loop-behind.invariant ∙ joined_end _ _ _ _ (rw c.if-left-eq0.true none) c.new.ensures

pub returns-in_err-part : goal.returns-in_err-part
returns-in_err-part g c =
    let m = c.loop-behind.left - 1 in
    let on = others_on g.P.Part.item c.loop-behind.left m c.loop-behind.parts.items c.loop-behind.rest.now c.in-Some.behind.now (omega arith) c.in-Some.ensures in
    let p = err_from_is_err_and c.from_residual-in_err-part.result c.from_residual-in_err-part.ensures.1 in
    rw (p.1, p.2, ← c.loop-behind.invariant) (more_fails _ _ (others g.P.Part.item m) _ _ on c.in_err-part.ensures)

pub loop-behind-preserved : goal.loop-behind-preserved
loop-behind-preserved g c =
    let m = c.loop-behind.left - 1 in
    let on = others_on g.P.Part.item c.loop-behind.left m c.loop-behind.parts.items c.loop-behind.rest.now c.in-Some.behind.now (omega arith) c.in-Some.ensures in
    let items = c.in_ok-push-2.ensures.items in
    let rest = c.onwards-rest.ensures in
    rw (items, rest) (more_goes _ (others g.P.Part.item m) _ _ c.in_ok-part.part c.in_ok-part.others.now on c.in_ok-part.ensures ∙ c.loop-behind.invariant)

pub returns : goal.returns
returns g c = sym c.loop-behind.invariant ∙ joined_end _ _ _ _ (others_end g.P.Part.item _ _ c.in_default.ensures) (c.new-2.ensures ∙ c.shrink_to_fit.ensures.items)
