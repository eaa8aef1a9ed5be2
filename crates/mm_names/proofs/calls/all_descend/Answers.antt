use Rattle.std.proofs.Common.{arith, subst}
use Rattle.std.proofs.lemmas.Grind.{common_steps}
use Rattle.std.proofs.lemmas.List.{get_or_default}
use borrow.Author.Count.{below_more}
use Rattle.mm_scope.specs.declared.notes.Call.{Call}
use Rattle.mm_names.specs.reading.Marks.{Descends, DescendsAt}
use Rattle.mm_names.proofs.calls.all_descend.Goals as goal

pub loop-call-preserved : goal.loop-call-preserved
loop-call-preserved c =
    let calls = c.args.calls.now in
    let i = c.loop-call.call-index in
    let d : Call = record { caller = 0; callee = 0; at = record { line = 0; column = 0 } } in
    below_more (λ k. DescendsAt c.args.limit c.args.ranks.now calls k) i c.loop-call.invariant
    (record { it = λ f. subst (Descends c.args.limit c.args.ranks.now) (get_or_default calls i d f c.loop-call-test.true) (c.descends.ensures (grind (arith, common_steps, c.if-not-descends.false))) })
