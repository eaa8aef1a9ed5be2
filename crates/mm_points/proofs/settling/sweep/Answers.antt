use Rattle.std.proofs.Common.{◌≡◌, ℕ, length, arith, subst, refl}
use Rattle.std.proofs.lemmas.Option.{slice_get_read}
use Rattle.mm_points.proofs.Growing.{SoFar, sweep_more, sweep_all}
use Rattle.mm_points.proofs.settling.sweep.Goals as goal

pub each-preserved : goal.each-preserved
each-preserved c =
    sweep_more c.args.rules.now c.args.pointers.now c.args.sets.now c.each.sets c.apply.new.sets c.each.grew c.in_ok-more.more c.each.i c.index-rules-i.result
    (slice_get_read c.args.rules.now _ c.each.i c.index-rules-i.result refl c.each-test.true c.index-rules-i.is) c.each.invariant c.in_ok-more.ensures.given c.in_ok-more.ensures.grows

pub returns-clause-closed : goal.returns-clause-closed
returns-clause-closed c = λ e.
    let P : ℕ → Type 0 = λ n. SoFar c.args.rules.now c.args.pointers.now c.args.sets.now c.each.sets c.each.grew n in
    let end : c.each.i ≡ length c.args.rules.now = omega arith in
    sweep_all c.args.rules.now c.args.pointers.now c.args.sets.now c.each.sets c.each.grew (subst P end c.each.invariant) e
