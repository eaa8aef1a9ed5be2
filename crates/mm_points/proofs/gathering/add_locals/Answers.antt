use Rattle.std.proofs.Common.{ℕ, ◌≡◌, ◌∙◌, ◌+◌, get_or, arith, List, [], subst}
use Rattle.std.proofs.lemmas.List.{get_or_read}
use Rattle.std.proofs.lemmas.Option.{slice_get-get_or}
use Rattle.std.specs.Prelude.{◌↔◌, ◌⊎◌, slice_index_or}
use Rattle.mm_points.specs.Sets.{Has, Linked}
use Rattle.mm_points.proofs.Indexes.{adds_more, adds_all}
use Rattle.mm_points.proofs.gathering.add_locals.Goals as goal

pub locals-preserved : goal.locals-preserved
locals-preserved c = λ x.
    let l : ℕ = get_or c.args.locals.now c.locals.k 0 in
    let stands = slice_get-get_or c.args.locals.now c.locals.k 0 c.locals-test.true in
    let set : c.items.result.now ≡ slice_index_or c.args.sets.now (c.args.base + l) [] =
    c.items.ensures.items ∙ get_or_read c.args.sets.now (c.args.base + l) c.index-sets-base.result (c.requires.locals c.locals.k l stands) c.index-sets-base.is [] in
    let P : List ℕ → Type 0 = λ ys. Has c.join.new.self x ↔ (Has c.locals.into x ⊎ Has ys x) in
    adds_more c.args.locals.now c.locals.k l (λ m. Linked c.args.sets.now (c.args.base + m) x) (Has c.args.into.now x) (Has c.locals.into x) (Has c.join.new.self x)
    stands (c.locals.invariant x) (subst P set (c.in_ok-join.ensures.added x))

pub returns : goal.returns
returns c = λ x. adds_all c.args.locals.now c.locals.k (λ m. Linked c.args.sets.now (c.args.base + m) x) (Has c.args.into.now x) (Has c.locals.into x) (omega arith) (c.locals.invariant x)
