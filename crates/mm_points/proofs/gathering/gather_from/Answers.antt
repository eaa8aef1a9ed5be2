use Rattle.std.proofs.Common.{ℕ, ◌≡◌, ◌<◌, inl, inr, List, [], length, arith, subst, sym, ◌∙◌}
use Rattle.std.proofs.lemmas.List.{get_or_read}
use Rattle.std.specs.Prelude.{slice_index_or}
use Rattle.mm_points.specs.Sets.{Has}
use Rattle.mm_points.proofs.Growing.{pointer_within}
use Rattle.mm_points.proofs.gathering.gather_from.Goals as goal

pub returns-in_ok-join : goal.returns-in_ok-join
returns-in_ok-join c = λ x.
    let pointer = sym c.is_pointer.ensures ∙ c.if-is_pointer.true in
    let within = pointer_within c.args.pointers.now c.args.k pointer in
    let small : c.args.k < length c.args.sets.now = omega arith in
    let set : c.items.result.now ≡ slice_index_or c.args.sets.now c.args.k [] =
    c.items.ensures.items ∙ get_or_read c.args.sets.now c.args.k c.index-sets-k.result small c.index-sets-k.is [] in
    let P : List ℕ → Type 0 = λ ys. Has ys x in (
      λ h. elim ((c.in_ok-join.ensures.added x).0 h) [ inl was ↦ inl was | inr has ↦ inr (pointer, subst P set has) ],
      λ h. elim h [ inl was ↦ (c.in_ok-join.ensures.added x).1 (inl was) | inr both ↦ (c.in_ok-join.ensures.added x).1 (inr (subst P (sym set) both.1)) ],
    )
