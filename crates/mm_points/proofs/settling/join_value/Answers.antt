use Rattle.std.proofs.Common.{ℕ, ◌≡◌, ◌∙◌, List, [], false, sym, subst}
use Rattle.std.proofs.lemmas.List.{get_or_read}
use Rattle.std.proofs.lemmas.Result.{on_ok_weaker}
use Rattle.std.specs.Prelude.{◌↔◌, ◌⊎◌, OnOk, IfOk, slice_index_or}
use Rattle.mm_points.specs.Sets.{Has}
use Rattle.mm_points.proofs.Growing.{linked_set, grows_set, ok_both}
use Rattle.mm_points.proofs.settling.join_value.Goals as goal

pub returns-clause-given : goal.returns-clause-given
returns-clause-given c =
    let at : slice_index_or c.args.sets.now c.args.into c.index-sets-into.result ≡ slice_index_or c.args.sets.now c.args.into [] = sym c.index-sets-into.is ∙ get_or_read c.args.sets.now c.args.into c.index-sets-into.result c.requires c.index-sets-into.is [] in
    let P : List ℕ → Type 0 = λ ys. OnOk c.join.result ((m : ℕ) → Has c.join.new.self m ↔ (Has ys m ⊎ Has c.args.value.now m)) in
    on_ok_weaker c.join.result (linked_set c.args.sets.now c.args.into c.join.new.self c.args.value.now c.requires) (subst P at c.join.ensures.added)

pub returns-clause-grows : goal.returns-clause-grows
returns-clause-grows c =
    let at : slice_index_or c.args.sets.now c.args.into c.index-sets-into.result ≡ slice_index_or c.args.sets.now c.args.into [] = sym c.index-sets-into.is ∙ get_or_read c.args.sets.now c.args.into c.index-sets-into.result c.requires c.index-sets-into.is [] in
    let P : List ℕ → Type 0 = λ ys. OnOk c.join.result ((m : ℕ) → Has c.join.new.self m ↔ (Has ys m ⊎ Has c.args.value.now m)) in
    let Q : List ℕ → Type 0 = λ ys. IfOk c.join.result (λ grew. grew ≡ false → (m : ℕ) → Has c.join.new.self m → Has ys m) in
    ok_both c.join.result (subst P at c.join.ensures.added) (subst Q at c.join.ensures.stays)
    (λ grew added stays. grows_set c.args.sets.now c.args.into c.join.new.self c.args.value.now c.requires grew added stays)
