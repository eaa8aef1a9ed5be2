use Rattle.std.proofs.Common.{arith, ◌<◌, ◌^◌, length, subst, sym}
use Rattle.mm_names.specs.declared.checked.Checked.{Checked}
use Rattle.mm_rungraph_examples.specs.Flattening.{FlattensWell}
use Rattle.mm_rungraph_examples.proofs.Sources.{flattens_well}
use Rattle.mm_rungraph_examples.proofs.program.checked_of.Goals as goal

pub returns-in-Ok : goal.returns-in-Ok
returns-in-Ok c =
    let small : length c.args.text.now < 2 ^ 32 = omega (arith, c.requires) in
    subst (λ (k : Checked). FlattensWell k.tree) (sym c.in-Ok.ensures.checked)
    (flattens_well c.args.text.now c.in_ok-tree.tree c.utf8.text small c.in_ok-tree.ensures c.in-Ok.ensures.accepted)
