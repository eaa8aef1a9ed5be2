use Rattle.std.proofs.Common.{arith, ◌<◌, ◌^◌, length, subst, sym}
use Rattle.mm_names.specs.declared.checked.Checked.{Checked}
use Rattle.mm_run.specs.reading.Sound.{FlattensWell}
use Rattle.mm_run.proofs.Sound.{flattens_well}
use Rattle.mm_run.proofs.program.checked_tree.Goals as goal

pub returns-in-Ok-clause-well : goal.returns-in-Ok-clause-well
returns-in-Ok-clause-well c =
    let small : length c.args.text.now < 2 ^ 32 = omega (arith, c.requires) in
    subst (λ (k : Checked). FlattensWell c.args.side k.tree) (sym c.in-Ok.ensures.checked)
    (flattens_well c.args.side c.args.text.now c.in_ok-tree.tree c.utf8.text small c.in_ok-tree.ensures.tree c.in-Ok.ensures.accepted)
