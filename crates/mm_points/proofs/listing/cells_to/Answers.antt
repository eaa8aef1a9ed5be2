use Rattle.std.proofs.Common.{ℕ, subst}
use Rattle.std.specs.Prelude.{◌↔◌}
use Rattle.mm_points.specs.declared.rules.Aim.{Aim}
use Rattle.mm_points.specs.Sets.{Has, Linked}
use Rattle.mm_points.specs.reading.Rules.{InAim}
use Rattle.mm_points.proofs.listing.cells_to.Goals as goal

pub returns : goal.returns
returns c =
    let P : Aim → Type 0 = λ a. (x : ℕ) → Has c.in_ok-found.found x ↔ InAim (Linked c.args.sets.now) a x in
    let each = subst P c.in_ok-aim.ensures c.in_ok-found.ensures in
    rw (c.new.ensures, c.into_items.ensures.items) (record { ordered = c.into_items.ensures.ordered; each = each })
