use Rattle.mm_points.specs.Sets.{Has, Linked}
use Rattle.mm_points.proofs.Growing.{aim_set}
use Rattle.mm_points.proofs.Indexes.{iff_inr}
use Rattle.mm_points.proofs.gathering.value_of.Goals as goal

pub returns : goal.returns
returns c = λ x. aim_set (Linked c.args.sets.now) c.args.aim.now x (Has c.add_rows.new.into x) (Has c.add_locals.new.into x)
    (iff_inr (c.empty-found.ensures x) (rw c.items.ensures at (c.in_ok-add_rows.ensures x))) (rw c.items-2.ensures at (c.in_ok-add_locals.ensures x))
