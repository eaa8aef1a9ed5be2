use Rattle.std.proofs.Common.{refl}
use Rattle.mm_points.specs.Sets.{Linked}
use Rattle.mm_points.specs.reading.Rules.{holder}
use Rattle.mm_points.proofs.Growing.{all_held}
use Rattle.mm_points.proofs.settling.settle.Goals as goal

pub sweeps-init : goal.sweeps-init
sweeps-init c = record { size = refl; sound = λ a b h. absurd (c.requires.none a b h) }

pub returns-then-not-branch-clause-least : goal.returns-then-not-branch-clause-least
returns-then-not-branch-clause-least c = λ a b. (
  c.in_ok-sweep.ensures.sound a b,
  all_held c.args.rules.now c.args.pointers.now (Linked c.sweep.new.sets) (c.in_ok-sweep.ensures.closed c.if-not-branch.true) (holder a) b,
)
