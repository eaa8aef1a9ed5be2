use Rattle.std.proofs.Common.{◌<◌, length}
use Rattle.mm_bits.specs.Table.{Linked}
use Rattle.mm_bits.proofs.walk.nearest.Given as goal

abbrev pub invariant-levels : goal.invariant-levels
invariant-levels l = record { within : l.d < length l.levels; has : Linked l.levels l.d l.a }

abbrev pub decreases-levels : goal.decreases-levels
decreases-levels l = l.d
