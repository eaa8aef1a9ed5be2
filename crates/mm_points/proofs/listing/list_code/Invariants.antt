use Rattle.mm_points.specs.Sets.{Linked}
use Rattle.mm_points.specs.reading.Listed.{AreListed}
use Rattle.mm_points.proofs.listing.list_code.Given as goal

abbrev pub invariant-code : goal.invariant-code
invariant-code l = AreListed (Linked l.sets) l.base l.code l.i l.lists.items
