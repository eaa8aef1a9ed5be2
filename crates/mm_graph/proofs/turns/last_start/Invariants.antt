use Rattle.mm_graph.specs.reading.Accesses.{IsLast, StartsAt}
use Rattle.mm_graph.proofs.turns.last_start.Given as goal

abbrev pub invariant-code : goal.invariant-code
invariant-code l = IsLast (StartsAt l.code l.u) l.k l.last
