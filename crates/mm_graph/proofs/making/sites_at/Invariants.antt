use Rattle.mm_graph.specs.Sites.{IsSiteOf}
use Rattle.mm_graph.proofs.Pairs.{AreOfFirst}
use Rattle.mm_graph.proofs.making.sites_at.Given as goal

abbrev pub invariant-spots : goal.invariant-spots
invariant-spots l = AreOfFirst (IsSiteOf l.program) l.spots l.k l.found.items
