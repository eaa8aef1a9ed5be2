use Rattle.mm_graph.specs.reading.Accesses.{IsAccessOf}
use Rattle.mm_graph.proofs.Pairs.{AreOfFirst}
use Rattle.mm_graph.proofs.making.accesses_of.Given as goal

abbrev pub invariant-spots : goal.invariant-spots
invariant-spots l = AreOfFirst (IsAccessOf l.program) l.spots l.k l.found.items
