use Rattle.std.proofs.Common.{◌≡◌, ◌++◌, drop}
use Rattle.mm_goto.specs.Sites.{sites_from}
use Rattle.mm_graph.proofs.places.put_sites.Given as goal

abbrev pub invariant-places : goal.invariant-places
invariant-places l = l.out.items ++ sites_from l.t l.k (drop l.k l.code) ≡ l.fn.out.items ++ sites_from l.t 0 l.code
