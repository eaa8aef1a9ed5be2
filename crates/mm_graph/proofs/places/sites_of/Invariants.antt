use Rattle.std.proofs.Common.{◌≡◌, ◌++◌, drop}
use Rattle.mm_goto.specs.Sites.{sites_of}
use Rattle.mm_graph.proofs.places.sites_of.Given as goal

abbrev pub invariant-threads : goal.invariant-threads
invariant-threads l = l.out.items ++ sites_of l.t (drop l.t l.threads) ≡ sites_of 0 l.threads
