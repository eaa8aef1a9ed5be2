use Rattle.mm_bridge.proofs.Paths.{paths_are_edges}
use Rattle.mm_bridge.proofs.laws.a_path_between_sites_is_an_edge_of_the_text.Goals as goal

pub returns : goal.returns
returns c = paths_are_edges
