use Rattle.mm_goto.specs.Listing.{Listing}
use Rattle.mm_graph.specs.Graphs.{IsGraphOf}
use Rattle.mm_delay.proofs.Noting.{SoFar}
use Rattle.mm_delay.proofs.notes.notes_of.Given as goal

abbrev pub invariant-sites : goal.invariant-sites
invariant-sites l = (p : Listing) → IsGraphOf p l.graph → SoFar p l.model l.s l.notes.items
