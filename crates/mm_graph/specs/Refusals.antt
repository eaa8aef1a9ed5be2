-- Which programs are too large for a graph.
use Rattle.std.specs.Prelude.{◌<◌, ◌≤◌, length}
use Rattle.mm_goto.specs.Listing.{Listing}
use Rattle.mm_goto.specs.Sites.{sites}
use Rattle.mm_graph.specs.declared.fault.GraphFault.{GraphFault}
use Rattle.mm_graph.specs.declared.fault.GraphFault.TheVariants.{TooManySites, TooManyCells, NoMemory}

-- the program is refused so: first for its sites, then for its cells; want of memory is free
abbrev pub IsRefused : Listing → GraphFault → Type 0
IsRefused p TooManySites = 1024 < length (sites p)
IsRefused p TooManyCells = (length (sites p) ≤ 1024) × (256 < length p.cells)
IsRefused p NoMemory = Unit {0}
