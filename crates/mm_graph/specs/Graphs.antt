-- When a graph is a program's.
use Rattle.std.specs.Prelude.{◌≡◌, ◌↔◌, ℕ, ◌≤◌, length, slice_get, Some}
use Rattle.mm_goto.specs.declared.spot.Spot.{Spot}
use Rattle.mm_goto.specs.DelayCycles.{Edge}
use Rattle.mm_goto.specs.Listing.{Listing}
use Rattle.mm_goto.specs.Sites.{sites, Po, Undrained, Com, Ord, Between}
use Rattle.mm_bits.specs.Related.{Related}
use Rattle.mm_graph.specs.declared.event_graph.Graph.{Graph}
use Rattle.mm_graph.specs.declared.site.Site.{Site}
use Rattle.mm_graph.specs.Sites.{IsSiteOf}

-- what the graph says of two sites
abbrev pub PoIn : Graph → ℕ → ℕ → Type 0
PoIn g = Related g.po

abbrev pub UndrainedIn : Graph → ℕ → ℕ → Type 0
UndrainedIn g = Related g.undrained

abbrev pub ComIn : Graph → ℕ → ℕ → Type 0
ComIn g = Related g.com

abbrev pub OrdIn : Graph → ℕ → ℕ → Type 0
OrdIn g = Related g.ord

-- one of program order, communication and order
abbrev pub EdgeIn : Graph → ℕ → ℕ → Type 0
EdgeIn g = Related g.edges

-- the program has no more sites and cells than a graph may have
pub record IsSmall (p : Listing) : Type 0 where
  pub sites : length (sites p) ≤ 1024
  pub cells : length p.cells ≤ 256

-- the graph has the program's sites, and of each two of them what the program says
pub record IsGraphOf (p : Listing) (g : Graph) : Type 0 where
  pub small : IsSmall p
  pub size : length g.sites ≡ length (sites p)
  pub each : (a : ℕ) (spot : Spot) (site : Site) → slice_get (sites p) a ≡ Some spot → slice_get g.sites a ≡ Some site → IsSiteOf p spot site
  pub order : (a b : ℕ) → PoIn g a b ↔ Between p (Po p) a b
  pub undrained : (a b : ℕ) → UndrainedIn g a b ↔ Between p (Undrained p) a b
  pub meets : (a b : ℕ) → ComIn g a b ↔ Between p (Com p) a b
  pub ordered : (a b : ℕ) → OrdIn g a b ↔ Between p (Ord p) a b
  pub edges : (a b : ℕ) → EdgeIn g a b ↔ Between p (Edge p) a b
