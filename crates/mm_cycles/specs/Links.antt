-- What a graph says of a store and a later access.
use Rattle.std.specs.Prelude.{◌≡◌, ℕ, ◌==◌, Bool, true, false, List, [], ◌∷◌, IsSomeAnd, slice_get}
use Rattle.mm_goto.specs.declared.model.Model.{Model}
use Rattle.mm_goto.specs.declared.model.Model.TheVariants as model
use Rattle.mm_graph.specs.declared.event_graph.Graph.{Graph}
use Rattle.mm_graph.specs.declared.site.Site.{Site}
use Rattle.mm_graph.specs.declared.site.SiteKind.{SiteKind}
use Rattle.mm_graph.specs.declared.site.SiteKind.TheVariants as kind
use Rattle.mm_graph.specs.Graphs.{UndrainedIn}

-- a site of the kind may overtake a pending store
abbrev pub overtakes : Model → SiteKind → Bool
overtakes m kind.Load = true
overtakes model.Tso kind.Store = false
overtakes model.Pso kind.Store = true
overtakes m kind.Update = false
overtakes m kind.Lock = false
overtakes m kind.Unlock = false
overtakes m kind.Start = false
overtakes m kind.Join = false

-- both lists have one and the same cell alone
abbrev pub same_only : List ℕ → List ℕ → Bool
same_only (c ∷ []) (d ∷ []) = c == d
same_only [] ys = false
same_only (c ∷ []) [] = false
same_only (c ∷ []) (d ∷ e ∷ ys) = false
same_only (c ∷ d ∷ xs) ys = false

-- the second may overtake the first while that is pending
pub record AreUnsafe (m : Model) (x y : Site) : Type 0 where
  pub store : x.kind ≡ kind.Store
  pub later : overtakes m y.kind ≡ true
  pub apart : same_only x.cells y.cells ≡ false

-- the sites with these numbers are so, and the store may be pending at the second
pub record UnsafeIn (g : Graph) (m : Model) (s l : ℕ) : Type 0 where
  pub pair : IsSomeAnd (slice_get g.sites s) (λ x. IsSomeAnd (slice_get g.sites l) (AreUnsafe m x))
  pub undrained : UndrainedIn g s l

-- the site is a store
abbrev pub IsStoreSite : Graph → ℕ → Type 0
IsStoreSite g s = IsSomeAnd (slice_get g.sites s) (λ x. x.kind ≡ kind.Store)
