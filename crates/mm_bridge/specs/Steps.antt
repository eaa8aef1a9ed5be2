-- Which instruction of a program a step of its run shows to other threads, and paths of a run graph between such steps.
use Rattle.std.specs.Prelude.{◌≡◌, ◌⊎◌, ℕ, true, false, Bool, List, slice_get, Some}
use Rattle.mm_goto.specs.declared.model.Model.{Model}
use Rattle.mm_goto.specs.declared.spot.Spot.{Spot}
use Rattle.mm_goto.specs.DelayCycles.{HasDelayCycle}
use Rattle.mm_goto.specs.Listing.{Listing}
use Rattle.mm_goto.specs.Sites.{Is, is_site, sites}
use Rattle.mm_sched.specs.declared.entry.Event.{Event}
use Rattle.mm_sched.specs.Buffer.{is_in}
use Rattle.mm_runkeys.specs.declared.graph.EdgeKind.{EdgeKind}
use Rattle.mm_runkeys.specs.declared.graph.EdgeKind.TheVariants.{Issue}
use Rattle.mm_runkeys.specs.declared.keys.Layout.{Layout}
use Rattle.mm_rungraph.specs.Edges.{IsIssued}
use Rattle.mm_keeping.specs.Executions.{Executes}

-- step k executes the instruction at the spot, or brings a store to memory that this instruction made
abbrev pub Shows : Layout → Listing → List Event → ℕ → Spot → Type 0
Shows s p es k spot = Executes p es k spot ⊎ ((a : ℕ) × IsIssued s es a k × Executes p es a spot)

-- step k is one of the site
pub record IsOf (s : Layout) (p : Listing) (es : List Event) (k : ℕ) (site : Spot) : Type 0 where
  pub shows : Shows s p es k site
  pub is : Is p site (λ it. is_site it ≡ true)

-- step k is one of no site
abbrev pub IsOfNone : Layout → Listing → List Event → ℕ → Type 0
IsOfNone s p es k = (site : Spot) → ¬ (IsOf s p es k site)

-- a path of edges from a to b, whose steps strictly between pass
pub data Path (E : EdgeKind → ℕ → ℕ → Type 0) (passes : ℕ → Type 0) (b : ℕ) : ℕ → Type 0 where
  edge : {a : ℕ} (kind : EdgeKind) → E kind a b → Path E passes b a
  on : {a : ℕ} (kind : EdgeKind) (c : ℕ) → E kind a c → passes c → Path E passes b c → Path E passes b a

-- it is one edge, from a store to its flush
abbrev pub IsIssue : {E : EdgeKind → ℕ → ℕ → Type 0} {passes : ℕ → Type 0} {a b : ℕ} → Path E passes b a → Type 0
IsIssue (edge kind e) = kind ≡ Issue
IsIssue (on kind c e pass rest) = ⊥

-- a store that the set lacks has a delay cycle
pub record Lacks (p : Listing) (m : Model) (set : List (List Bool)) : Type 0 where
  pub number : ℕ
  pub site : Spot
  pub at : slice_get (sites p) number ≡ Some site
  pub outside : is_in set site.thread site.index ≡ false
  pub cycle : HasDelayCycle p m number

-- the set has each store that has a delay cycle
abbrev pub HasDelayed : Listing → Model → List (List Bool) → Type 0
HasDelayed p m set = (number : ℕ) (site : Spot) → slice_get (sites p) number ≡ Some site → HasDelayCycle p m number → is_in set site.thread site.index ≡ true
