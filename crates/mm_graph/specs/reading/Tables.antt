-- What tables say of lists by their numbers.
use Rattle.std.specs.Prelude.{◌≡◌, ℕ, Bool, Option, Some, None, IsSomeAnd, List, [], length, slice_get}
use Rattle.mm_goto.specs.declared.program.Instr.{Instr}
use Rattle.mm_goto.specs.declared.ident.At.{At}
use Rattle.mm_goto.specs.declared.program.Thread.{Thread}
use Rattle.mm_goto.specs.declared.spot.Spot.{Spot}
use Rattle.mm_goto.specs.Listing.{Listing}
use Rattle.mm_goto.specs.Sites.{FlowsBy}
use Rattle.mm_goto.specs.Valid.{code_of}
use Rattle.mm_graph.specs.reading.Marks.{Marked}

-- what stands at the two numbers is so related
abbrev pub OnBoth : {X : Type 0} → (X → X → Type 0) → List X → ℕ → ℕ → Type 0
OnBoth R xs a b = IsSomeAnd (slice_get xs a) (λ x. IsSomeAnd (slice_get xs b) (R x))

-- the second is of the first's thread, and marked
abbrev pub IsMarkedIn : List Bool → Spot → Spot → Type 0
IsMarkedIn seen x y = (y.thread ≡ x.thread) × Marked seen y.index

-- the second is of the first's thread, and control may flow there
abbrev pub FlowsIn : Listing → (Instr → Bool) → Spot → Spot → Type 0
FlowsIn p passes x y = (y.thread ≡ x.thread) × FlowsBy passes (code_of p x.thread) x.index y.index

-- each item is of the spot with its number
pub record AreOf {X : Type 0} (Of : Spot → X → Type 0) (spots : List Spot) (items : List X) : Type 0 where
  pub size : length items ≡ length spots
  pub each : (k : ℕ) (spot : Spot) (item : X) → slice_get spots k ≡ Some spot → slice_get items k ≡ Some item → Of spot item

-- the place in the text from which the instruction comes
abbrev pub place_at : Listing → ℕ → ℕ → Option At
place_at p t i = slice_get (places_in (slice_get p.threads t)) i
  where
    places_in : Option Thread → List At
    places_in (Some thread) = thread.places
    places_in None = []
