-- When a site is the program's at a spot.
use Rattle.std.specs.Prelude.{◌≡◌, ℕ, Some, IsSomeAnd, slice_get}
use Rattle.mm_goto.specs.declared.program.Instr.{Instr}
use Rattle.mm_goto.specs.declared.program.Instr.TheVariants as i
use Rattle.mm_goto.specs.declared.spot.Spot.{Spot}
use Rattle.mm_goto.specs.Listing.{Listing}
use Rattle.mm_goto.specs.Sites.{Is, Names}
use Rattle.mm_points.specs.Cells.{AreCells}
use Rattle.mm_graph.specs.declared.site.Site.{Site}
use Rattle.mm_graph.specs.declared.site.SiteKind.{SiteKind}
use Rattle.mm_graph.specs.declared.site.SiteKind.TheVariants as kind

-- the kind is that of the instruction
abbrev pub IsOfKind : SiteKind → Instr → Type 0
IsOfKind k (i.Set l e) = ⊥
IsOfKind k (i.Load l t) = k ≡ kind.Load
IsOfKind k (i.Store t e) = k ≡ kind.Store
IsOfKind k (i.Input l) = ⊥
IsOfKind k (i.Jump n) = ⊥
IsOfKind k (i.Branch e n) = ⊥
IsOfKind k (i.Assert e n) = ⊥
IsOfKind k (i.Assume e) = ⊥
IsOfKind k i.Fence = ⊥
IsOfKind k (i.Lock m) = k ≡ kind.Lock
IsOfKind k (i.Unlock m) = k ≡ kind.Unlock
IsOfKind k (i.Add l t e) = k ≡ kind.Update
IsOfKind k (i.Cas l t e f) = k ≡ kind.Update
IsOfKind k (i.Start u) = k ≡ kind.Start
IsOfKind k (i.Join u) = k ≡ kind.Join
IsOfKind k i.AtomBegin = ⊥
IsOfKind k i.AtomEnd = ⊥
IsOfKind k i.End = ⊥

-- the mutex or thread that the instruction is about, else 0
abbrev pub subject_of : Instr → ℕ
subject_of (i.Set l e) = 0
subject_of (i.Load l t) = 0
subject_of (i.Store t e) = 0
subject_of (i.Input l) = 0
subject_of (i.Jump n) = 0
subject_of (i.Branch e n) = 0
subject_of (i.Assert e n) = 0
subject_of (i.Assume e) = 0
subject_of i.Fence = 0
subject_of (i.Lock m) = m
subject_of (i.Unlock m) = m
subject_of (i.Add l t e) = 0
subject_of (i.Cas l t e f) = 0
subject_of (i.Start u) = u
subject_of (i.Join u) = u
subject_of i.AtomBegin = 0
subject_of i.AtomEnd = 0
subject_of i.End = 0

-- the site is the instruction that stands at the spot, with its place in the text and the cells that it may access
pub record IsSiteOf (p : Listing) (spot : Spot) (site : Site) : Type 0 where
  pub thread : site.thread ≡ spot.thread
  pub index : site.index ≡ spot.index
  pub at : IsSomeAnd (slice_get p.threads spot.thread) (λ thread. slice_get thread.places spot.index ≡ Some site.at)
  pub kind : Is p spot (IsOfKind site.kind)
  pub subject : Is p spot (λ it. site.subject ≡ subject_of it)
  pub cells : AreCells (Names p spot) site.cells
