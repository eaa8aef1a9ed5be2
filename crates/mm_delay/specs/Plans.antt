-- What a plan of buffers says of a program.
use Rattle.std.specs.Prelude.{◌≡◌, ◌↔◌, ℕ, IsTrue, Some, IsSomeAnd, List, map, slice_get}
use Rattle.std.specs.List.{Contains}
use Rattle.std.specs.List.Sorted.{IsStrictlyIncreasing}
use Rattle.mm_goto.specs.Bounds.{Bounding}
use Rattle.mm_goto.specs.declared.model.Model.{Model}
use Rattle.mm_goto.specs.declared.shape.Head.{Head}
use Rattle.mm_goto.specs.declared.shape.Note.{Note}
use Rattle.mm_goto.specs.declared.shape.Shape.{Shape}
use Rattle.mm_goto.specs.DelayCycles.{HasDelayCycle, IsCycleOf}
use Rattle.mm_goto.specs.Listing.{Listing}
use Rattle.mm_goto.specs.Shapes.{Fits, flag_at}
use Rattle.mm_goto.specs.Sites.{sites}

-- the note is of site s: where it stands, the place in the text from which it comes, and its cycle
pub record IsNoteOf (p : Listing) (m : Model) (s : ℕ) (note : Note) : Type 0 where
  pub site : note.site ≡ s
  pub spot : IsSomeAnd (slice_get (sites p) s) (λ x. (note.thread ≡ x.thread)
      × IsSomeAnd (slice_get p.threads x.thread) (λ thread. slice_get thread.places x.index ≡ Some note.at))
  pub cycle : IsCycleOf p m s note.cycle

-- the sites of the notes
abbrev pub noted : List Note → List ℕ
noted = map (λ note. note.site)

-- one note for each store that has a delay cycle, in order of the sites
pub record AreNotes (p : Listing) (m : Model) (notes : List Note) : Type 0 where
  pub each : (k : ℕ) (note : Note) → slice_get notes k ≡ Some note → IsNoteOf p m note.site note
  pub ordered : IsStrictlyIncreasing (noted notes)
  pub all : (s : ℕ) → Contains (noted notes) s ↔ HasDelayCycle p m s

-- the head is of the model and the bound, and has the program's notes
pub record IsHeadOf (p : Listing) (m : Model) (b : Bounding) (head : Head) : Type 0 where
  pub model : head.model ≡ m
  pub bound : head.bound ≡ b
  pub notes : AreNotes p m head.notes

-- the store that stands there has a delay cycle
abbrev pub IsDelayed : Listing → Model → ℕ → ℕ → Type 0
IsDelayed p m t k = (s : ℕ) × IsSomeAnd (slice_get (sites p) s) (λ x. (x.thread ≡ t) × (x.index ≡ k)) × HasDelayCycle p m s

-- the shape buffers just the stores that have a delay cycle, and fits the program; the head has a note for each
pub record IsPlanOf (p : Listing) (m : Model) (b : Bounding) (shape : Shape) (h : Head) : Type 0 where
  pub shape_model : shape.model ≡ m
  pub shape_bound : shape.bound ≡ b
  pub fits : Fits p shape
  pub buffered : (t k : ℕ) → IsTrue (flag_at shape.buffered t k) ↔ IsDelayed p m t k
  pub head : IsHeadOf p m b h
