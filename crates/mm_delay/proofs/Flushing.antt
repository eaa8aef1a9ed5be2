-- Where pending stores may be flushed.
use Rattle.std.proofs.Common.{ℕ, List, Bool, inl, inr}
use Rattle.std.specs.Prelude.{◌↔◌, ◌⊎◌, IsTrue}
use Rattle.mm_goto.specs.declared.model.Model.{Model}
use Rattle.mm_goto.specs.declared.program.Instr.{Instr}
use Rattle.mm_goto.specs.declared.program.Instr.TheVariants as i
use Rattle.mm_goto.specs.declared.spot.Spot.{Spot}
use Rattle.mm_goto.specs.Listing.{Listing}
use Rattle.mm_goto.specs.Shapes.{flag_at, IsThreadBuffered, NamesBuffered, IsFlushPoint}
use Rattle.mm_delay.specs.reading.Points.{IsPoint, MarksPoints}
use Rattle.mm_delay.specs.reading.Sets.{Raised}
use Rattle.mm_delay.proofs.Gathering.{iff_same}

either_same : {A B C D : Type 0} → A ↔ C → B ↔ D → (A ⊎ B) ↔ (C ⊎ D)
either_same f g = (λ h. elim h [ inl a ↦ inl (f.0 a) | inr b ↦ inr (g.0 b) ], λ h. elim h [ inl c ↦ inl (f.1 c) | inr d ↦ inr (g.1 d) ])

both_same : {A B C : Type 0} → B ↔ C → (A × B) ↔ (A × C)
both_same f = (λ h. (h.0, f.0 h.1), λ h. (h.0, f.1 h.1))

-- it says the same of what says the same
pub point_same : (m : Model) (near own thread near' own' thread' : Type 0) (threads threads' : ℕ → Type 0) → near ↔ near' → own ↔ own' → thread ↔ thread' → ((u : ℕ) → threads u ↔ threads' u)
    → (it : Instr) → IsPoint m near own thread threads it ↔ IsPoint m near' own' thread' threads' it
point_same m near own thread near' own' thread' threads threads' n o t all (i.Load l x) = n
point_same m near own thread near' own' thread' threads threads' n o t all (i.Store x e) = either_same o (either_same n (both_same t))
point_same m near own thread near' own' thread' threads threads' n o t all (i.Add l x e) = either_same n t
point_same m near own thread near' own' thread' threads threads' n o t all (i.Cas l x e f) = either_same n t
point_same m near own thread near' own' thread' threads threads' n o t all i.Fence = t
point_same m near own thread near' own' thread' threads threads' n o t all (i.Lock x) = t
point_same m near own thread near' own' thread' threads threads' n o t all (i.Unlock x) = t
point_same m near own thread near' own' thread' threads threads' n o t all (i.Start u) = t
point_same m near own thread near' own' thread' threads threads' n o t all (i.Join u) = either_same t (all u)
point_same m near own thread near' own' thread' threads threads' n o t all (i.Set l e) = iff_same
point_same m near own thread near' own' thread' threads threads' n o t all (i.Input l) = iff_same
point_same m near own thread near' own' thread' threads threads' n o t all (i.Jump k) = iff_same
point_same m near own thread near' own' thread' threads threads' n o t all (i.Branch e k) = iff_same
point_same m near own thread near' own' thread' threads threads' n o t all (i.Assert e k) = iff_same
point_same m near own thread near' own' thread' threads threads' n o t all (i.Assume e) = iff_same
point_same m near own thread near' own' thread' threads threads' n o t all i.AtomBegin = iff_same
point_same m near own thread near' own' thread' threads threads' n o t all i.AtomEnd = iff_same
point_same m near own thread near' own' thread' threads threads' n o t all i.End = iff_same

-- at what the flags say it is where pending stores may be flushed
pub point_is : (p : Listing) (m : Model) (flags : List (List Bool)) (s : Spot) (it : Instr)
    → IsPoint m (NamesBuffered p flags s) (IsTrue (flag_at flags s.thread s.index)) (IsThreadBuffered flags s.thread) (IsThreadBuffered flags) it ↔ IsFlushPoint p m flags s it
point_is p m flags s (i.Load l x) = iff_same
point_is p m flags s (i.Store x e) = iff_same
point_is p m flags s (i.Add l x e) = iff_same
point_is p m flags s (i.Cas l x e f) = iff_same
point_is p m flags s i.Fence = iff_same
point_is p m flags s (i.Lock x) = iff_same
point_is p m flags s (i.Unlock x) = iff_same
point_is p m flags s (i.Start u) = iff_same
point_is p m flags s (i.Join u) = iff_same
point_is p m flags s (i.Set l e) = iff_same
point_is p m flags s (i.Input l) = iff_same
point_is p m flags s (i.Jump k) = iff_same
point_is p m flags s (i.Branch e k) = iff_same
point_is p m flags s (i.Assert e k) = iff_same
point_is p m flags s (i.Assume e) = iff_same
point_is p m flags s i.AtomBegin = iff_same
point_is p m flags s i.AtomEnd = iff_same
point_is p m flags s i.End = iff_same

pub marks_same : (m : Model) (code : List Instr) (near own : List Bool) (thread thread' : Type 0) (threads : ℕ → Type 0) (row : List Bool) → thread ↔ thread'
    → MarksPoints m code near own thread threads row → MarksPoints m code near own thread' threads row
marks_same m code near own thread thread' threads row t marks = record {
  size = marks.size;
  points = λ k it at.
      let f = marks.points k it at in
      let g = point_same m (Raised near k) (Raised own k) thread (Raised near k) (Raised own k) thread' threads threads iff_same iff_same t (λ u. iff_same) it in
      (λ h. g.0 (f.0 h), λ h. f.1 (g.1 h));
}
