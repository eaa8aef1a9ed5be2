-- What the code decides of an instruction, where pending stores may be flushed.
use Rattle.std.specs.Prelude.{◌≡◌, ◌↔◌, ◌⊎◌, ℕ, Bool, List, Some, length, slice_get}
use Rattle.mm_goto.specs.declared.model.Model.{Model}
use Rattle.mm_goto.specs.declared.model.Model.TheVariants as model
use Rattle.mm_goto.specs.declared.program.Instr.{Instr}
use Rattle.mm_goto.specs.declared.program.Instr.TheVariants as i
use Rattle.mm_delay.specs.reading.Sets.{Raised}

-- pending stores may be flushed before it: whether it may be to a cell of a buffered store, whether it is one, whether its thread has
-- one, and which threads have one
abbrev pub IsPoint : Model → Type 0 → Type 0 → Type 0 → (ℕ → Type 0) → Instr → Type 0
IsPoint m near own thread threads (i.Load l t) = near
IsPoint m near own thread threads (i.Store t e) = own ⊎ near ⊎ ((m ≡ model.Tso) × thread)
IsPoint m near own thread threads (i.Add l t e) = near ⊎ thread
IsPoint m near own thread threads (i.Cas l t e f) = near ⊎ thread
IsPoint m near own thread threads i.Fence = thread
IsPoint m near own thread threads (i.Lock n) = thread
IsPoint m near own thread threads (i.Unlock n) = thread
IsPoint m near own thread threads (i.Start u) = thread
IsPoint m near own thread threads (i.Join u) = thread ⊎ threads u
IsPoint m near own thread threads (i.Set l e) = ⊥
IsPoint m near own thread threads (i.Input l) = ⊥
IsPoint m near own thread threads (i.Jump n) = ⊥
IsPoint m near own thread threads (i.Branch e n) = ⊥
IsPoint m near own thread threads (i.Assert e n) = ⊥
IsPoint m near own thread threads (i.Assume e) = ⊥
IsPoint m near own thread threads i.AtomBegin = ⊥
IsPoint m near own thread threads i.AtomEnd = ⊥
IsPoint m near own thread threads i.End = ⊥

-- the row has a flag for each instruction of the code, raised where pending stores may be flushed. The rows near and own say which
-- instructions may be to a cell of a buffered store, and which are one
pub record MarksPoints (m : Model) (code : List Instr) (near own : List Bool) (thread : Type 0) (threads : ℕ → Type 0) (row : List Bool) : Type 0 where
  pub size : length row ≡ length code
  pub points : (k : ℕ) (it : Instr) → slice_get code k ≡ Some it → Raised row k ↔ IsPoint m (Raised near k) (Raised own k) thread threads it
