-- In a valid program a load's cell is one of the cells.
use Rattle.std.proofs.Common.{arith, ◌≡◌, ℕ, zero, suc, ◌+◌, ◌<◌, ◌≤◌, ℤ, pos, negsuc, Bool, true, false, List, [], ◌∷◌, length, slice_get, Some, None, refl, IfSome, if◌then◌else◌, nat_lt, ltb-true}
use Rattle.std.specs.List.{All}
use Rattle.std.proofs.lemmas.Option.{IfSome_then}
use Rattle.mm_goto.specs.declared.program.Target.{Target}
use Rattle.mm_goto.specs.declared.program.Target.TheVariants.{Cell, Elem, Deref}
use Rattle.mm_goto.specs.declared.program.Thread.{Thread}
use Rattle.mm_goto.specs.declared.program.Instr.{Instr}
use Rattle.mm_goto.specs.Listing.{Listing}
use Rattle.mm_goto.specs.Value.{value_of}
use Rattle.mm_sched.specs.Event.{element, pointee, cell_of, fetched}
use Rattle.mm_goto.specs.Valid.{IsValid, IsThreadIn, IsInstrIn, IsTargetIn}
use Rattle.mm_sched.proofs.Steps.{bind-with}

-- what holds of each element holds of the one at the index
pub All-get : {A : Type 0} (P : A → Type 0) (xs : List A) (k : ℕ) → All P xs → IfSome (slice_get xs k) P
All-get P [] k h = tt
All-get P (x ∷ xs) zero h = h zero x (omega arith)
All-get P (x ∷ xs) (suc k) h = All-get P xs k (λ j d l. h (suc j) d (omega arith))

pub element-within : (z : ℤ) (first len cells : ℕ) → first + len ≤ cells → IfSome (element z first len) (λ c. c < cells)
element-within (negsuc n) first len cells h = tt
element-within (pos n) first len cells h = go (nat_lt n len) refl
  where
    go : (b : Bool) → nat_lt n len ≡ b → IfSome (if b then Some (first + n) else None) (λ c. c < cells)
    go true e = let l : n < len = ltb-true n len e in omega arith
    go false e = tt

pub pointee-within : (z : ℤ) (cells : ℕ) → IfSome (pointee z cells) (λ c. c < cells)
pointee-within (pos zero) cells = tt
pointee-within (negsuc n) cells = tt
pointee-within (pos (suc n)) cells = go (nat_lt n cells) refl
  where
    go : (b : Bool) → nat_lt n cells ≡ b → IfSome (if b then Some n else None) (λ c. c < cells)
    go true e = ltb-true n cells e
    go false e = tt

pub cell-within : (p : Listing) (thread : Thread) (locals : List ℤ) (target : Target) → IsTargetIn p thread target → IfSome (cell_of (length p.cells) locals target) (λ c. c < length p.cells)
cell-within p thread locals (Cell c) h = h
cell-within p thread locals (Elem first len index) h = element-within (value_of index locals) first len (length p.cells) h.0.within
cell-within p thread locals (Deref e) h = pointee-within (value_of e locals) (length p.cells)

-- an instruction that a thread fetches is valid in some thread
abbrev pub IsInstrOf : Listing → Instr → Type 0
IsInstrOf p i = (thread : Thread) × IsInstrIn p thread i

pub fetched-valid : (p : Listing) → IsValid p → (t k : ℕ) → IfSome (fetched p t k) (IsInstrOf p)
fetched-valid p valid t k = bind-with (IsInstrOf p) (IsThreadIn p) (slice_get p.threads t) (λ thread. slice_get thread.code k) (All-get (IsThreadIn p) p.threads t valid.each_thread) (λ thread h.
    IfSome_then (slice_get thread.code k) (All-get (IsInstrIn p thread) thread.code k h.instructions) (λ i q. (thread, q)))
