-- What one instruction does for the thread that runs it, while no other thread steps.
use Rattle.std.specs.Prelude.{ℕ, ℤ, pos, List, [], ◌∷◌, length, slice_set, slice_index_or, Option, Some, None}
use Rattle.mm_goto.specs.Value.{value_of, is_zero}
use Rattle.mm_goto.specs.declared.program.Instr.{Instr}
use Rattle.mm_goto.specs.declared.program.Instr.TheVariants.{Set, Load, Store, Input, Jump, Branch, Assert, Assume, Fence, Lock, Unlock, Add, Cas, Start, Join, AtomBegin, AtomEnd, End}
use Rattle.mm_sched.specs.Event.{cell_of, is_int}
use Rattle.mm_meaning.specs.Meaning.{View, Outcome, Done, Failed, Halted, Other, pick}

-- the value at a place of memory or of the locals
abbrev pub at_slot : List ℤ → ℕ → ℤ
at_slot ls r = slice_index_or ls r (pos 0)

-- local l now has v
abbrev pub let_local : View → ℕ → ℤ → View
let_local s l v = record { memory = s.memory; locals = slice_set s.locals l v; inputs = s.inputs }

-- cell c now has v
abbrev pub let_cell : View → ℕ → ℤ → View
let_cell s c v = record { memory = slice_set s.memory c v; locals = s.locals; inputs = s.inputs }

-- where the target is a cell
abbrev pub with_cell : Option ℕ → (ℕ → View) → Outcome
with_cell None go = Halted
with_cell (Some c) go = Done (go c)

-- local l takes the next of the inputs
abbrev pub with_input : List ℤ → View → ℕ → Outcome
with_input [] s l = Halted
with_input (v ∷ vs) s l = pick (is_int v) (Done (record { memory = s.memory; locals = slice_set s.locals l v; inputs = vs })) Halted

-- what the instruction does
abbrev pub act : Instr → View → Outcome
act (Set l e) s = Done (let_local s l (value_of e s.locals))
act (Load l target) s = with_cell (cell_of (length s.memory) s.locals target) (λ c. let_local s l (at_slot s.memory c))
act (Store target e) s = with_cell (cell_of (length s.memory) s.locals target) (λ c. let_cell s c (value_of e s.locals))
act (Input l) s = with_input s.inputs s l
act (Assert e n) s = pick (is_zero (value_of e s.locals)) (Failed n) (Done s)
act (Assume e) s = pick (is_zero (value_of e s.locals)) Halted (Done s)
act (Jump k) s = Other
act (Branch e k) s = Other
act Fence s = Other
act (Lock m) s = Other
act (Unlock m) s = Other
act (Add l target e) s = Other
act (Cas l target e f) s = Other
act (Start u) s = Other
act (Join u) s = Other
act AtomBegin s = Other
act AtomEnd s = Other
act End s = Other
