-- What a thread does by itself, while no other thread can see it: steps on its locals alone, under sequential consistency.
use Rattle.std.specs.Prelude.{◌≡◌, ℕ, Some, None, true, slice_get, replicate}
use Rattle.mm_goto.specs.Listing.{Listing}
use Rattle.mm_goto.specs.declared.program.Instr.{Instr}
use Rattle.mm_goto.specs.declared.program.Instr.TheVariants.{Set, Load, Store, Input, Jump, Branch, Assert, Assume, Fence, Lock, Unlock, Add, Cas, Start, Join, AtomBegin, AtomEnd, End}
use Rattle.mm_sched.specs.declared.entry.Entry.TheVariants.{Step}
use Rattle.mm_sched.specs.declared.entry.Rules.TheVariants.{Sc}
use Rattle.mm_sched.specs.Event.{moved, is_open_to}
use Rattle.mm_sched.specs.Runs.{run}
use Rattle.mm_sched.specs.State.{Frame, State}
use Rattle.mm_flow.specs.Flow.{Flow, Empty, Do, Then, When, Either, While, DoWhile, For, Body, Leave, Mark, Goto}

-- the instruction reads and writes locals alone
abbrev pub IsLocal : Instr → Type 0
IsLocal (Set l e) = Unit {0}
IsLocal (Load l a) = ⊥
IsLocal (Store a e) = ⊥
IsLocal (Input l) = ⊥
IsLocal (Jump k) = ⊥
IsLocal (Branch e k) = ⊥
IsLocal (Assert e n) = Unit {0}
IsLocal (Assume e) = Unit {0}
IsLocal Fence = ⊥
IsLocal (Lock m) = ⊥
IsLocal (Unlock m) = ⊥
IsLocal (Add l a e) = ⊥
IsLocal (Cas l a e f) = ⊥
IsLocal (Start u) = ⊥
IsLocal (Join u) = ⊥
IsLocal AtomBegin = ⊥
IsLocal AtomEnd = ⊥
IsLocal End = ⊥

-- the code uses locals alone, goes straight on and makes no turns
abbrev pub IsQuiet : Flow → Type 0
IsQuiet Empty = Unit {0}
IsQuiet (Do at i) = IsLocal i
IsQuiet (Then a b) = IsQuiet a × IsQuiet b
IsQuiet (When at e a) = IsQuiet a
IsQuiet (Either at e a b) = IsQuiet a × IsQuiet b
IsQuiet (While at c e a) = ⊥
IsQuiet (DoWhile at a c e) = ⊥
IsQuiet (For at c e a j) = ⊥
IsQuiet (Body names a) = ⊥
IsQuiet (Leave at w) = ⊥
IsQuiet (Mark y) = Unit {0}
IsQuiet (Goto at y) = ⊥

-- so many own steps lead the thread from the one frame to the other, whatever the rest of the state is while nobody else is in a
-- section and nothing has failed, and change nothing else
abbrev pub Quietly : Listing → ℕ → ℕ → Frame → Frame → Type 0
Quietly p t n f g = (s : State) → slice_get s.threads t ≡ Some f → is_open_to t s.section ≡ true → s.verdict ≡ None → run Sc p s (replicate n (Step t)) ≡ Some (moved s t g)
