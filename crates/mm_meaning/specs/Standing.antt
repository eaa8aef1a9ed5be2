-- Structured code that stands in a thread's code.
use Rattle.std.specs.Prelude.{◌≡◌, ℕ, ◌+◌, List, slice_get, Some}
use Rattle.mm_goto.specs.declared.program.Instr.{Instr}
use Rattle.mm_goto.specs.declared.program.Instr.TheVariants.{Jump, Branch}
use Rattle.mm_flow.specs.Flow.{Flow, Empty, Do, Then, When, Either, While, DoWhile, For, Body, Leave, Mark, Goto, Ways, way, size, in_loop, in_body, Placed}

-- these instructions stand in the code from place k on
pub record Holds (code : List Instr) (k : ℕ) (is : List Placed) : Type 0 where
  pub by : (j : ℕ) (p : Placed) → slice_get is j ≡ Some p → slice_get code (k + j) ≡ Some p.instr

-- the instruction at place k
abbrev pub Is : List Instr → ℕ → Instr → Type 0
Is code k i = slice_get code k ≡ Some i

-- the flow stands in the code from place k on, where the ways out of what encloses it lead as x says: each part stands at its
-- own place, and each branch and jump leads to the part that it is for
abbrev pub Stands : List Instr → Ways → Flow → ℕ → Type 0
Stands code x Empty k = Unit {0}
Stands code x (Do at i) k = Is code k i
Stands code x (Then a b) k = Stands code x a k × Stands code x b (k + size a)
Stands code x (When at e a) k = Is code k (Branch e (k + 1 + size a)) × Stands code x a (k + 1)
Stands code x (Either at e a b) k =
    let other = k + 1 + size a + 1 in
    Is code k (Branch e other) × Stands code x a (k + 1) × Is code (k + 1 + size a) (Jump (other + size b)) × Stands code x b other
Stands code x (While at c e a) k =
    let end = k + size c + 1 + size a + 1 in
    Stands code x c k × Is code (k + size c) (Branch e end)
    × Stands code (in_loop x end k) a (k + size c + 1) × Is code (k + size c + 1 + size a) (Jump k)
Stands code x (DoWhile at a c e) k =
    let next = k + size a in
    let end = next + size c + 2 in
    Stands code (in_loop x end next) a k × Stands code x c next
    × Is code (next + size c) (Branch e end) × Is code (next + size c + 1) (Jump k)
Stands code x (For at c e a j) k =
    let next = k + size c + 1 + size a in
    let end = next + size j + 1 in
    Stands code x c k × Is code (k + size c) (Branch e end)
    × Stands code (in_loop x end next) a (k + size c + 1) × Stands code x j next × Is code (next + size j) (Jump k)
Stands code x (Body names a) k = Stands code (in_body x names a k) a k
Stands code x (Leave at w) k = Is code k (Jump (way x w))
Stands code x (Mark y) k = Unit {0}
Stands code x (Goto at y) k = Is code k (Jump (x.label y))
