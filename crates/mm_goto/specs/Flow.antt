-- Where control may go in a thread's code.
use Rattle.std.specs.Prelude.{◌≡◌, ◌⊎◌, ℕ, ◌+◌, List, [], ◌∷◌, Option, Some, None, slice_get}
use Rattle.mm_goto.specs.declared.program.Instr.{Instr}
use Rattle.mm_goto.specs.declared.program.Instr.TheVariants.{Jump, Branch, End}

-- control goes on from the instruction at place j to place k
abbrev pub GoesTo : ℕ → Instr → ℕ → Type 0
GoesTo j (Jump m) k = k ≡ m
GoesTo j (Branch e m) k = (k ≡ m) ⊎ (k ≡ j + 1)
GoesTo j End k = ⊥
GoesTo j _ k = k ≡ j + 1

-- place k is a successor of place j
abbrev pub IsSuccessor : List Instr → ℕ → ℕ → Type 0
IsSuccessor code j k = leads (slice_get code j)
  where
    leads : Option Instr → Type 0
    leads (Some i) = GoesTo j i k
    leads None = ⊥

-- a flow path leads from a place to another: the places on it before the last, each of which has the next as a successor
pub data IsFlow (code : List Instr) : ℕ → List ℕ → ℕ → Type 0 where
  here : {k : ℕ} → IsFlow code k [] k
  on : {j k l : ℕ} {ks : List ℕ}
      → IsSuccessor code j k
      → IsFlow code k ks l
      → IsFlow code j (j ∷ ks) l
