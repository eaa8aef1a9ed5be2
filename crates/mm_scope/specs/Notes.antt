-- What is found in a program's text, in its order: what is wrong, and what is judged of the program as a whole.
use Rattle.std.specs.Prelude.{ℕ, ◌+◌, nat_lt, Bool, List, [], ◌∷◌, ◌++◌, fold, if◌then◌else◌, Option, None}
use Rattle.mm_goto.specs.declared.ident.At.{At}
use Rattle.mm_goto.specs.declared.ident.Ident.{Ident}
use Rattle.mm_scope.specs.declared.fault.Rule.{Rule}
use Rattle.mm_scope.specs.declared.fault.Fault.{Fault}
use Rattle.mm_scope.specs.declared.notes.Call.{Call}
use Rattle.mm_scope.specs.Faults.{fault, lesser}

-- a start of a thread, with its function, or else a wait for it; the variable that holds the thread is a local or a global
pub record Use : Type 0 where
  pub function : Option Ident
  pub local : Bool
  pub variable : Ident
  pub at : At

-- a fault, a call of a function, a start or join of a thread, or an assertion
pub data Note : Type 0 where
  a_fault : Fault → Note
  a_call : Call → Note
  a_use : Use → Note
  an_assertion : Note

abbrev pub refusal : Rule → At → Note
refusal rule at = a_fault (fault rule at)

-- what is kept of the notes: the least fault, all calls, all starts and joins, and how many assertions there are
pub record Noted : Type 0 where
  pub least : Option Fault
  pub calls : List Call
  pub uses : List Use
  pub asserts : ℕ

abbrev pub no_notes : Noted
no_notes = record { least = None; calls = []; uses = []; asserts = 0 }

-- one more, up to the greatest number of 32 bits
abbrev pub counted : ℕ → ℕ
counted n = if nat_lt n 4294967295 then n + 1 else n

unfoldable pub noted : Noted → Note → Noted
noted n (a_fault f) = record n { least = lesser n.least f }
noted n (a_call c) = record n { calls = n.calls ++ c ∷ [] }
noted n (a_use u) = record n { uses = n.uses ++ u ∷ [] }
noted n an_assertion = record n { asserts = counted n.asserts }

abbrev pub all_noted : Noted → List Note → Noted
all_noted = fold noted
