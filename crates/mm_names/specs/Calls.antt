-- Which functions reach which, through calls.
use Rattle.std.specs.Prelude.{◌≡◌, ℕ, List, Contains, slice_get, Some}
use Rattle.mm_scope.specs.declared.fault.Fault.{Fault}
use Rattle.mm_scope.specs.declared.fault.Rule.TheVariants.{Recursion}
use Rattle.mm_scope.specs.declared.notes.Call.{Call}
use Rattle.mm_scope.specs.Faults.{fault}

-- through calls, a function can reach another
pub data Reaches (calls : List Call) : ℕ → ℕ → Type 0 where
  itself : {f : ℕ} → Reaches calls f f
  through : {h : ℕ} (c : Call) → Contains calls c → Reaches calls c.callee h → Reaches calls c.caller h

-- call k is recursive: its function can reach the one in which it stands
pub record IsRecursion (calls : List Call) (k : ℕ) (f : Fault) : Type 0 where
  pub call : Call
  pub is_k : slice_get calls k ≡ Some call
  pub reaches : Reaches calls call.callee call.caller
  pub is : f ≡ fault Recursion call.at
