-- This mirrors the code: nothing that a reader believes rests on it.
-- Marks and ranks of functions, by their numbers, as the search for recursive calls keeps them.
use Rattle.std.specs.Prelude.{◌≡◌, ℕ, ◌<◌, length, Bool, true, false, List, All, slice_index_or, slice_set, Option, Some, None}
use Rattle.mm_scope.specs.declared.fault.Fault.{Fault}
use Rattle.mm_scope.specs.declared.fault.Rule.TheVariants.{Recursion}
use Rattle.mm_scope.specs.declared.notes.Call.{Call}
use Rattle.mm_scope.specs.Faults.{fault, is_before}
use Rattle.mm_names.specs.Calls.{Reaches}

-- the calls are among functions with numbers below n
abbrev pub AreAmong : ℕ → List Call → Type 0
AreAmong n calls = All (λ c. (c.caller < n) × (c.callee < n)) calls

abbrev pub unmarked : Bool → ℕ
unmarked true = 0
unmarked false = 1

-- what is marked can be reached
pub record AreReached (calls : List Call) (from : ℕ) (marks : List Bool) : Type 0 where
  pub each : (k : ℕ) → slice_index_or marks k false ≡ true → Reaches calls from k

-- the callee is marked where the caller is
abbrev pub IsClosed : List Bool → Call → Type 0
IsClosed marks c = slice_index_or marks c.caller false ≡ true → slice_index_or marks c.callee false ≡ true

-- so it is for the call at a place
pub record IsClosedAt (marks : List Bool) (calls : List Call) (k : ℕ) : Type 0 where
  pub it : (d : Call) → IsClosed marks (slice_index_or calls k d)

pub record AreClosed (marks : List Bool) (calls : List Call) : Type 0 where
  pub each : (k : ℕ) → k < length calls → IsClosedAt marks calls k

-- the callee of the call is marked behind it, and the caller was
pub record IsMarkedBy (c : Call) (old : List Bool) (new : List Bool) : Type 0 where
  pub caller : slice_index_or old c.caller false ≡ true
  pub callee : slice_index_or old c.callee false ≡ false
  pub new_is : new ≡ slice_set old c.callee true

-- ---- ranks

-- where the caller's rank is below the limit, the callee's is below it
abbrev pub Descends : ℕ → List ℕ → Call → Type 0
Descends limit ranks c = slice_index_or ranks c.caller 0 < limit → slice_index_or ranks c.callee 0 < slice_index_or ranks c.caller 0

-- so it is for the call at a place
pub record DescendsAt (limit : ℕ) (ranks : List ℕ) (calls : List Call) (k : ℕ) : Type 0 where
  pub it : (d : Call) → Descends limit ranks (slice_index_or calls k d)

pub record AllDescend (limit : ℕ) (ranks : List ℕ) (calls : List Call) : Type 0 where
  pub each : (k : ℕ) → k < length calls → DescendsAt limit ranks calls k

abbrev pub is_behind : Option Fault → Call → Bool
is_behind None c = false
is_behind (Some l) c = is_before l (fault Recursion c.at)
