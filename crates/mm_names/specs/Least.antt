-- The least of some faults.
use Rattle.std.specs.Prelude.{◌≡◌, ℕ, ◌<◌, false, Option, Some, None}
use Rattle.mm_scope.specs.declared.fault.Fault.{Fault}
use Rattle.mm_scope.specs.Faults.{is_before, lesser}

-- of the faults that are so, it is the least; there is none where it is None
pub data IsLeastOf (P : Fault → Type 0) : Option Fault → Type 0 where
  no_fault : ((f : Fault) → P f → ⊥) → IsLeastOf P None
  the_least : (f : Fault) → P f → ((g : Fault) → P g → is_before g f ≡ false) → IsLeastOf P (Some f)

-- it is so for one of the first i
pub record IsBelow (F : ℕ → Fault → Type 0) (i : ℕ) (f : Fault) : Type 0 where
  pub k : ℕ
  pub below : k < i
  pub is : F k f

-- the lesser of two leasts
abbrev pub lesser_of_both : Option Fault → Option Fault → Option Fault
lesser_of_both least None = least
lesser_of_both least (Some f) = lesser least f
