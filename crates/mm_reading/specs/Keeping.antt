-- What was read before, kept beside what is read next.
use Rattle.std.specs.Prelude.{◌≡◌, List, Result, Ok, Err}
use Rattle.std.specs.Borrow.{Bor}
use Rattle.mm_reading.specs.declared.refused.Refused.{Refused}

-- both are there, or the fault of the next
abbrev pub Keeps : {V R : Type 0} → V → Result R Refused → Result (V × R) Refused → Type 0
Keeps before next (Ok x) = (x.0 ≡ before) × (next ≡ Ok x.1)
Keeps before next (Err e) = next ≡ Err e

-- the same for a value and the tokens after it
abbrev pub Pairs : {V R T : Type 0} → V → Result (R × Bor (List T)) Refused → Result ((V × R) × Bor (List T)) Refused → Type 0
Pairs before next (Ok x) = (x.0.0 ≡ before) × (next ≡ Ok (x.0.1, x.1))
Pairs before next (Err e) = next ≡ Err e
