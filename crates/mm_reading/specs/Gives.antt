-- What the code reads, beside what reading gives.
use Rattle.std.specs.Prelude.{◌≡◌, ℕ, List, length, Option, Some, None, Result, Ok, Err}
use Rattle.std.specs.Borrow.{Bor}
use Rattle.mm_reading.specs.declared.refused.Refused.{Refused}
use Rattle.mm_reading.specs.declared.refused.Refused.TheVariants as refused
use Rattle.mm_reading.specs.Parsing.{Outcome, Parsed, Fault}

-- how many tokens there are from the fault on
abbrev pub left_at : {T A : Type 0} → Outcome T A → Option ℕ
left_at (Parsed a rest) = None
left_at (Fault rest) = Some (length rest)

-- want of memory says nothing
abbrev pub Fails : {T A : Type 0} → Refused → Outcome T A → Type 0
Fails refused.Memory o = Unit {0}
Fails (refused.Fault left) o = left_at o ≡ Some left

-- a value and the tokens after it, or the fault
abbrev pub Gives : {T A : Type 0} → Result (A × Bor (List T)) Refused → Outcome T A → Type 0
Gives (Ok x) o = o ≡ Parsed x.0 x.1.now
Gives (Err e) o = Fails e o

-- the same where the value is nothing
abbrev pub GivesUnit : {T : Type 0} → Result (Bor (List T)) Refused → Outcome T (Unit {0}) → Type 0
GivesUnit (Ok x) o = o ≡ Parsed tt x.now
GivesUnit (Err e) o = Fails e o
