-- This mirrors the code: nothing that a reader believes rests on it.
-- What the reading of all terminals gives.
use Rattle.std.specs.Prelude.{◌≡◌, ◌-◌, ℕ, List, length, drop, Result, Ok, Err}
use Rattle.mm_reading.specs.declared.refused.Refused.{Refused}
use Rattle.mm_reading.specs.declared.refused.Refused.TheVariants as refused
use Rattle.mm_reading.specs.Gives.{Fails}
use Rattle.mm_reading.specs.Parsing.{Outcome, Parsed, rest_of}
use Rattle.mm_parse_expr.specs.declared.terminal.Terminal.{Terminal}
use Rattle.mm_parse_expr.specs.declared.fault.ParseFault.{ParseFault}
use Rattle.mm_parse_expr.specs.Faults.{fault_at}

-- a value that was read, whatever stands after it, or the fault
abbrev pub GivesWhole : {T A : Type 0} → Result A Refused → Outcome T A → Type 0
GivesWhole (Ok x) o = o ≡ Parsed x (rest_of o)
GivesWhole (Err e) o = Fails e o

-- what the fault is where the reading of these terminals gave nothing
abbrev pub IsFaultOf : List ℕ → List Terminal → Refused → ParseFault → Type 0
IsFaultOf text ts refused.Memory fault = ⊥
IsFaultOf text ts (refused.Fault left) fault = fault ≡ fault_at text (drop (length ts - left) ts)
