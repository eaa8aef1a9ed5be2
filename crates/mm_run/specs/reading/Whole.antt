-- This mirrors the code: nothing that a reader believes rests on it.
-- Which machines run a schedule by themselves.
use Rattle.mm_sched.specs.declared.entry.Rules.{Rules}
use Rattle.mm_sched.specs.declared.entry.Rules.TheVariants.{Sc, Buffered, Partial}

-- no set of stores tells which of them are made pending
abbrev pub IsWholeMachine : Rules → Type 0
IsWholeMachine Sc = Unit {0}
IsWholeMachine (Buffered m bound) = Unit {0}
IsWholeMachine (Partial m bound set) = ⊥
