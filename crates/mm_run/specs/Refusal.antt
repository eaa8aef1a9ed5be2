-- What a fault of a program's text says.
use Rattle.std.specs.Prelude.{◌≡◌, ℕ, List, string_bytes}
use Rattle.mm_goto.specs.declared.ident.At.{At}
use Rattle.mm_run.specs.declared.program.ProgramFault.{ProgramFault}
use Rattle.mm_run.specs.declared.program.ProgramFault.TheVariants.{Refused, NoMemory}
use Rattle.mm_tree.specs.declared.side.Side.{Side}
use Rattle.mm_run.specs.declared.status.Status.{Status}
use Rattle.mm_run.specs.declared.status.Status.TheVariants as status
use Rattle.mm_run.specs.Lines.{refusal_line}
use Rattle.mm_run.specs.Program.{IsNoProgram}

-- the fault is a refusal at this place, for this reason; want of memory says nothing
abbrev pub Says : ProgramFault → At → List ℕ → Type 0
Says (Refused r) at why = (r.at ≡ at) × (string_bytes r.why ≡ why)
Says NoMemory at why = Unit {0}

-- the fault is that the text is no program of the side
abbrev pub Rejects : Side → List ℕ → ProgramFault → Type 0
Rejects side text (Refused r) = IsNoProgram side text r.at (string_bytes r.why)
Rejects side text NoMemory = Unit {0}

-- the status and the output say the fault
abbrev pub Tells : ProgramFault → Status → List ℕ → Type 0
Tells (Refused r) s out = (s ≡ status.Refused) × (out ≡ refusal_line r.at (string_bytes r.why))
Tells NoMemory s out = ⊥
