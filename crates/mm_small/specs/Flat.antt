-- The goto program of a small program. Each access of a variable is a step of its own, and a value that is read goes
-- into a local of its own.
use Rattle.std.specs.Prelude.{ℕ, ◌+◌, ℤ, pos, false, List, [], ◌∷◌, ◌++◌, length, map, sum_by, None}
use Rattle.mm_goto.specs.declared.ident.At.{At}
use Rattle.mm_goto.specs.declared.ident.Ident.{Ident}
use Rattle.mm_goto.specs.declared.pure.Pure.{Pure}
use Rattle.mm_goto.specs.declared.pure.Binary.TheVariants as binary
use Rattle.mm_goto.specs.declared.program.Target.TheVariants as target
use Rattle.mm_goto.specs.declared.program.Instr.{Instr}
use Rattle.mm_goto.specs.declared.program.Instr.TheVariants.{Load, Store, Assert, Jump, End}
use Rattle.mm_goto.specs.declared.program.Cell.{Cell}
use Rattle.mm_goto.specs.declared.program.Thread.{Thread}
use Rattle.mm_goto.specs.Listing.{Listing}
use Rattle.mm_goto.specs.Terms.{constant, the_local, combined}
use Rattle.mm_small.specs.declared.tree.Statement.{Statement}
use Rattle.mm_small.specs.declared.tree.Statement.TheVariants as statement
use Rattle.mm_small.specs.declared.tree.Small.{Small}

-- how many values a statement reads
abbrev pub reads : Statement → ℕ
reads (statement.Number at c z) = 0
reads (statement.Variable at c from_at d) = 1
reads (statement.Assert at cell_at c z) = 1

abbrev pub asserts : Statement → ℕ
asserts (statement.Number at c z) = 0
asserts (statement.Variable at c from_at d) = 0
asserts (statement.Assert at cell_at c z) = 1

-- the local has the number
abbrev pub equals : ℕ → ℤ → Pure
equals l z = combined binary.Eq (the_local l) (constant z)

-- the code of a statement, where l is the next local and n the number of the next assertion
abbrev pub statement_code : ℕ → ℕ → Statement → List Instr
statement_code l n (statement.Number at c z) = Store (target.Cell c) (constant z) ∷ []
statement_code l n (statement.Variable at c from_at d) = Load l (target.Cell d) ∷ Store (target.Cell c) (the_local l) ∷ []
statement_code l n (statement.Assert at cell_at c z) = Load l (target.Cell c) ∷ Assert (equals l z) n ∷ []

-- the places of its instructions: those of the access, of the assigned name, or of the assertion
abbrev pub statement_places : Statement → List At
statement_places (statement.Number at c z) = at ∷ []
statement_places (statement.Variable at c from_at d) = from_at ∷ at ∷ []
statement_places (statement.Assert at cell_at c z) = cell_at ∷ at ∷ []

abbrev pub body_code : ℕ → ℕ → List Statement → List Instr
body_code l n [] = []
body_code l n (s ∷ ss) = statement_code l n s ++ body_code (l + reads s) (n + asserts s) ss

abbrev pub body_places : List Statement → List At
body_places [] = []
body_places (s ∷ ss) = statement_places s ++ body_places ss

-- main: its statements, then `return 0`, which goes to the end. Assertions count from 1.
abbrev pub main_of : Small → Thread
main_of p = record {
  locals = sum_by reads p.body;
  code = body_code 0 1 p.body ++ Jump (length (body_code 0 1 p.body) + 1) ∷ End ∷ [];
  places = body_places p.body ++ p.return_at ∷ p.main_at ∷ [];
}

-- a global int, which is 0 at the start
abbrev pub cell : Ident → Cell
cell name = record { name = name; index = None; pointer = false; init = constant (pos 0) }

abbrev pub listing_of : Small → Listing
listing_of p = record { cells = map cell p.variables; mutexes = []; threads = main_of p ∷ [] }
