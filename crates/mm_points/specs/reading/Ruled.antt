-- The rules of a program, with numbers for its cells and locals.
use Rattle.std.specs.Prelude.{◌≡◌, ℕ, ◌+◌, ◌*◌, ◌<◌, List, [], ◌∷◌, ◌++◌, map, length, slice_get, Some, Bool, All, IfSome}
use Rattle.mm_goto.specs.declared.pure.Pure.{Pure}
use Rattle.mm_goto.specs.declared.program.Cell.{Cell}
use Rattle.mm_goto.specs.declared.program.Thread.{Thread}
use Rattle.mm_goto.specs.declared.program.Target.{Target}
use Rattle.mm_goto.specs.declared.program.Target.TheVariants as target
use Rattle.mm_goto.specs.declared.program.Instr.{Instr}
use Rattle.mm_goto.specs.declared.program.Instr.TheVariants as instr
use Rattle.mm_goto.specs.Listing.{Listing}
use Rattle.mm_goto.specs.Checks.{written_local}
use Rattle.mm_goto.specs.PointsTo.{aims_of, element_row, MayName, local, cell}
use Rattle.mm_points.specs.declared.rules.Aim.{Aim}
use Rattle.mm_points.specs.declared.rules.Rule.{Rule}
use Rattle.mm_points.specs.declared.rules.Rule.TheVariants.{Nothing, Set, Load, Store}

abbrev pub aim_of : ℕ → Pure → Aim
aim_of base e = record { base = base; rows = (aims_of e).rows; locals = (aims_of e).locals }

abbrev pub aim_to : ℕ → Target → Aim
aim_to base (target.Cell c) = record { base = base; rows = record { first = c; len = 1 } ∷ []; locals = [] }
aim_to base (target.Elem first len index) = record { base = base; rows = element_row first len (aims_of index).constant ∷ []; locals = [] }
aim_to base (target.Deref e) = aim_of base e

abbrev pub rule_of : ℕ → Instr → Rule
rule_of base (instr.Set l e) = Set (base + l) (aim_of base e)
rule_of base (instr.Load l to) = Load (base + l) (aim_to base to)
rule_of base (instr.Store to e) = Store (aim_to base to) (aim_of base e)
rule_of base _ = Nothing

-- the rules of the start values, from cell k on
abbrev pub starts_from : ℕ → ℕ → List Cell → List Rule
starts_from base k [] = []
starts_from base k (of ∷ rest) = Set k (aim_of base of.init) ∷ starts_from base (k + 1) rest

-- the rules of the threads, where the locals of the first of them begin at the base, and those of each next one so many further
abbrev pub codes_from : ℕ → ℕ → List Thread → List Rule
codes_from base step [] = []
codes_from base step (thread ∷ rest) = map (rule_of base) thread.code ++ codes_from (base + step) step rest

-- the rules of the program, where no thread has more locals
abbrev pub rules_of : Listing → ℕ → List Rule
rules_of p step = starts_from (length p.cells) 0 p.cells ++ codes_from (length p.cells) step p.threads

-- the holder's number is h, and it may name the cell
pub data Named (p : Listing) (step : ℕ) (h c : ℕ) : Type 0 where
  a_cell : h < length p.cells → MayName p (cell h) c → Named p step h c
  a_local : (t l : ℕ) → l < step → h ≡ length p.cells + t * step + l → MayName p (local t l) c → Named p step h c

-- the locals that stand in an expression, a target or an instruction are below
abbrev pub BelowIn : ℕ → Pure → Type 0
BelowIn step e = (k l : ℕ) → slice_get (aims_of e).locals k ≡ Some l → l < step

abbrev pub BelowTo : ℕ → Target → Type 0
BelowTo step (target.Deref e) = BelowIn step e
BelowTo step _ = Unit {0}

abbrev pub BelowAt : ℕ → Instr → Type 0
BelowAt step (instr.Set l e) = (l < step) × BelowIn step e
BelowAt step (instr.Load l to) = (l < step) × BelowTo step to
BelowAt step (instr.Store to e) = BelowTo step to × BelowIn step e
BelowAt step _ = Unit {0}

-- which cells hold addresses
abbrev pub pointers_of : List Cell → List Bool
pointers_of = map (λ cell. cell.pointer)

-- the thread writes no local from the number on
abbrev pub WritesBelow : ℕ → Thread → Type 0
WritesBelow step thread = All (λ it. IfSome (written_local it) (λ l. l < step)) thread.code
