-- The parts of an expression, and its size.
use Rattle.std.specs.Prelude.{ℕ, ℤ, ◌+◌, Bool, true, false, ◌||◌, List, [], ◌∷◌, ◌++◌}
use Rattle.mm_goto.specs.declared.pure.Binary.{Binary}
use Rattle.mm_goto.specs.declared.pure.Binary.TheVariants as binary
use Rattle.mm_goto.specs.declared.pure.Pure.{Pure}
use Rattle.mm_goto.specs.declared.pure.Pure.TheOpen as pure
use Rattle.mm_goto.specs.declared.pure.Pure.TheFolds.{fold-Pure}
use Rattle.mm_goto.specs.declared.row.Row.{Row}
use Rattle.mm_goto.specs.Locals.{larger}

abbrev pub nodes_step : pure.Pure-F ℕ → ℕ
nodes_step (pure.Const c) = 1
nodes_step (pure.Local l) = 1
nodes_step (pure.Addr c) = 1
nodes_step (pure.AddrElem first len index) = index + 1
nodes_step (pure.Un op x) = x + 1
nodes_step (pure.Bin op x y) = x + y + 1
nodes_step (pure.Cond c x y) = c + x + y + 1

-- how many nodes the expression has
abbrev pub nodes : Pure → ℕ
nodes = fold-Pure ℕ nodes_step

abbrev pub levels_step : pure.Pure-F ℕ → ℕ
levels_step (pure.Const c) = 1
levels_step (pure.Local l) = 1
levels_step (pure.Addr c) = 1
levels_step (pure.AddrElem first len index) = index + 1
levels_step (pure.Un op x) = x + 1
levels_step (pure.Bin op x y) = larger x y + 1
levels_step (pure.Cond c x y) = larger c (larger x y) + 1

-- how many levels it has
abbrev pub levels : Pure → ℕ
levels = fold-Pure ℕ levels_step

abbrev pub numbers_step : pure.Pure-F (List ℤ) → List ℤ
numbers_step (pure.Const c) = c ∷ []
numbers_step (pure.Local l) = []
numbers_step (pure.Addr c) = []
numbers_step (pure.AddrElem first len index) = index
numbers_step (pure.Un op x) = x
numbers_step (pure.Bin op x y) = x ++ y
numbers_step (pure.Cond c x y) = c ++ x ++ y

-- the numbers that are written in it
abbrev pub numbers : Pure → List ℤ
numbers = fold-Pure (List ℤ) numbers_step

-- an operator that a zero divisor stops
abbrev pub is_division : Binary → Bool
is_division binary.Div = true
is_division binary.Rem = true
is_division op = false

abbrev pub divides_step : pure.Pure-F Bool → Bool
divides_step (pure.Const c) = false
divides_step (pure.Local l) = false
divides_step (pure.Addr c) = false
divides_step (pure.AddrElem first len index) = index
divides_step (pure.Un op x) = x
divides_step (pure.Bin op x y) = (is_division op || x) || y
divides_step (pure.Cond c x y) = (c || x) || y

-- it has a division or a remainder in it
abbrev pub divides : Pure → Bool
divides = fold-Pure Bool divides_step

abbrev pub arrays_step : pure.Pure-F (List Row) → List Row
arrays_step (pure.Const c) = []
arrays_step (pure.Local l) = []
arrays_step (pure.Addr c) = []
arrays_step (pure.AddrElem first len index) = record { first = first; len = len } ∷ index
arrays_step (pure.Un op x) = x
arrays_step (pure.Bin op x y) = x ++ y
arrays_step (pure.Cond c x y) = c ++ x ++ y

-- the rows whose elements' addresses it takes
abbrev pub arrays_of : Pure → List Row
arrays_of = fold-Pure (List Row) arrays_step

abbrev pub addressed_step : pure.Pure-F (List ℕ) → List ℕ
addressed_step (pure.Const c) = []
addressed_step (pure.Local l) = []
addressed_step (pure.Addr c) = c ∷ []
addressed_step (pure.AddrElem first len index) = index
addressed_step (pure.Un op x) = x
addressed_step (pure.Bin op x y) = x ++ y
addressed_step (pure.Cond c x y) = c ++ x ++ y

-- the cells whose own addresses it takes
abbrev pub addressed : Pure → List ℕ
addressed = fold-Pure (List ℕ) addressed_step
