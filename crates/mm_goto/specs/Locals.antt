-- Which locals and cells an expression names.
use Rattle.std.specs.Prelude.{ℕ, ◌+◌, nat_lt, if◌then◌else◌, List, [], ◌∷◌, ◌++◌}
use Rattle.mm_goto.specs.declared.pure.Pure.{Pure}
use Rattle.mm_goto.specs.declared.pure.Pure.TheOpen.{Pure-F, Const, Local, Addr, AddrElem, Un, Bin, Cond}
use Rattle.mm_goto.specs.declared.pure.Pure.TheFolds.{fold-Pure}
use Rattle.mm_goto.specs.declared.row.Row.{Row}

abbrev pub larger : ℕ → ℕ → ℕ
larger m n = if nat_lt m n then n else m

abbrev pub local_bound_step : Pure-F ℕ → ℕ
local_bound_step (Const c) = 0
local_bound_step (Local l) = l + 1
local_bound_step (Addr c) = 0
local_bound_step (AddrElem first len index) = index
local_bound_step (Un op x) = x
local_bound_step (Bin op x y) = larger x y
local_bound_step (Cond c x y) = larger c (larger x y)

-- one more than the greatest local that the expression names, and 0 where it names none
abbrev pub local_bound : Pure → ℕ
local_bound = fold-Pure ℕ local_bound_step

abbrev pub rows_step : Pure-F (List Row) → List Row
rows_step (Const c) = []
rows_step (Local l) = []
rows_step (Addr c) = record { first = c; len = 1 } ∷ []
rows_step (AddrElem first len index) = record { first = first; len = len } ∷ index
rows_step (Un op x) = x
rows_step (Bin op x y) = x ++ y
rows_step (Cond c x y) = c ++ x ++ y

-- the rows whose addresses the expression takes
abbrev pub rows_of : Pure → List Row
rows_of = fold-Pure (List Row) rows_step
