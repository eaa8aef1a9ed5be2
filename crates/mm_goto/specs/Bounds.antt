-- How many stores of a thread may be pending: in all under TSO, for each cell under PSO.
use Rattle.std.specs.Prelude.{ℕ, ◌≤◌}

-- what a bound says
abbrev pub Bounding : Type 0
Bounding = ℕ

-- the bound that is n for every thread
abbrev pub uniform : ℕ → Bounding
uniform n = n

-- the number that holds for thread t
abbrev pub bound_of : Bounding → ℕ → ℕ
bound_of bound t = bound

-- the greatest number that holds for a thread
abbrev pub greatest : Bounding → ℕ
greatest bound = bound

-- there is such a bound: it is 1 to 8
abbrev pub IsBound : Bounding → Type 0
IsBound bound = (1 ≤ bound) × (bound ≤ 8)
