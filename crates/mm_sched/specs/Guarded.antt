-- Steps that may fail, one after another.
use Rattle.std.specs.Prelude.{Bool, true, false, Option, None, option_and_then}

-- the first, and then the second with its value
infixl 10 ◌>>=◌
abbrev pub ◌>>=◌ : {A B : Type 0} → Option A → (A → Option B) → Option B
o >>= f = option_and_then f o

-- the step, where the test holds
abbrev pub guarded : {A : Type 0} → Bool → Option A → Option A
guarded true step = step
guarded false step = None
