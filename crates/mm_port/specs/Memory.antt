-- A source and a sink over memory, which fail at the calls that a list names.
use Rattle.std.specs.Prelude.{ℕ, List}

-- a source: the bytes that are left, how many it gives at most in one call, the calls that fail,
-- and how many calls and faults there were, both up to 2^64 - 1
pub record Reading : Type 0 where
  pub left : List ℕ
  pub piece : ℕ
  pub fails : List ℕ
  pub calls : ℕ
  pub faults : ℕ

-- a sink: the bytes that it has taken, how many it takes at most in all and in one call, the calls that fail,
-- and how many calls and faults there were, both up to 2^64 - 1
pub record Writing : Type 0 where
  pub taken : List ℕ
  pub room : ℕ
  pub piece : ℕ
  pub fails : List ℕ
  pub calls : ℕ
  pub faults : ℕ
