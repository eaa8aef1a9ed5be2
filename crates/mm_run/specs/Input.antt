-- What reading an input does to a source.
use Rattle.std.specs.Prelude.{◌≡◌, ℕ, ◌+◌, ◌≤◌, List, ◌++◌, length, Option}
use Rattle.std.specs.Io.KnownBytes.{Consumes, IsAtEnd}
use Rattle.mm_run.specs.declared.input.Input.{Input}
use Rattle.mm_run.specs.declared.input.Input.TheVariants.{Whole, TooLong}
use Rattle.mm_run.specs.declared.input.TheConstants.{MAX_INPUT}

-- n more bytes were read, at most so many, and none only at the end
pub record AddsPiece (old new : Option (List ℕ)) (before after : List ℕ) (most n : ℕ) : Type 0 where
  pub piece : List ℕ
  pub read : Consumes old new piece
  pub added : after ≡ before ++ piece
  pub count : length piece ≡ n
  pub within : n ≤ most
  pub end : n ≡ 0 → IsAtEnd new

-- the source had these bytes and no more
pub record IsWhole (old new : Option (List ℕ)) (bytes : List ℕ) : Type 0 where
  pub read : Consumes old new bytes
  pub end : IsAtEnd new
  pub within : length bytes ≤ MAX_INPUT

-- one byte more was read than an input may have
pub record IsTooLong (old new : Option (List ℕ)) : Type 0 where
  pub bytes : List ℕ
  pub read : Consumes old new bytes
  pub long : length bytes ≡ MAX_INPUT + 1

abbrev pub IsInput : Option (List ℕ) → Option (List ℕ) → Input → Type 0
IsInput old new (Whole bytes) = IsWhole old new bytes.items
IsInput old new TooLong = IsTooLong old new
