-- What a write that failed did to a sink.
use Rattle.std.specs.Prelude.{◌≡◌, ℕ, ◌<◌, List, ◌++◌, length, Option}
use Rattle.std.specs.Io.KnownBytes.{Appends}

-- a part of the text was written that lacks the end
pub record AppendsPart (old new : Option (List ℕ)) (text : List ℕ) : Type 0 where
  pub part : List ℕ
  pub lacking : List ℕ
  pub whole : text ≡ part ++ lacking
  pub proper : 0 < length lacking
  pub written : Appends old new part
