-- The parts of an input: a program, the line %%, and a schedule.
use Rattle.std.specs.Prelude.{◌≡◌, ℕ, ◌≤◌, List, ◌∷◌, ◌++◌, length, drop, take, codes}
use Rattle.std.specs.Str.{IsValidUpTo, chars}
use Rattle.mm_goto.specs.declared.ident.At.{At}
use Rattle.mm_goto.specs.Place.{place_after}

-- the input is no text: the longest front of it that is UTF-8 ends at the place
pub record IsNotUtf8 (input : List ℕ) (at : At) : Type 0 where
  pub front : ℕ
  pub longest : IsValidUpTo input front
  pub place : at ≡ place_after (chars (take front input))

-- the line %% begins at byte i: a newline stands before it, as one would before the text
pub record IsParting (text : List ℕ) (i : ℕ) : Type 0 where
  pub behind : List ℕ
  pub line : drop i (10 ∷ text) ≡ codes "\n%%\n" ++ behind

-- the first line %% of the text parts the program from the schedule
pub record IsSplit (text program schedule : List ℕ) : Type 0 where
  pub whole : text ≡ program ++ codes "%%\n" ++ schedule
  pub parting : IsParting text (length program)
  pub first : (i : ℕ) → IsParting text i → length program ≤ i

-- the text has no line %%
abbrev pub LacksPart : List ℕ → Type 0
LacksPart text = (i : ℕ) → IsParting text i → ⊥
