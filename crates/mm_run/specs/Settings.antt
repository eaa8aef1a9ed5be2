-- The shapes of the command line.
use Rattle.std.specs.Prelude.{◌≡◌, ℕ, List, [], ◌∷◌, codes}
use Rattle.std.specs.Fmt.{decimal}
use Rattle.mm_goto.specs.Bounds.{IsBound}
use Rattle.mm_goto.specs.Models.{word_of}
use Rattle.mm_run.specs.declared.command.Settings.{Settings}
use Rattle.mm_run.specs.declared.command.Settings.TheVariants.{Instrument, Cycles, ReplaySc, Replay}

-- the words of a command
abbrev pub words_of : Settings → List (List ℕ)
words_of (Instrument m bound) = codes "instrument" ∷ codes "--mm" ∷ word_of m ∷ codes "--bound" ∷ decimal bound ∷ []
words_of (Cycles m bound) = codes "cycles" ∷ codes "--mm" ∷ word_of m ∷ codes "--bound" ∷ decimal bound ∷ []
words_of ReplaySc = codes "replay" ∷ codes "--mm" ∷ codes "sc" ∷ []
words_of (Replay m bound) = codes "replay" ∷ codes "--mm" ∷ word_of m ∷ codes "--bound" ∷ decimal bound ∷ []

-- which commands there are: the bound is 1 to 8
abbrev pub IsThere : Settings → Type 0
IsThere (Instrument m bound) = IsBound bound
IsThere (Cycles m bound) = IsBound bound
IsThere ReplaySc = Unit {0}
IsThere (Replay m bound) = IsBound bound

-- the words ask for the command
pub record AskFor (words : List (List ℕ)) (s : Settings) : Type 0 where
  pub there : IsThere s
  pub shape : words ≡ words_of s
