-- This mirrors the code: nothing that a reader believes rests on it.
-- How the words of the command line are read.
use Rattle.std.specs.Prelude.{ℕ, ◌-◌, ◌&&◌, if◌then◌else◌, nat_le, List, [], ◌∷◌, codes, Option, Some, None, option_and_then}
use Rattle.std.specs.Str.{bytes_eq}
use Rattle.mm_goto.specs.declared.model.Model.{Model}
use Rattle.mm_goto.specs.declared.model.Model.TheVariants.{Tso, Pso}
use Rattle.mm_run.specs.declared.command.Settings.{Settings}
use Rattle.mm_run.specs.declared.command.Settings.TheVariants.{Instrument, Cycles, ReplaySc, Replay}

-- tso or pso
abbrev pub model_of : List ℕ → Option Model
model_of word = if bytes_eq word (codes "tso") then Some Tso else if bytes_eq word (codes "pso") then Some Pso else None

-- one digit, 1 to 8
abbrev pub bound_of : List ℕ → Option ℕ
bound_of (digit ∷ []) = if nat_le 49 digit && nat_le digit 56 then Some (digit - 48) else None
bound_of _ = None

-- instrument, cycles or replay, with its model and its bound
abbrev pub command_of : List ℕ → Model → ℕ → Option Settings
command_of word m k =
    if bytes_eq word (codes "instrument") then Some (Instrument m k)
    else if bytes_eq word (codes "cycles") then Some (Cycles m k)
    else if bytes_eq word (codes "replay") then Some (Replay m k)
    else None

-- C --mm M --bound K, with a command C
abbrev pub with_bound : (command mm model bound number : List ℕ) → Option Settings
with_bound command mm model bound number =
    if bytes_eq mm (codes "--mm") && bytes_eq bound (codes "--bound")
    then option_and_then (λ m. option_and_then (λ k. command_of command m k) (bound_of number)) (model_of model)
    else None

-- replay --mm sc
abbrev pub without_bound : (command mm model : List ℕ) → Option Settings
without_bound command mm model =
    if (bytes_eq command (codes "replay") && bytes_eq mm (codes "--mm")) && bytes_eq model (codes "sc") then Some ReplaySc else None

-- what the words ask for, where they have one of the two shapes
abbrev pub settings_of : List (List ℕ) → Option Settings
settings_of (command ∷ mm ∷ model ∷ bound ∷ number ∷ []) = with_bound command mm model bound number
settings_of (command ∷ mm ∷ model ∷ []) = without_bound command mm model
settings_of _ = None
