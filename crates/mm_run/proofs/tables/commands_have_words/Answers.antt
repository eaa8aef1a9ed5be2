use Rattle.std.proofs.Common.{ℕ, ◌∷◌, [], List, codes, ap, arith}
use Rattle.std.proofs.lemmas.Fmt.{decimal_digit}
use Rattle.mm_run.proofs.tables.commands_have_words.Goals as goal

pub returns-clause-instrument : goal.returns-clause-instrument
returns-clause-instrument c = ap (λ (number : List ℕ). codes "instrument" ∷ codes "--mm" ∷ codes "tso" ∷ codes "--bound" ∷ number ∷ []) (decimal_digit 1 (omega arith))

pub returns-clause-replay : goal.returns-clause-replay
returns-clause-replay c = ap (λ (number : List ℕ). codes "replay" ∷ codes "--mm" ∷ codes "pso" ∷ codes "--bound" ∷ number ∷ []) (decimal_digit 8 (omega arith))

pub returns-clause-cycles : goal.returns-clause-cycles
returns-clause-cycles c = ap (λ (number : List ℕ). codes "cycles" ∷ codes "--mm" ∷ codes "pso" ∷ codes "--bound" ∷ number ∷ []) (decimal_digit 2 (omega arith))
