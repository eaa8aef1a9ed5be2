-- Walks as lists of sites.
use Rattle.std.specs.Prelude.{ℕ, List, [], ◌∷◌}
use Rattle.mm_cycles.specs.declared.walk.Steps.{Steps}
use Rattle.mm_cycles.specs.declared.walk.Steps.TheOpen.{Steps-F, Back, Go}
use Rattle.mm_cycles.specs.declared.walk.Steps.TheFolds.{fold-Steps}
use Rattle.mm_cycles.specs.declared.walk.Walk.{Walk}

abbrev pub sites_step : Steps-F (List ℕ) → List ℕ
sites_step Back = []
sites_step (Go n rest) = n ∷ rest

-- the sites of the way back
abbrev pub sites_on : Steps → List ℕ
sites_on = fold-Steps (List ℕ) sites_step

-- the sites of the walk, without the store at its end
abbrev pub walked : Walk → List ℕ
walked walk = walk.store ∷ walk.later ∷ sites_on walk.rest
