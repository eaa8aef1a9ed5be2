-- The words that name the memory models.
use Rattle.std.specs.Prelude.{ℕ, List, codes}
use Rattle.mm_goto.specs.declared.model.Model.{Model}
use Rattle.mm_goto.specs.declared.model.Model.TheVariants.{Tso, Pso}

-- the word of a model
abbrev pub word_of : Model → List ℕ
word_of Tso = codes "tso"
word_of Pso = codes "pso"
