-- Marked places.
use Rattle.std.specs.Prelude.{◌≡◌, ℕ, Bool, true, false, not, ◌||◌, List, slice_index_or}
use Rattle.mm_goto.specs.declared.program.Instr.{Instr}
use Rattle.mm_goto.specs.Sites.{drains}

abbrev pub Marked : List Bool → ℕ → Type 0
Marked seen k = slice_index_or seen k false ≡ true

-- every instruction passes, or those alone that do not drain
abbrev pub passes_where : Bool → Instr → Bool
passes_where all it = all || not (drains it)
