-- What a table relates.
use Rattle.std.specs.Prelude.{ℕ}
use Rattle.mm_bits.specs.declared.table.Bits.{Bits}
use Rattle.mm_bits.specs.Table.{Linked}

-- the table relates a to b
abbrev pub Related : Bits → ℕ → ℕ → Type 0
Related table = Linked table.rows.items
