-- That a table is another turned round is known in one way at most.
use Rattle.std.specs.Prelude.{ℕ, List}
use Rattle.std.specs.Coded.{coded_ℕ, Coded-set}
use Rattle.mm_bits.specs.declared.numbers.Numbers.{Numbers}
use Rattle.mm_bits.specs.Words.{Has}
use Rattle.mm_bits.specs.Table.{Linked}

pub linked_prop : (rows : List Numbers) (a b : ℕ) → IsProp (Linked rows a b)
unfolding Has
linked_prop rows a b = Coded-set coded_ℕ _ _
