-- Expressions by words that stay folded.
use Rattle.std.specs.Prelude.{ℕ}
use Rattle.mm_goto.specs.declared.pure.Pure.{Pure, Addr, AddrElem, Cond}

-- the address of a cell
unfoldable pub address : ℕ → Pure
address c = Addr c

-- the address of an element of so many cells from the first on
unfoldable pub element : (first len : ℕ) → Pure → Pure
element first len index = AddrElem first len index

-- the second where the first is not 0, else the third
unfoldable pub chosen : Pure → Pure → Pure → Pure
chosen c x y = Cond c x y
