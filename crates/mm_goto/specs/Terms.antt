-- Expressions by words that stay folded, for the definitions that write them.
use Rattle.std.specs.Prelude.{ℕ, ℤ}
use Rattle.mm_goto.specs.declared.pure.Pure.{Pure, Const, Local, Un, Bin}
use Rattle.mm_goto.specs.declared.pure.Unary.{Unary}
use Rattle.mm_goto.specs.declared.pure.Binary.{Binary}

-- a number
unfoldable pub constant : ℤ → Pure
constant z = Const z

-- what a local has
unfoldable pub the_local : ℕ → Pure
the_local l = Local l

unfoldable pub applied : Unary → Pure → Pure
applied op x = Un op x

unfoldable pub combined : Binary → Pure → Pure → Pure
combined op x y = Bin op x y
