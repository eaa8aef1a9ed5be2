-- The value of an expression over a thread's locals. ISO C's operators, on ints of 32 bits that wrap: a quotient is
-- cut toward zero, the least int divided by -1 gives the least int and the remainder 0, a shift counts modulo 32, and
-- a shift to the right keeps the sign. A division by zero gives 0; in what flattening gives for a source an assertion that the
-- divisor is not 0 stands before each.
use Rattle.std.specs.Prelude.{ℕ, ◌+◌, ◌%◌, ◌^◌, ℤ, pos, List, if◌then◌else◌, ◌==◌, Bool, int_lt, not, ◌&&◌, ◌||◌, slice_index_or}
use Rattle.std.specs.Int.{w32, int_wrapping_add, int_wrapping_sub, int_wrapping_mul, int_wrapping_div, int_wrapping_neg, int_shl, int_shr, int_bit_and, int_bit_or, int_bit_xor, int_bit_not, cast_signed, cast_unsigned}
use Rattle.std.specs.Int.RustNames.{int_rem}
use Rattle.mm_goto.specs.declared.pure.Unary.{Unary}
use Rattle.mm_goto.specs.declared.pure.Unary.TheVariants.{Neg, Plus, Not, Flip}
use Rattle.mm_goto.specs.declared.pure.Binary.{Binary}
use Rattle.mm_goto.specs.declared.pure.Binary.TheVariants.{Add, Sub, Mul, Div, Rem, Shl, Shr, Lt, Le, Gt, Ge, Eq, Ne, And, Xor, Or, Land, Lor}
use Rattle.mm_goto.specs.declared.pure.Pure.{Pure}
use Rattle.mm_goto.specs.declared.pure.Pure.TheOpen.{Pure-F, Const, Local, Addr, AddrElem, Un, Bin, Cond}
use Rattle.mm_goto.specs.declared.pure.Pure.TheFolds.{fold-Pure}

-- 1 where the test holds, else 0
abbrev pub truth : Bool → ℤ
truth b = if b then pos 1 else pos 0

-- z is 0
abbrev pub is_zero : ℤ → Bool
is_zero z = cast_unsigned w32 z == 0

-- the value of an operator before its operand
abbrev pub unary_value : Unary → ℤ → ℤ
unary_value Neg x = int_wrapping_neg w32 x
unary_value Plus x = x
unary_value Not x = truth (is_zero x)
unary_value Flip x = int_bit_not w32 x

-- the value of an operator between its operands; && and || have both operands at hand
abbrev pub binary_value : Binary → ℤ → ℤ → ℤ
binary_value Add x y = int_wrapping_add w32 x y
binary_value Sub x y = int_wrapping_sub w32 x y
binary_value Mul x y = int_wrapping_mul w32 x y
binary_value Div x y = if is_zero y then pos 0 else int_wrapping_div w32 x y
binary_value Rem x y = if is_zero y then pos 0 else int_rem x y
binary_value Shl x y = int_shl w32 x (cast_unsigned w32 y % 32)
binary_value Shr x y = int_shr x (cast_unsigned w32 y % 32)
binary_value Lt x y = truth (int_lt x y)
binary_value Le x y = truth (not (int_lt y x))
binary_value Gt x y = truth (int_lt y x)
binary_value Ge x y = truth (not (int_lt x y))
binary_value Eq x y = truth (cast_unsigned w32 x == cast_unsigned w32 y)
binary_value Ne x y = truth (not (cast_unsigned w32 x == cast_unsigned w32 y))
binary_value And x y = int_bit_and w32 x y
binary_value Xor x y = int_bit_xor w32 x y
binary_value Or x y = int_bit_or w32 x y
binary_value Land x y = truth (not (is_zero x) && not (is_zero y))
binary_value Lor x y = truth (not (is_zero x) || not (is_zero y))

-- the address of a cell: its number plus 1, so that 0 is the null pointer
abbrev pub address : ℕ → ℤ
address c = cast_signed w32 ((c + 1) % 2 ^ 32)

-- the value from the values of the parts
abbrev pub value_step : List ℤ → Pure-F ℤ → ℤ
value_step locals (Const c) = c
value_step locals (Local l) = slice_index_or locals l (pos 0)
value_step locals (Addr c) = address c
value_step locals (AddrElem first len index) = int_wrapping_add w32 (address first) index
value_step locals (Un op x) = unary_value op x
value_step locals (Bin op x y) = binary_value op x y
value_step locals (Cond c x y) = if is_zero c then y else x

-- the value of the expression where the locals have these values
unfoldable pub value_of : Pure → List ℤ → ℤ
value_of e locals = fold-Pure ℤ (value_step locals) e
