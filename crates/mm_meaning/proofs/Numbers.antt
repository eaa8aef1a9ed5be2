-- Small numbers, and values of expressions.
use Rattle.std.proofs.Common.{suc, ap, ◌∙◌, arith, ◌≡◌, ℕ, ◌+◌, ◌*◌, ◌-◌, ◌^◌, ◌<◌, ℤ, pos, Bool, true, false, not, List, refl}
use Rattle.std.specs.Prelude.{int_lt, slice_index_or, if◌then◌else◌, ◌==◌}
use Rattle.std.specs.Int.{w32, int_wrapping_add, int_wrapping_sub, int_wrapping_mul, cast_unsigned}
use Rattle.std.proofs.lemmas.Int.{ints}
use Rattle.std.proofs.lemmas.Bool.{lt-ltb}
use Rattle.mm_goto.specs.Value.{value_of, value_step, is_zero, truth, unary_value, binary_value, address}
use denote.Hole.Carrier
use Rattle.mm_goto.specs.declared.pure.Pure.{Pure}
use Rattle.mm_goto.specs.declared.pure.Pure.TheOpen as pure
use Rattle.mm_goto.specs.declared.pure.Pure.TheViews.{roll-Pure}
use Rattle.mm_goto.specs.declared.pure.Pure.TheFolds.{fold-Pure, fold-roll-Pure}
use Rattle.mm_flow.specs.Words.{address as address_of, element, chosen}
use Rattle.mm_goto.specs.declared.pure.Unary.{Unary}
use Rattle.mm_goto.specs.declared.pure.Binary.{Binary}
use Rattle.mm_goto.specs.declared.pure.Binary.TheVariants as binary
use Rattle.mm_goto.specs.Terms.{constant, the_local, applied, combined}
use Rattle.mm_goto.proofs.Folding.{fold_constant, fold_local, fold_applied, fold_combined}
use Rattle.mm_goto.specs.Checks.{is_in_range, is_not_zero}

pub sum_is : (a b : ℕ) → a + b < 2 ^ 31 → int_wrapping_add w32 (pos a) (pos b) ≡ pos (a + b)
sum_is a b h = grind (arith, ints)

pub product_is : (a b : ℕ) → a < 2 ^ 15 → b < 2 ^ 15 → a * b < 2 ^ 31 → int_wrapping_mul w32 (pos a) (pos b) ≡ pos (a * b)
product_is a b h k l = grind (arith, ints)

pub less_one : (a : ℕ) → a < 2 ^ 31 → 0 < a → int_wrapping_sub w32 (pos a) (pos 1) ≡ pos (a - 1)
less_one a h k = grind (arith, ints)

pub truth_zero : (b : Bool) → is_zero (truth b) ≡ not b
truth_zero true = refl
truth_zero false = refl

pub const_value : (z : ℤ) (ls : List ℤ) → value_of (constant z) ls ≡ z
unfolding value_of
const_value z ls = fold_constant (value_step ls) z

pub local_value : (l : ℕ) (ls : List ℤ) → value_of (the_local l) ls ≡ slice_index_or ls l (pos 0)
unfolding value_of
local_value l ls = fold_local (value_step ls) l

pub un_value : (op : Unary) (a : Pure) (ls : List ℤ) → value_of (applied op a) ls ≡ unary_value op (value_of a ls)
unfolding value_of
un_value op a ls = fold_applied (value_step ls) op a

pub bin_value : (op : Binary) (a b : Pure) (ls : List ℤ) → value_of (combined op a b) ls ≡ binary_value op (value_of a ls) (value_of b ls)
unfolding value_of
bin_value op a b ls = fold_combined (value_step ls) op a b

not_negative : (k : ℕ) → int_lt (pos k) (pos 0) ≡ false
not_negative k = grind arith

pub in_range : (i : Pure) (len k : ℕ) (ls : List ℤ) → value_of i ls ≡ pos k → k < len → is_zero (value_of (is_in_range i len) ls) ≡ false
in_range i len k ls e h = simp (bin_value, const_value, e, lt-ltb k len h, not_negative k)

-- the words of flattening
cond_step : {C : Type 0} (step : pure.Pure-F C → C) (c x y : Pure) → fold-Pure C step (chosen c x y) ≡ step (pure.Cond (fold-Pure C step c) (fold-Pure C step x) (fold-Pure C step y))
unfolding chosen roll-Pure denote.Hole.Carrier.roll
cond_step {C = C} step c x y = fold-roll-Pure C step (pure.Cond c x y)

address_step : {C : Type 0} (step : pure.Pure-F C → C) (c : ℕ) → fold-Pure C step (address_of c) ≡ step (pure.Addr c)
unfolding address_of roll-Pure denote.Hole.Carrier.roll
address_step {C = C} step c = fold-roll-Pure C step (pure.Addr c)

element_step : {C : Type 0} (step : pure.Pure-F C → C) (first len : ℕ) (i : Pure) → fold-Pure C step (element first len i) ≡ step (pure.AddrElem first len (fold-Pure C step i))
unfolding element roll-Pure denote.Hole.Carrier.roll
element_step {C = C} step first len i = fold-roll-Pure C step (pure.AddrElem first len i)

pub cond_value : (c x y : Pure) (ls : List ℤ) → value_of (chosen c x y) ls ≡ (if is_zero (value_of c ls) then value_of y ls else value_of x ls)
unfolding value_of
cond_value c x y ls = cond_step (value_step ls) c x y

pub address_value : (c : ℕ) (ls : List ℤ) → value_of (address_of c) ls ≡ address c
unfolding value_of
address_value c ls = address_step (value_step ls) c

pub element_value : (first len : ℕ) (i : Pure) (ls : List ℤ) → value_of (element first len i) ls ≡ int_wrapping_add w32 (address first) (value_of i ls)
unfolding value_of
element_value first len i ls = element_step (value_step ls) first len i

pub not_null : (e : Pure) (c : ℕ) (ls : List ℤ) → value_of e ls ≡ pos (suc c) → suc c < 2 ^ 31 → is_zero (value_of (is_not_zero e) ls) ≡ false
not_null e c ls h small = ap is_zero (bin_value binary.Ne e (constant (pos 0)) ls ∙ ap (λ z. binary_value binary.Ne z (value_of (constant (pos 0)) ls)) h ∙ ap (λ z. binary_value binary.Ne (pos (suc c)) z) (const_value (pos 0) ls)) ∙ truth_zero _ ∙ ap not (let x : not (cast_unsigned w32 (pos (suc c)) == cast_unsigned w32 (pos 0)) ≡ true = grind (arith, ints) in x)
