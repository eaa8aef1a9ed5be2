-- What is read as a number, and what a number is written as.
use Rattle.std.proofs.Common.{rules, ◌≡◌, ◌≢◌, ℕ, ◌<◌, ◌≤◌, ◌^◌, ℤ, pos, negsuc, Bool, true, false, ◌&&◌, ◌==◌, not, nat_lt, List, [], ◌∷◌, length, get_or, Option, Some, None, Result, Err, refl, sym, ap, arith, inl, cond, subst, zero, suc, ◌⊎◌, ⊎_elim, FitsSigned, option_and_then}
use Rattle.std.specs.List.{list_all, All}
use Rattle.std.specs.Char.{is_ascii_digit}
use Rattle.std.specs.Fmt.{decimal, signed_decimal}
use Rattle.std.specs.Int.{w32, IsInRange}
use Rattle.std.proofs.lemmas.List.Elements.{All-from_get_or, All-cons}
use Rattle.std.specs.Str.Parse.{digits_value, ParsesUnsigned}
use Rattle.std.proofs.lemmas.Result.{OkIff-at_err}
use Rattle.std.proofs.lemmas.Option.{cond_some, option_and_then_some}
use Rattle.std.proofs.lemmas.Str.Parse.{IsNumeralModel, numerals_by_value, tells_by_index, parse_digits}
use Rattle.std.proofs.lemmas.Fmt.{digits_decimal, digits_value-decimal, decimal-digits_value, decimal_nonempty, first_decimal, decimal_digit}
use Rattle.std.proofs.lemmas.Bool.Decides.{nat_tests, eqb_tells}
use Rattle.mm_sched.specs.reading.Reading.{is_number, number_of, negative, positive, int_of}

pub digits : IsNumeralModel (λ ds. list_all is_ascii_digit ds ≡ true) (digits_value 10)
digits = numerals_by_value _ (search rules)

not_below : (n m : ℕ) → (n < m → ⊥) → nat_lt n m ≡ false
not_below n m h = grind (arith, nat_tests)

-- what reads as no number is no number
pub no_number : {E : Type 0} (word : List ℕ) (r : Result ℕ E) (e : E) → ParsesUnsigned 32 10 word r → r ≡ Err e → list_all is_ascii_digit word ≡ true → 0 < length word → nat_lt (digits_value 10 word) (2 ^ 32) ≡ false
no_number word r e p q d l = not_below _ _ (λ b. OkIff-at_err r _ _ e (parse_digits digits 32 word r p d) q (l, b))

pub number_none : (w : List ℕ) → nat_lt (digits_value 10 w) (2 ^ 32) ≡ false → number_of w ≡ None
number_none [] e = refl
number_none (b ∷ bs) e = none (list_all is_ascii_digit (b ∷ bs) && not ((b == 48) && not (length (b ∷ bs) == 1))) (nat_lt (digits_value 10 (b ∷ bs)) (2 ^ 32)) (Some (digits_value 10 (b ∷ bs))) e
  where
    none : (p q : Bool) (o : Option ℕ) → q ≡ false → cond (p && q) o None ≡ None
    none true q o e = rw e refl
    none false q o e = refl

-- an int without a sign is the number
pub int_unsigned : (w : List ℕ) → ((rest : List ℕ) → w ≢ 45 ∷ rest) → int_of w ≡ option_and_then positive (number_of w)
int_unsigned [] apart = refl
int_unsigned (b ∷ bs) apart = at (b == 45) (eqb_tells b 45)
  where
    at : (t : Bool) → ((t ≡ true) × (b ≡ 45)) ⊎ ((t ≡ false) × (b ≢ 45)) → cond t (option_and_then negative (number_of bs)) (option_and_then positive (number_of (b ∷ bs))) ≡ option_and_then positive (number_of (b ∷ bs))
    at false h = refl
    at true h = absurd (⊎_elim (λ p. apart bs (ap (λ x. x ∷ bs) p.1)) (λ p. cc (p.0)) h)

-- ---- what is read is the number written in decimal

is_true_and : (p q : Bool) → (p && q) ≡ true → (p ≡ true) × (q ≡ true)
is_true_and true q e = (refl, e)
is_true_and false q e = cc

-- a numeral has only digits, no leading zero, and fits
record IsNumeral (w : List ℕ) : Type 0 where
  digits : list_all is_ascii_digit w ≡ true
  first : get_or w 0 0 ≡ 48 → length w ≡ 1
  fits : digits_value 10 w < 2 ^ 32

no_zero : (a n : ℕ) → not ((a == 48) && not (n == 1)) ≡ true → a ≡ 48 → n ≡ 1
no_zero a n h e = grind (arith, nat_tests)

no_zero_from : (a n : ℕ) → (a ≡ 48 → n ≡ 1) → not ((a == 48) && not (n == 1)) ≡ true
no_zero_from a n h = grind (arith, nat_tests)

below_is : (a b : ℕ) → a < b → nat_lt a b ≡ true
below_is a b h = grind (arith, nat_tests)

is_below : (a b : ℕ) → nat_lt a b ≡ true → a < b
is_below a b h = grind (arith, nat_tests)

numeral_parts : (w : List ℕ) → is_number w ≡ true → IsNumeral w
numeral_parts w h =
    let outer = is_true_and (list_all is_ascii_digit w && not ((get_or w 0 0 == 48) && not (length w == 1))) (nat_lt (digits_value 10 w) (2 ^ 32)) h in
    let inner = is_true_and (list_all is_ascii_digit w) (not ((get_or w 0 0 == 48) && not (length w == 1))) outer.0 in
    record { digits = inner.0; first = no_zero (get_or w 0 0) (length w) inner.1; fits = is_below (digits_value 10 w) (2 ^ 32) outer.1 }

-- w is the number written in decimal
pub record IsWritten (w : List ℕ) (n : ℕ) : Type 0 where
  pub text : w ≡ decimal n
  pub fits : n < 2 ^ 32

pub is_written : (w : List ℕ) (n : ℕ) → number_of w ≡ Some n → IsWritten w n
is_written [] n h = cc
is_written (b ∷ bs) n h =
    let p = cond_some (is_number (b ∷ bs)) (digits_value 10 (b ∷ bs)) n h in
    let is = numeral_parts (b ∷ bs) p.0 in
    let small : digits_value 10 (b ∷ bs) < 2 ^ 64 = omega (arith, is.fits) in
    let e = decimal-digits_value digits (b ∷ bs) is.digits (omega arith) is.first small in
    record { text = sym (rw p.1 at e); fits = omega (arith, is.fits, p.1) }

number_is : (w : List ℕ) → 0 < length w → is_number w ≡ true → number_of w ≡ Some (digits_value 10 w)
number_is [] some h = absurd (omega arith)
number_is (b ∷ bs) some h = rw h refl

number_from : (w : List ℕ) (n : ℕ) → list_all is_ascii_digit w ≡ true → (get_or w 0 0 ≡ 48 → length w ≡ 1) → digits_value 10 w ≡ n → n < 2 ^ 32 → is_number w ≡ true
number_from w n all first value fits =
    let zero_alone = no_zero_from (get_or w 0 0) (length w) first in
    let below : nat_lt (digits_value 10 w) (2 ^ 32) ≡ true = rw value (below_is n (2 ^ 32) fits) in
    rw (all, zero_alone, below) refl

first_zero : (n : ℕ) → n < 2 ^ 64 → get_or (decimal n) 0 0 ≡ 48 → length (decimal n) ≡ 1
first_zero zero small e = ap length (decimal_digit 0 (omega arith))
first_zero (suc n) small e = absurd (omega (arith, first_decimal (suc n)))

pub number_of_decimal : (n : ℕ) → n < 2 ^ 32 → number_of (decimal n) ≡ Some n
number_of_decimal n fits =
    let small : n < 2 ^ 64 = omega arith in
    let value = digits_value-decimal digits n small in
    let is = number_from (decimal n) n (digits_decimal digits n small) (first_zero n small) value fits in
    rw value at (number_is (decimal n) (decimal_nonempty n small) is)

-- a number has no mark that is no digit
pub decimal_free : (mark n : ℕ) → n < 2 ^ 32 → (mark < 48) ⊎ (57 < mark) → All (λ b. b ≢ mark) (decimal n)
decimal_free mark n fits other =
    let in_range = digits_decimal (numerals_by_value (λ ds. (i : ℕ) → i < length ds → IsInRange 48 57 (get_or ds i 0)) tells_by_index) n (omega arith) in
    All-from_get_or (λ b. b ≢ mark) (decimal n) 0 (λ i h e. let r = in_range i h in ⊎_elim (λ low. omega (arith, r, e)) (λ high. omega (arith, r, e)) other)

-- ---- ints

no_minus : (n : ℕ) → n < 2 ^ 32 → (rest : List ℕ) → decimal n ≢ 45 ∷ rest
no_minus n fits rest e = decimal_free 45 n fits (inl (omega arith)) 0 0 (decimal_nonempty n (omega arith)) (ap (λ w. get_or w 0 0) e)

pub one_above : (n : ℕ) → (suc n == 0) ≡ false
one_above n = grind (arith, nat_tests)

-- w is the int written in decimal
pub record IsWrittenInt (w : List ℕ) (v : ℤ) : Type 0 where
  pub text : w ≡ signed_decimal v
  pub fits : FitsSigned w32 v

pub int_of_decimal : (v : ℤ) → FitsSigned w32 v → int_of (signed_decimal v) ≡ Some v
int_of_decimal (pos n) fits =
    let small : n < 2 ^ 31 = fits.sfits in
    let wide : n < 2 ^ 32 = omega arith in
    let below : nat_lt n (2 ^ 31) ≡ true = below_is n (2 ^ 31) small in
    rw (int_unsigned (decimal n) (no_minus n wide), number_of_decimal n wide, below) refl
int_of_decimal (negsuc n) fits =
    let small : n < 2 ^ 31 = fits.sfits in
    let wide : suc n < 2 ^ 32 = omega arith in
    let within : nat_lt (2 ^ 31) (suc n) ≡ false = not_below (2 ^ 31) (suc n) (λ h. omega arith) in
    rw (number_of_decimal (suc n) wide, one_above n, within) refl

positive_is : (w : List ℕ) (n : ℕ) (v : ℤ) → number_of w ≡ Some n → positive n ≡ Some v → IsWrittenInt w v
positive_is w n v h p =
    let is = is_written w n h in
    let e = cond_some (nat_lt n (2 ^ 31)) (pos n) v p in
    subst (λ x. IsWrittenInt w x) e.1 (record { text = is.text; fits = record { sfits = is_below n (2 ^ 31) e.0 } })

cond_none : {A : Type 0} (t : Bool) (x y : A) → cond t None (Some x) ≡ Some y → (t ≡ false) × (x ≡ y)
cond_none true x y h = cc
cond_none false x y h = (refl, cc)

not_above : (a b : ℕ) → nat_lt a b ≡ false → b ≤ a
not_above a b h = grind (arith, nat_tests)

negative_is : (w : List ℕ) (n : ℕ) (v : ℤ) → number_of w ≡ Some n → negative n ≡ Some v → IsWrittenInt (45 ∷ w) v
negative_is w zero v h p = cc
negative_is w (suc n) v h p =
    let is = is_written w (suc n) h in
    let e = cond_none (nat_lt (2 ^ 31) (suc n)) (negsuc n) v (rw (one_above n) at p) in
    let small = not_above (2 ^ 31) (suc n) e.0 in
    subst (λ x. IsWrittenInt (45 ∷ w) x) e.1 (record { text = ap (λ x. 45 ∷ x) is.text; fits = record { sfits = omega arith } })

pub int_is_written : (w : List ℕ) (v : ℤ) → int_of w ≡ Some v → IsWrittenInt w v
int_is_written [] v h = cc
int_is_written (b ∷ bs) v h = at (b == 45) (eqb_tells b 45) h
  where
    at : (t : Bool) → ((t ≡ true) × (b ≡ 45)) ⊎ ((t ≡ false) × (b ≢ 45)) → cond t (option_and_then negative (number_of bs)) (option_and_then positive (number_of (b ∷ bs))) ≡ Some v → IsWrittenInt (b ∷ bs) v
    at false tells e = option_and_then_some positive (number_of (b ∷ bs)) v e (λ n f g. positive_is (b ∷ bs) n v f g)
    at true tells e =
        let same : b ≡ 45 = ⊎_elim (λ p. p.1) (λ p. cc (p.0)) tells in
        option_and_then_some negative (number_of bs) v e (λ n f g. subst (λ x. IsWrittenInt (x ∷ bs) v) (sym same) (negative_is bs n v f g))

-- an int has no mark that is no digit and no minus sign
pub signed_free : (mark : ℕ) (v : ℤ) → FitsSigned w32 v → (mark < 45) → All (λ b. b ≢ mark) (signed_decimal v)
signed_free mark (pos n) fits low = decimal_free mark n (let small : n < 2 ^ 31 = fits.sfits in omega arith) (inl (omega arith))
signed_free mark (negsuc n) fits low = All-cons (λ b. b ≢ mark) 45 (decimal (suc n)) (λ e. omega arith) (decimal_free mark (suc n) (let small : n < 2 ^ 31 = fits.sfits in omega arith) (inl (omega arith)))
