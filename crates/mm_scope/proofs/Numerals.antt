-- What is read as a number.
use Rattle.std.proofs.Common.{rules, ◌≡◌, ℕ, ◌<◌, ◌^◌, Bool, true, false, ◌&&◌, ◌==◌, not, nat_lt, List, [], ◌∷◌, length, Result, Err, refl, arith}
use Rattle.std.specs.List.{list_all}
use Rattle.std.specs.Char.{is_ascii_digit}
use Rattle.std.specs.Str.Parse.{digits_value, ParsesUnsigned}
use Rattle.std.proofs.lemmas.Result.{OkIff-at_err}
use Rattle.std.proofs.lemmas.Str.Parse.{IsNumeralModel, numerals_by_value, parse_digits}
use Rattle.std.proofs.lemmas.Bool.Decides.{nat_tests}
use Rattle.mm_scope.specs.Parts.{is_numeral}

digits : IsNumeralModel (λ ds. list_all is_ascii_digit ds ≡ true) (digits_value 10)
digits = numerals_by_value _ (search rules)

not_below : (n m : ℕ) → (n < m → ⊥) → nat_lt n m ≡ false
not_below n m h = grind (arith, nat_tests)

-- what reads as no number is no number
pub no_number : {E : Type 0} (word : List ℕ) (r : Result ℕ E) (e : E) → ParsesUnsigned 32 10 word r → r ≡ Err e → list_all is_ascii_digit word ≡ true → 0 < length word → nat_lt (digits_value 10 word) (2 ^ 32) ≡ false
no_number word r e p q d l = not_below _ _ (λ b. OkIff-at_err r _ _ e (parse_digits digits 32 word r p d) q (l, b))

pub numeral_none : (w : List ℕ) → nat_lt (digits_value 10 w) (2 ^ 32) ≡ false → is_numeral w ≡ false
numeral_none [] e = refl
numeral_none (b ∷ bs) e = none (list_all is_ascii_digit (b ∷ bs) && not (b == 48 && not (length bs == 0))) (nat_lt (digits_value 10 (b ∷ bs)) (2 ^ 32)) e
  where
    none : (p q : Bool) → q ≡ false → (p && q) ≡ false
    none true q e = e
    none false q e = refl
