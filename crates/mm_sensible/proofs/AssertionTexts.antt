-- The texts of assertions in woven programs are in the form that an output has.
use Rattle.std.proofs.Common.{rules, ◌≡◌, ℕ, zero, suc, ◌<◌, ◌^◌, ◌==◌, nat_lt, true, false, not, ◌&&◌, List, [], ◌∷◌, length, get_or, codes, arith, refl, ◌∙◌, sym, ap, subst}
use Rattle.std.specs.List.{list_all}
use Rattle.std.specs.Char.{is_ascii_digit}
use Rattle.std.specs.Fmt.{decimal, digits}
use Rattle.std.specs.Str.Parse.{digits_value}
use Rattle.std.proofs.lemmas.Bool.Decides.{nat_tests}
use Rattle.std.proofs.lemmas.Fmt.{first_decimal, decimal_nonempty, digits_decimal, digits_value-decimal}
use Rattle.std.proofs.lemmas.Str.Parse.{IsNumeralModel, numerals_by_value}
use Rattle.mm_scope.specs.Parts.{is_numeral, is_assertion_text}
use Rattle.mm_words.specs.Words.{numbered}

numerals : IsNumeralModel (λ ds. list_all is_ascii_digit ds ≡ true) (digits_value 10)
numerals = numerals_by_value _ (search rules)

-- digits that do not begin with 0, or are one digit
numeral : (ds : List ℕ) → 0 < length ds → list_all is_ascii_digit ds ≡ true → 48 < get_or ds 0 0 → digits_value 10 ds < 2 ^ 32 → is_numeral ds ≡ true
numeral [] some all first low = absurd (omega (arith, some))
numeral (b ∷ bs) some all first low =
    ap (λ c. (c && not (b == 48 && not (length bs == 0))) && nat_lt (digits_value 10 (b ∷ bs)) (2 ^ 32)) all
    ∙ ap (λ c. not (c && not (length bs == 0)) && nat_lt (digits_value 10 (b ∷ bs)) (2 ^ 32)) (no_zero b first)
    ∙ small (digits_value 10 (b ∷ bs)) low
  where
    no_zero : (b : ℕ) → 48 < b → (b == 48) ≡ false
    no_zero b h = grind (arith, nat_tests)

    small : (v : ℕ) → v < 2 ^ 32 → nat_lt v (2 ^ 32) ≡ true
    small v h = grind (arith, nat_tests)

decimal_numeral : (n : ℕ) → n < 2 ^ 32 → is_numeral (decimal n) ≡ true
unfolding digits
decimal_numeral zero h = refl
decimal_numeral (suc n) h =
    numeral (decimal (suc n)) (decimal_nonempty (suc n) (omega (arith, h))) (digits_decimal numerals (suc n) (omega (arith, h))) (first_decimal (suc n) (omega arith) (omega (arith, h)))
    (subst (λ v. v < 2 ^ 32) (sym (digits_value-decimal numerals (suc n) (omega (arith, h)))) h)

-- assertion n
pub assertion_text : (n : ℕ) → n < 2 ^ 32 → is_assertion_text (numbered (codes "assertion ") n) ≡ true
assertion_text n h = decimal_numeral n h
