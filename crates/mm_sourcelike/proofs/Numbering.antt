-- The number in the text of an assertion.
use Rattle.std.proofs.Common.{arith, ◌≡◌, ℕ, ◌+◌, ◌*◌, ◌-◌, ◌<◌, ◌^◌, Bool, true, not, ◌&&◌, ◌==◌, nat_lt, nat_eq, List, [], ◌∷◌, length, drop, codes, refl, ◌∙◌, sym, ap, subst, Some}
use Rattle.std.specs.List.{fold, list_all, starts_with}
use Rattle.std.specs.Char.{is_ascii_digit, digit_value}
use Rattle.std.specs.Str.Parse.{digits_value, digits_value_after}
use Rattle.std.proofs.lemmas.Bool.Decides.{nat_tests}
use Rattle.std.proofs.lemmas.Str.{digit_value_digit}
use Rattle.mm_goto.specs.declared.ident.Ident.{Ident}
use Rattle.mm_flow.specs.Statements.{digit_step, stated}
use Rattle.mm_scope.specs.Parts.{is_numeral, is_assertion_text}
use Rattle.mm_sourcelike.proofs.Valuing.{test_first, test_second}

digit_is : (d : ℕ) → is_ascii_digit d ≡ true → d - 48 ≡ digit_value d
digit_is d h = let e : digit_value d + 48 ≡ d = digit_value_digit d (grind (arith, nat_tests)) in omega (arith, e)

read_is : (n : ℕ) (ds : List ℕ) → list_all is_ascii_digit ds ≡ true → fold digit_step n ds ≡ digits_value_after 10 n ds
read_is n [] h = refl
read_is n (d ∷ ds) h =
    ap (λ m. fold digit_step (n * 10 + m) ds) (digit_is d (test_first (is_ascii_digit d) (list_all is_ascii_digit ds) h))
    ∙ read_is (n * 10 + digit_value d) ds (test_second (is_ascii_digit d) (list_all is_ascii_digit ds) h)

below : (m n : ℕ) → nat_lt m n ≡ true → m < n
below m n h = grind (arith, nat_tests)

numeral_below : (ds : List ℕ) → is_numeral ds ≡ true → fold digit_step 0 ds < 2 ^ 32
numeral_below [] h = omega arith
numeral_below (d ∷ ds) h =
    let digits : Bool = list_all is_ascii_digit (d ∷ ds) in
    let short : Bool = not (d == 48 && not (length ds == 0)) in
    let small : nat_lt (digits_value 10 (d ∷ ds)) (2 ^ 32) ≡ true = test_second (digits && short) (nat_lt (digits_value 10 (d ∷ ds)) (2 ^ 32)) h in
    let all : digits ≡ true = test_first digits short (test_first (digits && short) (nat_lt (digits_value 10 (d ∷ ds)) (2 ^ 32)) h) in
    subst (λ m. m < 2 ^ 32) (sym (read_is 0 (d ∷ ds) all)) (below (digits_value 10 (d ∷ ds)) (2 ^ 32) small)

pub stated_below : (text : Ident) → is_assertion_text text ≡ true → stated (Some text) < 2 ^ 32
stated_below text h = numeral_below (drop 10 text) (test_second (starts_with nat_eq text (codes "assertion ")) (is_numeral (drop 10 text)) h)
