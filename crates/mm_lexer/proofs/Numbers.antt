-- What digits write, read one after another.
use Rattle.std.proofs.Common.{◌≡◌, ℕ, suc, ◌+◌, ◌*◌, ◌≤◌, true, List, [], ◌∷◌, take, refl, arith}
use Rattle.std.specs.Char.{digit_value}
use Rattle.std.specs.Str.Parse.{digits_value_after}
use Rattle.mm_lexer.specs.declared.class.Base.{Base}
use Rattle.mm_lexer.specs.declared.class.Base.TheVariants.{Octal, Decimal, Hexadecimal}
use Rattle.mm_lexer.specs.declared.class.Class.TheVariants.{Digit}
use Rattle.mm_lexer.specs.Class.{is_in, radix}
use Rattle.mm_lexer.specs.Piece.{digits_len}

-- more digits never write less
pub grows : (r n : ℕ) (ds : List ℕ) → n ≤ digits_value_after (suc r) n ds
grows r n [] = omega arith
grows r n (c ∷ cs) = keeps n r (digit_value c) (digits_value_after (suc r) (n * suc r + digit_value c) cs) (grows r (n * suc r + digit_value c) cs)
  where
    keeps : (n r d v : ℕ) → n * suc r + d ≤ v → n ≤ v
    keeps n r d v h = omega arith

take_one : (n c : ℕ) (cs : List ℕ) → take (1 + n) (c ∷ cs) ≡ c ∷ take n cs
take_one n c cs = let e : 1 + n ≡ suc n = omega arith in rw e refl

-- one digit more
pub digit_more : (base : Base) (v c : ℕ) (cs : List ℕ) → is_in (Digit base) c ≡ true → digits_value_after (radix base) v (take (digits_len base (c ∷ cs)) (c ∷ cs)) ≡ digits_value_after (radix base) (v * radix base + digit_value c) (take (digits_len base cs) cs)
digit_more base v c cs h = rw (h, take_one (digits_len base cs) c cs) refl

-- what the digits so far write is too large, and so is what all of them write
pub too_large : (base : Base) (v c : ℕ) (cs : List ℕ) (all : ℕ) → is_in (Digit base) c ≡ true → digits_value_after (radix base) v (take (digits_len base (c ∷ cs)) (c ∷ cs)) ≡ all → v * radix base + digit_value c ≤ all
too_large Octal v c cs all h e = rw (← e, digit_more Octal v c cs h) (grows 7 (v * 8 + digit_value c) (take (digits_len Octal cs) cs))
too_large Decimal v c cs all h e = rw (← e, digit_more Decimal v c cs h) (grows 9 (v * 10 + digit_value c) (take (digits_len Decimal cs) cs))
too_large Hexadecimal v c cs all h e = rw (← e, digit_more Hexadecimal v c cs h) (grows 15 (v * 16 + digit_value c) (take (digits_len Hexadecimal cs) cs))
