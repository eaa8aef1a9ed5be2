-- What the reading of operators does by the next one.
use Rattle.std.proofs.Common.{◌≡◌, ℕ, ◌-◌, ◌<◌, ◌≤◌, List, [], ◌∷◌, length, take, drop, get_or, arith, Some, None, refl, sym, ◌∙◌, ap}
use Rattle.mm_goto.specs.declared.pure.Binary.{Binary}
use Rattle.mm_reading.specs.Parsing.{peek, skip, pure}
use Rattle.mm_parse_expr.specs.declared.terminal.Terminal.{Terminal}
use Rattle.mm_parse_expr.specs.reading.ExprReading.{joins, more_by, more_of, more, level, HasNoOperator, HasOperator}

-- the terminals are the first one and what stands behind it
pub whole : (t : Terminal) (ts : List Terminal) → 1 ≤ length ts → t ≡ get_or ts 0 t → ts ≡ t ∷ take (length ts - 1) (drop 1 ts)
whole t [] l e = absurd (omega arith)
whole t (x ∷ ts) l e = ap (λ y. y ∷ ts) (sym e) ∙ ap (λ us. t ∷ us) (sym (take_all (length (x ∷ ts) - 1) ts (omega arith)))
  where
    take_all : (n : ℕ) (us : List Terminal) → n ≡ length us → take n us ≡ us
    take_all n us e = ap (λ k. take k us) e ∙ all us
      where
        all : (us : List Terminal) → take (length us) us ≡ us
        all [] = refl
        all (u ∷ us) = ap (λ vs. u ∷ vs) (all us)

pub none_at_end : (n : ℕ) (ts : List Terminal) → length ts < 1 → HasNoOperator n ts
unfolding more more_of peek pure
none_at_end n [] e r a = refl
none_at_end n (t ∷ ts) e r a = absurd (omega arith)

pub none : (n : ℕ) (t : Terminal) (ts : List Terminal) → None ≡ joins n t.symbol → HasNoOperator n (t ∷ ts)
unfolding more more_of peek pure
none n t ts e r a = ap (λ o. more_by r n (level r n) a o (t ∷ ts)) (sym e)

pub some : (n : ℕ) (t : Terminal) (ts : List Terminal) (op : Binary) → Some op ≡ joins n t.symbol → HasOperator n (t ∷ ts) op ts
unfolding more more_of peek skip
some n t ts op e r a = ap (λ o. more_by r n (level r n) a o (t ∷ ts)) (sym e)
