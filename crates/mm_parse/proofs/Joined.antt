-- Lists that a loop reads: what it has read so far, joined with what the reader gives from there on, is what the reader
-- gives from the start.
use Rattle.std.proofs.Common.{◌≡◌, ℕ, zero, suc, List, [], ◌∷◌, ◌++◌, append_assoc, append-nil, refl, sym, ap, ◌∙◌, Option, Some, None}
use Rattle.mm_reading.specs.Gives.{Fails}
use Rattle.mm_reading.specs.declared.refused.Refused.{Refused}
use Rattle.mm_reading.specs.declared.refused.Refused.TheVariants as refused
use Rattle.mm_reading.specs.Parsing.{Parser, Outcome, Parsed, Fault, after, ◌>>=◌, pure, fail, peek, skip, token, taken, when}
use Rattle.mm_parse_expr.specs.declared.symbol.Symbol.{Symbol}
use Rattle.mm_parse_expr.specs.declared.symbol.Symbol.TheVariants.{Comma}
use Rattle.mm_parse_expr.specs.declared.terminal.Terminal.{Terminal}
use Rattle.mm_parse_expr.specs.reading.ExprReading.{Reader}
use Rattle.mm_grammar.specs.reading.StatementReading.{is_comma, comma, comma_by, others}

-- these, and then those that are read
abbrev pub joined : {A : Type 0} → List A → Outcome Terminal (List A) → Outcome Terminal (List A)
joined xs o = after o (λ ys. pure (xs ++ ys))

-- one more is read, and then others
abbrev pub one_more : {A : Type 0} → List A → Reader (List A) → Outcome Terminal A → Outcome Terminal (List A)
one_more xs others o = after o (λ x rest. joined (xs ++ x ∷ []) (others rest))

pub joined_more : {A : Type 0} (xs : List A) (others : Reader (List A)) (o : Outcome Terminal A) → joined xs (after o (λ x. others >>= λ ys. pure (x ∷ ys))) ≡ one_more xs others o
unfolding pure
joined_more xs others (Fault rest) = refl
joined_more {A = A} xs others (Parsed x rest) = inner (others rest)
  where
    inner : (o : Outcome Terminal (List A)) → joined xs (after o (λ ys. pure (x ∷ ys))) ≡ joined (xs ++ x ∷ []) o
    inner (Fault rest) = refl
    inner (Parsed ys rest) = ap (λ zs. Parsed zs rest) (sym (append_assoc xs (x ∷ []) ys))

pub joined_end : {A : Type 0} (xs all : List A) (o : Outcome Terminal (List A)) (rest : List Terminal) → o ≡ Parsed [] rest → all ≡ xs → joined xs o ≡ Parsed all rest
unfolding pure
joined_end xs all o rest h e = rw h (rw (append-nil xs) (ap (λ ys. Parsed ys rest) (sym e)))

-- a fault stays one, whatever would follow
pub fails_after : {T A B : Type 0} (e : Refused) (o : Outcome T A) (f : A → Parser T B) → Fails e o → Fails e (after o f)
fails_after refused.Memory o f h = tt
fails_after (refused.Fault left) (Parsed a rest) f h = absurd (cc h)
fails_after (refused.Fault left) (Fault rest) f h = h

-- where one was read, the others go on behind it
pub more_goes : {A : Type 0} (xs : List A) (others : Reader (List A)) (o : Outcome Terminal A) (all : Outcome Terminal (List A)) (x : A) (rest : List Terminal) → joined xs all ≡ one_more xs others o → o ≡ Parsed x rest → joined (xs ++ x ∷ []) (others rest) ≡ joined xs all
more_goes xs others o all x rest h e = sym (h ∙ ap (one_more xs others) e)

pub more_fails : {A : Type 0} (e : Refused) (xs : List A) (others : Reader (List A)) (o : Outcome Terminal A) (all : Outcome Terminal (List A)) → joined xs all ≡ one_more xs others o → Fails e o → Fails e (joined xs all)
more_fails e xs others o all h f = rw h (fails_after e o (λ x rest. joined (xs ++ x ∷ []) (others rest)) f)

-- by what was read next, or none
abbrev pub go_on : {A : Type 0} → List A → Reader (List A) → Option A → Reader (List A)
go_on xs others None rest = Parsed xs rest
go_on xs others (Some x) rest = joined (xs ++ x ∷ []) (others rest)

pub none_next : {A : Type 0} (xs : List A) (others : Reader (List A)) (o : Outcome Terminal (Option A)) (all : Outcome Terminal (List A)) (x : Option A) (rest : List Terminal) → all ≡ after o (go_on xs others) → o ≡ Parsed x rest → x ≡ None → all ≡ Parsed xs rest
none_next xs others o all x rest h e n = h ∙ ap (λ p. after p (go_on xs others)) e ∙ ap (λ y. go_on xs others y rest) n

pub some_next : {A : Type 0} (xs : List A) (others : Reader (List A)) (o : Outcome Terminal (Option A)) (all : Outcome Terminal (List A)) (x : Option A) (y : A) (rest : List Terminal) → all ≡ after o (go_on xs others) → o ≡ Parsed x rest → x ≡ Some y → joined (xs ++ y ∷ []) (others rest) ≡ all
some_next xs others o all x y rest h e n = sym (h ∙ ap (λ p. after p (go_on xs others)) e ∙ ap (λ z. go_on xs others z rest) n)

pub joined_none : {A : Type 0} (o : Outcome Terminal (List A)) → joined [] o ≡ o
unfolding pure
joined_none (Parsed xs rest) = refl
joined_none (Fault rest) = refl

-- behind a comma
pub others_on : {A : Type 0} (item : ℕ → Reader A) (n m : ℕ) (xs : List A) (ts behind : List Terminal) → n ≡ suc m → comma ts ≡ Parsed tt behind → joined xs (others item n ts) ≡ one_more xs (others item m) (item m behind)
unfolding others comma token peek skip pure fail
others_on item n m xs [] behind l h = absurd (cc h)
others_on item n m xs (t ∷ us) behind l h = rw l (by t.symbol h)
  where
    by : (s : Symbol) → taken (when (is_comma s)) (t ∷ us) ≡ Parsed tt behind → joined xs (comma_by (item m) (others item m) s (t ∷ us)) ≡ one_more xs (others item m) (item m behind)
    by Comma h = let e : us ≡ behind = cc in rw e (joined_more xs (others item m) (item m behind))
    by _ h = absurd (cc h)

-- where no comma stands next
pub others_end : {A : Type 0} (item : ℕ → Reader A) (n : ℕ) (ts : List Terminal) → comma ts ≡ Fault ts → others item n ts ≡ Parsed [] ts
unfolding others comma token peek skip pure fail
others_end item zero ts h = refl
others_end item (suc n) [] h = refl
others_end item (suc n) (t ∷ us) h = by t.symbol h
  where
    by : (s : Symbol) → taken (when (is_comma s)) (t ∷ us) ≡ Fault (t ∷ us) → comma_by (item n) (others item n) s (t ∷ us) ≡ Parsed [] (t ∷ us)
    by Comma h = absurd (cc h)
    by _ h = refl

pub others_none : {A : Type 0} (item : ℕ → Reader A) (ts : List Terminal) → others item 0 ts ≡ Parsed [] ts
unfolding others pure
others_none item ts = refl
