-- What a parser does where more tokens stand behind those that it read.
use Rattle.std.proofs.Common.{◌≡◌, ◌<◌, ◌≤◌, List, [], ◌∷◌, ◌++◌, length, arith, Option, Some, None, refl, sym, ap, subst, ◌⊎◌, inl, inr}
use Rattle.mm_reading.specs.Parsing.{Parser, Outcome, Parsed, Fault, ◌>>=◌, pure, fail, peek, skip, after, head, rest_of, taken, token_at, token}

-- What was read stays so with a tail behind it. Where all was read, the same is read, or some of the tail too.
abbrev pub Extends : {T A : Type 0} → List T → Outcome T A → Outcome T A → Type 0
Extends tail (Parsed a (t ∷ ts)) o = o ≡ Parsed a (t ∷ (ts ++ tail))
Extends tail (Parsed a []) o = (o ≡ Parsed a tail) ⊎ (length (rest_of o) < length tail)
Extends tail (Fault (t ∷ ts)) o = o ≡ Fault (t ∷ (ts ++ tail))
Extends tail (Fault []) o = Unit {0}

pub record Onward {T A : Type 0} (p : Parser T A) : Type 0 where
  pub shrinks : (ts : List T) → length (rest_of (p ts)) ≤ length ts
  pub extends : (ts tail : List T) → Extends tail (p ts) (p (ts ++ tail))

pub onward_pure : {T A : Type 0} (a : A) → Onward {T = T} (pure a)
unfolding pure
onward_pure {T = T} a = record { shrinks = λ ts. omega arith; extends = more }
  where
    more : (ts tail : List T) → Extends tail (Parsed a ts) (Parsed a (ts ++ tail))
    more [] tail = inl refl
    more (t ∷ ts) tail = refl

pub onward_fail : {T A : Type 0} → Onward {T = T} {A = A} fail
unfolding fail
onward_fail {T = T} {A = A} = record { shrinks = λ ts. omega arith; extends = more }
  where
    more : (ts tail : List T) → Extends {A = A} tail (Fault ts) (Fault (ts ++ tail))
    more [] tail = tt
    more (t ∷ ts) tail = refl

pub onward_skip : {T : Type 0} → Onward {T = T} skip
unfolding skip
onward_skip {T = T} = record { shrinks = short; extends = more }
  where
    short : (ts : List T) → length (rest_of (skip ts)) ≤ length ts
    short [] = omega arith
    short (t ∷ ts) = omega arith

    more : (ts tail : List T) → Extends tail (skip ts) (skip (ts ++ tail))
    more [] tail = tt
    more (t ∷ []) tail = inl refl
    more (t ∷ u ∷ ts) tail = refl

module _ {T A B : Type 0} (f : A → Parser T B) (g : (a : A) → Onward (f a)) where
  after_shrinks : (o : Outcome T A) → length (rest_of (after o f)) ≤ length (rest_of o)
  after_shrinks (Parsed a mid) = (g a).shrinks mid
  after_shrinks (Fault rest) = omega arith

  past : (tail : List T) (end : Outcome T B) (o : Outcome T A) → length (rest_of end) ≤ 0 → length (rest_of o) < length tail → Extends tail end (after o f)
  past tail (Parsed b []) o e l = inr (omega (arith, after_shrinks o))
  past tail (Parsed b (t ∷ ts)) o e l = absurd (omega arith)
  past tail (Fault []) o e l = tt
  past tail (Fault (t ∷ ts)) o e l = absurd (omega arith)

  after_extends : (tail : List T) (o o' : Outcome T A) → Extends tail o o' → Extends tail (after o f) (after o' f)
  after_extends tail (Parsed a (t ∷ ts)) o' e = subst (λ (x : Outcome T A). Extends tail (f a (t ∷ ts)) (after x f)) (sym e) ((g a).extends (t ∷ ts) tail)
  after_extends tail (Parsed a []) o' (inl e) = subst (λ (x : Outcome T A). Extends tail (f a []) (after x f)) (sym e) ((g a).extends [] tail)
  after_extends tail (Parsed a []) o' (inr l) = past tail (f a []) o' ((g a).shrinks []) l
  after_extends tail (Fault (t ∷ ts)) o' e = ap (λ x. after x f) e
  after_extends tail (Fault []) o' e = tt

pub onward_bind : {T A B : Type 0} (p : Parser T A) (f : A → Parser T B) → Onward p → ((a : A) → Onward (f a)) → Onward (p >>= f)
onward_bind p f h g = record {
  shrinks = λ ts. omega (arith, after_shrinks f g (p ts), h.shrinks ts);
  extends = λ ts tail. after_extends f g tail (p ts) (p (ts ++ tail)) (h.extends ts tail);
}

-- a choice by the next token; what it does at the end of the tokens, it does before a token too, or takes that
pub onward_peek : {T A : Type 0} (f : Option T → Parser T A) → ((h : Option T) → Onward (f h)) → ((t : T) (tail : List T) → Extends (t ∷ tail) (f None []) (f (Some t) (t ∷ tail))) → Onward (peek f)
unfolding peek
onward_peek {T = T} f g ends = record { shrinks = λ ts. (g (head ts)).shrinks ts; extends = more }
  where
    more : (ts tail : List T) → Extends tail (f (head ts) ts) (f (head (ts ++ tail)) (ts ++ tail))
    more [] [] = (g None).extends [] []
    more [] (t ∷ tail) = ends t tail
    more (t ∷ ts) tail = (g (Some t)).extends (t ∷ ts) tail

-- a token is taken: less is left
pub takes_more : {T A : Type 0} (p : Parser T A) (t : T) (ts : List T) → Onward p → length (rest_of ((skip >>= λ _. p) (t ∷ ts))) < length (t ∷ ts)
unfolding skip
takes_more p t ts h = omega (arith, h.shrinks ts)

onward_taken : {T A : Type 0} (o : Option A) → Onward {T = T} (taken o)
onward_taken None = onward_fail
onward_taken (Some a) = onward_bind skip _ onward_skip (λ u. onward_pure a)

pub onward_token : {T A : Type 0} (f : T → Option A) → Onward (token f)
unfolding token fail
onward_token {T = T} f = onward_peek (token_at f) at (λ t tail. nothing t tail)
  where
    at : (h : Option T) → Onward (token_at f h)
    at None = onward_fail
    at (Some t) = onward_taken (f t)

    nothing : (t : T) (tail : List T) → Extends (t ∷ tail) (token_at f None []) (token_at f (Some t) (t ∷ tail))
    nothing t tail = tt
