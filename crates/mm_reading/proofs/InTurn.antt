-- Reading one thing after another.
use Rattle.std.proofs.Common.{◌≡◌, List, refl}
use Rattle.mm_reading.specs.Parsing.{Parser, Outcome, Parsed, Fault, ◌>>=◌, pure, after}

pub first : {T A B : Type 0} (a : A) (f : A → Parser T B) (ts : List T) → (pure a >>= f) ts ≡ f a ts
unfolding pure
first a f ts = refl

pub last : {T A : Type 0} (p : Parser T A) (ts : List T) → (p >>= pure) ts ≡ p ts
unfolding pure
last {T = T} {A = A} p ts = at (p ts)
  where
    at : (o : Outcome T A) → after o pure ≡ o
    at (Parsed a rest) = refl
    at (Fault rest) = refl

pub together : {T A B C : Type 0} (p : Parser T A) (f : A → Parser T B) (g : B → Parser T C) (ts : List T) → ((p >>= f) >>= g) ts ≡ (p >>= λ a. f a >>= g) ts
together {T = T} {A = A} p f g ts = at (p ts)
  where
    at : (o : Outcome T A) → after (after o f) g ≡ after o (λ a. f a >>= g)
    at (Parsed a rest) = refl
    at (Fault rest) = refl
