-- What a parser gives is in a relation, and what is in it the parser gives.
use Rattle.std.proofs.Common.{◌≡◌, List, [], ◌∷◌, Option, Some, None, refl, sym, ◌∙◌, ap, subst}
use Rattle.mm_reading.specs.Parsing.{Parser, Outcome, Parsed, Fault, ◌>>=◌, pure, fail, peek, skip, after, taken, token}

-- the value that was read, and the tokens after it, are as N says
abbrev pub SoundAt : {T A : Type 0} → (A → List T → Type 0) → Outcome T A → Type 0
SoundAt N (Parsed a rest) = N a rest
SoundAt N (Fault rest) = Unit {0}

pub sound_weaken : {T A : Type 0} (N K : A → List T → Type 0) (o : Outcome T A) → SoundAt N o → ((a : A) (rest : List T) → N a rest → K a rest) → SoundAt K o
sound_weaken N K (Parsed a rest) h k = k a rest h
sound_weaken N K (Fault rest) h k = tt

pub sound_after : {T A B : Type 0} (N : A → List T → Type 0) (K : B → List T → Type 0) (o : Outcome T A) (f : A → Parser T B) → SoundAt N o → ((a : A) (mid : List T) → N a mid → SoundAt K (f a mid)) → SoundAt K (after o f)
sound_after N K (Parsed a mid) f h k = k a mid h
sound_after N K (Fault rest) f h k = tt

-- a token with a value, and then f of the value
pub sound_token : {T A B : Type 0} (K : B → List T → Type 0) (is : T → Option A) (f : A → Parser T B) (ts : List T) → ((t : T) (a : A) (rest : List T) → is t ≡ Some a → ts ≡ t ∷ rest → SoundAt K (f a rest)) → SoundAt K ((token is >>= f) ts)
unfolding token peek fail skip pure
sound_token K is f [] k = tt
sound_token {T = T} {A = A} {B = B} K is f (t ∷ rest) k = by_value (is t) refl
  where
    by_value : (o : Option A) → is t ≡ o → SoundAt K (after (taken (is t) (t ∷ rest)) f)
    by_value None e = subst (λ (o : Option A). SoundAt K (after (taken o (t ∷ rest)) f)) (sym e) tt
    by_value (Some a) e = subst (λ (o : Option A). SoundAt K (after (taken o (t ∷ rest)) f)) (sym e) (k t a rest e refl)

pub parsed_after : {T A B : Type 0} (o : Outcome T A) (f : A → Parser T B) (a : A) (mid : List T) (end : Outcome T B) → o ≡ Parsed a mid → f a mid ≡ end → after o f ≡ end
parsed_after o f a mid end e g = ap (λ x. after x f) e ∙ g

pub parsed_token : {T A : Type 0} (is : T → Option A) (t : T) (a : A) (rest : List T) → is t ≡ Some a → token is (t ∷ rest) ≡ Parsed a rest
unfolding token peek skip pure
parsed_token is t a rest e = ap (λ o. taken o (t ∷ rest)) e
