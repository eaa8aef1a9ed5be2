-- What is pending, as a part of all that a thread ever stores: the first so many are in, of these the first so many are out again.
use Rattle.std.proofs.Common.{arith, ◌≡◌, ℕ, zero, suc, ◌+◌, ◌<◌, ◌≤◌, List, [], ◌∷◌, ◌++◌, length, Option, Some, None, refl, ap, slice_get}

-- of the items the first into, without the first out
abbrev pub live : {A : Type 0} → List A → ℕ → ℕ → List A
live [] out into = []
live (x ∷ xs) out zero = []
live (x ∷ xs) zero (suc into) = x ∷ live xs zero into
live (x ∷ xs) (suc out) (suc into) = live xs out into

module _ {A : Type 0} where
  pub live_none : (xs : List A) (out : ℕ) → live xs out out ≡ []
  live_none [] out = refl
  live_none (x ∷ xs) zero = refl
  live_none (x ∷ xs) (suc out) = live_none xs out

  pub live_push : (xs : List A) (out into : ℕ) (x : A) → out ≤ into → slice_get xs into ≡ Some x → live xs out (suc into) ≡ live xs out into ++ x ∷ []
  live_push [] out into x l e = cc
  live_push (y ∷ ys) zero zero x l e = cc (live_none ys zero)
  live_push (y ∷ ys) (suc out) zero x l e = absurd (omega arith)
  live_push (y ∷ ys) zero (suc into) x l e = ap (λ zs. y ∷ zs) (live_push ys zero into x (omega arith) e)
  live_push (y ∷ ys) (suc out) (suc into) x l e = live_push ys out into x (omega arith) e

  pub live_pop : (xs : List A) (out into : ℕ) (x : A) → out < into → slice_get xs out ≡ Some x → live xs out into ≡ x ∷ live xs (suc out) into
  live_pop [] out into x l e = cc
  live_pop (y ∷ ys) out zero x l e = absurd (omega arith)
  live_pop (y ∷ ys) zero (suc into) x l e = cc
  live_pop (y ∷ ys) (suc out) (suc into) x l e = live_pop ys out into x (omega arith) e

  pub live_room : (xs : List A) (out into : ℕ) → out ≤ into → length (live xs out into) + out ≤ into
  live_room [] out into l = omega arith
  live_room (x ∷ xs) out zero l = omega arith
  live_room (x ∷ xs) zero (suc into) l = let h : length (live xs zero into) + 0 ≤ into = live_room xs zero into (omega arith) in omega arith
  live_room (x ∷ xs) (suc out) (suc into) l = let h : length (live xs out into) + out ≤ into = live_room xs out into (omega arith) in omega arith

abbrev pub head_of : {A : Type 0} → List A → Option A
head_of [] = None
head_of (x ∷ xs) = Some x

module _ {A : Type 0} where
  pub live_first : (xs : List A) (out into : ℕ) (y : A) → head_of (live xs out into) ≡ Some y → (out < into) × (live xs out into ≡ y ∷ live xs (suc out) into)
  live_first [] out into y e = cc
  live_first (x ∷ xs) out zero y e = cc
  live_first (x ∷ xs) zero (suc into) y e = (omega arith, cc)
  live_first (x ∷ xs) (suc out) (suc into) y e = let h : (out < into) × (live xs out into ≡ y ∷ live xs (suc out) into) = live_first xs out into y e in (omega arith, h.1)

  pub live_at : (xs : List A) (out into : ℕ) → out < into → head_of (live xs out into) ≡ slice_get xs out
  live_at [] out into l = refl
  live_at (x ∷ xs) out zero l = absurd (omega arith)
  live_at (x ∷ xs) zero (suc into) l = refl
  live_at (x ∷ xs) (suc out) (suc into) l = live_at xs out into (omega arith)
