-- Code that is laid out stands where it is laid.
use Rattle.std.proofs.Common.{arith, ◌≡◌, ℕ, zero, suc, ◌+◌, List, [], ◌∷◌, ◌++◌, length, length-append, Some, refl, ◌∙◌, ap, slice_get}
use Rattle.mm_goto.specs.declared.program.Instr.{Instr}
use Rattle.mm_flow.specs.Flow.{Flow, Empty, Do, Then, When, Either, While, DoWhile, For, Body, Leave, Mark, Goto, Placed, placed, Ways, size, lay, in_loop, in_body}
use Rattle.mm_meaning.specs.Standing.{Holds, Stands}

get_front : (xs ys : List Placed) (j : ℕ) (p : Placed) → slice_get xs j ≡ Some p → slice_get (xs ++ ys) j ≡ Some p
get_front [] ys j p e = cc
get_front (x ∷ xs) ys zero p e = e
get_front (x ∷ xs) ys (suc j) p e = get_front xs ys j p e

get_back : (xs ys : List Placed) (j : ℕ) (p : Placed) → slice_get ys j ≡ Some p → slice_get (xs ++ ys) (length xs + j) ≡ Some p
get_back [] ys j p e = ap (λ i. slice_get ys i) (let x : 0 + j ≡ j = omega arith in x) ∙ e
get_back (x ∷ xs) ys j p e = ap (λ i. slice_get (x ∷ xs ++ ys) i) (let y : suc (length xs) + j ≡ suc (length xs + j) = omega arith in y) ∙ get_back xs ys j p e

module _ (code : List Instr) where
  one : (k : ℕ) (p : Placed) (is : List Placed) → Holds code k (p ∷ is) → slice_get code k ≡ Some p.instr
  one k p is h = ap (slice_get code) (let x : k ≡ k + 0 = omega arith in x) ∙ h.by 0 p refl

  front : (k : ℕ) (xs ys : List Placed) → Holds code k (xs ++ ys) → Holds code k xs
  front k xs ys h = record { by = λ j p e. h.by j p (get_front xs ys j p e) }

  back : (k n : ℕ) (xs ys : List Placed) → length xs ≡ n → Holds code k (xs ++ ys) → Holds code (k + n) ys
  back k n xs ys same h = record { by = λ j p e. ap (slice_get code) (let x : k + n + j ≡ k + (length xs + j) = omega arith in x) ∙ h.by (length xs + j) p (get_back xs ys j p e) }

  behind : (k : ℕ) (p : Placed) (is : List Placed) → Holds code k (p ∷ is) → Holds code (k + 1) is
  behind k p is h = back k 1 (p ∷ []) is refl h

lay_length : (x : Ways) (f : Flow) (k : ℕ) → length (lay x f k) ≡ size f
lay_length x Empty k = refl
lay_length x (Do at i) k = omega arith
lay_length x (Then a b) k = omega (arith, length-append {A = Placed}, lay_length x a k, lay_length x b (k + size a))
lay_length x (When at e a) k = omega (arith, lay_length x a (k + 1))
lay_length x (Either at e a b) k = omega (arith, length-append {A = Placed}, lay_length x a (k + 1), lay_length x b (k + 1 + size a + 1))
lay_length x (While at c e a) k = omega (arith, length-append {A = Placed}, lay_length x c k, lay_length (in_loop x (k + size c + 1 + size a + 1) k) a (k + size c + 1))
lay_length x (DoWhile at a c e) k = omega (arith, length-append {A = Placed}, lay_length (in_loop x (k + size a + size c + 2) (k + size a)) a k, lay_length x c (k + size a))
lay_length x (For at c e a j) k = omega (arith, length-append {A = Placed}, lay_length x c k, lay_length (in_loop x (k + size c + 1 + size a + size j + 1) (k + size c + 1 + size a)) a (k + size c + 1), lay_length x j (k + size c + 1 + size a))
lay_length x (Body names a) k = lay_length (in_body x names a k) a k
lay_length x (Leave at w) k = omega arith
lay_length x (Mark l) k = refl
lay_length x (Goto at l) k = omega arith

pub lay_stands : (code : List Instr) (x : Ways) (f : Flow) (k : ℕ) → Holds code k (lay x f k) → Stands code x f k
lay_stands code x Empty k h = tt
lay_stands code x (Do at i) k h = one code k (placed at i) [] h
lay_stands code x (Then a b) k h = (lay_stands code x a k (front code k (lay x a k) (lay x b (k + size a)) h), lay_stands code x b (k + size a) (back code k (size a) (lay x a k) (lay x b (k + size a)) (lay_length x a k) h))
lay_stands code x (When at e a) k h = (one code k _ _ h, lay_stands code x a (k + 1) (behind code k _ _ h))
lay_stands code x (Either at e a b) k h =
    let h1 = behind code k _ _ h in
    let h2 = back code (k + 1) (size a) (lay x a (k + 1)) _ (lay_length x a (k + 1)) h1 in
    (one code k _ _ h, lay_stands code x a (k + 1) (front code (k + 1) (lay x a (k + 1)) _ h1), one code (k + 1 + size a) _ _ h2, lay_stands code x b (k + 1 + size a + 1) (behind code (k + 1 + size a) _ _ h2))
lay_stands code x (While at c e a) k h =
    let y = in_loop x (k + size c + 1 + size a + 1) k in
    let h1 = back code k (size c) (lay x c k) _ (lay_length x c k) h in
    let h2 = behind code (k + size c) _ _ h1 in (
      lay_stands code x c k (front code k (lay x c k) _ h),
      one code (k + size c) _ _ h1,
      lay_stands code y a (k + size c + 1) (front code (k + size c + 1) (lay y a (k + size c + 1)) _ h2),
      one code (k + size c + 1 + size a) _ _ (back code (k + size c + 1) (size a) (lay y a (k + size c + 1)) _ (lay_length y a (k + size c + 1)) h2),
    )
lay_stands code x (DoWhile at a c e) k h =
    let y = in_loop x (k + size a + size c + 2) (k + size a) in
    let h1 = back code k (size a) (lay y a k) _ (lay_length y a k) h in
    let h2 = back code (k + size a) (size c) (lay x c (k + size a)) _ (lay_length x c (k + size a)) h1 in
    (lay_stands code y a k (front code k (lay y a k) _ h), lay_stands code x c (k + size a) (front code (k + size a) (lay x c (k + size a)) _ h1), one code (k + size a + size c) _ _ h2, one code (k + size a + size c + 1) _ _ (behind code (k + size a + size c) _ _ h2))
lay_stands code x (For at c e a j) k h =
    let y = in_loop x (k + size c + 1 + size a + size j + 1) (k + size c + 1 + size a) in
    let h1 = back code k (size c) (lay x c k) _ (lay_length x c k) h in
    let h2 = behind code (k + size c) _ _ h1 in
    let h3 = back code (k + size c + 1) (size a) (lay y a (k + size c + 1)) _ (lay_length y a (k + size c + 1)) h2 in
    let h4 = back code (k + size c + 1 + size a) (size j) (lay x j (k + size c + 1 + size a)) _ (lay_length x j (k + size c + 1 + size a)) h3 in (
      lay_stands code x c k (front code k (lay x c k) _ h),
      one code (k + size c) _ _ h1,
      lay_stands code y a (k + size c + 1) (front code (k + size c + 1) (lay y a (k + size c + 1)) _ h2),
      lay_stands code x j (k + size c + 1 + size a) (front code (k + size c + 1 + size a) (lay x j (k + size c + 1 + size a)) _ h3),
      one code (k + size c + 1 + size a + size j) _ _ h4,
    )
lay_stands code x (Body names a) k h = lay_stands code (in_body x names a k) a k h
lay_stands code x (Leave at w) k h = one code k _ _ h
lay_stands code x (Mark l) k h = tt
lay_stands code x (Goto at l) k h = one code k _ _ h
