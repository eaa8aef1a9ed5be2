-- The newest store to a cell, when more or fewer stores are out.
use Rattle.std.proofs.Common.{arith, ◌≡◌, ℕ, zero, suc, ◌<◌, ◌≤◌, ℤ, List, [], ◌∷◌, ◌++◌, reverse, Option, Some, None, option_map, refl, Bool, true, false, cond, sym, ◌∙◌, ap, ap₂, ◌==◌, slice_get, ◌⊎◌, inl, inr}
use Rattle.std.specs.List.{find}
use Rattle.std.proofs.lemmas.Bool.{eqb-true, eq-eqb}
use Rattle.std.proofs.lemmas.List.{reverse-append}
use Rattle.mm_sched.specs.State.{Pending}
use Rattle.mm_sched.specs.Buffer.{is_to}
use Rattle.mm_sched.specs.Buffer as buffer
use Rattle.mm_reorder.proofs.Queue.{live}

-- the one that stands behind, else this
abbrev pub newer : Option ℤ → Bool → ℤ → Option ℤ
newer (Some w) b v = Some w
newer None true v = Some v
newer None false v = None

-- the newest store to the cell, from the oldest on
abbrev pub newest : List Pending → ℕ → Option ℤ
newest [] c = None
newest (q ∷ ps) c = newer (newest ps c) (q.0 == c) q.1

-- the first that passes, else the last item
abbrev either : Option Pending → Bool → Pending → Option Pending
either (Some x) b q = Some x
either None b q = cond b (Some q) None

find_last : (f : Pending → Bool) (xs : List Pending) (q : Pending) → find f (xs ++ q ∷ []) ≡ either (find f xs) (f q) q
find_last f [] q = refl
find_last f (x ∷ xs) q = go (f x) (find_last f xs q)
  where
    go : (b : Bool) → find f (xs ++ q ∷ []) ≡ either (find f xs) (f q) q → cond b (Some x) (find f (xs ++ q ∷ [])) ≡ either (cond b (Some x) (find f xs)) (f q) q
    go true e = refl
    go false e = e

value_of_either : (o : Option Pending) (b : Bool) (q : Pending) → option_map (λ (x : Pending). x.1) (either o b q) ≡ newer (option_map (λ (x : Pending). x.1) o) b q.1
value_of_either (Some x) b q = refl
value_of_either None true q = refl
value_of_either None false q = refl

pub newest_is : (ps : List Pending) (c : ℕ) → buffer.newest ps c ≡ newest ps c
newest_is [] c = refl
newest_is (q ∷ ps) c =
    ap (λ xs. option_map (λ (x : Pending). x.1) (find (is_to c) xs)) (reverse-append (q ∷ []) ps)
    ∙ ap (option_map (λ (x : Pending). x.1)) (find_last (is_to c) (reverse ps) q)
    ∙ value_of_either (find (is_to c) (reverse ps)) (q.0 == c) q
    ∙ ap (λ o. newer o (q.0 == c) q.1) (newest_is ps c)

-- the j-th store is not to c
abbrev pub NotAt : List (ℕ × ℤ) → ℕ → ℕ → Type 0
NotAt xs c j = (q : ℕ × ℤ) → slice_get xs j ≡ Some q → (q.0 == c) ≡ false

newer_none : (o : Option ℤ) (b : Bool) (v : ℤ) → newer o b v ≡ None → (o ≡ None) × (b ≡ false)
newer_none (Some w) b v e = cc
newer_none None true v e = cc
newer_none None false v e = (refl, refl)

newer_other : (o : Option ℤ) (b : Bool) (v : ℤ) → o ≡ None → b ≡ false → newer o b v ≡ None
newer_other (Some w) b v e d = cc
newer_other None true v e d = cc
newer_other None false v e d = refl

newer_some : (o : Option ℤ) (b : Bool) (v w : ℤ) → newer o b v ≡ Some w → (o ≡ Some w) ⊎ ((o ≡ None) × (b ≡ true) × (v ≡ w))
newer_some (Some x) b v w e = inl e
newer_some None true v w e = inr (refl, refl, cc)
newer_some None false v w e = cc

newer_still : (o : Option ℤ) (b : Bool) (v w : ℤ) → o ≡ Some w → newer o b v ≡ Some w
newer_still (Some x) b v w e = e
newer_still None b v w e = cc

some_same : (x y : ℕ × ℤ) → Some x ≡ Some y → x ≡ y
some_same x y e = cc

newer_this : (o : Option ℤ) (x : ℕ × ℤ) (c : ℕ) (w : ℤ) → o ≡ None → x ≡ (c, w) → newer o (x.0 == c) x.1 ≡ Some w
newer_this (Some v) x c w e d = cc
newer_this None x c w e d = ap (λ z. newer None (z.0 == c) z.1) d ∙ ap (λ b. newer None b w) (eq-eqb c c refl)

-- none: no store that is in and not out is to c
pub newest_none : (xs : List (ℕ × ℤ)) (out into c : ℕ) → newest (live xs out into) c ≡ None → (j : ℕ) → out ≤ j → j < into → NotAt xs c j
newest_none [] out into c e j l m q d = cc
newest_none (x ∷ xs) out zero c e j l m q d = absurd (omega arith)
newest_none (x ∷ xs) zero (suc into) c e zero l m q d = ap (λ z. z.0 == c) (sym (some_same x q d)) ∙ (newer_none (newest (live xs zero into) c) (x.0 == c) x.1 e).1
newest_none (x ∷ xs) zero (suc into) c e (suc j) l m q d = newest_none xs zero into c (newer_none (newest (live xs zero into) c) (x.0 == c) x.1 e).0 j (omega arith) (omega arith) q d
newest_none (x ∷ xs) (suc out) (suc into) c e zero l m q d = absurd (omega arith)
newest_none (x ∷ xs) (suc out) (suc into) c e (suc j) l m q d = newest_none xs out into c e j (omega arith) (omega arith) q d

pub none_newest : (xs : List (ℕ × ℤ)) (out into c : ℕ) → ((j : ℕ) → out ≤ j → j < into → NotAt xs c j) → newest (live xs out into) c ≡ None
none_newest [] out into c h = refl
none_newest (x ∷ xs) out zero c h = refl
none_newest (x ∷ xs) zero (suc into) c h = newer_other (newest (live xs zero into) c) (x.0 == c) x.1 (none_newest xs zero into c (λ j l m. h (suc j) (omega arith) (omega arith))) (h zero (omega arith) (omega arith) x refl)
none_newest (x ∷ xs) (suc out) (suc into) c h = none_newest xs out into c (λ j l m. h (suc j) (omega arith) (omega arith))

-- some: it is at one place, and none behind that place is to c
abbrev pub IsLast : List (ℕ × ℤ) → ℕ → ℕ → ℤ → ℕ → Type 0
IsLast xs into c w i = (i < into) × (slice_get xs i ≡ Some (c, w)) × ((j : ℕ) → i < j → j < into → NotAt xs c j)

shifted : (x : ℕ × ℤ) (xs : List (ℕ × ℤ)) (into c i : ℕ) (w : ℤ) → IsLast xs into c w i → IsLast (x ∷ xs) (suc into) c w (suc i)
shifted x xs into c i w (l, e, h) = (omega arith, e, later)
  where
    later : (j : ℕ) → suc i < j → j < suc into → NotAt (x ∷ xs) c j
    later zero m n = absurd (omega arith)
    later (suc j) m n = h j (omega arith) (omega arith)

pub newest_last : (xs : List (ℕ × ℤ)) (out into c : ℕ) (w : ℤ) → newest (live xs out into) c ≡ Some w → (i : ℕ) × (out ≤ i) × IsLast xs into c w i
newest_last [] out into c w e = cc
newest_last (x ∷ xs) out zero c w e = cc
newest_last (x ∷ xs) zero (suc into) c w e = go (newer_some (newest (live xs zero into) c) (x.0 == c) x.1 w e) (newest_last xs zero into c w)
  where
    go : (newest (live xs zero into) c ≡ Some w) ⊎ ((newest (live xs zero into) c ≡ None) × ((x.0 == c) ≡ true) × (x.1 ≡ w)) → (newest (live xs zero into) c ≡ Some w → (i : ℕ) × (zero ≤ i) × IsLast xs into c w i) → (i : ℕ) × (zero ≤ i) × IsLast (x ∷ xs) (suc into) c w i
    go (inl d) ih = let r = ih d in (suc r.0, omega arith, shifted x xs into c r.0 w r.2)
    go (inr d) ih = (zero, omega arith, (omega arith, ap₂ (λ (a : ℕ) (b : ℤ). Some (a, b)) (eqb-true x.0 c d.1) d.2, later d.0))
      where
        later : newest (live xs zero into) c ≡ None → (j : ℕ) → zero < j → j < suc into → NotAt (x ∷ xs) c j
        later n zero l m = absurd (omega arith)
        later n (suc j) l m = newest_none xs zero into c n j (omega arith) (omega arith)
newest_last (x ∷ xs) (suc out) (suc into) c w e = let r = newest_last xs out into c w e in (suc r.0, omega arith, shifted x xs into c r.0 w r.2)

unshifted : (x : ℕ × ℤ) (xs : List (ℕ × ℤ)) (into c i : ℕ) (w : ℤ) → IsLast (x ∷ xs) (suc into) c w (suc i) → IsLast xs into c w i
unshifted x xs into c i w h = (let l : suc i < suc into = h.0 in omega arith, h.1, λ j l m. h.2 (suc j) (omega arith) (omega arith))

pub last_newest : (xs : List (ℕ × ℤ)) (out into c : ℕ) (w : ℤ) (i : ℕ) → out ≤ i → IsLast xs into c w i → newest (live xs out into) c ≡ Some w
last_newest [] out into c w i l h = let e : None ≡ Some (c, w) = h.1 in cc
last_newest (x ∷ xs) out zero c w i l h = absurd (let m : i < zero = h.0 in omega arith)
last_newest (x ∷ xs) zero (suc into) c w zero l h = newer_this (newest (live xs zero into) c) x c w (none_newest xs zero into c (λ j k m. h.2 (suc j) (omega arith) (omega arith))) (some_same x (c, w) h.1)
last_newest (x ∷ xs) zero (suc into) c w (suc i) l h = newer_still (newest (live xs zero into) c) (x.0 == c) x.1 w (last_newest xs zero into c w i (omega arith) (unshifted x xs into c i w h))
last_newest (x ∷ xs) (suc out) (suc into) c w zero l h = absurd (omega arith)
last_newest (x ∷ xs) (suc out) (suc into) c w (suc i) l h = last_newest xs out into c w i (omega arith) (unshifted x xs into c i w h)
