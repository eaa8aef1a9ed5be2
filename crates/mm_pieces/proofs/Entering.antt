-- What a function's body sees first: its arguments, and the caller's locals.
use Rattle.std.proofs.Common.{arith, ◌≡◌, ℕ, zero, suc, ◌+◌, ◌<◌, ◌≤◌, ℤ, pos, List, [], ◌∷◌, length, Some, ◌∙◌, ap, slice_get, slice_set}
use Rattle.std.proofs.lemmas.List.{length-set, get_or-set_same, get_or-set_other}
use Rattle.mm_meaning.specs.Meaning.{View}
use Rattle.mm_meaning.specs.Acting.{at_slot}
use Rattle.mm_meaning.proofs.Looks.{Looks}
use Rattle.mm_meaning.proofs.Calls.{set_all, length_set_all, set_all_below, entered}

set_all_at : (ls : List ℤ) (n : ℕ) (xs : List ℤ) (i : ℕ) (x : ℤ) → slice_get xs i ≡ Some x → n + length xs ≤ length ls → at_slot (set_all ls n xs) (n + i) ≡ x
set_all_at ls n [] i x e h = cc
set_all_at ls n (y ∷ xs) zero x e h =
    let same : y ≡ x = cc in
    ap (at_slot (set_all (slice_set ls n y) (n + 1) xs)) (let f : n + zero ≡ n = omega arith in f) ∙ set_all_below (slice_set ls n y) (n + 1) xs n (omega arith) ∙ get_or-set_same ls n y (pos 0) (omega arith) ∙ same
set_all_at ls n (y ∷ xs) (suc i) x e h =
    ap (at_slot (set_all (slice_set ls n y) (n + 1) xs)) (let f : n + suc i ≡ n + 1 + i = omega arith in f) ∙ set_all_at (slice_set ls n y) (n + 1) xs i x e (omega (arith, length-set ls n y))

module _ {m k : ℕ} {a : View} (mk : m ≤ k) (xs : List ℤ) (room : k + length xs + 1 ≤ length a.locals) (l : View) (look : Looks m l a) where
  pub entered_wide : length (entered l k xs (length xs)).locals ≡ length a.locals
  entered_wide = length-set (set_all l.locals k xs) (k + length xs) (pos 0) ∙ length_set_all l.locals k xs ∙ look.many

  pub entered_old : (r : ℕ) → r < m → at_slot (entered l k xs (length xs)).locals r ≡ at_slot a.locals r
  entered_old r q = get_or-set_other (set_all l.locals k xs) (k + length xs) r (pos 0) (pos 0) (omega arith) ∙ set_all_below l.locals k xs r (omega arith) ∙ look.locals r q

  -- the argument i
  pub entered_arg : (r i : ℕ) (x : ℤ) → r ≡ k + i → i < length xs → slice_get xs i ≡ Some x → at_slot (entered l k xs (length xs)).locals r ≡ x
  entered_arg r i x e h g = ap (at_slot (entered l k xs (length xs)).locals) e ∙ get_or-set_other (set_all l.locals k xs) (k + length xs) (k + i) (pos 0) (pos 0) (omega arith) ∙ set_all_at l.locals k xs i x g (omega (arith, look.many))
