-- One more pending store in a row of the arrays.
use Rattle.std.proofs.Common.{arith, ◌≡◌, ℕ, zero, suc, ◌+◌, ◌*◌, ◌<◌, ◌≤◌, ◌≢◌, ℤ, pos, Bool, true, false, List, [], ◌∷◌, ◌++◌, length, length-append, Some, refl, sym, ◌∙◌, ap, subst, ⊎_elim, inl, inr, ◌⊎◌, slice_get, slice_set}
use Rattle.std.specs.Prelude.{slice_index_or, ◌==◌}
use Rattle.std.proofs.lemmas.List.{length-set, get_or-set_same, get_or-set_other}
use Rattle.std.proofs.lemmas.Nat.{mul-add-lt}
use Rattle.std.proofs.lemmas.Bool.{cases_lt}
use Rattle.mm_meaning.specs.Meaning.{pick}
use Rattle.mm_sched.specs.State.{Pending}
use Rattle.mm_pieces.specs.Mirroring.{Table, Rows, Held}

-- the cell or the local has this value
abbrev pub Has : List ℤ → ℕ → ℤ → Type 0
Has ls r x = slice_index_or ls r (pos 0) ≡ x

pub has_kept : (ls : List ℤ) (r l : ℕ) (x y : ℤ) → r ≢ l → Has ls r x → Has (slice_set ls l y) r x
has_kept ls r l x y d h = get_or-set_other ls l r y (pos 0) d ∙ h

pub has_new : (ls : List ℤ) (l : ℕ) (y : ℤ) → l < length ls → Has (slice_set ls l y) l y
has_new ls l y h = get_or-set_same ls l y (pos 0) h

-- one row anew
abbrev pub updated : Rows → ℕ → List Pending → Rows
updated rows b r i = pick (i == b) r (rows i)

-- places in a table of rows of K
pub apart : (K i k b n : ℕ) → k < K → n < K → i ≢ b → i * K + k ≢ b * K + n
apart K i k b n lk ln d e =
    ⊎_elim (λ h. let x = mul-add-lt i K k b h lk in omega arith)
    (λ h. ⊎_elim (λ g. let x = mul-add-lt b K n i g ln in omega arith) (λ g. d (omega arith)) (cases_lt b i))
    (cases_lt i b)

pub get_past_front : (xs : List Pending) (p q : Pending) (k : ℕ) → slice_get (xs ++ p ∷ []) k ≡ Some q → (slice_get xs k ≡ Some q) ⊎ ((k ≡ length xs) × (q ≡ p))
get_past_front [] p q zero e = inr (refl, cc)
get_past_front [] p q (suc k) e = cc
get_past_front (x ∷ xs) p q zero e = inl e
get_past_front (x ∷ xs) p q (suc k) e = ⊎_elim (λ h. inl h) (λ h. inr (let a = h.0 in omega arith, h.1)) (get_past_front xs p q k e)

pub get_below : (xs : List Pending) (q : Pending) (k : ℕ) → slice_get xs k ≡ Some q → k < length xs
get_below [] q k e = cc
get_below (x ∷ xs) q zero e = omega arith
get_below (x ∷ xs) q (suc k) e = let a = get_below xs q k e in omega arith

pub is_b : (i b : ℕ) → (i == b) ≡ true → i ≡ b
is_b i b e = grind arith

pub not_b : (i b : ℕ) → (i == b) ≡ false → i ≢ b
not_b i b e h = let x : (i == b) ≡ true = grind arith in let y = sym x ∙ e in cc

-- the rows of a table that fits
module _ (t : Table) (apart1 : t.lens + t.rows ≤ t.cells) (apart2 : t.cells + t.rows * t.places ≤ t.vals) where
  -- one more entry in row b
  pub held_put : (m : List ℤ) (rows : Rows) (b c : ℕ) (v : ℤ) → Held t m rows → b < t.rows → length (rows b) < t.places → t.vals + t.rows * t.places ≤ length m → Held t (slice_set (slice_set (slice_set m (t.cells + (b * t.places + length (rows b))) (pos c)) (t.vals + (b * t.places + length (rows b))) v) (t.lens + b) (pos (length (rows b) + 1))) (updated rows b (rows b ++ (c, v) ∷ []))
  held_put m rows b c v h lb room wide = record {
    fits = λ i q. fits_at i q (i == b) refl;
    lens = λ i q. lens_at i q (i == b) refl;
    cells = λ i k q l g. cells_at i k q l (i == b) refl g;
    vals = λ i k q l g. vals_at i k q l (i == b) refl g;
  }
    where
      n : ℕ
      n = length (rows b)

      r : List Pending
      r = rows b ++ (c, v) ∷ []

      here : (i k : ℕ) → i < t.rows → k < t.places → i * t.places + k < t.rows * t.places
      here i k q l = omega (arith, mul-add-lt i t.places k t.rows q l)

      m1 : List ℤ
      m1 = slice_set m (t.cells + (b * t.places + length (rows b))) (pos c)

      m2 : List ℤ
      m2 = slice_set m1 (t.vals + (b * t.places + length (rows b))) v

      m3 : List ℤ
      m3 = slice_set m2 (t.lens + b) (pos (length (rows b) + 1))

      fits_at : (i : ℕ) → i < t.rows → (z : Bool) → (i == b) ≡ z → length (pick z r (rows i)) ≤ t.places
      fits_at i q true e = omega (arith, length-append (rows b) ((c, v) ∷ []))
      fits_at i q false e = h.fits i q

      lens_at : (i : ℕ) → i < t.rows → (z : Bool) → (i == b) ≡ z → Has m3 (t.lens + i) (pos (length (pick z r (rows i))))
      lens_at i q true e = subst (λ a. Has m3 (t.lens + a) (pos (length r))) (sym (is_b i b e)) (subst (λ a. Has m3 (t.lens + b) (pos a)) (omega (arith, length-append (rows b) ((c, v) ∷ []))) (has_new m2 (t.lens + b) (pos (length (rows b) + 1)) (omega (arith, length-set {A = ℤ}))))
      lens_at i q false e =
          let d = not_b i b e in
          has_kept m2 (t.lens + i) (t.lens + b) (pos (length (rows i))) (pos (length (rows b) + 1)) (λ f. d (omega arith)) (has_kept m1 (t.lens + i) (t.vals + (b * t.places + length (rows b))) (pos (length (rows i))) v (omega (arith, here b (length (rows b)) lb room)) (has_kept m (t.lens + i) (t.cells + (b * t.places + length (rows b))) (pos (length (rows i))) (pos c) (omega arith) (h.lens i q)))

      -- what another write leaves
      cell_on : (i k : ℕ) (x : ℤ) → i < t.rows → k < t.places → Has m1 (t.cells + (i * t.places + k)) x → Has m3 (t.cells + (i * t.places + k)) x
      cell_on i k x l q f = has_kept m2 (t.cells + (i * t.places + k)) (t.lens + b) x (pos (length (rows b) + 1)) (omega arith) (has_kept m1 (t.cells + (i * t.places + k)) (t.vals + (b * t.places + length (rows b))) x v (omega (arith, here i k l q)) f)

      val_on : (i k : ℕ) (x : ℤ) → i < t.rows → k < t.places → Has m2 (t.vals + (i * t.places + k)) x → Has m3 (t.vals + (i * t.places + k)) x
      val_on i k x l q f = has_kept m2 (t.vals + (i * t.places + k)) (t.lens + b) x (pos (length (rows b) + 1)) (omega arith) f

      cell_old : (i k : ℕ) (q : Pending) → i < t.rows → k < t.places → i * t.places + k ≢ b * t.places + length (rows b) → slice_get (rows i) k ≡ Some q → Has m3 (t.cells + (i * t.places + k)) (pos q.0)
      cell_old i k q l f d g = cell_on i k (pos q.0) l f (has_kept m (t.cells + (i * t.places + k)) (t.cells + (b * t.places + length (rows b))) (pos q.0) (pos c) (λ e. d (omega arith)) (h.cells i k q l g))

      val_old : (i k : ℕ) (q : Pending) → i < t.rows → k < t.places → i * t.places + k ≢ b * t.places + length (rows b) → slice_get (rows i) k ≡ Some q → Has m3 (t.vals + (i * t.places + k)) q.1
      val_old i k q l f d g = val_on i k q.1 l f (has_kept m1 (t.vals + (i * t.places + k)) (t.vals + (b * t.places + length (rows b))) q.1 v (λ e. d (omega arith)) (has_kept m (t.vals + (i * t.places + k)) (t.cells + (b * t.places + length (rows b))) q.1 (pos c) (omega (arith, here b (length (rows b)) lb room)) (h.vals i k q l g)))

      within : (i k : ℕ) (q : Pending) → i < t.rows → slice_get (rows i) k ≡ Some q → k < t.places
      within i k q l g = omega (arith, get_below (rows i) q k g, h.fits i l)

      cells_at : (i k : ℕ) (q : Pending) → i < t.rows → (z : Bool) → (i == b) ≡ z → slice_get (pick z r (rows i)) k ≡ Some q → Has m3 (t.cells + (i * t.places + k)) (pos q.0)
      cells_at i k q l true e g = subst (λ a. Has m3 (t.cells + (a * t.places + k)) (pos q.0)) (sym (is_b i b e)) (⊎_elim
          (λ f. cell_old b k q lb (within b k q lb f) (let x = get_below (rows b) q k f in omega arith) f)
          (λ f. subst (λ a. Has m3 (t.cells + (b * t.places + a)) (pos q.0)) (sym f.0) (subst (λ (a : Pending). Has m3 (t.cells + (b * t.places + length (rows b))) (pos a.0)) (sym f.1) (cell_on b (length (rows b)) (pos c) lb room (has_new m (t.cells + (b * t.places + length (rows b))) (pos c) (omega (arith, here b (length (rows b)) lb room))))))
          (get_past_front (rows b) (c, v) q k g))
      cells_at i k q l false e g = cell_old i k q l (within i k q l g) (apart t.places i k b (length (rows b)) (within i k q l g) room (not_b i b e)) g

      vals_at : (i k : ℕ) (q : Pending) → i < t.rows → (z : Bool) → (i == b) ≡ z → slice_get (pick z r (rows i)) k ≡ Some q → Has m3 (t.vals + (i * t.places + k)) q.1
      vals_at i k q l true e g = subst (λ a. Has m3 (t.vals + (a * t.places + k)) q.1) (sym (is_b i b e)) (⊎_elim
          (λ f. val_old b k q lb (within b k q lb f) (let x = get_below (rows b) q k f in omega arith) f)
          (λ f. subst (λ a. Has m3 (t.vals + (b * t.places + a)) q.1) (sym f.0) (subst (λ (a : Pending). Has m3 (t.vals + (b * t.places + length (rows b))) a.1) (sym f.1) (val_on b (length (rows b)) v lb room (has_new m1 (t.vals + (b * t.places + length (rows b))) v (omega (arith, length-set {A = ℤ}, here b (length (rows b)) lb room))))))
          (get_past_front (rows b) (c, v) q k g))
      vals_at i k q l false e g = val_old i k q l (within i k q l g) (apart t.places i k b (length (rows b)) (within i k q l g) room (not_b i b e)) g

  pub held_same : (m : List ℤ) (rows other : Rows) → ((b : ℕ) → b < t.rows → rows b ≡ other b) → Held t m rows → Held t m other
  held_same m rows other same h = record {
    fits = λ b q. subst (λ r. length r ≤ t.places) (same b q) (h.fits b q);
    lens = λ b q. subst (λ (r : List Pending). Has m (t.lens + b) (pos (length r))) (same b q) (h.lens b q);
    cells = λ b k x q g. h.cells b k x q (ap (λ r. slice_get r k) (same b q) ∙ g);
    vals = λ b k x q g. h.vals b k x q (ap (λ r. slice_get r k) (same b q) ∙ g);
  }
