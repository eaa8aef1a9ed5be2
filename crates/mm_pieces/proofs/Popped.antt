-- Behind wm_pop the arrays stand for the rows without the oldest store of one.
use Rattle.std.proofs.Common.{arith, ◌≡◌, ℕ, zero, suc, ◌+◌, ◌*◌, ◌<◌, ◌≤◌, ◌≢◌, ℤ, pos, Bool, true, false, List, [], ◌∷◌, length, Some, refl, sym, ◌∙◌, ap, subst, ⊎_elim, slice_get, slice_set}
use Rattle.std.specs.Prelude.{◌==◌}
use Rattle.std.proofs.lemmas.List.{length-set, get_or-set_same, get_or-set_other}
use Rattle.std.proofs.lemmas.Nat.{mul-add-lt}
use Rattle.std.proofs.lemmas.Bool.{cases_lt}
use Rattle.std.proofs.Math.Nat.{mul-le-mul_right}
use Rattle.mm_sched.specs.State.{State, Pending, pending_of}
use Rattle.mm_sched.specs.Buffer.{without}
use Rattle.mm_sched.specs.Event.{flushed}
use Rattle.mm_meaning.specs.Meaning.{View, pick}
use Rattle.mm_meaning.specs.Acting.{at_slot}
use Rattle.mm_pieces.specs.Mirroring.{Table, Rows, Held, Homes, Mirrors}
use Rattle.mm_pieces.proofs.Held.{Has, has_kept, has_new, updated, apart, get_below, is_b, not_b, held_same}

module _ (tb : Table) (apart1 : tb.lens + tb.rows ≤ tb.cells) (apart2 : tb.cells + tb.rows * tb.places ≤ tb.vals) where
  -- the places of the store k of row b
  abbrev pub cell_place : ℕ → ℕ → ℕ
  cell_place b k = tb.cells + (b * tb.places + k)

  abbrev pub val_place : ℕ → ℕ → ℕ
  val_place b k = tb.vals + (b * tb.places + k)

  -- the first j stores of row b are those behind them
  abbrev pub moved_up : List ℤ → (b j : ℕ) → List ℤ
  moved_up m b zero = m
  moved_up m b (suc j) = slice_set (slice_set (moved_up m b j) (cell_place b j) (at_slot m (cell_place b (j + 1)))) (val_place b j) (at_slot m (val_place b (j + 1)))

  pub moved_other : (m : List ℤ) (b j i : ℕ) → ((k : ℕ) → k < j → (i ≢ cell_place b k) × (i ≢ val_place b k)) → at_slot (moved_up m b j) i ≡ at_slot m i
  moved_other m b zero i h = refl
  moved_other m b (suc j) i h =
      has_kept _ i (val_place b j) _ _ (h j (omega arith)).1 (has_kept _ i (cell_place b j) _ _ (h j (omega arith)).0 (moved_other m b j i (λ k q. h k (omega arith))))

  pub length_moved : (m : List ℤ) (b j : ℕ) → length (moved_up m b j) ≡ length m
  length_moved m b zero = refl
  length_moved m b (suc j) = length-set _ (val_place b j) _ ∙ length-set _ (cell_place b j) _ ∙ length_moved m b j

  pub moved_cell : (m : List ℤ) (b j k : ℕ) → b < tb.rows → j < tb.places → k < j → val_place b tb.places ≤ length m → Has (moved_up m b j) (cell_place b k) (at_slot m (cell_place b (k + 1)))
  moved_cell m b zero k lt lj h wide = absurd (omega arith)
  moved_cell m b (suc j) k lt lj h wide = ⊎_elim
      (λ q. has_kept _ (cell_place b k) (val_place b j) _ _ (omega (arith, mul-add-lt b tb.places k tb.rows lt (omega arith), mul-add-lt b tb.places j tb.rows lt (omega arith))) (has_kept _ (cell_place b k) (cell_place b j) _ _ (omega arith) (moved_cell m b j k lt (omega arith) q wide)))
      (λ q. let e : k ≡ j = omega arith in subst (λ i. Has (moved_up m b (suc j)) (cell_place b i) (at_slot m (cell_place b (i + 1)))) (sym e)
      (has_kept _ (cell_place b j) (val_place b j) _ _ (omega (arith, mul-add-lt b tb.places j tb.rows lt (omega arith))) (has_new (moved_up m b j) (cell_place b j) _ (omega (arith, length_moved m b j)))))
      (cases_lt k j)

  pub moved_val : (m : List ℤ) (b j k : ℕ) → b < tb.rows → j < tb.places → k < j → val_place b tb.places ≤ length m → Has (moved_up m b j) (val_place b k) (at_slot m (val_place b (k + 1)))
  moved_val m b zero k lt lj h wide = absurd (omega arith)
  moved_val m b (suc j) k lt lj h wide = ⊎_elim
      (λ q. has_kept _ (val_place b k) (val_place b j) _ _ (omega arith) (has_kept _ (val_place b k) (cell_place b j) _ _ (omega (arith, mul-add-lt b tb.places k tb.rows lt (omega arith), mul-add-lt b tb.places j tb.rows lt (omega arith))) (moved_val m b j k lt (omega arith) q wide)))
      (λ q. let e : k ≡ j = omega arith in subst (λ i. Has (moved_up m b (suc j)) (val_place b i) (at_slot m (val_place b (i + 1)))) (sym e)
      (has_new (slice_set (moved_up m b j) (cell_place b j) _) (val_place b j) _ (omega (arith, length_moved m b j, length-set (moved_up m b j) (cell_place b j) (at_slot m (cell_place b (j + 1)))))))
      (cases_lt k j)

  -- memory behind wm_pop, where the row had one store more than n, the oldest to what is the cell p, of value v
  abbrev pub popped : List ℤ → (b n p : ℕ) → ℤ → List ℤ
  popped m b n p v = moved_up (slice_set (slice_set m p v) (tb.lens + b) (pos n)) b n

  pub held_pop : (m : List ℤ) (rows : Rows) (b p c : ℕ) (v : ℤ) (rest : List Pending) → Held tb m rows → b < tb.rows → p < tb.lens → rows b ≡ (c, v) ∷ rest → tb.vals + tb.rows * tb.places ≤ length m → Held tb (popped m b (length rest) p v) (updated rows b rest)
  held_pop m rows b p c v rest h lb lp is wide = record {
    fits = λ i q. fits_at i q (i == b);
    lens = λ i q. lens_at i q (i == b) refl;
    cells = λ i k q l g. cells_at i k q l (i == b) refl g;
    vals = λ i k q l g. vals_at i k q l (i == b) refl g;
  }
    where
      full : length rest + 1 ≤ tb.places
      full = let f = subst (λ xs. length xs ≤ tb.places) is (h.fits b lb) in omega arith

      row_end : b * tb.places + tb.places ≤ tb.rows * tb.places
      row_end = let f : (b + 1) * tb.places ≤ tb.rows * tb.places = mul-le-mul_right tb.places (omega arith) in omega arith

      m1 : List ℤ
      m1 = slice_set m p v

      m2 : List ℤ
      m2 = slice_set m1 (tb.lens + b) (pos (length rest))

      wide2 : tb.vals + (b * tb.places + tb.places) ≤ length m2
      wide2 = omega (arith, row_end, length-set m1 (tb.lens + b) (pos (length rest)), length-set m p v)

      here : (i k : ℕ) → i < tb.rows → k < tb.places → i * tb.places + k < tb.rows * tb.places
      here i k q l = omega (arith, mul-add-lt i tb.places k tb.rows q l)

      -- what stands outside the row, the length and the cell
      on : (q : ℕ) (x : ℤ) → ((k : ℕ) → k < length rest → (q ≢ cell_place b k) × (q ≢ val_place b k)) → Has m2 q x → Has (popped m b (length rest) p v) q x
      on q x d f = moved_other m2 b (length rest) q d ∙ f

      on2 : (q : ℕ) (x : ℤ) → q ≢ tb.lens + b → q ≢ p → Has m q x → Has m2 q x
      on2 q x d e f = has_kept m1 q (tb.lens + b) x (pos (length rest)) d (has_kept m q p x v e f)

      within : (i k : ℕ) (q : Pending) → i < tb.rows → slice_get (rows i) k ≡ Some q → k < tb.places
      within i k q l g = omega (arith, get_below (rows i) q k g, h.fits i l)

      fits_at : (i : ℕ) → i < tb.rows → (z : Bool) → length (pick z rest (rows i)) ≤ tb.places
      fits_at i q true = omega (arith, full)
      fits_at i q false = h.fits i q

      lens_at : (i : ℕ) → i < tb.rows → (z : Bool) → (i == b) ≡ z → Has (popped m b (length rest) p v) (tb.lens + i) (pos (length (pick z rest (rows i))))
      lens_at i q true e = subst (λ a. Has (popped m b (length rest) p v) (tb.lens + a) (pos (length rest))) (sym (is_b i b e))
          (on (tb.lens + b) (pos (length rest)) (λ k l. (omega (arith, full), omega (arith, full))) (has_new m1 (tb.lens + b) (pos (length rest)) (omega (arith, length-set m p v))))
      lens_at i q false e =
          let d = not_b i b e in
          on (tb.lens + i) (pos (length (rows i))) (λ k l. (omega (arith, full), omega (arith, full))) (on2 (tb.lens + i) (pos (length (rows i))) (λ f. d (omega (arith, full))) (omega (arith, full)) (h.lens i q))

      next : (k : ℕ) (q : Pending) → slice_get rest k ≡ Some q → slice_get (rows b) (k + 1) ≡ Some q
      next k q g = (let e : k + 1 ≡ suc k = omega (arith, full) in ap (λ j. slice_get (rows b) j) e) ∙ ap (λ xs. slice_get xs (suc k)) is ∙ g

      cells_at : (i k : ℕ) (q : Pending) → i < tb.rows → (z : Bool) → (i == b) ≡ z → slice_get (pick z rest (rows i)) k ≡ Some q → Has (popped m b (length rest) p v) (cell_place i k) (pos q.0)
      cells_at i k q l true e g = subst (λ a. Has (popped m b (length rest) p v) (cell_place a k) (pos q.0)) (sym (is_b i b e))
          (let lk = get_below rest q k g in
          moved_cell m2 b (length rest) k lb (omega (arith, full)) lk wide2
          ∙ on2 (cell_place b (k + 1)) (pos q.0) (omega (arith, full)) (omega (arith, full)) (h.cells b (k + 1) q lb (next k q g)))
      cells_at i k q l false e g =
          let w = within i k q l g in
          on (cell_place i k) (pos q.0) (λ j lj. ((λ f. apart tb.places i k b j w (omega (arith, full)) (not_b i b e) (omega (arith, full))), omega (arith, full, here i k l w))) (on2 (cell_place i k) (pos q.0) (omega (arith, full)) (omega (arith, full)) (h.cells i k q l g))

      vals_at : (i k : ℕ) (q : Pending) → i < tb.rows → (z : Bool) → (i == b) ≡ z → slice_get (pick z rest (rows i)) k ≡ Some q → Has (popped m b (length rest) p v) (val_place i k) q.1
      vals_at i k q l true e g = subst (λ a. Has (popped m b (length rest) p v) (val_place a k) q.1) (sym (is_b i b e))
          (let lk = get_below rest q k g in
          moved_val m2 b (length rest) k lb (omega (arith, full)) lk wide2
          ∙ on2 (val_place b (k + 1)) q.1 (omega (arith, full)) (omega (arith, full)) (h.vals b (k + 1) q lb (next k q g)))
      vals_at i k q l false e g =
          let w = within i k q l g in
          on (val_place i k) q.1 (λ j lj. (omega (arith, full, here b j lb (omega (arith, full))), (λ f. apart tb.places i k b j w (omega (arith, full)) (not_b i b e) (omega (arith, full))))) (on2 (val_place i k) q.1 (omega (arith, full)) (omega (arith, full)) (h.vals i k q l g))

-- ---- the state behind a flush

the_same : (c : ℕ) → (c == c) ≡ true
the_same c = grind arith

pub without_first : (c : ℕ) (v : ℤ) (rest : List Pending) → without ((c, v) ∷ rest) c ≡ rest
without_first c v rest = rw (the_same c) refl

module _ (tb : Table) (count size : ℕ) (home : ℕ → ℕ) (homes : Homes tb count size home) where
  pub mirrors_pop : (m : List ℤ) (a : View) (s : State) (t c : ℕ) (v : ℤ) (rest : List Pending) → Mirrors tb count size home a s → a.memory ≡ m → t < tb.rows → c < count → c < length s.memory → pending_of s t ≡ (c, v) ∷ rest →
      (b : View) → b.memory ≡ popped tb homes.lens homes.cells m t (length rest) (home c) v → Mirrors tb count size home b (flushed s t c v)
  unfolding flushed
  mirrors_pop m a s t c v rest like am below lc lm is b e =
      let old = like.size_is in let h1 = homes.lens in let h2 = homes.cells in let h3 = homes.vals in let hc = homes.before c lc in
      record {
        size_is = ap length e ∙ length_moved tb homes.lens homes.cells m2 t (length rest) ∙ length-set m1 (tb.lens + t) (pos (length rest)) ∙ length-set m (home c) v ∙ sym (ap length am) ∙ like.size_is;
        threads = length-set s.pending t _ ∙ like.threads;
        memory = λ i li. ap (λ (x : List ℤ). at_slot x (home i)) e ∙ at_home i li (i == c) refl;
        held = subst (λ x. Held tb x (pending_of (flushed s t c v))) (sym e)
            (held_same tb homes.lens homes.cells _ (updated (pending_of s) t rest) (pending_of (flushed s t c v)) (λ i q. same_rows i (i == t) refl)
            (held_pop tb homes.lens homes.cells m (pending_of s) t (home c) c v rest (subst (λ x. Held tb x (pending_of s)) am like.held) below hc is (let q = ap length am in omega arith)));
      }
    where
      m1 : List ℤ
      m1 = slice_set m (home c) v

      m2 : List ℤ
      m2 = slice_set m1 (tb.lens + t) (pos (length rest))

      same_rows : (i : ℕ) (x : Bool) → (i == t) ≡ x → pick x rest (pending_of s i) ≡ pending_of (flushed s t c v) i
      same_rows i true f = subst (λ j. rest ≡ pending_of (flushed s t c v) j) (sym (is_b i t f)) (sym (get_or-set_same s.pending t (without (pending_of s t) c) [] (let q = like.threads in omega arith) ∙ ap (λ ps. without ps c) is ∙ without_first c v rest))
      same_rows i false f = sym (get_or-set_other s.pending t i (without (pending_of s t) c) [] (not_b i t f))

      -- the cells of the program stand in front of the arrays
      on : (i : ℕ) → i < count → at_slot (popped tb homes.lens homes.cells m t (length rest) (home c) v) (home i) ≡ at_slot m1 (home i)
      on i li = let hi = homes.before i li in let h1 = homes.lens in let h2 = homes.cells in
          moved_other tb homes.lens homes.cells m2 t (length rest) (home i) (λ k q. (omega arith, omega arith)) ∙ get_or-set_other m1 (tb.lens + t) (home i) (pos (length rest)) (pos 0) (omega arith)

      at_home : (i : ℕ) → i < count → (x : Bool) → (i == c) ≡ x → at_slot (popped tb homes.lens homes.cells m t (length rest) (home c) v) (home i) ≡ at_slot (slice_set s.memory c v) i
      at_home i li true f = subst (λ j. at_slot (popped tb homes.lens homes.cells m t (length rest) (home c) v) (home j) ≡ at_slot (slice_set s.memory c v) j) (sym (is_b i c f))
          (on c lc ∙ get_or-set_same m (home c) v (pos 0) (let q = ap length am in let w = like.size_is in let hc = homes.before c lc in let h1 = homes.lens in let h2 = homes.cells in let h3 = homes.vals in omega arith) ∙ sym (get_or-set_same s.memory c v (pos 0) lm))
      at_home i li false f = let d = not_b i c f in
          on i li ∙ get_or-set_other m (home c) (home i) v (pos 0) (λ g. d (homes.apart i c li lc g)) ∙ ap (λ x. at_slot x (home i)) (sym am) ∙ like.memory i li ∙ sym (get_or-set_other s.memory c i v (pos 0) d)
