-- Behind wm_pop under PSO the arrays stand for the rows without the oldest store of one.
use Rattle.std.proofs.Common.{arith, ◌≡◌, ℕ, zero, suc, ◌+◌, ◌*◌, ◌<◌, ◌≤◌, ◌≢◌, ℤ, pos, Bool, true, false, List, ◌∷◌, length, Some, refl, sym, ◌∙◌, ap, subst, ⊎_elim, slice_get, slice_set, ◌==◌}
use Rattle.std.proofs.lemmas.List.{length-set, get_or-set_same, get_or-set_other}
use Rattle.std.proofs.lemmas.Bool.{cases_lt}
use Rattle.std.proofs.Math.Nat.{mul-le-mul_right}
use Rattle.mm_sched.specs.State.{State, Pending}
use Rattle.mm_sched.specs.Event.{flushed}
use Rattle.mm_meaning.specs.Meaning.{View, pick}
use Rattle.mm_meaning.specs.Acting.{at_slot}
use Rattle.mm_pieces.specs.Parts.{PartTable, Parts, parts_of, HeldParts, PartHomes, MirrorsParts}
use Rattle.mm_pieces.proofs.Held.{Has, has_kept, has_new, apart, get_below, is_b, not_b}
use Rattle.mm_pieces.proofs.PutPart.{row_below}
use Rattle.mm_pieces.proofs.HeldPart.{anew, parts_same}
use Rattle.mm_pieces.proofs.Parting.{parts_flushed}

-- the first j values of row b are those behind them
abbrev pub moved_part : PartTable → List ℤ → (b j : ℕ) → List ℤ
moved_part tb m b zero = m
moved_part tb m b (suc j) = slice_set (moved_part tb m b j) (tb.vals + (b * tb.places + j)) (at_slot m (tb.vals + (b * tb.places + (j + 1))))

-- memory behind wm_pop, where the row had one store more than n, the oldest to what is the cell p, of value v
abbrev pub popped_part : PartTable → List ℤ → (b n p : ℕ) → ℤ → List ℤ
popped_part tb m b n p v = moved_part tb (slice_set (slice_set m p v) (tb.lens + b) (pos n)) b n

module _ (tb : PartTable) where
  pub moved_part_other : (m : List ℤ) (b j i : ℕ) → ((k : ℕ) → k < j → i ≢ tb.vals + (b * tb.places + k)) → at_slot (moved_part tb m b j) i ≡ at_slot m i
  moved_part_other m b zero i h = refl
  moved_part_other m b (suc j) i h = has_kept _ i (tb.vals + (b * tb.places + j)) _ _ (h j (omega arith)) (moved_part_other m b j i (λ k q. h k (omega arith)))

  pub length_moved_part : (m : List ℤ) (b j : ℕ) → length (moved_part tb m b j) ≡ length m
  length_moved_part m b zero = refl
  length_moved_part m b (suc j) = length-set _ (tb.vals + (b * tb.places + j)) _ ∙ length_moved_part m b j

  pub moved_part_val : (m : List ℤ) (b j k : ℕ) → j < tb.places → k < j → tb.vals + (b * tb.places + tb.places) ≤ length m → Has (moved_part tb m b j) (tb.vals + (b * tb.places + k)) (at_slot m (tb.vals + (b * tb.places + (k + 1))))
  moved_part_val m b zero k lj h wide = absurd (omega arith)
  moved_part_val m b (suc j) k lj h wide = ⊎_elim
      (λ q. has_kept _ (tb.vals + (b * tb.places + k)) (tb.vals + (b * tb.places + j)) _ _ (omega arith) (moved_part_val m b j k (omega arith) q wide))
      (λ q. let e : k ≡ j = omega arith in subst (λ i. Has (moved_part tb m b (suc j)) (tb.vals + (b * tb.places + i)) (at_slot m (tb.vals + (b * tb.places + (i + 1))))) (sym e)
      (has_new (moved_part tb m b j) (tb.vals + (b * tb.places + j)) _ (omega (arith, length_moved_part m b j))))
      (cases_lt k j)

module _ (tb : PartTable) (behind : tb.lens + tb.threads * tb.cells ≤ tb.vals) where
  held_pop_part : (m : List ℤ) (parts : Parts) (t p c : ℕ) (v : ℤ) (rest : List Pending) → HeldParts tb m parts → t < tb.threads → c < tb.cells → p < tb.lens → parts t c ≡ (c, v) ∷ rest → tb.vals + tb.threads * tb.cells * tb.places ≤ length m →
      HeldParts tb (popped_part tb m (t * tb.cells + c) (length rest) p v) (anew tb parts (t * tb.cells + c) rest)
  held_pop_part m parts t p c v rest h lt lc lp is wide = record {
    fits = λ u d lu ld. fits_at u d lu ld (u * tb.cells + d == t * tb.cells + c);
    lens = λ u d lu ld. lens_at u d lu ld (u * tb.cells + d == t * tb.cells + c) refl;
    vals = λ u d k q lu ld g. vals_at u d k q lu ld (u * tb.cells + d == t * tb.cells + c) refl g;
  }
    where
      below : t * tb.cells + c < tb.threads * tb.cells
      below = row_below tb t c lt lc

      full : length rest + 1 ≤ tb.places
      full = let f = subst (λ xs. length xs ≤ tb.places) is (h.fits t c lt lc) in omega arith

      m1 : List ℤ
      m1 = slice_set m p v

      m2 : List ℤ
      m2 = slice_set (slice_set m p v) (tb.lens + (t * tb.cells + c)) (pos (length rest))

      m3 : List ℤ
      m3 = popped_part tb m (t * tb.cells + c) (length rest) p v

      wide2 : tb.vals + ((t * tb.cells + c) * tb.places + tb.places) ≤ length (slice_set (slice_set m p v) (tb.lens + (t * tb.cells + c)) (pos (length rest)))
      wide2 = let f : (t * tb.cells + c + 1) * tb.places ≤ tb.threads * tb.cells * tb.places = mul-le-mul_right tb.places (omega (arith, below)) in omega (arith, length-set (slice_set m p v) (tb.lens + (t * tb.cells + c)) (pos (length rest)), length-set m p v)

      on2 : (q : ℕ) (x : ℤ) → q ≢ tb.lens + (t * tb.cells + c) → q ≢ p → Has m q x → Has m2 q x
      on2 q x d e f = has_kept m1 q (tb.lens + (t * tb.cells + c)) x (pos (length rest)) d (has_kept m q p x v e f)

      fits_at : (u d : ℕ) → u < tb.threads → d < tb.cells → (z : Bool) → length (pick z rest (parts u d)) ≤ tb.places
      fits_at u d lu ld true = omega (arith, full)
      fits_at u d lu ld false = h.fits u d lu ld

      lens_at : (u d : ℕ) → u < tb.threads → d < tb.cells → (z : Bool) → (u * tb.cells + d == t * tb.cells + c) ≡ z → Has m3 (tb.lens + (u * tb.cells + d)) (pos (length (pick z rest (parts u d))))
      lens_at u d lu ld true e = subst (λ a. Has m3 (tb.lens + a) (pos (length rest))) (sym (is_b (u * tb.cells + d) (t * tb.cells + c) e))
          (moved_part_other tb m2 (t * tb.cells + c) (length rest) (tb.lens + (t * tb.cells + c)) (λ k l. omega (arith, below)) ∙ has_new m1 (tb.lens + (t * tb.cells + c)) (pos (length rest)) (omega (arith, below, length-set m p v)))
      lens_at u d lu ld false e =
          let r = row_below tb u d lu ld in let n = not_b (u * tb.cells + d) (t * tb.cells + c) e in
          moved_part_other tb m2 (t * tb.cells + c) (length rest) (tb.lens + (u * tb.cells + d)) (λ k l. omega arith) ∙ on2 (tb.lens + (u * tb.cells + d)) _ (λ f. n (omega arith)) (omega arith) (h.lens u d lu ld)

      next : (k : ℕ) (q : Pending) → slice_get rest k ≡ Some q → slice_get (parts t c) (k + 1) ≡ Some q
      next k q g = (let e : k + 1 ≡ suc k = omega arith in ap (λ j. slice_get (parts t c) j) e) ∙ ap (λ xs. slice_get xs (suc k)) is ∙ g

      vals_at : (u d k : ℕ) (q : Pending) → u < tb.threads → d < tb.cells → (z : Bool) → (u * tb.cells + d == t * tb.cells + c) ≡ z → slice_get (pick z rest (parts u d)) k ≡ Some q → Has m3 (tb.vals + ((u * tb.cells + d) * tb.places + k)) q.1
      vals_at u d k q lu ld true e g = subst (λ a. Has m3 (tb.vals + (a * tb.places + k)) q.1) (sym (is_b (u * tb.cells + d) (t * tb.cells + c) e))
          (let lk = get_below rest q k g in let lb = below in
          moved_part_val tb m2 (t * tb.cells + c) (length rest) k (omega (arith, full)) lk wide2
          ∙ on2 (tb.vals + ((t * tb.cells + c) * tb.places + (k + 1))) q.1 (omega arith) (omega arith) (h.vals t c (k + 1) q lt lc (next k q g)))
      vals_at u d k q lu ld false e g =
          let lb = below in let fl = full in
          let w : k < tb.places = omega (arith, get_below (parts u d) q k g, h.fits u d lu ld) in
          moved_part_other tb m2 (t * tb.cells + c) (length rest) (tb.vals + ((u * tb.cells + d) * tb.places + k)) (λ j lj. (λ f. apart tb.places (u * tb.cells + d) k (t * tb.cells + c) j w (omega arith) (not_b (u * tb.cells + d) (t * tb.cells + c) e) (omega arith)))
          ∙ on2 (tb.vals + ((u * tb.cells + d) * tb.places + k)) q.1 (omega arith) (omega arith) (h.vals u d k q lu ld g)

module _ (tb : PartTable) (size : ℕ) (home : ℕ → ℕ) (homes : PartHomes tb size home) where
  pub mirrors_pop_part : (a : View) (s : State) (t c : ℕ) (v : ℤ) (rest : List Pending) → MirrorsParts tb size home a s → t < tb.threads → c < tb.cells → c < length s.memory → parts_of s t c ≡ (c, v) ∷ rest →
      (b : View) → b.memory ≡ popped_part tb a.memory (t * tb.cells + c) (length rest) (home c) v → MirrorsParts tb size home b (flushed s t c v)
  unfolding flushed
  mirrors_pop_part a s t c v rest like lt lc lm is b e =
      let old = like.size_is in let h1 = homes.lens in let h2 = homes.vals in let hc = homes.before c lc in
      record {
        size_is = ap length e ∙ length_moved_part tb m2 (t * tb.cells + c) (length rest) ∙ length-set m1 (tb.lens + (t * tb.cells + c)) (pos (length rest)) ∙ length-set a.memory (home c) v ∙ like.size_is;
        threads = length-set s.pending t _ ∙ like.threads;
        memory = λ i li. ap (λ (x : List ℤ). at_slot x (home i)) e ∙ at_home i li (i == c) refl;
        held = subst (λ x. HeldParts tb x (parts_of (flushed s t c v))) (sym e)
            (parts_same tb homes.lens _ (anew tb (parts_of s) (t * tb.cells + c) rest) (parts_of (flushed s t c v)) (λ u d lu ld. parts_flushed tb s t c v rest u d (omega (arith, like.threads)) lc ld is (u * tb.cells + d == t * tb.cells + c) refl)
            (held_pop_part tb homes.lens a.memory (parts_of s) t (home c) c v rest like.held lt lc hc is (omega arith)));
      }
    where
      m1 : List ℤ
      m1 = slice_set a.memory (home c) v

      m2 : List ℤ
      m2 = slice_set (slice_set a.memory (home c) v) (tb.lens + (t * tb.cells + c)) (pos (length rest))

      -- the cells of the program stand in front of the arrays
      on : (i : ℕ) → i < tb.cells → at_slot (popped_part tb a.memory (t * tb.cells + c) (length rest) (home c) v) (home i) ≡ at_slot (slice_set a.memory (home c) v) (home i)
      on i li = let hi = homes.before i li in let h1 = homes.lens in
          moved_part_other tb m2 (t * tb.cells + c) (length rest) (home i) (λ k q. omega arith) ∙ get_or-set_other m1 (tb.lens + (t * tb.cells + c)) (home i) (pos (length rest)) (pos 0) (omega arith)

      at_home : (i : ℕ) → i < tb.cells → (x : Bool) → (i == c) ≡ x → at_slot (popped_part tb a.memory (t * tb.cells + c) (length rest) (home c) v) (home i) ≡ at_slot (slice_set s.memory c v) i
      at_home i li true f = subst (λ j. at_slot (popped_part tb a.memory (t * tb.cells + c) (length rest) (home c) v) (home j) ≡ at_slot (slice_set s.memory c v) j) (sym (is_b i c f))
          (on c lc ∙ get_or-set_same a.memory (home c) v (pos 0) (let w = like.size_is in let hc = homes.before c lc in let h1 = homes.lens in let h2 = homes.vals in omega arith) ∙ sym (get_or-set_same s.memory c v (pos 0) lm))
      at_home i li false f = let d = not_b i c f in
          on i li ∙ get_or-set_other a.memory (home c) (home i) v (pos 0) (λ g. d (homes.apart i c li lc g)) ∙ like.memory i li ∙ sym (get_or-set_other s.memory c i v (pos 0) d)
