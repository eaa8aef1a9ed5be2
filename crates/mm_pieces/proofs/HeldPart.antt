-- One more pending store in a row of a thread and a cell.
use Rattle.std.proofs.Common.{arith, ◌≡◌, ℕ, ◌+◌, ◌*◌, ◌<◌, ◌≤◌, ◌≢◌, ⊎_elim, ℤ, pos, Bool, true, false, List, [], ◌∷◌, ◌++◌, length, length-append, Some, refl, sym, ◌∙◌, ap, subst, slice_get, slice_set, ◌==◌}
use Rattle.std.proofs.lemmas.List.{length-set, get_or-set_other}
use Rattle.mm_sched.specs.State.{State, Pending}
use Rattle.mm_sched.specs.Event.{pushed}
use Rattle.mm_meaning.specs.Meaning.{View, pick}
use Rattle.mm_meaning.specs.Acting.{at_slot}
use Rattle.mm_pieces.specs.Parts.{PartTable, Parts, parts_of, HeldParts, PartHomes, MirrorsParts}
use Rattle.mm_pieces.proofs.Held.{Has, has_kept, has_new, apart, get_past_front, get_below, is_b, not_b}
use Rattle.mm_pieces.proofs.PutPart.{row_below, place_below}
use Rattle.mm_pieces.proofs.Parting.{parts_pushed}

-- one list anew, that of row b
abbrev pub anew : PartTable → Parts → ℕ → List Pending → Parts
anew tb parts b r u c = pick (u * tb.cells + c == b) r (parts u c)

-- memory with one more value in row b of n values
abbrev pub with_value : PartTable → List ℤ → (b n : ℕ) → ℤ → List ℤ
with_value tb m b n v = slice_set (slice_set m (tb.vals + (b * tb.places + n)) v) (tb.lens + b) (pos (n + 1))

module _ (tb : PartTable) (behind : tb.lens + tb.threads * tb.cells ≤ tb.vals) where
  module _ (m : List ℤ) (b n : ℕ) (v : ℤ) (below : b < tb.threads * tb.cells) (room : n < tb.places) (wide : tb.vals + tb.threads * tb.cells * tb.places ≤ length m) where
    len_new : Has (with_value tb m b n v) (tb.lens + b) (pos (n + 1))
    len_new = has_new (slice_set m (tb.vals + (b * tb.places + n)) v) (tb.lens + b) (pos (n + 1)) (omega (arith, length-set m (tb.vals + (b * tb.places + n)) v))

    len_old : (i : ℕ) (x : ℤ) → i < tb.threads * tb.cells → i ≢ b → Has m (tb.lens + i) x → Has (with_value tb m b n v) (tb.lens + i) x
    len_old i x li d h = has_kept _ (tb.lens + i) (tb.lens + b) x (pos (n + 1)) (λ e. d (omega arith)) (has_kept m (tb.lens + i) (tb.vals + (b * tb.places + n)) x v (omega arith) h)

    val_new : Has (with_value tb m b n v) (tb.vals + (b * tb.places + n)) v
    val_new = has_kept _ (tb.vals + (b * tb.places + n)) (tb.lens + b) v (pos (n + 1)) (omega arith) (has_new m (tb.vals + (b * tb.places + n)) v (omega (arith, place_below tb b n below room)))

    val_old : (p : ℕ) (x : ℤ) → p ≢ b * tb.places + n → Has m (tb.vals + p) x → Has (with_value tb m b n v) (tb.vals + p) x
    val_old p x d h = has_kept _ (tb.vals + p) (tb.lens + b) x (pos (n + 1)) (omega arith) (has_kept m (tb.vals + p) (tb.vals + (b * tb.places + n)) x v (λ e. d (omega arith)) h)

  pub held_put_part : (m : List ℤ) (parts : Parts) (t c : ℕ) (v : ℤ) → HeldParts tb m parts → t < tb.threads → c < tb.cells → length (parts t c) < tb.places → tb.vals + tb.threads * tb.cells * tb.places ≤ length m →
      HeldParts tb (with_value tb m (t * tb.cells + c) (length (parts t c)) v) (anew tb parts (t * tb.cells + c) (parts t c ++ (c, v) ∷ []))
  held_put_part m parts t c v h lt lc room wide = record {
    fits = λ u d lu ld. fits_at u d lu ld (u * tb.cells + d == b);
    lens = λ u d lu ld. lens_at u d lu ld (u * tb.cells + d == b) refl;
    vals = λ u d k q lu ld g. vals_at u d k q lu ld (u * tb.cells + d == b) refl g;
  }
    where
      b : ℕ
      b = t * tb.cells + c

      r : List Pending
      r = parts t c ++ (c, v) ∷ []

      m2 : List ℤ
      m2 = with_value tb m (t * tb.cells + c) (length (parts t c)) v

      below : t * tb.cells + c < tb.threads * tb.cells
      below = row_below tb t c lt lc

      fits_at : (u d : ℕ) → u < tb.threads → d < tb.cells → (z : Bool) → length (pick z r (parts u d)) ≤ tb.places
      fits_at u d lu ld true = omega (arith, length-append (parts t c) ((c, v) ∷ []))
      fits_at u d lu ld false = h.fits u d lu ld

      lens_at : (u d : ℕ) → u < tb.threads → d < tb.cells → (z : Bool) → (u * tb.cells + d == t * tb.cells + c) ≡ z → Has m2 (tb.lens + (u * tb.cells + d)) (pos (length (pick z r (parts u d))))
      lens_at u d lu ld true e = subst (λ a. Has m2 (tb.lens + a) (pos (length r))) (sym (is_b (u * tb.cells + d) (t * tb.cells + c) e))
          (subst (λ a. Has m2 (tb.lens + (t * tb.cells + c)) (pos a)) (omega (arith, length-append (parts t c) ((c, v) ∷ []))) (len_new m (t * tb.cells + c) (length (parts t c)) v below room wide))
      lens_at u d lu ld false e = len_old m (t * tb.cells + c) (length (parts t c)) v below room wide (u * tb.cells + d) _ (row_below tb u d lu ld) (not_b (u * tb.cells + d) (t * tb.cells + c) e) (h.lens u d lu ld)

      vals_at : (u d k : ℕ) (q : Pending) → u < tb.threads → d < tb.cells → (z : Bool) → (u * tb.cells + d == t * tb.cells + c) ≡ z → slice_get (pick z r (parts u d)) k ≡ Some q → Has m2 (tb.vals + ((u * tb.cells + d) * tb.places + k)) q.1
      vals_at u d k q lu ld true e g = subst (λ a. Has m2 (tb.vals + (a * tb.places + k)) q.1) (sym (is_b (u * tb.cells + d) (t * tb.cells + c) e)) (⊎_elim
          (λ f. val_old m (t * tb.cells + c) (length (parts t c)) v below room wide ((t * tb.cells + c) * tb.places + k) q.1 (let x = get_below (parts t c) q k f in omega arith) (h.vals t c k q lt lc f))
          (λ f. subst (λ a. Has m2 (tb.vals + ((t * tb.cells + c) * tb.places + a)) q.1) (sym f.0) (subst (λ (a : Pending). Has m2 (tb.vals + ((t * tb.cells + c) * tb.places + length (parts t c))) a.1) (sym f.1) (val_new m (t * tb.cells + c) (length (parts t c)) v below room wide)))
          (get_past_front (parts t c) (c, v) q k g))
      vals_at u d k q lu ld false e g = val_old m (t * tb.cells + c) (length (parts t c)) v below room wide ((u * tb.cells + d) * tb.places + k) q.1
          (apart tb.places (u * tb.cells + d) k (t * tb.cells + c) (length (parts t c)) (omega (arith, get_below (parts u d) q k g, h.fits u d lu ld)) room (not_b (u * tb.cells + d) (t * tb.cells + c) e)) (h.vals u d k q lu ld g)

  pub parts_same : (m : List ℤ) (parts other : Parts) → ((u c : ℕ) → u < tb.threads → c < tb.cells → parts u c ≡ other u c) → HeldParts tb m parts → HeldParts tb m other
  parts_same m parts other same h = record {
    fits = λ u c lu lc. subst (λ r. length r ≤ tb.places) (same u c lu lc) (h.fits u c lu lc);
    lens = λ u c lu lc. subst (λ (r : List Pending). Has m (tb.lens + (u * tb.cells + c)) (pos (length r))) (same u c lu lc) (h.lens u c lu lc);
    vals = λ u c k q lu lc g. h.vals u c k q lu lc (ap (λ r. slice_get r k) (same u c lu lc) ∙ g);
  }

module _ (tb : PartTable) (size : ℕ) (home : ℕ → ℕ) (homes : PartHomes tb size home) where
  pub mirrors_put_part : (a : View) (s : State) (t c : ℕ) (v : ℤ) → MirrorsParts tb size home a s → t < tb.threads → c < tb.cells → length (parts_of s t c) < tb.places →
      (b : View) → b.memory ≡ with_value tb a.memory (t * tb.cells + c) (length (parts_of s t c)) v → MirrorsParts tb size home b (pushed s t c v)
  mirrors_put_part a s t c v like lt lc room b e =
      let below = row_below tb t c lt lc in let h1 = homes.lens in let h2 = homes.vals in
      record {
        size_is = ap length e ∙ length-set _ (tb.lens + (t * tb.cells + c)) _ ∙ length-set a.memory (tb.vals + ((t * tb.cells + c) * tb.places + length (parts_of s t c))) v ∙ like.size_is;
        threads = length-set s.pending t _ ∙ like.threads;
        memory = λ i li. ap (λ (x : List ℤ). at_slot x (home i)) e
            ∙ get_or-set_other _ (tb.lens + (t * tb.cells + c)) (home i) _ (pos 0) (let q = homes.before i li in omega arith)
            ∙ get_or-set_other a.memory (tb.vals + ((t * tb.cells + c) * tb.places + length (parts_of s t c))) (home i) v (pos 0) (let q = homes.before i li in omega arith)
            ∙ like.memory i li;
        held = subst (λ x. HeldParts tb x (parts_of (pushed s t c v))) (sym e)
            (parts_same tb homes.lens _ (anew tb (parts_of s) (t * tb.cells + c) (parts_of s t c ++ (c, v) ∷ [])) (parts_of (pushed s t c v)) (λ u d lu ld. parts_pushed tb s t c v u d (omega (arith, like.threads)) lc ld (u * tb.cells + d == t * tb.cells + c) refl)
            (held_put_part tb homes.lens a.memory (parts_of s) t c v like.held lt lc room (omega (arith, like.size_is))));
      }
