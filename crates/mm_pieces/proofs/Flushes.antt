-- A flush: wm_pop in the woven program, the oldest pending store of a thread in the machine.
use Rattle.std.proofs.Common.{arith, ◌≡◌, ℕ, zero, suc, ◌+◌, ◌*◌, ◌<◌, ◌≤◌, ◌≢◌, ℤ, pos, List, [], ◌∷◌, length, Some, refl, sym, ◌∙◌, ap, subst, slice_get, slice_set}
use Rattle.std.proofs.lemmas.List.{length-set, get_or-set_same, get_or-set_other}
use Rattle.std.proofs.lemmas.Nat.{mul-add-lt}
use Rattle.mm_sched.specs.State.{State, Pending, pending_of}
use Rattle.mm_sched.specs.Event.{flushed}
use Rattle.mm_tree.specs.declared.expr.Expr.{Expr}
use Rattle.mm_words.specs.Words.{call}
use Rattle.mm_helpers.specs.Helpers.{wm_mem, wm_pop}
use Rattle.mm_flow.specs.declared.names.Named.{Named}
use Rattle.mm_flow.specs.declared.names.Seen.{Seen}
use Rattle.mm_flow.specs.Scopes.{spot_of}
use Rattle.mm_flow.specs.Statements.{Within, function_of, bound, scope}
use Rattle.mm_meaning.specs.Meaning.{View, Done}
use Rattle.mm_meaning.specs.Acting.{at_slot}
use Rattle.mm_meaning.proofs.Looks.{Looks}
use Rattle.mm_meaning.proofs.Does.{Does}
use Rattle.mm_meaning.proofs.Calls.{Plain, PlainAll, no_args, arg, Called, entered, counted_before, calls}
use Rattle.mm_pieces.specs.Mirroring.{Table, IsSmall, array_at, HasArrays, Homes, Mirrors}
use Rattle.mm_pieces.specs.Calling.{Inlines, pop_function}
use Rattle.mm_pieces.proofs.Pop.{turned, taken, pop_does}
use Rattle.mm_pieces.proofs.Popped.{moved_up, moved_other, popped, mirrors_pop}

-- ---- memory behind the turns

module _ (tb : Table) (apart1 : tb.lens + tb.rows ≤ tb.cells) (apart2 : tb.cells + tb.rows * tb.places ≤ tb.vals) (slot row : ℕ) (below : row < tb.rows) where
  pub turned_memory : (a : View) (i : ℕ) → i < tb.places → (turned tb slot row a i).memory ≡ moved_up tb apart1 apart2 a.memory row i
  turned_memory a zero h = refl
  turned_memory a (suc i) h =
      ap (λ (m : List ℤ). (let n = slice_set m (tb.cells + (row * tb.places + i)) (at_slot m (tb.cells + (row * tb.places + i + 1))) in slice_set n (tb.vals + (row * tb.places + i)) (at_slot n (tb.vals + (row * tb.places + i + 1))))) (turned_memory a i (omega arith))
      ∙ both (moved_up tb apart1 apart2 a.memory row i) cell_is val_is
    where
      next : row * tb.places + (i + 1) < tb.rows * tb.places
      next = let e : i + 1 < tb.places = omega arith in let f = mul-add-lt row tb.places (i + 1) tb.rows below e in omega arith

      place : (first : ℕ) → first + (row * tb.places + i + 1) ≡ first + (row * tb.places + (i + 1))
      place first = omega arith

      cell_is : at_slot (moved_up tb apart1 apart2 a.memory row i) (tb.cells + (row * tb.places + i + 1)) ≡ at_slot a.memory (tb.cells + (row * tb.places + (i + 1)))
      cell_is = let n = next in moved_other tb apart1 apart2 a.memory row i (tb.cells + (row * tb.places + i + 1)) (λ k q. (omega arith, omega arith)) ∙ ap (at_slot a.memory) (place tb.cells)

      val_is : at_slot (moved_up tb apart1 apart2 a.memory row i) (tb.vals + (row * tb.places + i + 1)) ≡ at_slot a.memory (tb.vals + (row * tb.places + (i + 1)))
      val_is = let n = next in moved_other tb apart1 apart2 a.memory row i (tb.vals + (row * tb.places + i + 1)) (λ k q. (omega arith, omega arith)) ∙ ap (at_slot a.memory) (place tb.vals)

      both : (m : List ℤ) {x y : ℤ} → at_slot m (tb.cells + (row * tb.places + i + 1)) ≡ x → at_slot m (tb.vals + (row * tb.places + i + 1)) ≡ y →
          (let n = slice_set m (tb.cells + (row * tb.places + i)) (at_slot m (tb.cells + (row * tb.places + i + 1))) in slice_set n (tb.vals + (row * tb.places + i)) (at_slot n (tb.vals + (row * tb.places + i + 1))))
          ≡ slice_set (slice_set m (tb.cells + (row * tb.places + i)) x) (tb.vals + (row * tb.places + i)) y
      both m {x = x} {y = y} e f =
          let q = next in
          ap (λ z. slice_set (slice_set m (tb.cells + (row * tb.places + i)) (at_slot m (tb.cells + (row * tb.places + i + 1)))) (tb.vals + (row * tb.places + i)) z) (get_or-set_other m (tb.cells + (row * tb.places + i)) (tb.vals + (row * tb.places + i + 1)) _ (pos 0) (omega arith) ∙ f)
          ∙ ap (λ z. slice_set (slice_set m (tb.cells + (row * tb.places + i)) z) (tb.vals + (row * tb.places + i)) y) e

  -- the turns change no other local, and no input
  pub turned_inputs : (a : View) (i : ℕ) → (turned tb slot row a i).inputs ≡ a.inputs
  turned_inputs a zero = refl
  turned_inputs a (suc i) = turned_inputs a i

  pub turned_length : (a : View) (i : ℕ) → length (turned tb slot row a i).locals ≡ length a.locals
  turned_length a zero = refl
  turned_length a (suc i) = length-set (turned tb slot row a i).locals slot (pos (i + 1)) ∙ turned_length a i

  pub turned_local : (a : View) (i r : ℕ) → r ≢ slot → at_slot (turned tb slot row a i).locals r ≡ at_slot a.locals r
  turned_local a zero r d = refl
  turned_local a (suc i) r d = get_or-set_other (turned tb slot row a i).locals slot r (pos (i + 1)) (pos 0) d ∙ turned_local a i r d

-- ---- the call

module _ (tb : Table) (count size : ℕ) (home : ℕ → ℕ) (homes : Homes tb count size home) where
  module _ (small : IsSmall tb) (fuel m asserts mem : ℕ) (w : Within) (inner : ℕ → Within) (inlines : Inlines w inner) (arrays : (r : ℕ) → HasArrays tb (inner r).parts.spots) (is_mem : (r : ℕ) → spot_of (inner r).parts.spots wm_mem ≡ Some (array_at wm_mem mem count)) (mem_len : mem + count ≤ tb.lens) (items : function_of w.items w.parts.asserts wm_pop ≡ Some (pop_function tb.places asserts)) where
    -- the next fresh local behind the call
    abbrev pub pop_next : ℕ → ℕ
    pop_next k = k + 1 + 1 + 1 + 1 + 1 + 1 + 1 + 1 + 1

    -- the view behind the call
    abbrev pub pop_view : View → (t n c : ℕ) → ℤ → View
    pop_view a t n c v = record { memory = popped tb homes.lens homes.cells a.memory t n (home c) v; locals = a.locals; inputs = a.inputs }

    pub pop_agrees : (names : List Named) (seen : Seen) (a : View) (s : State) (t c k : ℕ) (v : ℤ) (rest : List Pending) (row : Expr) → Mirrors tb count size home a s → t < tb.rows → m ≤ k → pop_next k ≤ length a.locals → Plain fuel m a (scope w names) row (pos t) →
        pending_of s t ≡ (c, v) ∷ rest → c < count → home c ≡ mem + c → c < length s.memory → length rest < fuel →
        Does fuel m w names a seen k seen (pop_next k) (call wm_pop (row ∷ [])) (Done (pop_view a t (length rest) c v)) × Mirrors tb count size home (pop_view a t (length rest) c v) (flushed s t c v)
    pop_agrees names seen a s t c k v rest row like below mk room pr is cc_below moved in_memory fueled = (
      calls wm_pop (pop_function tb.places asserts) refl items args (λ l look. called l look),
      mirrors_pop tb count size home homes a.memory a s t c v rest like refl below cc_below in_memory is (pop_view a t (length rest) c v) refl,
    )
      where
        n : ℕ
        n = length rest

        slot : ℕ
        slot = k + 1 + 1

        counted : Seen
        counted = counted_before (pop_function tb.places asserts)

        args : PlainAll fuel m a (scope w names) (row ∷ []) (pos t ∷ [])
        args = arg pr no_args

        into : View → View
        into l = entered l k (pos t ∷ []) 1

        full : length rest + 1 ≤ tb.places
        full = let f = subst (λ xs. length xs ≤ tb.places) is (like.held.fits t below) in omega arith

        oldest : slice_get (pending_of s t) 0 ≡ Some (c, v)
        oldest = ap (λ ps. slice_get ps 0) is

        wide : (l : View) → Looks m l a → length (into l).locals ≡ length a.locals
        wide l look = length-set (slice_set l.locals k (pos t)) (k + 1) (pos 0) ∙ length-set l.locals k (pos t) ∙ look.many

        old : (l : View) → Looks m l a → (r : ℕ) → r < m → at_slot (into l).locals r ≡ at_slot a.locals r
        old l look r q = get_or-set_other (slice_set l.locals k (pos t)) (k + 1) r (pos 0) (pos 0) (omega arith) ∙ get_or-set_other l.locals k r (pos t) (pos 0) (omega arith) ∙ look.locals r q

        is_t : (l : View) → Looks m l a → at_slot (into l).locals k ≡ pos t
        is_t l look = get_or-set_other (slice_set l.locals k (pos t)) (k + 1) k (pos 0) (pos 0) (omega arith) ∙ get_or-set_same l.locals k (pos t) (pos 0) (omega (arith, look.many))

        is_len : at_slot a.memory (tb.lens + t) ≡ pos (length rest + 1)
        is_len = like.held.lens t below ∙ ap pos (ap length is ∙ (let e : length ((c, v) ∷ rest) ≡ length rest + 1 = omega arith in e))

        is_cell : at_slot a.memory (tb.cells + (t * tb.places)) ≡ pos c
        is_cell = subst (λ i. at_slot a.memory i ≡ pos c) (omega arith) (like.held.cells t 0 (c, v) below oldest)

        is_val : at_slot a.memory (tb.vals + (t * tb.places)) ≡ v
        is_val = subst (λ i. at_slot a.memory i ≡ v) (omega arith) (like.held.vals t 0 (c, v) below oldest)

        start : View → View
        start l = taken tb mem (k + 1 + 1) t (into l) c (length rest) v

        reached : (l : View) → Looks m l a → Looks m (turned tb (k + 1 + 1) t (start l) (length rest)) (pop_view a t (length rest) c v)
        reached l look = record {
          memory = turned_memory tb homes.lens homes.cells (k + 1 + 1) t below (start l) (length rest) (omega (arith, full))
              ∙ ap (λ (x : List ℤ). moved_up tb homes.lens homes.cells (slice_set (slice_set x (mem + c) v) (tb.lens + t) (pos (length rest))) t (length rest)) look.memory
              ∙ ap (λ i. popped tb homes.lens homes.cells a.memory t (length rest) i v) (sym moved);
          inputs = turned_inputs tb homes.lens homes.cells (k + 1 + 1) t below (start l) (length rest) ∙ look.inputs;
          many = turned_length tb homes.lens homes.cells (k + 1 + 1) t below (start l) (length rest) ∙ length-set _ (k + 1 + 1) (pos 0) ∙ length-set _ (k + 1 + 1) (pos 0) ∙ wide l look;
          locals = λ r q. turned_local tb homes.lens homes.cells (k + 1 + 1) t below (start l) (length rest) r (omega arith)
              ∙ get_or-set_other _ (k + 1 + 1) r (pos 0) (pos 0) (omega arith) ∙ get_or-set_other _ (k + 1 + 1) r (pos 0) (pos 0) (omega arith) ∙ old l look r q;
        }

        called : (l : View) → Looks m l a → Called fuel m w (pop_function tb.places asserts) k (pop_next k) (pos t ∷ []) l (Done (pop_view a t (length rest) c v))
        called l look = record {
          end = Done (turned tb (k + 1 + 1) t (start l) (length rest));
          body = record {
            inner = inner (k + 1);
            later = counted;
            is = inlines.by (pop_function tb.places asserts) (bound (pop_function tb.places asserts).params k) (k + 1 + 1) (k + 1);
            does = pop_does tb small count mem fuel (inner (k + 1)) counted (arrays (k + 1)) (is_mem (k + 1)) k (k + 1 + 1) (omega arith) mem_len homes.lens homes.cells t below (into l) c (length rest) v
                (is_t l look) (ap (λ (x : List ℤ). at_slot x (tb.lens + t)) look.memory ∙ is_len) (ap (λ (x : List ℤ). at_slot x (tb.cells + (t * tb.places))) look.memory ∙ is_cell) (ap (λ (x : List ℤ). at_slot x (tb.vals + (t * tb.places))) look.memory ∙ is_val)
                cc_below full fueled (omega (arith, wide l look)) (let h = homes.vals in let e = like.size_is in omega (arith, ap length look.memory));
          };
          like = reached l look;
        }
