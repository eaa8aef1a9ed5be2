-- What wm_get does under PSO, read like its text.
use Rattle.std.proofs.Common.{arith, ◌≡◌, ℕ, zero, suc, ◌+◌, ◌*◌, ◌-◌, ◌<◌, ◌≤◌, ℤ, pos, false, List, [], ◌∷◌, length, Some, refl, ◌∙◌, ap, slice_set}
use Rattle.std.proofs.lemmas.List.{length-set, get_or-set_same, get_or-set_other}
use Rattle.std.proofs.Math.Nat.{mul-le-mul_right}
use Rattle.mm_goto.specs.Value.{binary_value}
use Rattle.mm_goto.specs.declared.pure.Binary.TheVariants as binary
use Rattle.mm_tree.specs.declared.stmt.Stmt.{Stmt}
use Rattle.mm_words.specs.Words.{var, elem, num, minus, greater, block, return, assign}
use Rattle.mm_helpers.specs.Helpers.{wm_t, wm_c, wm_b, wm_len, wm_val, wm_mem, in_row, pso_get}
use Rattle.mm_flow.specs.declared.names.Named.{Named}
use Rattle.mm_flow.specs.declared.names.Seen.{Seen}
use Rattle.mm_flow.specs.Flow.{Home}
use Rattle.mm_flow.specs.Scopes.{named, spot_of}
use Rattle.mm_flow.specs.Statements.{Within, scope}
use Rattle.mm_meaning.specs.Meaning.{View, Done, Left}
use Rattle.mm_meaning.specs.Acting.{at_slot, let_local}
use Rattle.mm_meaning.proofs.Numbers.{less_one}
use Rattle.mm_meaning.proofs.Gets.{Gets, num_gets, var_gets, bin_gets, elem_gets, gets_as}
use Rattle.mm_meaning.proofs.Sized.{KnowsOne, num_sized, var_sized, bin_sized, elem_sized, knows_nil, knows_cons, block_knows, return_knows}
use Rattle.mm_meaning.proofs.Does.{Does, DoesAll, cons, ends, assigns, returns, plain}
use Rattle.mm_meaning.proofs.Branches.{when_not, when_so}
use Rattle.mm_meaning.proofs.Loops.{blocks, declares}
use Rattle.mm_pieces.specs.Calling.{body_of}
use Rattle.mm_pieces.specs.Mirroring.{array_at}
use Rattle.mm_pieces.specs.Parts.{PartTable, AreFew, HasPartArrays}
use Rattle.mm_pieces.proofs.Get.{above_zero}
use Rattle.mm_pieces.proofs.PutPart.{in_row_gets, rows_fit, in_row_end_gets, row_below}

module _ (tb : PartTable) (few : AreFew tb) (fuel mem : ℕ) (w : Within) (seen : Seen) (arrays : HasPartArrays tb w.parts.spots) (is_mem : spot_of w.parts.spots wm_mem ≡ Some (array_at wm_mem mem tb.cells)) (lt lc lr slot : ℕ) (t_below : lt < slot) (c_below : lc < slot) (r_below : lr < slot) (is_ret : w.ret ≡ Some lr) (t c : ℕ) (lt_t : t < tb.threads) (lt_c : c < tb.cells) where
  abbrev names : List Named
  names = named wm_t lt ∷ named wm_c lc ∷ named wm_b slot ∷ []

  abbrev m : ℕ
  m = slot + 1

  -- wm_b is the row of the thread and the cell
  abbrev pub got_row : View → View
  got_row a = let_local (let_local a slot (pos 0)) slot (pos (t * tb.cells + c))

  -- the last value of a row of n values, or else what memory holds
  abbrev pub got : View → ℕ → ℤ
  got a zero = at_slot a.memory (mem + c)
  got a (suc i) = at_slot a.memory (tb.vals + ((t * tb.cells + c) * tb.places + i))

  module _ (a : View) (wide : slot + 1 ≤ length a.locals) where
    wide2 : length (got_row a).locals ≡ length a.locals
    wide2 = length-set (slice_set a.locals slot (pos 0)) slot (pos (t * tb.cells + c)) ∙ length-set a.locals slot (pos 0)

    kept : (r : ℕ) → r < slot → at_slot (got_row a).locals r ≡ at_slot a.locals r
    kept r h = get_or-set_other (slice_set a.locals slot (pos 0)) slot r (pos (t * tb.cells + c)) (pos 0) (omega arith) ∙ get_or-set_other a.locals slot r (pos 0) (pos 0) (omega arith)

    b_gets : (k : ℕ) → Gets fuel m (got_row a) (scope w names) k k (var wm_b) (pos (t * tb.cells + c))
    b_gets k = gets_as (get_or-set_same (slice_set a.locals slot (pos 0)) slot (pos (t * tb.cells + c)) (pos 0) (omega (arith, length-set a.locals slot (pos 0)))) (var_gets k wm_b slot (omega arith) refl)

    len_gets : (k n : ℕ) → at_slot a.memory (tb.lens + (t * tb.cells + c)) ≡ pos n → Gets fuel m (got_row a) (scope w names) k (k + 1) (elem wm_len (var wm_b)) (pos n)
    len_gets k n e = gets_as e (elem_gets wm_len (array_at wm_len tb.lens (tb.threads * tb.cells)) (t * tb.cells + c) arrays.lens (row_below tb t c lt_t lt_c) (b_gets k))

    -- wm_b = (wm_t * cells) + wm_c;
    row_does : (k : ℕ) → at_slot a.locals lt ≡ pos t → at_slot a.locals lc ≡ pos c → Does fuel m w names (let_local a slot (pos 0)) seen k seen k (assign wm_b (in_row wm_t tb.cells (var wm_c))) (Done (got_row a))
    row_does k ht hc = assigns wm_b slot refl (omega (arith, length-set a.locals slot (pos 0))) (plain (in_row_gets wm_t tb.threads tb.cells t c refl lt_t lt_c few.threads few.cells (rows_fit few)
        (gets_as (get_or-set_other a.locals slot lt (pos 0) (pos 0) (omega arith) ∙ ht) (var_gets k wm_t lt (omega arith) refl))
        (gets_as (get_or-set_other a.locals slot lc (pos 0) (pos 0) (omega arith) ∙ hc) (var_gets k wm_c lc (omega arith) refl))))

    test_gets : (k n : ℕ) → at_slot a.memory (tb.lens + (t * tb.cells + c)) ≡ pos n → Gets fuel m (got_row a) (scope w names) k (k + 1) (greater (elem wm_len (var wm_b)) (num 0)) (binary_value binary.Gt (pos n) (pos 0))
    test_gets k n e = bin_gets binary.Gt refl (λ p. refl) (len_gets k n e) (num_gets (k + 1) 0)

  abbrev answer : List Stmt
  answer = return (elem wm_val (minus (in_row wm_b tb.places (elem wm_len (var wm_b))) (num 1))) ∷ []

  answer_knows : (k : ℕ) → KnowsOne w names seen k seen (k + 1 + 1) (block answer)
  answer_knows k = block_knows (knows_cons (return_knows (elem_sized wm_val (bin_sized binary.Sub refl (bin_sized binary.Add refl (bin_sized binary.Mul refl (var_sized k wm_b slot refl) (num_sized k tb.places)) (elem_sized wm_len (var_sized k wm_b slot refl))) (num_sized (k + 1) 1)))) (knows_nil (k + 1 + 1)))

  -- the last place of a row that is not empty
  last_place : (i : ℕ) → suc i ≤ tb.places → ((t * tb.cells + c) * tb.places + i < tb.threads * tb.cells * tb.places) × (binary_value binary.Sub (pos ((t * tb.cells + c) * tb.places + suc i)) (pos 1) ≡ pos ((t * tb.cells + c) * tb.places + i))
  last_place i h =
      let below = row_below tb t c lt_t lt_c in
      let inside : (t * tb.cells + c + 1) * tb.places ≤ tb.threads * tb.cells * tb.places = mul-le-mul_right tb.places (omega arith) in
      let f = few.all in let same : (t * tb.cells + c) * tb.places + suc i - 1 ≡ (t * tb.cells + c) * tb.places + i = omega arith in
      (omega arith, less_one ((t * tb.cells + c) * tb.places + suc i) (omega arith) (omega arith) ∙ ap pos same)

  pub get_part_does : (a : View) (n : ℕ) → at_slot a.locals lt ≡ pos t → at_slot a.locals lc ≡ pos c → at_slot a.memory (tb.lens + (t * tb.cells + c)) ≡ pos n → n ≤ tb.places → slot + 1 ≤ length a.locals →
      DoesAll fuel slot w (named wm_t lt ∷ named wm_c lc ∷ []) a seen slot seen (slot + 1 + 1 + 1 + 1 + 1) (body_of (pso_get tb.cells tb.places)) (Left Home (let_local (got_row a) lr (got a n)))
  get_part_does a zero ht hc hn full wide =
      declares false wm_b (cons (row_does a wide m ht hc) (length-set (slice_set a.locals slot (pos 0)) slot (pos (t * tb.cells + c)))
      (cons (when_not refl (test_gets a wide m 0 hn) (answer_knows (m + 1))) refl
      (ends (returns lr is_ret (omega (arith, wide2 a wide)) (plain (elem_gets wm_mem (array_at wm_mem mem tb.cells) c is_mem lt_c (gets_as (kept a wide lc c_below ∙ hc) (var_gets (m + 1 + 1 + 1) wm_c lc (omega arith) refl))))) (λ go. refl) (knows_nil (m + 1 + 1 + 1 + 1)))))
  get_part_does a (suc i) ht hc hn full wide =
      declares false wm_b (cons (row_does a wide m ht hc) (length-set (slice_set a.locals slot (pos 0)) slot (pos (t * tb.cells + c)))
      (ends (when_so (above_zero i) (test_gets a wide m (suc i) hn) (blocks (ends (returns lr is_ret (omega (arith, wide2 a wide)) (plain (elem_gets wm_val (array_at wm_val tb.vals (tb.threads * tb.cells * tb.places)) ((t * tb.cells + c) * tb.places + i) arrays.vals (last_place i full).0
      (gets_as (last_place i full).1 (bin_gets binary.Sub refl (λ p. refl)
      (in_row_end_gets wm_b (tb.threads * tb.cells) tb.places (t * tb.cells + c) (suc i) refl (row_below tb t c lt_t lt_c) full few.rows few.places few.all (b_gets a wide (m + 1)) (len_gets a wide (m + 1) (suc i) hn))
      (num_gets (m + 1 + 1) 1)))))) (λ go. refl) (knows_nil (m + 1 + 1 + 1))))) (λ go. refl)
      (knows_cons (return_knows (elem_sized wm_mem (var_sized (m + 1 + 1 + 1) wm_c lc refl))) (knows_nil (m + 1 + 1 + 1 + 1)))))
