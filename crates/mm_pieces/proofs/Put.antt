-- What wm_put does under TSO, read like its text.
use Rattle.std.proofs.Common.{arith, ◌≡◌, ℕ, ◌+◌, ◌*◌, ◌<◌, ◌≤◌, ℤ, pos, true, false, not, List, [], ◌∷◌, refl, ◌∙◌, ap, nat_lt}
use Rattle.std.proofs.lemmas.List.{get_or-set_other}
use Rattle.std.proofs.lemmas.Nat.{mul-add-lt}
use Rattle.std.proofs.lemmas.Bool.{lt-ltb, le-ltb}
use Rattle.mm_goto.specs.Value.{is_zero, binary_value}
use Rattle.mm_goto.specs.declared.pure.Binary.TheVariants as binary
use Rattle.mm_tree.specs.declared.expr.Expr.{Expr}
use Rattle.mm_tree.specs.declared.stmt.Stmt.{Stmt}
use Rattle.mm_words.specs.Words.{var, elem}
use Rattle.mm_helpers.specs.Helpers.{wm_t, wm_c, wm_v, wm_len, wm_cell, wm_val, in_row, tso_put}
use Rattle.mm_flow.specs.declared.names.Named.{Named}
use Rattle.mm_flow.specs.declared.names.Seen.{Seen}
use Rattle.mm_flow.specs.Scopes.{named}
use Rattle.mm_flow.specs.Statements.{Within, scope}
use Rattle.mm_meaning.specs.Meaning.{View, Done, Halted}
use Rattle.mm_meaning.specs.Acting.{at_slot, let_cell}
use Rattle.mm_meaning.proofs.Numbers.{sum_is, product_is, truth_zero}
use Rattle.mm_meaning.proofs.Gets.{Gets, num_gets, var_gets, bin_gets, elem_gets, gets_as}
use Rattle.mm_meaning.proofs.Sized.{Sized, num_sized, var_sized, bin_sized, elem_sized, knows_nil, knows_cons, assign_elem_knows}
use Rattle.mm_meaning.proofs.Does.{DoesAll, Knows, nil, cons, ends, passes, halts, assigns_elem}
use Rattle.mm_pieces.specs.Calling.{body_of}
use Rattle.mm_pieces.specs.Mirroring.{Table, IsSmall, array_at, HasArrays}

abbrev pub rest_of : List Stmt → List Stmt
rest_of [] = []
rest_of (s ∷ ss) = ss

module _ (tb : Table) (few : IsSmall tb) (fuel m : ℕ) (w : Within) (arrays : HasArrays tb w.parts.spots) (lt lc lv : ℕ) (t_below : lt < m) (c_below : lc < m) (v_below : lv < m) where
  abbrev names : List Named
  names = named wm_t lt ∷ named wm_c lc ∷ named wm_v lv ∷ []

  module _ (a : View) (row : ℕ) (is_row : at_slot a.locals lt ≡ pos row) (below : row < tb.rows) where
    row_gets : (k : ℕ) → Gets fuel m a (scope w names) k k (var wm_t) (pos row)
    row_gets k = gets_as is_row (var_gets k wm_t lt t_below refl)

    -- wm_len[wm_t]
    len_gets : (k n : ℕ) → at_slot a.memory (tb.lens + row) ≡ pos n → Gets fuel m a (scope w names) k (k + 1) (elem wm_len (var wm_t)) (pos n)
    len_gets k n e = gets_as e (elem_gets wm_len (array_at wm_len tb.lens tb.rows) row arrays.lens below (row_gets k))

    -- (wm_t * K) + e
    place_gets : (k j i : ℕ) (e : Expr) → i < tb.places → Gets fuel m a (scope w names) k j e (pos i) → Gets fuel m a (scope w names) k j (in_row wm_t tb.places e) (pos (row * tb.places + i))
    place_gets k j i e small p =
        let inside = mul-add-lt row tb.places i tb.rows below small in
        let f = few.rows in let h = few.places in let q = few.all in
        gets_as (ap (λ x. binary_value binary.Add x (pos i)) (product_is row tb.places (omega arith) h (omega arith)) ∙ sum_is (row * tb.places) i (omega arith))
        (bin_gets binary.Add refl (λ x. refl) (bin_gets binary.Mul refl (λ x. refl) (row_gets k) (num_gets k tb.places)) p)

  module _ (seen : Seen) (len_cell : tb.lens + tb.rows ≤ tb.cells) (cell_val : tb.cells + tb.rows * tb.places ≤ tb.vals) where
    -- the arrays with one more store in the row
    abbrev pub put_in : View → (row n d : ℕ) → ℤ → View
    put_in a row n d x = let_cell (let_cell (let_cell a (tb.cells + (row * tb.places + n)) (pos d)) (tb.vals + (row * tb.places + n)) x) (tb.lens + row) (pos (n + 1))

    pub put_does : (a : View) (row n d k : ℕ) (x : ℤ) → at_slot a.locals lt ≡ pos row → at_slot a.locals lc ≡ pos d → at_slot a.locals lv ≡ x → at_slot a.memory (tb.lens + row) ≡ pos n → row < tb.rows → n < tb.places → DoesAll fuel m w names a seen k seen (k + 1 + 1 + 1 + 1) (body_of (tso_put tb.places)) (Done (put_in a row n d x))
    put_does a row n d k x ht hc hv hn below room =
        let inside : row * tb.places + n < tb.rows * tb.places = (let h = mul-add-lt row tb.places n tb.rows below room in omega arith) in
        let s1 = let_cell a (tb.cells + (row * tb.places + n)) (pos d) in
        let s2 = let_cell s1 (tb.vals + (row * tb.places + n)) x in
        let h1 : at_slot s1.memory (tb.lens + row) ≡ pos n = get_or-set_other a.memory (tb.cells + (row * tb.places + n)) (tb.lens + row) (pos d) (pos 0) (omega arith) ∙ hn in
        let h2 : at_slot s2.memory (tb.lens + row) ≡ pos n = get_or-set_other s1.memory (tb.vals + (row * tb.places + n)) (tb.lens + row) x (pos 0) (omega arith) ∙ h1 in
        let f = few.places in let q = few.all in
        cons (passes (test n room) (bin_gets binary.Lt refl (λ p. refl) (len_gets a row ht below k n hn) (num_gets (k + 1) tb.places))) refl
        (cons (assigns_elem wm_cell (array_at wm_cell tb.cells (tb.rows * tb.places)) (row * tb.places + n) arrays.cells inside (place_gets a row ht below (k + 1) (k + 1 + 1) n _ room (len_gets a row ht below (k + 1) n hn)) (gets_as hc (var_gets (k + 1 + 1) wm_c lc c_below refl))) refl
        (cons (assigns_elem wm_val (array_at wm_val tb.vals (tb.rows * tb.places)) (row * tb.places + n) arrays.vals inside (place_gets s1 row ht below (k + 1 + 1) (k + 1 + 1 + 1) n _ room (len_gets s1 row ht below (k + 1 + 1) n h1)) (gets_as hv (var_gets (k + 1 + 1 + 1) wm_v lv v_below refl))) refl
        (cons (assigns_elem wm_len (array_at wm_len tb.lens tb.rows) row arrays.lens below (row_gets s2 row ht below (k + 1 + 1 + 1)) (gets_as (sum_is n 1 (omega arith)) (bin_gets binary.Add refl (λ p. refl) (len_gets s2 row ht below (k + 1 + 1 + 1) n h2) (num_gets (k + 1 + 1 + 1 + 1) 1)))) refl
        (nil (k + 1 + 1 + 1 + 1)))))
      where
        test : (n : ℕ) → n < tb.places → is_zero (binary_value binary.Lt (pos n) (pos tb.places)) ≡ false
        test n h = truth_zero (nat_lt n tb.places) ∙ ap not (lt-ltb n tb.places h)

    len_sized : (k : ℕ) → Sized (scope w names) k (k + 1) (elem wm_len (var wm_t))
    len_sized k = elem_sized wm_len (var_sized k wm_t lt refl)

    place_sized : (k : ℕ) → Sized (scope w names) k (k + 1) (in_row wm_t tb.places (elem wm_len (var wm_t)))
    place_sized k = bin_sized binary.Add refl (bin_sized binary.Mul refl (var_sized k wm_t lt refl) (num_sized k tb.places)) (len_sized k)

    pub put_knows : (k : ℕ) → Knows w names seen (k + 1) seen (k + 1 + 1 + 1 + 1) (rest_of (body_of (tso_put tb.places)))
    put_knows k =
        knows_cons (assign_elem_knows wm_cell (place_sized (k + 1)) (var_sized (k + 1 + 1) wm_c lc refl))
        (knows_cons (assign_elem_knows wm_val (place_sized (k + 1 + 1)) (var_sized (k + 1 + 1 + 1) wm_v lv refl))
        (knows_cons (assign_elem_knows wm_len (var_sized (k + 1 + 1 + 1) wm_t lt refl) (bin_sized binary.Add refl (len_sized (k + 1 + 1 + 1)) (num_sized (k + 1 + 1 + 1 + 1) 1)))
        (knows_nil (k + 1 + 1 + 1 + 1))))

    pub put_halts : (a : View) (row n k : ℕ) → at_slot a.locals lt ≡ pos row → at_slot a.memory (tb.lens + row) ≡ pos n → row < tb.rows → tb.places ≤ n → DoesAll fuel m w names a seen k seen (k + 1 + 1 + 1 + 1) (body_of (tso_put tb.places)) Halted
    put_halts a row n k ht hn below full = ends (halts test (bin_gets binary.Lt refl (λ p. refl) (len_gets a row ht below k n hn) (num_gets (k + 1) tb.places))) (λ go. refl) (put_knows k)
      where
        test : is_zero (binary_value binary.Lt (pos n) (pos tb.places)) ≡ true
        test = truth_zero (nat_lt n tb.places) ∙ ap not (le-ltb n tb.places full)
