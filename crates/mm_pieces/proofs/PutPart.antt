-- What wm_put does under PSO, read like its text.
use Rattle.std.proofs.Common.{arith, ◌≡◌, ℕ, ◌+◌, ◌*◌, ◌^◌, ◌<◌, ◌≤◌, ℤ, pos, false, true, not, List, [], ◌∷◌, length, refl, ◌∙◌, ap, nat_lt, slice_set}
use Rattle.std.proofs.lemmas.List.{length-set, get_or-set_same, get_or-set_other}
use Rattle.std.proofs.lemmas.Nat.{mul-add-lt}
use Rattle.std.proofs.lemmas.Bool.{lt-ltb, le-ltb}
use Rattle.std.proofs.Math.Nat.{mul-le-mul_right}
use Rattle.mm_goto.specs.Value.{is_zero, binary_value}
use Rattle.mm_goto.specs.declared.ident.Ident.{Ident}
use Rattle.mm_goto.specs.declared.pure.Binary.TheVariants as binary
use Rattle.mm_tree.specs.declared.expr.Expr.{Expr}
use Rattle.mm_words.specs.Words.{var, elem, num, plus, assign, assign_elem}
use Rattle.mm_helpers.specs.Helpers.{wm_t, wm_c, wm_v, wm_b, wm_len, wm_val, in_row, pso_put}
use Rattle.mm_flow.specs.declared.names.Named.{Named}
use Rattle.mm_flow.specs.declared.names.Seen.{Seen}
use Rattle.mm_flow.specs.Scopes.{named}
use Rattle.mm_flow.specs.Expressions.{Scope, reading, joining}
use Rattle.mm_flow.specs.declared.names.Joining.TheVariants.{Both}
use Rattle.mm_flow.specs.Statements.{Within, scope}
use Rattle.mm_meaning.specs.Meaning.{View, Done, Halted}
use Rattle.mm_meaning.specs.Acting.{at_slot, let_cell, let_local}
use Rattle.mm_meaning.proofs.Numbers.{sum_is, product_is, truth_zero}
use Rattle.mm_meaning.proofs.Gets.{Gets, num_gets, var_gets, bin_gets, elem_gets, gets_as}
use Rattle.mm_meaning.proofs.Sized.{Sized, num_sized, var_sized, bin_sized, elem_sized, knows_nil, knows_cons, assign_elem_knows}
use Rattle.mm_meaning.proofs.Does.{Does, DoesAll, Knows, nil, cons, ends, passes, halts, assigns, assigns_elem, plain}
use Rattle.mm_meaning.proofs.Loops.{declares}
use Rattle.mm_pieces.specs.Calling.{body_of}
use Rattle.mm_pieces.specs.Mirroring.{array_at}
use Rattle.mm_pieces.specs.Parts.{PartTable, AreFew, HasPartArrays}

pub rows_fit : {t : PartTable} → AreFew t → t.threads * t.cells < 2 ^ 16
rows_fit few = let h = few.rows in omega arith

-- (x * K) + e, in a table of n rows of K, or at a row's end
pub in_row_end_gets : {fuel m k j : ℕ} {a : View} {s : Scope} {e : Expr} (x : Ident) (n K i d : ℕ) → joining binary.Add ((reading e).has_code s) ≡ Both → i < n → d ≤ K → n < 2 ^ 15 → K < 2 ^ 15 → n * K < 2 ^ 16 → Gets fuel m a s k k (var x) (pos i) → Gets fuel m a s k j e (pos d) → Gets fuel m a s k j (in_row x K e) (pos (i * K + d))
in_row_end_gets {k = k} x n K i d quiet below small f g h p q =
    let inside : (i + 1) * K ≤ n * K = mul-le-mul_right K (omega arith) in
    gets_as (ap (λ z. binary_value binary.Add z (pos d)) (product_is i K (omega arith) g (omega arith)) ∙ sum_is (i * K) d (omega arith))
    (bin_gets binary.Add quiet (λ z. refl) (bin_gets binary.Mul refl (λ z. refl) p (num_gets k K)) q)

pub in_row_gets : {fuel m k j : ℕ} {a : View} {s : Scope} {e : Expr} (x : Ident) (n K i d : ℕ) → joining binary.Add ((reading e).has_code s) ≡ Both → i < n → d < K → n < 2 ^ 15 → K < 2 ^ 15 → n * K < 2 ^ 16 → Gets fuel m a s k k (var x) (pos i) → Gets fuel m a s k j e (pos d) → Gets fuel m a s k j (in_row x K e) (pos (i * K + d))
in_row_gets x n K i d quiet below small f g h p q = in_row_end_gets x n K i d quiet below (omega arith) f g h p q

-- the row of thread t and cell c
pub row_below : (tb : PartTable) (t c : ℕ) → t < tb.threads → c < tb.cells → t * tb.cells + c < tb.threads * tb.cells
row_below tb t c h g = let x = mul-add-lt t tb.cells c tb.threads h g in omega arith

-- the places of a row
pub place_below : (tb : PartTable) (b n : ℕ) → b < tb.threads * tb.cells → n < tb.places → b * tb.places + n < tb.threads * tb.cells * tb.places
place_below tb b n h g = let x = mul-add-lt b tb.places n (tb.threads * tb.cells) h g in omega arith

module _ (tb : PartTable) (few : AreFew tb) (fuel : ℕ) (w : Within) (arrays : HasPartArrays tb w.parts.spots) (lt lc lv slot : ℕ) (t_below : lt < slot) (c_below : lc < slot) (v_below : lv < slot) where
  abbrev names : List Named
  names = named wm_t lt ∷ named wm_c lc ∷ named wm_v lv ∷ named wm_b slot ∷ []

  abbrev m : ℕ
  m = slot + 1

  module _ (a : View) (b : ℕ) (is_b : at_slot a.locals slot ≡ pos b) (below : b < tb.threads * tb.cells) where
    b_gets : (k : ℕ) → Gets fuel m a (scope w names) k k (var wm_b) (pos b)
    b_gets k = gets_as is_b (var_gets k wm_b slot (omega arith) refl)

    -- wm_len[wm_b]
    len_gets : (k n : ℕ) → at_slot a.memory (tb.lens + b) ≡ pos n → Gets fuel m a (scope w names) k (k + 1) (elem wm_len (var wm_b)) (pos n)
    len_gets k n e = gets_as e (elem_gets wm_len (array_at wm_len tb.lens (tb.threads * tb.cells)) b arrays.lens below (b_gets k))

  module _ (seen : Seen) (len_val : tb.lens + tb.threads * tb.cells ≤ tb.vals) where
    -- wm_b is the row of the thread and the cell
    abbrev pub with_row : View → ℕ → View
    with_row a b = let_local (let_local a slot (pos 0)) slot (pos b)

    -- the arrays with one more store in the row
    abbrev pub put_part_in : View → (b n : ℕ) → ℤ → View
    put_part_in a b n x = let_cell (let_cell (with_row a b) (tb.vals + (b * tb.places + n)) x) (tb.lens + b) (pos (n + 1))

    wide : (a : View) → slot + 1 ≤ length a.locals → m ≤ length (slice_set a.locals slot (pos 0))
    wide a h = omega (arith, length-set a.locals slot (pos 0))

    is_row : (a : View) (b : ℕ) → slot + 1 ≤ length a.locals → at_slot (with_row a b).locals slot ≡ pos b
    is_row a b h = get_or-set_same (slice_set a.locals slot (pos 0)) slot (pos b) (pos 0) (omega (arith, length-set a.locals slot (pos 0)))

    kept : (a : View) (b r : ℕ) → r < slot → at_slot (with_row a b).locals r ≡ at_slot a.locals r
    kept a b r h = get_or-set_other (slice_set a.locals slot (pos 0)) slot r (pos b) (pos 0) (omega arith) ∙ get_or-set_other a.locals slot r (pos 0) (pos 0) (omega arith)

    -- wm_b = (wm_t * cells) + wm_c;
    row_does : (a : View) (t c k : ℕ) → at_slot a.locals lt ≡ pos t → at_slot a.locals lc ≡ pos c → t < tb.threads → c < tb.cells → slot + 1 ≤ length a.locals →
        Does fuel m w names (let_local a slot (pos 0)) seen k seen k (assign wm_b (in_row wm_t tb.cells (var wm_c))) (Done (with_row a (t * tb.cells + c)))
    row_does a t c k ht hc lt_t lt_c h = assigns wm_b slot refl (wide a h) (plain (in_row_gets wm_t tb.threads tb.cells t c refl lt_t lt_c few.threads few.cells (rows_fit few)
        (gets_as (get_or-set_other a.locals slot lt (pos 0) (pos 0) (omega arith) ∙ ht) (var_gets k wm_t lt (omega arith) refl))
        (gets_as (get_or-set_other a.locals slot lc (pos 0) (pos 0) (omega arith) ∙ hc) (var_gets k wm_c lc (omega arith) refl))))

    pub put_part_does : (a : View) (t c n : ℕ) (x : ℤ) → at_slot a.locals lt ≡ pos t → at_slot a.locals lc ≡ pos c → at_slot a.locals lv ≡ x → at_slot a.memory (tb.lens + (t * tb.cells + c)) ≡ pos n → t < tb.threads → c < tb.cells → n < tb.places → slot + 1 ≤ length a.locals →
        DoesAll fuel slot w (named wm_t lt ∷ named wm_c lc ∷ named wm_v lv ∷ []) a seen slot seen (slot + 1 + 1 + 1 + 1) (body_of (pso_put tb.cells tb.places)) (Done (put_part_in a (t * tb.cells + c) n x))
    put_part_does a t c n x ht hc hv hn lt_t lt_c room h =
        let below = row_below tb t c lt_t lt_c in
        let inside = place_below tb (t * tb.cells + c) n below room in
        let s0 = with_row a (t * tb.cells + c) in
        let s1 = let_cell s0 (tb.vals + ((t * tb.cells + c) * tb.places + n)) x in
        let h1 : at_slot s1.memory (tb.lens + (t * tb.cells + c)) ≡ pos n = get_or-set_other a.memory (tb.vals + ((t * tb.cells + c) * tb.places + n)) (tb.lens + (t * tb.cells + c)) x (pos 0) (omega arith) ∙ hn in
        let rb = is_row a (t * tb.cells + c) h in
        let f = few.places in
        declares false wm_b
        (cons (row_does a t c m ht hc lt_t lt_c h) (length-set (slice_set a.locals slot (pos 0)) slot (pos (t * tb.cells + c)))
        (cons (passes (test n room) (bin_gets binary.Lt refl (λ p. refl) (len_gets s0 (t * tb.cells + c) rb below m n hn) (num_gets (m + 1) tb.places))) refl
        (cons (assigns_elem wm_val (array_at wm_val tb.vals (tb.threads * tb.cells * tb.places)) ((t * tb.cells + c) * tb.places + n) arrays.vals inside
        (in_row_gets wm_b (tb.threads * tb.cells) tb.places (t * tb.cells + c) n refl below room few.rows few.places few.all (b_gets s0 (t * tb.cells + c) rb below (m + 1)) (len_gets s0 (t * tb.cells + c) rb below (m + 1) n hn))
        (gets_as (kept a (t * tb.cells + c) lv v_below ∙ hv) (var_gets (m + 1 + 1) wm_v lv (omega arith) refl))) refl
        (cons (assigns_elem wm_len (array_at wm_len tb.lens (tb.threads * tb.cells)) (t * tb.cells + c) arrays.lens below (b_gets s1 (t * tb.cells + c) rb below (m + 1 + 1)) (gets_as (sum_is n 1 (omega arith)) (bin_gets binary.Add refl (λ p. refl) (len_gets s1 (t * tb.cells + c) rb below (m + 1 + 1) n h1) (num_gets (m + 1 + 1 + 1) 1)))) refl
        (nil (m + 1 + 1 + 1))))))
      where
        test : (n : ℕ) → n < tb.places → is_zero (binary_value binary.Lt (pos n) (pos tb.places)) ≡ false
        test n h = truth_zero (nat_lt n tb.places) ∙ ap not (lt-ltb n tb.places h)

    len_sized : (k : ℕ) → Sized (scope w names) k (k + 1) (elem wm_len (var wm_b))
    len_sized k = elem_sized wm_len (var_sized k wm_b slot refl)

    put_part_knows : (k : ℕ) → Knows w names seen k seen (k + 1 + 1) (assign_elem wm_val (in_row wm_b tb.places (elem wm_len (var wm_b))) (var wm_v) ∷ assign_elem wm_len (var wm_b) (plus (elem wm_len (var wm_b)) (num 1)) ∷ [])
    put_part_knows k = knows_cons (assign_elem_knows wm_val (bin_sized binary.Add refl (bin_sized binary.Mul refl (var_sized k wm_b slot refl) (num_sized k tb.places)) (len_sized k)) (var_sized (k + 1) wm_v lv refl))
        (knows_cons (assign_elem_knows wm_len (var_sized (k + 1) wm_b slot refl) (bin_sized binary.Add refl (len_sized (k + 1)) (num_sized (k + 1 + 1) 1)))
        (knows_nil (k + 1 + 1)))

    pub put_part_halts : (a : View) (t c n : ℕ) → at_slot a.locals lt ≡ pos t → at_slot a.locals lc ≡ pos c → at_slot a.memory (tb.lens + (t * tb.cells + c)) ≡ pos n → t < tb.threads → c < tb.cells → tb.places ≤ n → slot + 1 ≤ length a.locals →
        DoesAll fuel slot w (named wm_t lt ∷ named wm_c lc ∷ named wm_v lv ∷ []) a seen slot seen (slot + 1 + 1 + 1 + 1) (body_of (pso_put tb.cells tb.places)) Halted
    put_part_halts a t c n ht hc hn lt_t lt_c full h =
        declares false wm_b
        (cons (row_does a t c m ht hc lt_t lt_c h) (length-set (slice_set a.locals slot (pos 0)) slot (pos (t * tb.cells + c)))
        (ends (halts test (bin_gets binary.Lt refl (λ p. refl) (len_gets (with_row a (t * tb.cells + c)) (t * tb.cells + c) (is_row a (t * tb.cells + c) h) (row_below tb t c lt_t lt_c) m n hn) (num_gets (m + 1) tb.places))) (λ go. refl) (put_part_knows (m + 1))))
      where
        test : is_zero (binary_value binary.Lt (pos n) (pos tb.places)) ≡ true
        test = truth_zero (nat_lt n tb.places) ∙ ap not (le-ltb n tb.places full)
