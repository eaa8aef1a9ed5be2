-- What wm_pop does under PSO, read like its text.
use Rattle.std.proofs.Common.{arith, ◌≡◌, ℕ, zero, suc, ◌+◌, ◌*◌, ◌-◌, ◌<◌, ◌≤◌, ℤ, pos, false, not, List, [], ◌∷◌, length, Some, refl, sym, ◌∙◌, ap, subst, nat_lt}
use Rattle.std.proofs.lemmas.List.{length-set, get_or-set_same, get_or-set_other}
use Rattle.std.proofs.lemmas.Nat.{mul-add-lt}
use Rattle.std.proofs.lemmas.Bool.{lt-ltb, le-ltb}
use Rattle.mm_goto.specs.declared.ident.Ident.{Ident}
use Rattle.mm_goto.specs.Value.{value_of, binary_value}
use Rattle.mm_goto.specs.declared.pure.Pure.{Pure}
use Rattle.mm_tree.specs.Places.{nowhere}
use Rattle.mm_flow.specs.Expressions.{division_check}
use Rattle.mm_goto.specs.declared.pure.Binary.TheVariants as binary
use Rattle.mm_tree.specs.declared.expr.Expr.{Expr}
use Rattle.mm_tree.specs.declared.stmt.Stmt.{Stmt}
use Rattle.mm_words.specs.Words.{num, var, elem, times, modulo, less, block}
use Rattle.mm_helpers.specs.Helpers.{wm_b, wm_j, wm_mem, wm_len, wm_val, in_row, shift, step, pso_pop}
use Rattle.mm_flow.specs.declared.names.Named.{Named}
use Rattle.mm_flow.specs.declared.names.Seen.{Seen}
use Rattle.mm_flow.specs.Scopes.{named, spot_of}
use Rattle.mm_flow.specs.Statements.{Within, scope}
use Rattle.mm_meaning.specs.Meaning.{View, Done, Failed, pick, meaning}
use Rattle.mm_meaning.specs.Acting.{act, at_slot, let_cell, let_local}
use Rattle.mm_meaning.proofs.Numbers.{not_null, sum_is, product_is, less_one, truth_zero}
use Rattle.mm_meaning.proofs.Gets.{Gets, two_gets, num_gets, var_gets, bin_gets, elem_gets, gets_as}
use Rattle.mm_meaning.proofs.Does.{Does, DoesAll, nil, cons, assigns_elem, assigns, plain}
use Rattle.mm_meaning.proofs.Loops.{blocks, declares, Turns, stop, turn, whiles}
use Rattle.mm_meaning.proofs.Sized.{Sized, KnowsOne, num_sized, var_sized, bin_sized, elem_sized, knows_nil, knows_cons, assign_elem_knows, assign_knows, block_knows}
use Rattle.mm_pieces.specs.Mirroring.{array_at}
use Rattle.mm_pieces.specs.Parts.{PartTable, AreFew, HasPartArrays}
use Rattle.mm_pieces.specs.Calling.{body_of}

-- one turn in a row, and the view before the turn i
abbrev pub shifted_part : PartTable → ℕ → View → ℕ → View
shifted_part tb row a i = let_cell a (tb.vals + (row * tb.places + i)) (at_slot a.memory (tb.vals + (row * tb.places + i + 1)))

abbrev pub turned_part : PartTable → (slot row : ℕ) → View → ℕ → View
turned_part tb slot row a zero = a
turned_part tb slot row a (suc i) = let_local (shifted_part tb row (turned_part tb slot row a i) i) slot (pos (i + 1))

-- the view before the turns
abbrev pub taken_part : PartTable → (mem slot row : ℕ) → View → (c n : ℕ) → ℤ → View
taken_part tb mem slot row a c n v = let_local (let_cell (let_cell (let_local a slot (pos 0)) (mem + c) v) (tb.lens + row) (pos n)) slot (pos 0)

module _ (tb : PartTable) (few : AreFew tb) (mem fuel : ℕ) (w : Within) (seen : Seen) (arrays : HasPartArrays tb w.parts.spots) (is_mem : spot_of w.parts.spots wm_mem ≡ Some (array_at wm_mem mem tb.cells)) (lt slot : ℕ) (t_below : lt < slot)
    (mem_len : mem + tb.cells ≤ tb.lens) (len_val : tb.lens + tb.threads * tb.cells ≤ tb.vals) (row : ℕ) (below : row < tb.threads * tb.cells) where
  abbrev names : List Named
  names = named wm_b lt ∷ named wm_j slot ∷ []

  abbrev m : ℕ
  m = slot + 1

  row_gets : (a : View) → at_slot a.locals lt ≡ pos row → (k : ℕ) → Gets fuel m a (scope w names) k k (var wm_b) (pos row)
  row_gets a is k = gets_as is (var_gets k wm_b lt (omega arith) refl)

  len_gets : (a : View) → at_slot a.locals lt ≡ pos row → (k n : ℕ) → at_slot a.memory (tb.lens + row) ≡ pos n → Gets fuel m a (scope w names) k (k + 1) (elem wm_len (var wm_b)) (pos n)
  len_gets a is k n e = gets_as e (elem_gets wm_len (array_at wm_len tb.lens (tb.threads * tb.cells)) row arrays.lens below (row_gets a is k))

  base_gets : (a : View) → at_slot a.locals lt ≡ pos row → 1 ≤ tb.places → (k : ℕ) → Gets fuel m a (scope w names) k k (times (var wm_b) (num tb.places)) (pos (row * tb.places))
  base_gets a is some k =
      let inside = mul-add-lt row tb.places 0 (tb.threads * tb.cells) below (let x : 0 < tb.places = omega arith in x) in
      let h = few.rows in let f = few.places in let q = few.all in
      gets_as (product_is row tb.places (omega arith) f (omega arith)) (bin_gets binary.Mul refl (λ x. refl) (row_gets a is k) (num_gets k tb.places))

  -- (wm_b * K) + wm_j
  place_gets : (a : View) → at_slot a.locals lt ≡ pos row → (k i : ℕ) → i < tb.places → at_slot a.locals slot ≡ pos i → Gets fuel m a (scope w names) k k (in_row wm_b tb.places (var wm_j)) (pos (row * tb.places + i))
  place_gets a is k i small e =
      let inside = mul-add-lt row tb.places i (tb.threads * tb.cells) below small in let q = few.all in
      gets_as (sum_is (row * tb.places) i (omega arith)) (bin_gets binary.Add refl (λ x. refl) (base_gets a is (omega arith) k) (gets_as e (var_gets k wm_j slot (omega arith) refl)))

  -- x[i] = x[i + 1] in a row of the array from first on
  shift_does : (a : View) (x : Ident) (first k i : ℕ) → spot_of w.parts.spots x ≡ Some (array_at x first (tb.threads * tb.cells * tb.places)) → at_slot a.locals lt ≡ pos row → at_slot a.locals slot ≡ pos i → i + 1 < tb.places → Does fuel m w names a seen k seen (k + 1) (shift x wm_b tb.places) (Done (let_cell a (first + (row * tb.places + i)) (at_slot a.memory (first + (row * tb.places + i + 1)))))
  shift_does a x first k i is_x is_t is_j small =
      let inside : row * tb.places + (i + 1) < tb.threads * tb.cells * tb.places = (let h = mul-add-lt row tb.places (i + 1) (tb.threads * tb.cells) below small in omega arith) in let q = few.all in
      assigns_elem x (array_at x first (tb.threads * tb.cells * tb.places)) (row * tb.places + i) is_x (omega arith) (place_gets a is_t k i (omega arith) is_j)
      (elem_gets x (array_at x first (tb.threads * tb.cells * tb.places)) (row * tb.places + i + 1) is_x (omega arith) (gets_as (sum_is (row * tb.places + i) 1 (omega arith)) (bin_gets binary.Add refl (λ p. refl) (place_gets a is_t k i (omega arith) is_j) (num_gets k 1))))

  place_sized : (k : ℕ) → Sized (scope w names) k k (in_row wm_b tb.places (var wm_j))
  place_sized k = bin_sized binary.Add refl (bin_sized binary.Mul refl (var_sized k wm_b lt refl) (num_sized k tb.places)) (var_sized k wm_j slot refl)

  pub record Ready (a : View) (n i : ℕ) : Type 0 where
    pub is_t : at_slot a.locals lt ≡ pos row
    pub is_j : at_slot a.locals slot ≡ pos i
    pub is_len : at_slot a.memory (tb.lens + row) ≡ pos n
    pub wide : m ≤ length a.locals

  ready_on : (a : View) (n i : ℕ) → i + 1 < tb.places → Ready a n i → Ready (let_local (shifted_part tb row a i) slot (pos (i + 1))) n (i + 1)
  ready_on a n i small r = let inside = mul-add-lt row tb.places i (tb.threads * tb.cells) below (let x : i < tb.places = omega arith in x) in record {
    is_t = get_or-set_other a.locals slot lt (pos (i + 1)) (pos 0) (omega arith) ∙ r.is_t;
    is_j = get_or-set_same a.locals slot (pos (i + 1)) (pos 0) (let h = r.wide in omega arith);
    is_len = get_or-set_other a.memory (tb.vals + (row * tb.places + i)) (tb.lens + row) _ (pos 0) (omega arith) ∙ r.is_len;
    wide = let h = r.wide in omega (arith, length-set a.locals slot (pos (i + 1)));
  }

  abbrev body : List Stmt
  body = shift wm_val wm_b tb.places ∷ step wm_j ∷ []

  abbrev condition : Expr
  condition = less (var wm_j) (elem wm_len (var wm_b))

  condition_gets : (a : View) (n i k : ℕ) → Ready a n i → Gets fuel m a (scope w names) k (k + 1) condition (binary_value binary.Lt (pos i) (pos n))
  condition_gets a n i k r = bin_gets binary.Lt refl (λ p. refl) (gets_as r.is_j (var_gets k wm_j slot (omega arith) refl)) (len_gets a r.is_t k n r.is_len)

  turn_does : (a : View) (n i k : ℕ) → i + 1 < tb.places → Ready a n i → Does fuel m w names a seen k seen (k + 1) (block body) (Done (let_local (shifted_part tb row a i) slot (pos (i + 1))))
  turn_does a n i k small r =
      let f = few.places in
      blocks (cons (shift_does a wm_val tb.vals k i arrays.vals r.is_t r.is_j small) refl
      (cons (assigns wm_j slot refl r.wide (plain (gets_as (sum_is i 1 (omega arith)) (bin_gets binary.Add refl (λ p. refl) (gets_as r.is_j (var_gets (k + 1) wm_j slot (omega arith) refl)) (num_gets (k + 1) 1))))) (length-set a.locals slot (pos (i + 1)))
      (nil (k + 1))))

  -- d turns are left
  turns_do : (d n i k turns : ℕ) (a : View) → i + d ≡ n → n < tb.places → d < turns → Ready (turned_part tb slot row a i) n i → Turns fuel m w names seen k (k + 1) (k + 1 + 1) condition (block body) turns (turned_part tb slot row a i) (Done (turned_part tb slot row a n))
  turns_do d n i k zero a e small h r = absurd (omega arith)
  turns_do zero n i k (suc turns) a e small h r =
      let same : n ≡ i = omega arith in
      subst (λ z. Turns fuel m w names seen k (k + 1) (k + 1 + 1) condition (block body) (suc turns) (turned_part tb slot row a i) (Done (turned_part tb slot row a z))) (sym same)
      (stop turns (condition_gets (turned_part tb slot row a i) n i k r) (omega arith) (truth_zero (nat_lt i n) ∙ ap not (le-ltb i n (omega arith))))
  turns_do (suc d) n i k (suc turns) a e small h r =
      turn turns (condition_gets (turned_part tb slot row a i) n i k r) (truth_zero (nat_lt i n) ∙ ap not (lt-ltb i n (omega arith))) (turn_does (turned_part tb slot row a i) n i (k + 1) (omega arith) r) (λ g. refl) (length-set (turned_part tb slot row a i).locals slot (pos (i + 1)))
      (turns_do d n (suc i) k turns a (omega arith) small (omega arith) (ready_as (ready_on (turned_part tb slot row a i) n i (omega arith) r)))
    where
      ready_as : Ready (turned_part tb slot row a (suc i)) n (i + 1) → Ready (turned_part tb slot row a (suc i)) n (suc i)
      ready_as x = let same : i + 1 ≡ suc i = omega arith in subst (λ z. Ready (turned_part tb slot row a (suc i)) n z) same x

  length_turned_part : (a : View) (i : ℕ) → length (turned_part tb slot row a i).locals ≡ length a.locals
  length_turned_part a zero = refl
  length_turned_part a (suc i) = length-set (turned_part tb slot row a i).locals slot (pos (i + 1)) ∙ length_turned_part a i

  body_knows : (k : ℕ) → KnowsOne w names seen k seen (k + 1) (block body)
  body_knows k = block_knows
      (knows_cons (assign_elem_knows wm_val (place_sized k) (elem_sized wm_val (bin_sized binary.Add refl (place_sized k) (num_sized k 1))))
      (knows_cons (assign_knows wm_j slot refl (bin_sized binary.Add refl (var_sized (k + 1) wm_j slot refl) (num_sized (k + 1) 1)))
      (knows_nil (k + 1))))

  minus_one : (n : ℕ) → n + 1 ≤ tb.places → binary_value binary.Sub (pos (n + 1)) (pos 1) ≡ pos n
  minus_one n h = (let f = few.places in let same : n + 1 - 1 ≡ n = omega arith in less_one (n + 1) (omega arith) (omega arith) ∙ ap pos same)

  -- wm_b % cells
  cell_gets : (a : View) (c k : ℕ) → at_slot a.locals lt ≡ pos row → binary_value binary.Rem (pos row) (pos tb.cells) ≡ pos c → c < tb.cells → Gets fuel m a (scope w names) k k (modulo (var wm_b) (num tb.cells)) (pos c)
  cell_gets a c k is same cb = gets_as same (two_gets binary.Rem refl (λ p l e. check p l e) (row_gets a is k) (num_gets k tb.cells))
    where
      check : (p : Pure) (l : View) → value_of p l.locals ≡ pos tb.cells → meaning act (division_check binary.Rem nowhere p) fuel l ≡ Done l
      check p l e = (let h = few.cells in let n : tb.cells ≡ suc (tb.cells - 1) = omega arith in ap (λ z. pick z (Failed 0) (Done l)) (not_null p (tb.cells - 1) l.locals (e ∙ ap pos n) (omega arith)))

  pub pop_part_does : (a : View) (c n : ℕ) (v : ℤ) → at_slot a.locals lt ≡ pos row → at_slot a.memory (tb.lens + row) ≡ pos (n + 1) → at_slot a.memory (tb.vals + (row * tb.places)) ≡ v → binary_value binary.Rem (pos row) (pos tb.cells) ≡ pos c → c < tb.cells → n + 1 ≤ tb.places → n < fuel → slot + 1 ≤ length a.locals → tb.vals + tb.threads * tb.cells * tb.places ≤ length a.memory →
      DoesAll fuel slot w (named wm_b lt ∷ []) a seen slot seen (slot + 1 + 1 + 1 + 1 + 1) (body_of (pso_pop tb.cells tb.places)) (Done (turned_part tb slot row (taken_part tb mem slot row a c n v) n))
  pop_part_does a c n v is_t is_len is_val is_cell cb nk fueled wide many =
      let inside = mul-add-lt row tb.places 0 (tb.threads * tb.cells) below (let x : 0 < tb.places = omega arith in x) in let q = few.all in let f = few.places in
      let a0 = let_local a slot (pos 0) in
      let s1 = let_cell a0 (mem + c) v in
      let s2 = let_cell s1 (tb.lens + row) (pos n) in
      let t0 : at_slot a0.locals lt ≡ pos row = get_or-set_other a.locals slot lt (pos 0) (pos 0) (omega arith) ∙ is_t in
      let len1 : at_slot s1.memory (tb.lens + row) ≡ pos (n + 1) = get_or-set_other a.memory (mem + c) (tb.lens + row) v (pos 0) (omega arith) ∙ is_len in
      let ready : Ready (taken_part tb mem slot row a c n v) n 0 = record {
        is_t = get_or-set_other a0.locals slot lt (pos 0) (pos 0) (omega arith) ∙ t0;
        is_j = get_or-set_same a0.locals slot (pos 0) (pos 0) (omega (arith, length-set a.locals slot (pos 0)));
        is_len = get_or-set_same s1.memory (tb.lens + row) (pos n) (pos 0) (omega (arith, length-set a.memory (mem + c) v));
        wide = omega (arith, length-set a0.locals slot (pos 0), length-set a.locals slot (pos 0));
      } in
      declares false wm_j
      (cons (assigns_elem wm_mem (array_at wm_mem mem tb.cells) c is_mem cb (cell_gets a0 c m t0 is_cell cb) (gets_as is_val (elem_gets wm_val (array_at wm_val tb.vals (tb.threads * tb.cells * tb.places)) (row * tb.places) arrays.vals (omega arith) (base_gets a0 t0 (omega arith) m)))) refl
      (cons (assigns_elem wm_len (array_at wm_len tb.lens (tb.threads * tb.cells)) row arrays.lens below (row_gets s1 t0 (m + 1)) (gets_as (minus_one n nk) (bin_gets binary.Sub refl (λ p. refl) (len_gets s1 t0 (m + 1) (n + 1) len1) (num_gets (m + 1 + 1) 1)))) refl
      (cons (assigns wm_j slot refl (omega (arith, length-set a.locals slot (pos 0))) (plain (num_gets (m + 1 + 1) 0))) (length-set a0.locals slot (pos 0))
      (cons (whiles (condition_gets (taken_part tb mem slot row a c n v) n 0 (m + 1 + 1) ready).is.next (omega arith) (omega arith) (body_knows (m + 1 + 1 + 1)).known (turns_do n n 0 (m + 1 + 1) fuel (taken_part tb mem slot row a c n v) (omega arith) (omega arith) fueled ready)) (length_turned_part (taken_part tb mem slot row a c n v) n)
      (nil (m + 1 + 1 + 1 + 1))))))
