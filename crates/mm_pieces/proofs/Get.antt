-- What wm_get does under TSO, read like its text.
use Rattle.std.proofs.Common.{Option, None, subst, ◌≢◌, unwrap_or, arith, ◌≡◌, ℕ, zero, suc, ◌+◌, ◌*◌, ◌-◌, ◌^◌, ◌<◌, ◌≤◌, ℤ, pos, Bool, true, false, not, ◌==◌, if◌then◌else◌, List, [], ◌∷◌, length, Some, refl, ◌∙◌, ap, slice_set}
use Rattle.std.specs.Int.{w32, cast_unsigned}
use Rattle.std.specs.Prelude.{int_lt}
use Rattle.std.proofs.lemmas.Int.{ints}
use Rattle.std.proofs.lemmas.List.{length-set, get_or-set_same, get_or-set_other}
use Rattle.std.proofs.lemmas.Nat.{mul-add-lt}
use Rattle.mm_goto.specs.Value.{is_zero, binary_value}
use Rattle.mm_goto.specs.declared.pure.Binary.TheVariants as binary
use Rattle.mm_tree.specs.declared.expr.Expr.{Expr}
use Rattle.mm_tree.specs.declared.stmt.Stmt.{Stmt}
use Rattle.mm_words.specs.Words.{while, num, var, elem, minus, greater, equal, block, when, return, assign}
use Rattle.mm_helpers.specs.Helpers.{wm_t, wm_c, wm_j, wm_mem, wm_len, wm_cell, wm_val, in_row, tso_get}
use Rattle.mm_flow.specs.declared.names.Named.{Named}
use Rattle.mm_flow.specs.declared.names.Seen.{Seen}
use Rattle.mm_flow.specs.Scopes.{named, spot_of}
use Rattle.mm_flow.specs.Flow.{Home}
use Rattle.mm_flow.specs.Statements.{Within, scope}
use Rattle.mm_meaning.specs.Meaning.{View, Outcome, Done, Left}
use Rattle.mm_meaning.specs.Acting.{at_slot, let_local}
use Rattle.mm_meaning.proofs.Numbers.{sum_is, product_is, less_one, truth_zero}
use Rattle.mm_meaning.proofs.Gets.{Gets, num_gets, var_gets, bin_gets, elem_gets, gets_as}
use Rattle.mm_meaning.proofs.Does.{Does, DoesAll, nil, cons, ends, assigns, returns, plain}
use Rattle.mm_meaning.proofs.Loops.{blocks, declares, whiles, Turns, stop, turn, leave}
use Rattle.mm_meaning.proofs.Sized.{Sized, KnowsOne, num_sized, var_sized, bin_sized, elem_sized, knows_nil, knows_cons, assign_knows, return_knows, when_knows, block_knows}
use Rattle.mm_meaning.proofs.Branches.{when_not, when_so}
use Rattle.mm_pieces.specs.Calling.{body_of}
use Rattle.mm_pieces.specs.Mirroring.{Table, IsSmall, array_at, HasArrays}

pub is_equal : (x y : ℕ) → x < 2 ^ 31 → y < 2 ^ 31 → is_zero (binary_value binary.Eq (pos x) (pos y)) ≡ not (x == y)
is_equal x y h g = (let e : (cast_unsigned w32 (pos x) == cast_unsigned w32 (pos y)) ≡ (x == y) = grind (arith, ints) in truth_zero (cast_unsigned w32 (pos x) == cast_unsigned w32 (pos y)) ∙ ap not e)

pub above_zero : (x : ℕ) → is_zero (binary_value binary.Gt (pos (suc x)) (pos 0)) ≡ false
above_zero x = truth_zero _ ∙ ap not (let e : int_lt (pos 0) (pos (suc x)) ≡ true = grind arith in e)

-- the value of the newest of the first i stores that is to cell d
abbrev pub found : (cells : ℕ → ℕ) → (vals : ℕ → ℤ) → (d i : ℕ) → Option ℤ
found cells vals d zero = None
found cells vals d (suc i) = if cells i == d then Some (vals i) else found cells vals d i

-- but for wm_j and the local for what is returned, z is like a
pub record Same (slot lr : ℕ) (a z : View) : Type 0 where
  pub memory : z.memory ≡ a.memory
  pub inputs : z.inputs ≡ a.inputs
  pub many : length z.locals ≡ length a.locals
  pub locals : (r : ℕ) → r ≢ slot → r ≢ lr → at_slot z.locals r ≡ at_slot a.locals r

module _ (tb : Table) (few : IsSmall tb) (count mem : ℕ) (fuel : ℕ) (w : Within) (seen : Seen) (arrays : HasArrays tb w.parts.spots) (is_mem : spot_of w.parts.spots wm_mem ≡ Some (array_at wm_mem mem count)) (lt lc lr slot : ℕ) (t_below : lt < slot) (c_below : lc < slot) (r_below : lr < slot) (c_apart : lc ≢ lr) (is_ret : w.ret ≡ Some lr) (row d : ℕ) (below : row < tb.rows) (d_small : d < 2 ^ 31)
    (cells : ℕ → ℕ) (vals : ℕ → ℤ) (cells_small : (i : ℕ) → cells i < 2 ^ 31) where
  abbrev names : List Named
  names = named wm_t lt ∷ named wm_c lc ∷ named wm_j slot ∷ []

  abbrev m : ℕ
  m = slot + 1

  -- the first i stores of the row
  pub record Row_is (a : View) (i : ℕ) : Type 0 where
    pub is_t : at_slot a.locals lt ≡ pos row
    pub is_c : at_slot a.locals lc ≡ pos d
    pub is_j : at_slot a.locals slot ≡ pos i
    pub cells_are : (k : ℕ) → k < i → at_slot a.memory (tb.cells + (row * tb.places + k)) ≡ pos (cells k)
    pub vals_are : (k : ℕ) → k < i → at_slot a.memory (tb.vals + (row * tb.places + k)) ≡ vals k
    pub within : i ≤ tb.places
    pub wide : m ≤ length a.locals

  -- the newest of them to cell d is returned
  abbrev pub searched : View → ℕ → Outcome
  searched a zero = Done a
  searched a (suc i) = if cells i == d then Left Home (let_local (let_local a slot (pos i)) lr (vals i)) else searched (let_local a slot (pos i)) i

  place_gets : (a : View) (i k : ℕ) → i < tb.places → at_slot a.locals lt ≡ pos row → at_slot a.locals slot ≡ pos i → Gets fuel m a (scope w names) k k (in_row wm_t tb.places (var wm_j)) (pos (row * tb.places + i))
  place_gets a i k small is_t is_j =
      let inside = mul-add-lt row tb.places i tb.rows below small in let q = few.all in let h = few.rows in let f = few.places in
      gets_as (ap (λ x. binary_value binary.Add x (pos i)) (product_is row tb.places (omega arith) f (omega arith)) ∙ sum_is (row * tb.places) i (omega arith))
      (bin_gets binary.Add refl (λ x. refl) (bin_gets binary.Mul refl (λ x. refl) (gets_as is_t (var_gets k wm_t lt (omega arith) refl)) (num_gets k tb.places)) (gets_as is_j (var_gets k wm_j slot (omega arith) refl)))

  abbrev answer : List Stmt
  answer = return (elem wm_val (in_row wm_t tb.places (var wm_j))) ∷ []

  abbrev test : Expr
  test = equal (elem wm_cell (in_row wm_t tb.places (var wm_j))) (var wm_c)

  abbrev body : List Stmt
  body = assign wm_j (minus (var wm_j) (num 1)) ∷ when test answer ∷ []

  abbrev condition : Expr
  condition = greater (var wm_j) (num 0)

  test_gets : (b : View) (i k : ℕ) → i < tb.places → at_slot b.locals lt ≡ pos row → at_slot b.locals lc ≡ pos d → at_slot b.locals slot ≡ pos i → at_slot b.memory (tb.cells + (row * tb.places + i)) ≡ pos (cells i) → Gets fuel m b (scope w names) k (k + 1) test (binary_value binary.Eq (pos (cells i)) (pos d))
  test_gets b i k small is_t is_c is_j is_cell =
      let inside : row * tb.places + i < tb.rows * tb.places = (let h = mul-add-lt row tb.places i tb.rows below small in omega arith) in
      bin_gets binary.Eq refl (λ p. refl) (gets_as is_cell (elem_gets wm_cell (array_at wm_cell tb.cells (tb.rows * tb.places)) (row * tb.places + i) arrays.cells inside (place_gets b i k small is_t is_j))) (gets_as is_c (var_gets (k + 1) wm_c lc (omega arith) refl))

  place_sized : (k : ℕ) → Sized (scope w names) k k (in_row wm_t tb.places (var wm_j))
  place_sized k = bin_sized binary.Add refl (bin_sized binary.Mul refl (var_sized k wm_t lt refl) (num_sized k tb.places)) (var_sized k wm_j slot refl)

  answer_knows : (k : ℕ) → KnowsOne w names seen k seen (k + 1) (block answer)
  answer_knows k = block_knows (knows_cons (return_knows (elem_sized wm_val (place_sized k))) (knows_nil (k + 1)))

  test_sized : (k : ℕ) → Sized (scope w names) k (k + 1) test
  test_sized k = bin_sized binary.Eq refl (elem_sized wm_cell (place_sized k)) (var_sized (k + 1) wm_c lc refl)

  body_knows : (k : ℕ) → KnowsOne w names seen k seen (k + 1 + 1) (block body)
  body_knows k = block_knows (knows_cons (assign_knows wm_j slot refl (bin_sized binary.Sub refl (var_sized k wm_j slot refl) (num_sized k 1))) (knows_cons (when_knows (test_sized k) (answer_knows (k + 1))) (knows_nil (k + 1 + 1))))

  pub searches : (i turns k : ℕ) (a : View) → Row_is a i → i < turns → Turns fuel m w names seen k k (k + 1 + 1) condition (block body) turns a (searched a i)
  searches i zero k a r h = absurd (omega arith)
  searches zero (suc turns) k a r h = stop turns (bin_gets binary.Gt refl (λ p. refl) (gets_as r.is_j (var_gets k wm_j slot (omega arith) refl)) (num_gets k 0)) (omega arith) refl
  searches (suc i) (suc turns) k a r h = by (cells i == d) refl (λ q. searches i turns k (let_local a slot (pos i)) q (omega arith))
    where
      b : View
      b = let_local a slot (pos i)

      kt : at_slot (slice_set a.locals slot (pos i)) lt ≡ pos row
      kt = get_or-set_other a.locals slot lt (pos i) (pos 0) (omega arith) ∙ r.is_t

      kc : at_slot (slice_set a.locals slot (pos i)) lc ≡ pos d
      kc = get_or-set_other a.locals slot lc (pos i) (pos 0) (omega arith) ∙ r.is_c

      kj : at_slot (slice_set a.locals slot (pos i)) slot ≡ pos i
      kj = get_or-set_same a.locals slot (pos i) (pos 0) (let x = r.wide in omega arith)

      small : i < tb.places
      small = let x = r.within in omega arith

      inside : row * tb.places + i < tb.rows * tb.places
      inside = let x = mul-add-lt row tb.places i tb.rows below small in omega arith

      gt : Gets fuel m a (scope w names) k k condition (binary_value binary.Gt (pos (suc i)) (pos 0))
      gt = bin_gets binary.Gt refl (λ p. refl) (gets_as r.is_j (var_gets k wm_j slot (omega arith) refl)) (num_gets k 0)

      fewer : Does fuel m w names a seen k seen k (assign wm_j (minus (var wm_j) (num 1))) (Done (let_local a slot (pos i)))
      fewer = assigns wm_j slot refl r.wide (plain (gets_as (let f = few.places in let same : suc i - 1 ≡ i = omega arith in less_one (suc i) (omega arith) (omega arith) ∙ ap pos same) (bin_gets binary.Sub refl (λ p. refl) (gets_as r.is_j (var_gets k wm_j slot (omega arith) refl)) (num_gets k 1))))

      gives_it : Does fuel m w names (let_local a slot (pos i)) seen (k + 1) seen (k + 1 + 1) (block answer) (Left Home (let_local (let_local a slot (pos i)) lr (vals i)))
      gives_it = blocks (ends (returns lr is_ret (omega (arith, r.wide, length-set a.locals slot (pos i))) (plain (gets_as (r.vals_are i (omega arith)) (elem_gets wm_val (array_at wm_val tb.vals (tb.rows * tb.places)) (row * tb.places + i) arrays.vals inside (place_gets (let_local a slot (pos i)) i (k + 1) small kt kj))))) (λ go. refl) (knows_nil (k + 1 + 1)))

      tested : Gets fuel m (let_local a slot (pos i)) (scope w names) k (k + 1) test (binary_value binary.Eq (pos (cells i)) (pos d))
      tested = test_gets (let_local a slot (pos i)) i k small kt kc kj (r.cells_are i (omega arith))

      lower : Row_is (let_local a slot (pos i)) i
      lower = record { is_t = kt; is_c = kc; is_j = kj; cells_are = λ n q. r.cells_are n (omega arith); vals_are = λ n q. r.vals_are n (omega arith); within = omega arith; wide = omega (arith, r.wide, length-set a.locals slot (pos i)) }

      by : (x : Bool) → (cells i == d) ≡ x → (Row_is (let_local a slot (pos i)) i → Turns fuel m w names seen k k (k + 1 + 1) condition (block body) turns (let_local a slot (pos i)) (searched (let_local a slot (pos i)) i)) → Turns fuel m w names seen k k (k + 1 + 1) condition (block body) (suc turns) a (if x then Left Home (let_local (let_local a slot (pos i)) lr (vals i)) else searched (let_local a slot (pos i)) i)
      by true e on = leave turns gt (above_zero i) (blocks (cons fewer (length-set a.locals slot (pos i)) (ends (when_so (is_equal (cells i) d (cells_small i) d_small ∙ ap not e) tested gives_it) (λ go. refl) (knows_nil (k + 1 + 1))))) (λ g. refl)
      by false e on = turn turns gt (above_zero i) (blocks (cons fewer (length-set a.locals slot (pos i)) (cons (when_not (is_equal (cells i) d (cells_small i) d_small ∙ ap not e) tested (answer_knows (k + 1))) refl (nil (k + 1 + 1))))) (λ g. refl) (length-set a.locals slot (pos i)) (on lower)

  -- ---- the search's end

  same_on : (a b z : View) → Same slot lr a b → Same slot lr b z → Same slot lr a z
  same_on a b z p q = record { memory = q.memory ∙ p.memory; inputs = q.inputs ∙ p.inputs; many = q.many ∙ p.many; locals = λ r d e. q.locals r d e ∙ p.locals r d e }

  same_let : (a : View) (x : ℤ) → Same slot lr a (let_local a slot x)
  same_let a x = record { memory = refl; inputs = refl; many = length-set a.locals slot x; locals = λ r d e. get_or-set_other a.locals slot r x (pos 0) d }

  same_given : (a : View) (x : ℤ) → Same slot lr a (let_local a lr x)
  same_given a x = record { memory = refl; inputs = refl; many = length-set a.locals lr x; locals = λ r d e. get_or-set_other a.locals lr r x (pos 0) e }

  -- it returns what is found, or comes to its end
  abbrev pub Searched : View → Outcome → Option ℤ → Type 0
  Searched a o (Some x) = (z : View) × (o ≡ Left Home z) × Same slot lr a z × (at_slot z.locals lr ≡ x)
  Searched a o None = (b : View) × (o ≡ Done b) × Same slot lr a b

  search_end : (i : ℕ) (a : View) → m ≤ length a.locals → Searched a (searched a i) (found cells vals d i)
  search_end zero a wide = (a, refl, record { memory = refl; inputs = refl; many = refl; locals = λ r d e. refl })
  search_end (suc i) a wide = by (cells i == d) (found cells vals d i) (search_end i (let_local a slot (pos i)) (omega (arith, length-set a.locals slot (pos i))))
    where
      b : View
      b = let_local a slot (pos i)

      wider : (o : Outcome) (y : Option ℤ) → Searched (let_local a slot (pos i)) o y → Searched a o y
      wider o (Some y) h = (h.0, h.1, same_on a (let_local a slot (pos i)) h.0 (same_let a (pos i)) h.2, h.3)
      wider o None h = (h.0, h.1, same_on a (let_local a slot (pos i)) h.0 (same_let a (pos i)) h.2)

      by : (x : Bool) (y : Option ℤ) → Searched (let_local a slot (pos i)) (searched (let_local a slot (pos i)) i) y → Searched a (if x then Left Home (let_local (let_local a slot (pos i)) lr (vals i)) else searched (let_local a slot (pos i)) i) (if x then Some (vals i) else y)
      by true y h = (let_local (let_local a slot (pos i)) lr (vals i), refl, same_on a (let_local a slot (pos i)) _ (same_let a (pos i)) (same_given (let_local a slot (pos i)) (vals i)), get_or-set_same (slice_set a.locals slot (pos i)) lr (vals i) (pos 0) (omega (arith, length-set a.locals slot (pos i))))
      by false y h = wider (searched (let_local a slot (pos i)) i) y h

  -- ---- the whole

  pub get_does : (a : View) (n : ℕ) → at_slot a.locals lt ≡ pos row → at_slot a.locals lc ≡ pos d → at_slot a.memory (tb.lens + row) ≡ pos n → d < count → n ≤ tb.places → n < fuel → slot + 1 ≤ length a.locals →
      ((k : ℕ) → k < n → at_slot a.memory (tb.cells + (row * tb.places + k)) ≡ pos (cells k)) → ((k : ℕ) → k < n → at_slot a.memory (tb.vals + (row * tb.places + k)) ≡ vals k) →
      (z : View) × DoesAll fuel slot w (named wm_t lt ∷ named wm_c lc ∷ []) a seen slot seen (slot + 1 + 1 + 1 + 1 + 1) (body_of (tso_get tb.places)) (Left Home z) × Same slot lr a z × (at_slot z.locals lr ≡ unwrap_or (found cells vals d n) (at_slot a.memory (mem + d)))
  get_does a n is_t is_c is_len dc nk fueled wide cells_are vals_are = by (found cells vals d n) (searched a2 n) (search_end n a2 (omega (arith, wide2))) (searches n fuel (m + 1) a2 ready fueled)
    where
      a1 : View
      a1 = let_local a slot (pos 0)

      a2 : View
      a2 = let_local (let_local a slot (pos 0)) slot (pos n)

      wide2 : length (slice_set (slice_set a.locals slot (pos 0)) slot (pos n)) ≡ length a.locals
      wide2 = length-set (slice_set a.locals slot (pos 0)) slot (pos n) ∙ length-set a.locals slot (pos 0)

      t1 : at_slot (slice_set a.locals slot (pos 0)) lt ≡ pos row
      t1 = get_or-set_other a.locals slot lt (pos 0) (pos 0) (omega arith) ∙ is_t

      c1 : at_slot (slice_set a.locals slot (pos 0)) lc ≡ pos d
      c1 = get_or-set_other a.locals slot lc (pos 0) (pos 0) (omega arith) ∙ is_c

      t2 : at_slot (slice_set (slice_set a.locals slot (pos 0)) slot (pos n)) lt ≡ pos row
      t2 = get_or-set_other (slice_set a.locals slot (pos 0)) slot lt (pos n) (pos 0) (omega arith) ∙ t1

      c2 : at_slot (slice_set (slice_set a.locals slot (pos 0)) slot (pos n)) lc ≡ pos d
      c2 = get_or-set_other (slice_set a.locals slot (pos 0)) slot lc (pos n) (pos 0) (omega arith) ∙ c1

      ready : Row_is a2 n
      ready = record { is_t = t2; is_c = c2; is_j = get_or-set_same (slice_set a.locals slot (pos 0)) slot (pos n) (pos 0) (omega (arith, length-set a.locals slot (pos 0))); cells_are = cells_are; vals_are = vals_are; within = nk; wide = omega (arith, wide2) }

      first : Does fuel m w names (let_local a slot (pos 0)) seen m seen (m + 1) (assign wm_j (elem wm_len (var wm_t))) (Done (let_local (let_local a slot (pos 0)) slot (pos n)))
      first = assigns wm_j slot refl (omega (arith, length-set a.locals slot (pos 0))) (plain (gets_as is_len (elem_gets wm_len (array_at wm_len tb.lens tb.rows) row arrays.lens below (gets_as t1 (var_gets m wm_t lt (omega arith) refl)))))

      sized : Sized (scope w names) (m + 1) (m + 1) condition
      sized = bin_sized binary.Gt refl (var_sized (m + 1) wm_j slot refl) (num_sized (m + 1) 0)

      search : {o : Outcome} → Turns fuel m w names seen (m + 1) (m + 1) (m + 1 + 1 + 1) condition (block body) fuel a2 o → Does fuel m w names a2 seen (m + 1) seen (m + 1 + 1 + 1) (while condition body) o
      search = whiles sized.is (omega arith) (omega arith) (body_knows (m + 1)).known

      all_same : (z : View) → Same slot lr a2 z → Same slot lr a z
      all_same z q = same_on a a1 z (same_let a (pos 0)) (same_on a1 a2 z (same_let a1 (pos n)) q)

      by : (x : Option ℤ) (o : Outcome) → Searched a2 o x → Turns fuel m w names seen (m + 1) (m + 1) (m + 1 + 1 + 1) condition (block body) fuel a2 o →
          (z : View) × DoesAll fuel slot w (named wm_t lt ∷ named wm_c lc ∷ []) a seen slot seen (slot + 1 + 1 + 1 + 1 + 1) (body_of (tso_get tb.places)) (Left Home z) × Same slot lr a z × (at_slot z.locals lr ≡ unwrap_or x (at_slot a.memory (mem + d)))
      by (Some x) o h t = (
        h.0,
        declares false wm_j (cons first (length-set (slice_set a.locals slot (pos 0)) slot (pos n)) (ends (search (subst (λ y. Turns fuel m w names seen (m + 1) (m + 1) (m + 1 + 1 + 1) condition (block body) fuel a2 y) h.1 t)) (λ go. refl)
            (knows_cons (return_knows (elem_sized wm_mem (var_sized (m + 1 + 1 + 1) wm_c lc refl))) (knows_nil (m + 1 + 1 + 1 + 1))))),
        all_same h.0 h.2,
        h.3,
      )
      by None o h t = (
        let_local h.0 lr (at_slot a.memory (mem + d)),
        declares false wm_j (cons first (length-set (slice_set a.locals slot (pos 0)) slot (pos n)) (cons (search (subst (λ y. Turns fuel m w names seen (m + 1) (m + 1) (m + 1 + 1 + 1) condition (block body) fuel a2 y) h.1 t)) h.2.many
            (ends (returns lr is_ret (omega (arith, h.2.many, wide2)) (plain (gets_as (ap (λ (x : List ℤ). at_slot x (mem + d)) h.2.memory) (elem_gets wm_mem (array_at wm_mem mem count) d is_mem dc (gets_as (h.2.locals lc (omega arith) c_apart ∙ c2) (var_gets (m + 1 + 1 + 1) wm_c lc (omega arith) refl)))))) (λ go. refl) (knows_nil (m + 1 + 1 + 1 + 1))))),
        same_on a h.0 (let_local h.0 lr (at_slot a.memory (mem + d))) (all_same h.0 h.2) (same_given h.0 (at_slot a.memory (mem + d))),
        get_or-set_same h.0.locals lr (at_slot a.memory (mem + d)) (pos 0) (omega (arith, h.2.many, wide2)),
      )
