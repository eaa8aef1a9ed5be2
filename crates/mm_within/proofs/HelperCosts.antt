-- What the helpers of a woven program weigh.
use Rattle.std.proofs.Common.{arith, ◌≡◌, ℕ, suc, ◌+◌, ◌≤◌, ◌||◌, true, false, List, [], ◌∷◌, length, refl, ◌∙◌, ap}
use Rattle.std.specs.List.{AllByRecursion}
use Rattle.mm_goto.specs.declared.ident.Ident.{Ident}
use Rattle.mm_goto.specs.declared.pure.Binary.TheVariants as binary
use Rattle.mm_tree.specs.declared.expr.Expr.{Expr}
use Rattle.mm_tree.specs.declared.item.Item.{Item}
use Rattle.mm_flow.specs.Programs.{body_of, body_in, nests}
use Rattle.mm_flow.specs.Statements.{is_input}
use Rattle.mm_flow.specs.Text.{mentions, calls as called, calls_in}
use Rattle.mm_words.specs.Words.{num, var, elem, plus, minus, times, less, greater, equal, assign_elem, assume}
use Rattle.mm_helpers.specs.Helpers.{wm_mem, wm_len, wm_cell, wm_val, nondet_wm, wm_pop, wm_flush, wm_empty, wm_put, wm_get, wm_set, wm_t, wm_c, wm_v, wm_b, wm_j, wm_n, in_row, step, shift, flush, tso_pop, tso_empty, tso_put, tso_get, tso_set, pso_pop, pso_empty, pso_put, pso_get, pso_set}
use Rattle.mm_within.proofs.Accounts.{params_of, params_in, calls_at}
use Rattle.mm_within.proofs.Costs.{is_local}
use Rattle.mm_within.proofs.Weights.{Calls, body_weight}
use Rattle.mm_within.proofs.WordCosts.{Priced, priced_num, priced_local, priced_elem, priced_any, Joins, priced_bin, priced_none, priced_next, One, Runs, runs_next, runs_more, runs_one, one_assign, one_assign_elem, Callable, one_call, one_input, one_declare, one_assume, one_when, one_while, one_return}

-- ---- operators

-- a + b
pub joins_add : Joins binary.Add
joins_add = record { both = λ b. refl; whole = refl }

-- a - b
pub joins_sub : Joins binary.Sub
joins_sub = record { both = λ b. refl; whole = refl }

-- a * b
joins_mul : Joins binary.Mul
joins_mul = record { both = λ b. refl; whole = refl }

-- a == b
pub joins_eq : Joins binary.Eq
joins_eq = record { both = λ b. refl; whole = refl }

-- a != b
joins_ne : Joins binary.Ne
joins_ne = record { both = λ b. refl; whole = refl }

-- a < b
joins_lt : Joins binary.Lt
joins_lt = record { both = λ b. refl; whole = refl }

-- a <= b
joins_le : Joins binary.Le
joins_le = record { both = λ b. refl; whole = refl }

-- a > b
joins_gt : Joins binary.Gt
joins_gt = record { both = λ b. refl; whole = refl }

module _ {xs : List Ident} where
  -- where a row begins
  at_row : (x : Ident) (k : ℕ) → is_local xs x ≡ true → Priced xs (times (var x) (num k)) 0 0
  at_row x k h = priced_bin binary.Mul joins_mul (priced_local x h) (priced_num k)

  -- a place in a row
  in_the_row : (x : Ident) (k : ℕ) {e : Expr} {n f : ℕ} → is_local xs x ≡ true → Priced xs e n f → Priced xs (in_row x k e) (0 + n) (0 + f)
  in_the_row x k h p = priced_bin binary.Add joins_add (at_row x k h) p

  -- e - 1
  less_by_one : {e : Expr} {n f : ℕ} → Priced xs e n f → Priced xs (minus e (num 1)) (n + 0) (f + 0)
  less_by_one p = priced_bin binary.Sub joins_sub p (priced_num 1)

  -- e + 1
  more_by_one : {e : Expr} {n f : ℕ} → Priced xs e n f → Priced xs (plus e (num 1)) (n + 0) (f + 0)
  more_by_one p = priced_bin binary.Add joins_add p (priced_num 1)

  -- how many stores are pending in a row
  length_of : (x : Ident) → is_local xs x ≡ true → Priced xs (elem wm_len (var x)) 2 1
  length_of x h = priced_elem wm_len (priced_local x h)

  -- e == 0
  is_zero : {e : Expr} {n f : ℕ} → Priced xs e n f → Priced xs (equal e (num 0)) (n + 0) (f + 0)
  is_zero p = priced_bin binary.Eq joins_eq p (priced_num 0)

  -- e > 0
  is_positive : {e : Expr} {n f : ℕ} → Priced xs e n f → Priced xs (greater e (num 0)) (n + 0) (f + 0)
  is_positive p = priced_bin binary.Gt joins_gt p (priced_num 0)

-- ---- the bodies

module _ (calls : Calls) (Quiet : Ident → Type 0) where
  -- a row moves up by one place
  shifts : {xs : List Ident} (a x : Ident) (k : ℕ) → is_local xs x ≡ true → is_local xs wm_j ≡ true → One calls Quiet xs xs (shift a x k) 4 1 []
  shifts a x k h j = one_assign_elem calls Quiet a (in_the_row x k h (priced_local wm_j j)) (priced_elem a (more_by_one (in_the_row x k h (priced_local wm_j j))))

  -- x = x + 1;
  steps : {xs : List Ident} (x : Ident) → is_local xs x ≡ true → One calls Quiet xs xs (step x) 1 0 []
  steps x h = one_assign calls Quiet x (more_by_one (priced_local x h))

  -- one store of the row is pending no more
  fewer : {xs : List Ident} (x : Ident) → is_local xs x ≡ true → One calls Quiet xs xs (assign_elem wm_len (var x) (minus (elem wm_len (var x)) (num 1))) 4 1 []
  fewer x h = one_assign_elem calls Quiet wm_len (priced_local x h) (less_by_one (length_of x h))

  -- one more store of the row is pending
  further : {xs : List Ident} (x : Ident) → is_local xs x ≡ true → One calls Quiet xs xs (assign_elem wm_len (var x) (plus (elem wm_len (var x)) (num 1))) 4 1 []
  further x h = one_assign_elem calls Quiet wm_len (priced_local x h) (more_by_one (length_of x h))

  -- no store of the row is pending
  nothing_pending : {xs : List Ident} (x : Ident) → is_local xs x ≡ true → One calls Quiet xs xs (assume (equal (elem wm_len (var x)) (num 0))) 3 1 []
  nothing_pending x h = one_assume calls Quiet (is_zero (length_of x h))

  -- the value reaches the cell
  sets_at_once : {xs : List Ident} → is_local xs wm_c ≡ true → is_local xs wm_v ≡ true → One calls Quiet xs xs (assign_elem wm_mem (var wm_c) (var wm_v)) 2 0 []
  sets_at_once c v = one_assign_elem calls Quiet wm_mem (priced_local wm_c c) (priced_local wm_v v)

  -- the row has room
  room : {xs : List Ident} (x : Ident) (k : ℕ) → is_local xs x ≡ true → One calls Quiet xs xs (assume (less (elem wm_len (var x)) (num k))) 3 1 []
  room x k h = one_assume calls Quiet (priced_bin binary.Lt joins_lt (length_of x h) (priced_num k))

  -- wm_pop under TSO
  tso_pop_runs : (k : ℕ) → Runs calls Quiet (wm_t ∷ []) (wm_t ∷ wm_j ∷ []) (body_of (tso_pop k)) 25 7 []
  tso_pop_runs k =
      runs_more calls Quiet (omega arith) (omega arith)
      (runs_next calls Quiet (one_declare calls Quiet wm_j)
      (runs_next calls Quiet (one_assign_elem calls Quiet wm_mem (priced_elem wm_cell (at_row wm_t k refl)) (priced_elem wm_val (at_row wm_t k refl)))
      (runs_next calls Quiet (fewer wm_t refl)
      (runs_next calls Quiet (one_assign calls Quiet wm_j (priced_num 0))
      (runs_one calls Quiet (one_while calls Quiet (priced_bin binary.Lt joins_lt (priced_local wm_j refl) (length_of wm_t refl))
      (runs_next calls Quiet (shifts wm_cell wm_t k refl refl)
      (runs_next calls Quiet (shifts wm_val wm_t k refl refl)
      (runs_one calls Quiet (steps wm_j refl))))))))))

  -- wm_empty under TSO
  tso_empty_runs : Runs calls Quiet (wm_t ∷ []) (wm_t ∷ []) (body_of tso_empty) 3 1 []
  tso_empty_runs = runs_one calls Quiet (nothing_pending wm_t refl)

  -- wm_put under TSO
  tso_put_runs : (k : ℕ) → Runs calls Quiet (wm_t ∷ wm_c ∷ wm_v ∷ []) (wm_t ∷ wm_c ∷ wm_v ∷ []) (body_of (tso_put k)) 15 4 []
  tso_put_runs k =
      runs_more calls Quiet (omega arith) (omega arith)
      (runs_next calls Quiet (room wm_t k refl)
      (runs_next calls Quiet (one_assign_elem calls Quiet wm_cell (in_the_row wm_t k refl (length_of wm_t refl)) (priced_local wm_c refl))
      (runs_next calls Quiet (one_assign_elem calls Quiet wm_val (in_the_row wm_t k refl (length_of wm_t refl)) (priced_local wm_v refl))
      (runs_one calls Quiet (further wm_t refl)))))

  -- wm_get under TSO
  tso_get_runs : (k : ℕ) → Runs calls Quiet (wm_t ∷ wm_c ∷ []) (wm_t ∷ wm_c ∷ wm_j ∷ []) (body_of (tso_get k)) 18 5 []
  tso_get_runs k =
      runs_more calls Quiet (omega arith) (omega arith)
      (runs_next calls Quiet (one_declare calls Quiet wm_j)
      (runs_next calls Quiet (one_assign calls Quiet wm_j (length_of wm_t refl))
      (runs_next calls Quiet (one_while calls Quiet (is_positive (priced_local wm_j refl))
      (runs_next calls Quiet (one_assign calls Quiet wm_j (less_by_one (priced_local wm_j refl)))
      (runs_one calls Quiet (one_when calls Quiet (priced_bin binary.Eq joins_eq (priced_elem wm_cell (in_the_row wm_t k refl (priced_local wm_j refl))) (priced_local wm_c refl))
      (runs_one calls Quiet (one_return calls Quiet (priced_elem wm_val (in_the_row wm_t k refl (priced_local wm_j refl)))))))))
      (runs_one calls Quiet (one_return calls Quiet (priced_elem wm_mem (priced_local wm_c refl)))))))

  -- wm_set under TSO
  tso_set_runs : Runs calls Quiet (wm_t ∷ wm_c ∷ wm_v ∷ []) (wm_t ∷ wm_c ∷ wm_v ∷ []) (body_of tso_set) 5 1 []
  tso_set_runs = runs_more calls Quiet (omega arith) (omega arith) (runs_next calls Quiet (nothing_pending wm_t refl) (runs_one calls Quiet (sets_at_once refl refl)))

  -- wm_pop under PSO
  pso_pop_runs : (cells k : ℕ) → Runs calls Quiet (wm_b ∷ []) (wm_b ∷ wm_j ∷ []) (body_of (pso_pop cells k)) 25 7 []
  pso_pop_runs cells k =
      runs_more calls Quiet (omega arith) (omega arith)
      (runs_next calls Quiet (one_declare calls Quiet wm_j)
      (runs_next calls Quiet (one_assign_elem calls Quiet wm_mem (priced_any binary.Rem (priced_local wm_b refl) (priced_num cells)) (priced_elem wm_val (at_row wm_b k refl)))
      (runs_next calls Quiet (fewer wm_b refl)
      (runs_next calls Quiet (one_assign calls Quiet wm_j (priced_num 0))
      (runs_one calls Quiet (one_while calls Quiet (priced_bin binary.Lt joins_lt (priced_local wm_j refl) (length_of wm_b refl))
      (runs_next calls Quiet (shifts wm_val wm_b k refl refl)
      (runs_one calls Quiet (steps wm_j refl)))))))))

  -- wm_empty under PSO
  pso_empty_runs : (cells : ℕ) → Runs calls Quiet (wm_t ∷ []) (wm_t ∷ wm_c ∷ []) (body_of (pso_empty cells)) 8 2 []
  pso_empty_runs cells =
      runs_more calls Quiet (omega arith) (omega arith)
      (runs_next calls Quiet (one_declare calls Quiet wm_c)
      (runs_next calls Quiet (one_assign calls Quiet wm_c (priced_num 0))
      (runs_one calls Quiet (one_while calls Quiet (priced_bin binary.Lt joins_lt (priced_local wm_c refl) (priced_num cells))
      (runs_next calls Quiet (one_assume calls Quiet (is_zero (priced_elem wm_len (in_the_row wm_t cells refl (priced_local wm_c refl)))))
      (runs_one calls Quiet (steps wm_c refl)))))))

  -- wm_put under PSO
  pso_put_runs : (cells k : ℕ) → Runs calls Quiet (wm_t ∷ wm_c ∷ wm_v ∷ []) (wm_t ∷ wm_c ∷ wm_v ∷ wm_b ∷ []) (body_of (pso_put cells k)) 13 4 []
  pso_put_runs cells k =
      runs_more calls Quiet (omega arith) (omega arith)
      (runs_next calls Quiet (one_declare calls Quiet wm_b)
      (runs_next calls Quiet (one_assign calls Quiet wm_b (in_the_row wm_t cells refl (priced_local wm_c refl)))
      (runs_next calls Quiet (room wm_b k refl)
      (runs_next calls Quiet (one_assign_elem calls Quiet wm_val (in_the_row wm_b k refl (length_of wm_b refl)) (priced_local wm_v refl))
      (runs_one calls Quiet (further wm_b refl))))))

  -- wm_get under PSO
  pso_get_runs : (cells k : ℕ) → Runs calls Quiet (wm_t ∷ wm_c ∷ []) (wm_t ∷ wm_c ∷ wm_b ∷ []) (body_of (pso_get cells k)) 15 5 []
  pso_get_runs cells k =
      runs_more calls Quiet (omega arith) (omega arith)
      (runs_next calls Quiet (one_declare calls Quiet wm_b)
      (runs_next calls Quiet (one_assign calls Quiet wm_b (in_the_row wm_t cells refl (priced_local wm_c refl)))
      (runs_next calls Quiet (one_when calls Quiet (is_positive (length_of wm_b refl))
      (runs_one calls Quiet (one_return calls Quiet (priced_elem wm_val (less_by_one (in_the_row wm_b k refl (length_of wm_b refl)))))))
      (runs_one calls Quiet (one_return calls Quiet (priced_elem wm_mem (priced_local wm_c refl)))))))

  -- wm_set under PSO
  pso_set_runs : (cells : ℕ) → Runs calls Quiet (wm_t ∷ wm_c ∷ wm_v ∷ []) (wm_t ∷ wm_c ∷ wm_v ∷ []) (body_of (pso_set cells)) 5 1 []
  pso_set_runs cells =
      runs_more calls Quiet (omega arith) (omega arith)
      (runs_next calls Quiet (one_assume calls Quiet (is_zero (priced_elem wm_len (in_the_row wm_t cells refl (priced_local wm_c refl)))))
      (runs_one calls Quiet (sets_at_once refl refl)))

  -- wm_flush, with a call of wm_pop
  flush_runs : (rows : ℕ) → Callable calls Quiet wm_pop 25 9 → Quiet nondet_wm → Runs calls Quiet [] (wm_n ∷ []) (body_of (flush rows)) 45 15 []
  flush_runs rows pop quiet =
      runs_more calls Quiet (omega arith) (omega arith)
      (runs_next calls Quiet (one_declare calls Quiet wm_n)
      (runs_next calls Quiet (one_input calls Quiet wm_n nondet_wm refl quiet)
      (runs_one calls Quiet (one_while calls Quiet (priced_bin binary.Ne joins_ne (priced_local wm_n refl) (priced_num 0))
      (runs_next calls Quiet (one_assume calls Quiet (priced_any binary.Land (is_positive (priced_local wm_n refl)) (priced_bin binary.Le joins_le (priced_local wm_n refl) (priced_num rows))))
      (runs_next calls Quiet (one_assume calls Quiet (is_positive (priced_elem wm_len (less_by_one (priced_local wm_n refl)))))
      (runs_next calls Quiet (one_call calls Quiet wm_pop pop (priced_next (less_by_one (priced_local wm_n refl)) priced_none))
      (runs_one calls Quiet (one_input calls Quiet wm_n nondet_wm refl quiet)))))))))

-- ---- calls

-- calls nest no deeper than so many in the function
abbrev pub IsQuiet : List Item → ℕ → Ident → Type 0
IsQuiet items d f = nests items d (calls_in (body_in items f)) ≡ false

-- calls nest one deeper in what calls quiet functions alone
pub none_nested : (items : List Item) (d : ℕ) (fs : List Ident) → AllByRecursion (IsQuiet items d) fs → nests items (suc d) fs ≡ false
none_nested items d [] h = refl
none_nested items d (f ∷ fs) h = (λ i. h.0 i || none_nested items d fs h.1 i)

-- a call takes what the body of the function does
pub callable : (items : List Item) (d e : ℕ) (f : Ident) (i : Item) {ys : List Ident} {n g : ℕ} → body_in items f ≡ body_of i → params_in items f ≡ params_of i → is_input f ≡ false
    → Runs (calls_at items d) (IsQuiet items e) (params_of i) ys (body_of i) n g [] → Callable (calls_at items (suc d)) (IsQuiet items (suc e)) f n (length (params_of i) + 1 + g)
callable items d e f i {ys} {n} {g} body params defined r =
    let w : body_weight (body_in items f) (calls_at items d) (params_in items f) ≡ body_weight (body_of i) (calls_at items d) (params_of i) = λ j. body_weight (body j) (calls_at items d) (params j) in
    record {
      size = omega (arith, ap (λ x. x.size) w, r.size);
      fresh = omega (arith, ap (λ x. x.fresh) w, ap (λ (xs : List Ident). length xs) params, r.fresh);
      defined = defined;
      quiet = ap (λ ss. nests items (suc e) (calls_in ss)) body ∙ none_nested items e (called (mentions (body_of i))) r.quiet;
    }

-- what a thread calls takes no more than this
pub record Helped (calls : Calls) (Quiet : Ident → Type 0) : Type 0 where
  pub flush : Callable calls Quiet wm_flush 45 16
  pub empty : Callable calls Quiet wm_empty 8 4
  pub put : Callable calls Quiet wm_put 15 8
  pub get : Callable calls Quiet wm_get 18 8
  pub set : Callable calls Quiet wm_set 5 5

-- a call may be said to take more
pub callable_more : {calls : Calls} {Quiet : Ident → Type 0} {f : Ident} {n g m h : ℕ} → n ≤ m → g ≤ h → Callable calls Quiet f n g → Callable calls Quiet f m h
callable_more j k c = record { size = omega (arith, c.size, j); fresh = omega (arith, c.fresh, k); defined = c.defined; quiet = c.quiet }

-- the items have this function
pub record Has (items : List Item) (f : Ident) (i : Item) : Type 0 where
  pub body : body_in items f ≡ body_of i
  pub params : params_in items f ≡ params_of i

module _ (items : List Item) (input : body_in items nondet_wm ≡ []) where
  -- an input calls nothing
  pub quiet_input : (e : ℕ) → IsQuiet items (suc e) nondet_wm
  quiet_input e = ap (λ ss. nests items (suc e) (calls_in ss)) input

  -- the helpers under TSO, where the items have them
  pub tso_helped : (threads k : ℕ) → Has items wm_pop (tso_pop k) → Has items wm_flush (flush threads) → Has items wm_empty tso_empty → Has items wm_put (tso_put k)
      → Has items wm_get (tso_get k) → Has items wm_set tso_set → Helped (calls_at items 64) (IsQuiet items 63)
  tso_helped threads k pop fl em pu ge se =
      let popped : Callable (calls_at items 63) (IsQuiet items 62) wm_pop 25 9 =
      callable items 62 61 wm_pop (tso_pop k) pop.body pop.params refl (tso_pop_runs (calls_at items 62) (IsQuiet items 61) k) in
      record {
        flush = callable_more (omega arith) (omega arith)
            (callable items 63 62 wm_flush (flush threads) fl.body fl.params refl (flush_runs (calls_at items 63) (IsQuiet items 62) threads popped (quiet_input 61)));
        empty = callable_more (omega arith) (omega arith) (callable items 63 62 wm_empty tso_empty em.body em.params refl (tso_empty_runs (calls_at items 63) (IsQuiet items 62)));
        put = callable_more (omega arith) (omega arith) (callable items 63 62 wm_put (tso_put k) pu.body pu.params refl (tso_put_runs (calls_at items 63) (IsQuiet items 62) k));
        get = callable_more (omega arith) (omega arith) (callable items 63 62 wm_get (tso_get k) ge.body ge.params refl (tso_get_runs (calls_at items 63) (IsQuiet items 62) k));
        set = callable_more (omega arith) (omega arith) (callable items 63 62 wm_set tso_set se.body se.params refl (tso_set_runs (calls_at items 63) (IsQuiet items 62)));
      }

  -- the helpers under PSO, where the items have them
  pub pso_helped : (rows cells k : ℕ) → Has items wm_pop (pso_pop cells k) → Has items wm_flush (flush rows) → Has items wm_empty (pso_empty cells) → Has items wm_put (pso_put cells k)
      → Has items wm_get (pso_get cells k) → Has items wm_set (pso_set cells) → Helped (calls_at items 64) (IsQuiet items 63)
  pso_helped rows cells k pop fl em pu ge se =
      let popped : Callable (calls_at items 63) (IsQuiet items 62) wm_pop 25 9 =
      callable items 62 61 wm_pop (pso_pop cells k) pop.body pop.params refl (pso_pop_runs (calls_at items 62) (IsQuiet items 61) cells k) in
      record {
        flush = callable_more (omega arith) (omega arith)
            (callable items 63 62 wm_flush (flush rows) fl.body fl.params refl (flush_runs (calls_at items 63) (IsQuiet items 62) rows popped (quiet_input 61)));
        empty = callable_more (omega arith) (omega arith) (callable items 63 62 wm_empty (pso_empty cells) em.body em.params refl (pso_empty_runs (calls_at items 63) (IsQuiet items 62) cells));
        put = callable_more (omega arith) (omega arith) (callable items 63 62 wm_put (pso_put cells k) pu.body pu.params refl (pso_put_runs (calls_at items 63) (IsQuiet items 62) cells k));
        get = callable_more (omega arith) (omega arith) (callable items 63 62 wm_get (pso_get cells k) ge.body ge.params refl (pso_get_runs (calls_at items 63) (IsQuiet items 62) cells k));
        set = callable_more (omega arith) (omega arith) (callable items 63 62 wm_set (pso_set cells) se.body se.params refl (pso_set_runs (calls_at items 63) (IsQuiet items 62) cells));
      }
