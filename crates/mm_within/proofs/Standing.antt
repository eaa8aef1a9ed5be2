-- Where the functions, the mutexes and the cells of a woven program stand among its items.
use Rattle.std.proofs.Common.{arith, ◌≡◌, ◌≢◌, ℕ, zero, suc, pos, ◌+◌, ◌*◌, ◌-◌, ◌≤◌, ◌<◌, ◌^◌, Bool, true, false, ◌||◌, if◌then◌else◌, List, [], ◌∷◌, ◌++◌, length, map, append_assoc, refl, sym, ◌∙◌, ap, subst, Option, Some, None, slice_get}
use Rattle.std.specs.Prelude.{codes, option_map}
use Rattle.std.specs.List.{range_with_len}
use Rattle.std.specs.Str.{bytes_eq}
use Rattle.std.proofs.lemmas.Fmt.{decimal_injective}
use Rattle.std.proofs.lemmas.Slice.Eq.{bytes_eq-Decides}
use Rattle.std.proofs.Math.Nat.{mul_comm, mul-le-mul_left}
use Rattle.mm_goto.specs.declared.ident.Ident.{Ident}
use Rattle.mm_goto.specs.declared.model.Model.{Model}
use Rattle.mm_goto.specs.declared.model.Model.TheVariants.{Tso, Pso}
use Rattle.mm_goto.specs.declared.shape.Shape.{Shape}
use Rattle.mm_goto.specs.declared.program.Cell.{Cell}
use Rattle.mm_goto.specs.declared.program.Thread.{Thread}
use Rattle.mm_goto.specs.Listing.{Listing}
use Rattle.mm_tree.specs.declared.expr.Expr.{Expr}
use Rattle.mm_tree.specs.declared.stmt.Stmt.{Stmt}
use Rattle.mm_tree.specs.declared.item.Item.{Item}
use Rattle.mm_flow.specs.Statements.{is_function}
use Rattle.mm_flow.specs.Programs.{length_of, globals_in, cell_count, mutexes_in, body_of, body_in}
use Rattle.mm_words.specs.Words.{input, global, array, mutex, thread_variable, int}
use Rattle.mm_helpers.specs.Helpers.{Sizes, wm_mem, wm_len, wm_cell, wm_val, nondet_wm, wm_pop, wm_flush, wm_empty, wm_put, wm_get, wm_set, flush, tso_pop, tso_empty, tso_put, tso_get, tso_set, pso_pop, pso_empty, pso_put, pso_get, pso_set, helpers, arrays}
use Rattle.mm_templates.specs.Names.{handle_name, thread_name}
use Rattle.mm_templates.specs.Homes.{has_moved}
use Rattle.mm_instr.specs.Woven.{start_value, is_behind, further, declared, variables, start_values, memory, woven_body, thread_item, thread_items, functions, sizes, has_buffers, has_moved_cells, has_address, woven_items}
use Rattle.mm_within.proofs.Accounts.{params_in, calls_at}
use Rattle.mm_within.proofs.HelperCosts.{IsQuiet, Helped, tso_helped, pso_helped}

-- ---- what stands in front

-- the rest stands behind items that are no functions, and have so many mutexes and at most so many cells
pub record Before (whole rest : List Item) (m c : ℕ) : Type 0 where
  pub body : (f : Ident) → body_in whole f ≡ body_in rest f
  pub params : (f : Ident) → params_in whole f ≡ params_in rest f
  pub mutexes : length (mutexes_in whole) ≡ m + length (mutexes_in rest)
  pub cells : cell_count (globals_in whole) ≤ c + cell_count (globals_in rest)

-- nothing stands in front
none_before : (rest : List Item) → Before rest rest 0 0
none_before rest = record { body = λ f. refl; params = λ f. refl; mutexes = omega arith; cells = omega arith }

-- one front and another
then_before : {a b d : List Item} {m c n e : ℕ} → Before a b m c → Before b d n e → Before a d (m + n) (c + e)
then_before h k = record {
  body = λ f. h.body f ∙ k.body f;
  params = λ f. h.params f ∙ k.params f;
  mutexes = omega (arith, h.mutexes, k.mutexes);
  cells = omega (arith, h.cells, k.cells);
}

-- there may be said to be more cells
more_before : {a b : List Item} {m n c e : ℕ} → m ≡ n → c ≤ e → Before a b m c → Before a b n e
more_before i j h = record { body = h.body; params = h.params; mutexes = omega (arith, h.mutexes, i); cells = omega (arith, h.cells, j) }

-- a global
global_before : (x : Ident) (len : Option ℕ) (es : List Expr) (rest : List Item) → Before (global x len es ∷ rest) rest 0 (length_of (option_map pos len))
global_before x len es rest = record { body = λ f. refl; params = λ f. refl; mutexes = omega arith; cells = omega arith }

-- a list that is mapped keeps its length
length_mapped : {X Y : Type 0} (f : X → Y) (xs : List X) → length (map f xs) ≡ length xs
length_mapped f [] = refl
length_mapped f (x ∷ xs) = ap suc (length_mapped f xs)

-- the globals under their own names have no more cells than the program, beside the elements that stand at the front
variables_before : (moved : List Bool) (c : ℕ) (cells : List Cell) (rest : List Item) → (n : ℕ) × (n + length (further cells) ≤ length cells) × Before (variables moved c cells ++ rest) rest 0 n
variables_before moved c [] rest = (0, omega arith, none_before rest)
variables_before moved c (cell ∷ cells) rest =
    let r = variables_before moved (c + 1) cells rest in
    by (has_moved moved c) cell.index r.0 r.1 r.2
  where
    by : (b : Bool) (o : Option ℕ) (n : ℕ) → n + length (further cells) ≤ length cells → Before (variables moved (c + 1) cells ++ rest) rest 0 n
        → (m : ℕ) × (m + length (if is_behind o then cell ∷ further cells else []) ≤ suc (length cells)) × Before
        (((if b then [] else declared cell cells o) ++ variables moved (c + 1) cells) ++ rest) rest 0 m
    by true None n h k = (n, omega (arith, h), k)
    by true (Some zero) n h k = (n, omega (arith, h), k)
    by true (Some (suc i)) n h k = (n, omega (arith, h), k)
    by false None n h k = (1 + n, omega (arith, h), then_before (global_before cell.name None (start_value cell ∷ []) (variables moved (c + 1) cells ++ rest)) k)
    by false (Some zero) n h k =
        let es : List Expr = map start_value (cell ∷ further cells) in (
          1 + length (further cells) + n,
          omega (arith, h),
          more_before refl (omega (arith, length_mapped start_value (further cells))) (then_before (global_before cell.name (Some (length es)) es (variables moved (c + 1) cells ++ rest)) k),
        )
    by false (Some (suc i)) n h k = (n, omega (arith, h), k)

-- there are as many start values as cells
length_starts : (moved : List Bool) (c : ℕ) (cells : List Cell) → length (start_values moved c cells) ≡ length cells
length_starts moved c [] = refl
length_starts moved c (cell ∷ cells) = ap suc (length_starts moved (c + 1) cells)

-- the shared array has as many cells as the program
memory_before : (p : Listing) (shape : Shape) (rest : List Item) → Before (memory p shape ++ rest) rest 0 (length p.cells)
memory_before p shape rest = by (has_moved_cells shape || has_buffers shape)
  where
    by : (b : Bool) → Before ((if b then global wm_mem (Some (length (start_values shape.moved 0 p.cells))) (start_values shape.moved 0 p.cells) ∷ [] else []) ++ rest) rest 0 (length p.cells)
    by true = more_before refl (omega (arith, length_starts shape.moved 0 p.cells))
        (global_before wm_mem (Some (length (start_values shape.moved 0 p.cells))) (start_values shape.moved 0 p.cells) rest)
    by false = more_before refl (omega arith) (none_before rest)

-- an array of so many cells
array_before : (x : Ident) (n : ℕ) (rest : List Item) → Before (array x n ∷ rest) rest 0 n
array_before x n rest = more_before refl (omega arith) (global_before x (Some n) [] rest)

-- a chain of bounds
between : (x y z w : ℕ) → x ≤ y → y ≡ z → z ≤ w → x ≤ w
between x y z w h e k = omega (arith, h, e, k)

-- a product of small numbers
product : (a b c n : ℕ) → a ≤ c → b ≤ n → a * b ≤ n * c
product a b c n h k = between (a * b) (a * n) (n * a) (n * c) (mul-le-mul_left a k) (mul_comm a n) (mul-le-mul_left n h)

-- the cells of the arrays under TSO are few
small_rows : (t x : ℕ) → t ≤ 16 → x ≤ 8 * 16 → t + (x + x) ≤ 36864
small_rows t x h k = omega (arith, h, k)

-- the cells of the arrays under PSO are few
small_cells : (x y : ℕ) → x ≤ 256 * 16 → y ≤ 8 * 4096 → x + y ≤ 36864
small_cells x y h k = omega (arith, h, k)

-- the arrays of pending stores
arrays_before : (m : Model) (s : Sizes) (rest : List Item) → s.threads ≤ 16 → s.cells ≤ 256 → s.bound ≤ 8 → Before (arrays m s ++ rest) rest 0 36864
arrays_before Tso s rest t c b =
    let pending : ℕ = s.threads * s.bound in
    more_before refl (small_rows s.threads pending t (product s.threads s.bound 16 8 t b))
    (then_before (array_before wm_len s.threads (array wm_cell pending ∷ array wm_val pending ∷ rest))
    (then_before (array_before wm_cell pending (array wm_val pending ∷ rest)) (array_before wm_val pending rest)))
arrays_before Pso s rest t c b =
    let rows : ℕ = s.threads * s.cells in
    let few : rows ≤ 256 * 16 = product s.threads s.cells 16 256 t c in
    more_before refl (small_cells rows (rows * s.bound) few (product rows s.bound 4096 8 few b))
    (then_before (array_before wm_len rows (array wm_val (rows * s.bound) ∷ rest)) (array_before wm_val (rows * s.bound) rest))

-- the mutexes
mutexes_before : (xs : List Ident) (rest : List Item) → Before (map mutex xs ++ rest) rest (length xs) 0
mutexes_before [] rest = none_before rest
mutexes_before (x ∷ xs) rest =
    let h = mutexes_before xs rest in
    record { body = h.body; params = h.params; mutexes = omega (arith, h.mutexes); cells = h.cells }

-- the variables that hold threads
handles_before : (us : List ℕ) (rest : List Item) → Before (map (λ u. thread_variable (handle_name u)) us ++ rest) rest 0 0
handles_before [] rest = none_before rest
handles_before (u ∷ us) rest = let h = handles_before us rest in record { body = h.body; params = h.params; mutexes = h.mutexes; cells = h.cells }

-- ---- the functions

-- what is behind a function of another name
next_body : (i : Item) (is : List Item) (f : Ident) → is_function f i ≡ false → body_in (i ∷ is) f ≡ body_in is f
next_body i is f h = ap (λ b. if b then body_of i else body_in is f) h

-- the function that stands in front
front_body : (i : Item) (is : List Item) (f : Ident) → is_function f i ≡ true → body_in (i ∷ is) f ≡ body_of i
front_body i is f h = ap (λ b. if b then body_of i else body_in is f) h

-- names that differ are not equal
eq_apart : (xs ys : Ident) → xs ≢ ys → bytes_eq xs ys ≡ false
eq_apart xs ys n = by (bytes_eq xs ys) (bytes_eq-Decides xs ys).0
  where
    by : (b : Bool) → (b ≡ true → xs ≡ ys) → b ≡ false
    by true h = absurd (n (h refl))
    by false h = refl

-- a name that no thread's function has
abbrev pub IsNoThread : Ident → Type 0
IsNoThread f = (u : ℕ) → bytes_eq (thread_name u) f ≡ false

-- no thread's function is called main
main_is_none : IsNoThread (codes "main")
main_is_none u = refl

-- no thread's function is the input
input_is_none : IsNoThread nondet_wm
input_is_none u = refl

-- a name that no helper has
record IsNoHelper (f : Ident) : Type 0 where
  pop : bytes_eq wm_pop f ≡ false
  flush : bytes_eq wm_flush f ≡ false
  empty : bytes_eq wm_empty f ≡ false
  put : bytes_eq wm_put f ≡ false
  get : bytes_eq wm_get f ≡ false
  set : bytes_eq wm_set f ≡ false

-- no helper is called main
main_no_helper : IsNoHelper (codes "main")
main_no_helper = record { pop = refl; flush = refl; empty = refl; put = refl; get = refl; set = refl }

-- no helper is the input
input_no_helper : IsNoHelper nondet_wm
input_no_helper = record { pop = refl; flush = refl; empty = refl; put = refl; get = refl; set = refl }

-- no helper is a thread's function
thread_no_helper : (u : ℕ) → IsNoHelper (thread_name u)
thread_no_helper u = record { pop = refl; flush = refl; empty = refl; put = refl; get = refl; set = refl }

module _ (p : Listing) (shape : Shape) (buffers addresses : Bool) where
  -- the body of a thread
  abbrev own_body : ℕ → Thread → List Stmt
  own_body u it = woven_body p shape buffers addresses u it

  -- the functions of the threads from one number on
  abbrev own_items : ℕ → List Thread → List Item
  own_items u ts = thread_items p shape buffers addresses u ts

  -- the function of a thread has the thread's name
  thread_function : (f : Ident) (u : ℕ) (it : Thread) → is_function f (thread_item p shape buffers addresses u it) ≡ bytes_eq (thread_name u) f
  unfolding thread_item
  thread_function f u it = refl

  -- and the thread's body
  thread_body : (u : ℕ) (it : Thread) → body_of (thread_item p shape buffers addresses u it) ≡ own_body u it
  unfolding thread_item
  thread_body u it = refl

  -- a thread's function has no mutex
  thread_mutexes : (u : ℕ) (it : Thread) (rest : List Item) → mutexes_in (thread_item p shape buffers addresses u it ∷ rest) ≡ mutexes_in rest
  unfolding thread_item
  thread_mutexes u it rest = refl

  -- a thread's function has no global
  thread_globals : (u : ℕ) (it : Thread) (rest : List Item) → globals_in (thread_item p shape buffers addresses u it ∷ rest) ≡ globals_in rest
  unfolding thread_item
  thread_globals u it rest = refl

  -- a function that is no thread's stands behind the threads'
  others_missed : (f : Ident) → IsNoThread f → (u : ℕ) (ts : List Thread) (rest : List Item) → body_in (own_items u ts ++ rest) f ≡ body_in rest f
  others_missed f none u [] rest = refl
  others_missed f none u (it ∷ ts) rest =
      next_body (thread_item p shape buffers addresses u it) (own_items (u + 1) ts ++ rest) f (thread_function f u it ∙ none u) ∙ others_missed f none (u + 1) ts rest

  -- the functions of two threads have two names
  thread_apart : (l m : ℕ) → l < 2 ^ 32 → m < 2 ^ 32 → l ≢ m → thread_name l ≢ thread_name m
  thread_apart l m g h n e = n (decimal_injective l m (omega arith) (omega arith) (cc))

  -- a thread's function is found by its name
  other_found : (ts : List Thread) (u d : ℕ) (it : Thread) (rest : List Item) → slice_get ts d ≡ Some it → u + length ts ≤ 2 ^ 32
      → body_in (own_items u ts ++ rest) (thread_name (u + d)) ≡ own_body (u + d) it
  other_found [] u d it rest e few = absurd cc
  other_found (t ∷ ts) u zero it rest e few =
      let same : t ≡ it = cc in
      let at : u ≡ u + 0 = omega arith in
      subst (λ n. body_in (own_items u (t ∷ ts) ++ rest) (thread_name n) ≡ own_body n it) at
      (front_body (thread_item p shape buffers addresses u t) (own_items (u + 1) ts ++ rest) (thread_name u)
      (thread_function (thread_name u) u t ∙ (bytes_eq-Decides (thread_name u) (thread_name u)).1 refl) ∙ thread_body u t ∙ ap (own_body u) same)
  other_found (t ∷ ts) u (suc d) it rest e few =
      let at : u + 1 + d ≡ u + suc d = omega arith in
      let inside = within ts d it e in
      let apart : thread_name u ≢ thread_name (u + suc d) = thread_apart u (u + suc d) (omega (arith, few)) (omega (arith, few, inside)) (λ h. absurd (omega (arith, h))) in
      next_body (thread_item p shape buffers addresses u t) (own_items (u + 1) ts ++ rest) (thread_name (u + suc d))
      (thread_function (thread_name (u + suc d)) u t ∙ eq_apart (thread_name u) (thread_name (u + suc d)) apart)
      ∙ subst (λ n. body_in (own_items (u + 1) ts ++ rest) (thread_name n) ≡ own_body n it) at (other_found ts (u + 1) d it rest e (omega (arith, few)))
    where
      within : {X : Type 0} (xs : List X) (k : ℕ) (x : X) → slice_get xs k ≡ Some x → k < length xs
      within [] k x e = absurd cc
      within (y ∷ ys) zero x e = omega arith
      within (y ∷ ys) (suc k) x e = let h = within ys k x e in omega (arith, h)

  -- ---- behind the helpers

  -- a function that is none of the helpers stands behind them
  six_missed : (f : Ident) → IsNoHelper f → (a b c d e g : Item) (rest : List Item)
      → is_function f a ≡ bytes_eq wm_pop f → is_function f b ≡ bytes_eq wm_flush f → is_function f c ≡ bytes_eq wm_empty f
      → is_function f d ≡ bytes_eq wm_put f → is_function f e ≡ bytes_eq wm_get f → is_function f g ≡ bytes_eq wm_set f
      → body_in (a ∷ b ∷ c ∷ d ∷ e ∷ g ∷ rest) f ≡ body_in rest f
  six_missed f n a b c d e g rest ia ib ic id ie ig =
      next_body a (b ∷ c ∷ d ∷ e ∷ g ∷ rest) f (ia ∙ n.pop) ∙ next_body b (c ∷ d ∷ e ∷ g ∷ rest) f (ib ∙ n.flush) ∙ next_body c (d ∷ e ∷ g ∷ rest) f (ic ∙ n.empty)
      ∙ next_body d (e ∷ g ∷ rest) f (id ∙ n.put) ∙ next_body e (g ∷ rest) f (ie ∙ n.get) ∙ next_body g rest f (ig ∙ n.set)

  -- the same of the helpers of a model
  helpers_missed : (f : Ident) → IsNoHelper f → (m : Model) (s : Sizes) (rest : List Item) → body_in (helpers m s ++ rest) f ≡ body_in rest f
  helpers_missed f n Tso s rest = six_missed f n (tso_pop s.bound) (flush s.threads) tso_empty (tso_put s.bound) (tso_get s.bound) tso_set rest refl refl refl refl refl refl
  helpers_missed f n Pso s rest = six_missed f n (pso_pop s.cells s.bound) (flush (s.threads * s.cells)) (pso_empty s.cells) (pso_put s.cells s.bound) (pso_get s.cells s.bound)
      (pso_set s.cells) rest refl refl refl refl refl refl

  -- the helpers, where a store is buffered
  abbrev helping : Bool → List Item
  helping b = if b then helpers shape.model (sizes p shape) else []

  -- a function that is none of them stands behind them
  helping_missed : (f : Ident) → IsNoHelper f → (b : Bool) (rest : List Item) → body_in (helping b ++ rest) f ≡ body_in rest f
  helping_missed f n true rest = helpers_missed f n shape.model (sizes p shape) rest
  helping_missed f n false rest = refl

  -- main
  abbrev main_item : Thread → List Item
  main_item main = int (codes "main") [] (own_body 0 main) ∷ []

  -- the helpers have no mutex and no global
  helpers_plain : (m : Model) (s : Sizes) (rest : List Item) → (mutexes_in (helpers m s ++ rest) ≡ mutexes_in rest) × (globals_in (helpers m s ++ rest) ≡ globals_in rest)
  helpers_plain Tso s rest = (refl, refl)
  helpers_plain Pso s rest = (refl, refl)

  -- the same where there may be none
  helping_plain : (b : Bool) (rest : List Item) → (mutexes_in (helping b ++ rest) ≡ mutexes_in rest) × (globals_in (helping b ++ rest) ≡ globals_in rest)
  helping_plain true rest = helpers_plain shape.model (sizes p shape) rest
  helping_plain false rest = (refl, refl)

  -- nor have the functions of the threads
  others_plain : (u : ℕ) (ts : List Thread) (rest : List Item) → (mutexes_in (own_items u ts ++ rest) ≡ mutexes_in rest) × (globals_in (own_items u ts ++ rest) ≡ globals_in rest)
  others_plain u [] rest = (refl, refl)
  others_plain u (it ∷ ts) rest =
      let h = others_plain (u + 1) ts rest in
      (thread_mutexes u it (own_items (u + 1) ts ++ rest) ∙ h.0, thread_globals u it (own_items (u + 1) ts ++ rest) ∙ h.1)

-- ---- the whole

-- the calls of the helpers, where they stand behind what has no function
helped_of : (items : List Item) → body_in items nondet_wm ≡ [] → (m : Model) (s : Sizes) (rest : List Item)
    → ((f : Ident) → body_in items f ≡ body_in (helpers m s ++ rest) f) → ((f : Ident) → params_in items f ≡ params_in (helpers m s ++ rest) f)
    → Helped (calls_at items 64) (IsQuiet items 63)
helped_of items input Tso s rest b q =
    tso_helped items input s.threads s.bound (record { body = b wm_pop; params = q wm_pop }) (record { body = b wm_flush; params = q wm_flush }) (record { body = b wm_empty; params = q wm_empty })
    (record { body = b wm_put; params = q wm_put }) (record { body = b wm_get; params = q wm_get }) (record { body = b wm_set; params = q wm_set })
helped_of items input Pso s rest b q =
    pso_helped items input (s.threads * s.cells) s.cells s.bound (record { body = b wm_pop; params = q wm_pop }) (record { body = b wm_flush; params = q wm_flush })
    (record { body = b wm_empty; params = q wm_empty })
    (record { body = b wm_put; params = q wm_put }) (record { body = b wm_get; params = q wm_get }) (record { body = b wm_set; params = q wm_set })

-- where everything stands in a woven program of these threads
pub record Stands (p : Listing) (shape : Shape) (first : Thread) (others : List Thread) : Type 0 where
  pub main : body_in (woven_items p shape) (codes "main") ≡ woven_body p shape (has_buffers shape) (has_address p) 0 first
  pub other : (d : ℕ) (it : Thread) → slice_get others d ≡ Some it → body_in (woven_items p shape) (thread_name (1 + d)) ≡ woven_body p shape (has_buffers shape) (has_address p) (1 + d) it
  pub input : body_in (woven_items p shape) nondet_wm ≡ []
  pub helped : has_buffers shape ≡ true → Helped (calls_at (woven_items p shape) 64) (IsQuiet (woven_items p shape) 63)
  pub mutexes : length (mutexes_in (woven_items p shape)) ≡ length p.mutexes
  pub cells : cell_count (globals_in (woven_items p shape)) ≤ 65536

module _ (p : Listing) (shape : Shape) (main : Thread) (others : List Thread) (threads : p.threads ≡ main ∷ others) (few : length p.threads ≤ 16) (cells : length p.cells ≤ 256)
    (bound : shape.bound ≤ 8) where
  -- some store is buffered
  abbrev buffers : Bool
  buffers = has_buffers shape

  -- an address stands somewhere
  abbrev addresses : Bool
  addresses = has_address p

  -- the functions of the threads, and main
  abbrev last_items : List Item
  last_items = thread_items p shape buffers addresses 1 others ++ int (codes "main") [] (woven_body p shape buffers addresses 0 main) ∷ []

  -- the helpers in front of them
  abbrev rest : List Item
  rest = helping p shape buffers addresses buffers ++ last_items

  -- the threads' variables, in front of others
  abbrev behind_mutexes : List Item → List Item
  behind_mutexes is = map (λ u. thread_variable (handle_name u)) (range_with_len 1 (length p.threads - 1)) ++ is

  -- the mutexes in front of them
  abbrev behind_arrays : List Item → List Item
  behind_arrays is = map mutex p.mutexes ++ behind_mutexes is

  -- the arrays of pending stores
  abbrev behind_memory : List Item → List Item
  behind_memory is = (if buffers then arrays shape.model (sizes p shape) else []) ++ behind_arrays is

  -- the shared array
  abbrev behind_variables : List Item → List Item
  behind_variables is = memory p shape ++ behind_memory is

  -- the input and the variables
  abbrev all_items : List Item → List Item
  all_items is = input nondet_wm ∷ (variables shape.moved 0 p.cells ++ behind_variables is)

  -- the items, one after another
  in_order : woven_items p shape ≡ all_items rest
  in_order = same_order ∙ ap (λ ts. all_items (helping p shape buffers addresses buffers ++ functions p shape buffers addresses ts)) threads
    where
      same_order : woven_items p shape ≡ all_items (helping p shape buffers addresses buffers ++ functions p shape buffers addresses p.threads)
      same_order = simp append_assoc

  -- what stands in front of the helpers
  front : Before (woven_items p shape) rest (length p.mutexes) 37376
  front =
      let v = variables_before shape.moved 0 p.cells (behind_variables rest) in
      let m = memory_before p shape (behind_memory rest) in
      let a = arrays_if buffers (behind_arrays rest) in
      let x = mutexes_before p.mutexes (behind_mutexes rest) in
      let h = handles_before (range_with_len 1 (length p.threads - 1)) rest in
      let all = then_before v.2 (then_before m (then_before a (then_before x h))) in
      let behind : Before (all_items rest) rest (length p.mutexes) 37376 =
      record { body = all.body; params = all.params; mutexes = omega (arith, all.mutexes); cells = omega (arith, all.cells, v.1, cells) } in
      subst (λ (is : List Item). Before is rest (length p.mutexes) 37376) (sym in_order) behind
    where
      arrays_if : (b : Bool) (is : List Item) → Before ((if b then arrays shape.model (sizes p shape) else []) ++ is) is 0 36864
      arrays_if true is = arrays_before shape.model (sizes p shape) is few cells bound
      arrays_if false is = more_before refl (omega arith) (none_before is)

  -- main is found
  main_there : body_in (woven_items p shape) (codes "main") ≡ woven_body p shape buffers addresses 0 main
  main_there = front.body (codes "main") ∙ helping_missed p shape buffers addresses (codes "main") main_no_helper buffers last_items
      ∙ others_missed p shape buffers addresses (codes "main") main_is_none 1 others (main_item p shape buffers addresses main)

  -- so is the function of each other thread
  other_there : (d : ℕ) (it : Thread) → slice_get others d ≡ Some it → body_in (woven_items p shape) (thread_name (1 + d)) ≡ woven_body p shape buffers addresses (1 + d) it
  other_there d it e =
      let count : length p.threads ≡ suc (length others) = ap (λ (ts : List Thread). length ts) threads in
      front.body (thread_name (1 + d)) ∙ helping_missed p shape buffers addresses (thread_name (1 + d)) (thread_no_helper (1 + d)) buffers last_items
      ∙ other_found p shape buffers addresses others 1 d it (main_item p shape buffers addresses main) e (omega (arith, count, few))

  -- the input is no function
  input_there : body_in (woven_items p shape) nondet_wm ≡ []
  input_there = front.body nondet_wm ∙ helping_missed p shape buffers addresses nondet_wm input_no_helper buffers last_items
      ∙ others_missed p shape buffers addresses nondet_wm input_is_none 1 others (main_item p shape buffers addresses main)

  -- the functions have no mutex and no cell
  plain : (length (mutexes_in rest) ≡ 0) × (cell_count (globals_in rest) ≡ 0)
  plain =
      let h = helping_plain p shape buffers addresses buffers last_items in
      let o = others_plain p shape buffers addresses 1 others (main_item p shape buffers addresses main) in
      (ap (λ xs. length xs) (h.0 ∙ o.0), ap cell_count (h.1 ∙ o.1))

  -- where everything stands
  pub stands : Stands p shape main others
  stands = record {
    main = main_there;
    other = other_there;
    input = input_there;
    helped = λ e.
        let same : rest ≡ helpers shape.model (sizes p shape) ++ last_items = ap (λ b. helping p shape buffers addresses b ++ last_items) e in
        helped_of (woven_items p shape) input_there shape.model (sizes p shape) last_items (λ f. front.body f ∙ ap (λ is. body_in is f) same) (λ f. front.params f ∙ ap (λ is. params_in is f) same);
    mutexes = omega (arith, front.mutexes, plain.0);
    cells = omega (arith, front.cells, plain.1);
  }
