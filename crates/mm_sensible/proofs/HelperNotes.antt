-- What is noted in the helpers of woven programs is fine, where the arrays that they work on are known.
use Rattle.std.proofs.Common.{rules, ◌≡◌, ℕ, ℤ, false, List, [], ◌∷◌, ◌++◌, map, refl, sym, subst, Some}
use Rattle.mm_goto.specs.declared.ident.Ident.{Ident}
use Rattle.mm_goto.specs.declared.pure.Binary.TheVariants as bin
use Rattle.mm_tree.specs.declared.expr.Expr.{Expr}
use Rattle.mm_tree.specs.declared.item.Gives.{Gives}
use Rattle.mm_tree.specs.declared.item.Gives.TheVariants as gives
use Rattle.mm_tree.specs.declared.item.Item.{Item}
use Rattle.mm_tree.specs.declared.item.Item.TheVariants as item
use Rattle.mm_tree.specs.declared.side.Side.TheVariants.{Output}
use Rattle.mm_tree.specs.declared.stmt.Stmt.{Stmt}
use Rattle.mm_tree.specs.declared.stmt.StmtNode.{the_lemmas as stmt_lemmas}
use Rattle.mm_scope.specs.declared.table.Meaning.TheVariants as meaning
use Rattle.mm_scope.specs.Notes.{Note}
use Rattle.mm_scope.specs.Scopes.{Names, Table, meaning_in}
use Rattle.mm_names.specs.Items.{meaning_of_param, is_main, labels_of, function_notes}
use Rattle.mm_names.specs.Labels.{all_labels, with_labels, labels_notes}
use Rattle.mm_words.specs.Words as words
use Rattle.mm_words.specs.Words.{num, var, elem, plus, minus, times, modulo, less, at_most, greater, equal, differ, both}
use Rattle.mm_helpers.specs.Helpers.{wm_mem, wm_len, wm_cell, wm_val, nondet_wm, wm_pop, wm_flush, wm_empty, wm_put, wm_get, wm_set, wm_t, wm_c, wm_v, wm_b, wm_j, wm_n, in_row, step, shift, flush, tso_pop, tso_empty, tso_put, tso_get, tso_set, pso_pop, pso_empty, pso_put, pso_get, pso_set}
use Rattle.mm_sensible.proofs.IntExpressions.{IsInt, IsIntName, local, IsArrayName, num_int, var_int, elem_int, bin_int}
use Rattle.mm_sensible.proofs.QuietStatements.{AreFine, fine_none, AreInts, IsCallable}
use Rattle.mm_sensible.proofs.WordStatements.{Quiet, AllQuiet, all_quiet, assign_quiet, assign_elem_quiet, assign_input_quiet, call_stmt_quiet, assume_quiet, when_quiet, while_quiet, return_int}
use Rattle.mm_sensible.proofs.FunctionNotes.{AreFresh, named_all, params_open, function_fine}

-- what is noted in an item that is a function
abbrev pub notes_in : List Item → ℕ → Table → Item → List Note
notes_in items k table (item.Function at g x ps ss) = function_notes Output items k (item.Function at g x ps ss) g ps ss (record { globals = table; locals = [] })
notes_in items k table _ = []

-- the statements of an item that is a function
body_in : Item → List Stmt
body_in (item.Function at g x ps ss) = ss
body_in _ = []

module _ (items : List Item) (k : ℕ) (table : Table) where
  -- the names in a helper with these parameters and locals
  abbrev pub within : List Ident → List Ident → Names
  within xs ys = record { globals = table; locals = named_all meaning.Int xs ++ named_all meaning.Int ys }

  helper_fine : (g : Gives) (f : Ident) (xs ys : List Ident) (ss : List Stmt) → meaning_of_param g false ≡ meaning.Int → labels_of (map words.declare ys ++ ss) ≡ [] → AreFresh meaning.Int [] xs → AreFresh meaning.Int (named_all meaning.Int xs) ys
      → ((labels : Table) → AllQuiet items labels k g (within xs ys) ss)
      → AreFine [] (notes_in items k table (words.function g f (map words.param xs) (map words.declare ys ++ ss)))
  unfolding labels_notes
  helper_fine g f xs ys ss ints none fresh more quiet =
      let i : Item = words.function g f (map words.param xs) (map words.declare ys ++ ss) in
      let labels : Table = with_labels [] (labels_of (map words.declare ys ++ ss)) in
      function_fine [] items k g f table (map words.param xs) (named_all meaning.Int xs) ys ss
      (subst (λ ws. AreFine [] (labels_notes Output [] ws)) (sym none) fine_none)
      (params_open items [] k g table (is_main i) [] xs ints fresh)
      more
      (all_quiet items labels k g (within xs ys) ss (quiet labels) 0 false (is_main i))

  -- the array of that name is known
  abbrev pub HasArray : Ident → Type 0
  HasArray x = (n : ℤ) × (meaning_in table x ≡ Some (meaning.Array n))

  module _ (labels : Table) (g : Gives) (names : Names) where
    abbrev Calm : List Stmt → Type 0
    Calm ss = AllQuiet items labels k g names ss

    done : Calm []
    unfolding AllQuiet
    done = tt

    next : (s : Stmt) (ss : List Stmt) → Quiet items labels k g names s → Calm ss → Calm (s ∷ ss)
    unfolding AllQuiet
    next s ss h r = (h, r)

    -- a[i] = e; then more
    sets : (x : Ident) (i e : Expr) (ss : List Stmt) → IsArrayName names x → IsInt names i → IsInt names e → Calm ss → Calm (words.assign_elem x i e ∷ ss)
    sets x i e ss h j q r = next (words.assign_elem x i e) ss (assign_elem_quiet items labels k g names x i e h j q) r

    -- x = e; then more
    puts : (x : Ident) (e : Expr) (ss : List Stmt) → IsIntName names x → IsInt names e → Calm ss → Calm (words.assign x e ∷ ss)
    puts x e ss h q r = next (words.assign x e) ss (assign_quiet items labels k g names x e h q) r

    -- an assumption, then more
    assumes : (e : Expr) (ss : List Stmt) → IsInt names e → Calm ss → Calm (words.assume e ∷ ss)
    assumes e ss q r = next (words.assume e) ss (assume_quiet items labels k g names e q) r

    whiles : (e : Expr) (inner ss : List Stmt) → IsInt names e → Calm inner → Calm ss → Calm (words.while e inner ∷ ss)
    whiles e inner ss q h r = next (words.while e inner) ss (while_quiet items labels k g names e inner q h) r

    whens : (e : Expr) (inner ss : List Stmt) → IsInt names e → Calm inner → Calm ss → Calm (words.when e inner ∷ ss)
    whens e inner ss q h r = next (words.when e inner) ss (when_quiet items labels k g names e inner q h) r

    -- (x * n) + e
    row : (x : Ident) (n : ℕ) (e : Expr) → IsIntName names x → IsInt names e → IsInt names (in_row x n e)
    row x n e h q = bin_int names bin.Add (times (var x) (num n)) e (bin_int names bin.Mul (var x) (num n) (var_int names x h) (num_int names n)) q

    shifts : (a x : Ident) (n : ℕ) (ss : List Stmt) → IsArrayName names a → IsIntName names x → IsIntName names wm_j → Calm ss → Calm (shift a x n ∷ ss)
    shifts a x n ss h i j r =
        let place : IsInt names (in_row x n (var wm_j)) = row x n (var wm_j) i (var_int names wm_j j) in
        sets a (in_row x n (var wm_j)) (elem a (plus (in_row x n (var wm_j)) (num 1))) ss h place
        (elem_int names a (plus (in_row x n (var wm_j)) (num 1)) h (bin_int names bin.Add (in_row x n (var wm_j)) (num 1) place (num_int names 1))) r

    steps : (x : Ident) (ss : List Stmt) → IsIntName names x → Calm ss → Calm (step x ∷ ss)
    steps x ss h r = puts x (plus (var x) (num 1)) ss h (bin_int names bin.Add (var x) (num 1) (var_int names x h) (num_int names 1)) r

    -- a[x], a[x] + 1 and a[x] - 1
    at_name : (a x : Ident) → IsArrayName names a → IsIntName names x → IsInt names (elem a (var x))
    at_name a x h i = elem_int names a (var x) h (var_int names x i)

    one_more : (a x : Ident) → IsArrayName names a → IsIntName names x → IsInt names (plus (elem a (var x)) (num 1))
    one_more a x h i = bin_int names bin.Add (elem a (var x)) (num 1) (at_name a x h i) (num_int names 1)

    one_less : (a x : Ident) → IsArrayName names a → IsIntName names x → IsInt names (minus (elem a (var x)) (num 1))
    one_less a x h i = bin_int names bin.Sub (elem a (var x)) (num 1) (at_name a x h i) (num_int names 1)

  -- ---- both models

  pub tso_pop_fine : (b : ℕ) → HasArray wm_mem → HasArray wm_len → HasArray wm_cell → HasArray wm_val → AreFine [] (notes_in items k table (tso_pop b))
  unfolding words.stmt_of all_labels AreFresh
  tso_pop_fine b mem len cell val = helper_fine gives.Nothing wm_pop (wm_t ∷ []) (wm_j ∷ []) _ refl (search (rules, stmt_lemmas)) ((refl, refl), tt) ((refl, refl), tt) (λ labels.
      let ns : Names = within (wm_t ∷ []) (wm_j ∷ []) in
      let g : Gives = gives.Nothing in
      let t : IsIntName ns wm_t = local refl in
      let j : IsIntName ns wm_j = local refl in
      let first : IsInt ns (times (var wm_t) (num b)) = bin_int ns bin.Mul (var wm_t) (num b) (var_int ns wm_t t) (num_int ns b) in
      sets labels g ns wm_mem (elem wm_cell (times (var wm_t) (num b))) (elem wm_val (times (var wm_t) (num b))) _ mem (elem_int ns wm_cell (times (var wm_t) (num b)) cell first) (elem_int ns wm_val (times (var wm_t) (num b)) val first)
      (sets labels g ns wm_len (var wm_t) (minus (elem wm_len (var wm_t)) (num 1)) _ len (var_int ns wm_t t) (one_less labels g ns wm_len wm_t len t)
      (puts labels g ns wm_j (num 0) _ j (num_int ns 0)
      (whiles labels g ns (less (var wm_j) (elem wm_len (var wm_t))) _ [] (bin_int ns bin.Lt (var wm_j) (elem wm_len (var wm_t)) (var_int ns wm_j j) (at_name labels g ns wm_len wm_t len t))
      (shifts labels g ns wm_cell wm_t b _ cell t j (shifts labels g ns wm_val wm_t b _ val t j (steps labels g ns wm_j [] j (done labels g ns))))
      (done labels g ns)))))

  one_int : (names : Names) (e : Expr) → IsInt names e → AreInts names (e ∷ [])
  unfolding AreInts
  one_int names e i = (i, tt)

  pub flush_fine : (rows : ℕ) (x : Ident) → HasArray wm_len → IsCallable items k (within [] (wm_n ∷ [])) wm_pop gives.Nothing (x ∷ []) → AreFine [] (notes_in items k table (flush rows))
  unfolding words.stmt_of all_labels AreFresh
  flush_fine rows x len pop = helper_fine gives.Nothing wm_flush [] (wm_n ∷ []) _ refl (search (rules, stmt_lemmas)) tt ((refl, refl), tt) (λ labels.
      let ns : Names = within [] (wm_n ∷ []) in
      let g : Gives = gives.Nothing in
      let n : IsIntName ns wm_n = local refl in
      let v : IsInt ns (var wm_n) = var_int ns wm_n n in
      let less_one : IsInt ns (minus (var wm_n) (num 1)) = bin_int ns bin.Sub (var wm_n) (num 1) v (num_int ns 1) in
      let asked : Quiet items labels k g ns (words.assign_call wm_n nondet_wm []) = assign_input_quiet items labels k g ns wm_n nondet_wm n refl in
      next labels g ns (words.assign_call wm_n nondet_wm []) _ asked
      (whiles labels g ns (differ (var wm_n) (num 0)) _ [] (bin_int ns bin.Ne (var wm_n) (num 0) v (num_int ns 0))
      (assumes labels g ns (both (greater (var wm_n) (num 0)) (at_most (var wm_n) (num rows))) _
      (bin_int ns bin.Land (greater (var wm_n) (num 0)) (at_most (var wm_n) (num rows)) (bin_int ns bin.Gt (var wm_n) (num 0) v (num_int ns 0)) (bin_int ns bin.Le (var wm_n) (num rows) v (num_int ns rows)))
      (assumes labels g ns (greater (elem wm_len (minus (var wm_n) (num 1))) (num 0)) _
      (bin_int ns bin.Gt (elem wm_len (minus (var wm_n) (num 1))) (num 0) (elem_int ns wm_len (minus (var wm_n) (num 1)) len less_one) (num_int ns 0))
      (next labels g ns (words.call wm_pop (minus (var wm_n) (num 1) ∷ [])) _ (call_stmt_quiet items labels k g ns wm_pop gives.Nothing (x ∷ []) (minus (var wm_n) (num 1) ∷ []) pop (one_int ns (minus (var wm_n) (num 1)) less_one) refl)
      (next labels g ns (words.assign_call wm_n nondet_wm []) [] asked (done labels g ns)))))
      (done labels g ns)))

  -- ---- TSO

  pub tso_empty_fine : HasArray wm_len → AreFine [] (notes_in items k table tso_empty)
  unfolding words.stmt_of all_labels AreFresh
  tso_empty_fine len = helper_fine gives.Nothing wm_empty (wm_t ∷ []) [] _ refl (search (rules, stmt_lemmas)) ((refl, refl), tt) tt (λ labels.
      let ns : Names = within (wm_t ∷ []) [] in
      let g : Gives = gives.Nothing in
      assumes labels g ns (equal (elem wm_len (var wm_t)) (num 0)) [] (bin_int ns bin.Eq (elem wm_len (var wm_t)) (num 0) (at_name labels g ns wm_len wm_t len (local refl)) (num_int ns 0)) (done labels g ns))

  pub tso_put_fine : (b : ℕ) → HasArray wm_len → HasArray wm_cell → HasArray wm_val → AreFine [] (notes_in items k table (tso_put b))
  unfolding words.stmt_of all_labels AreFresh
  tso_put_fine b len cell val = helper_fine gives.Nothing wm_put (wm_t ∷ wm_c ∷ wm_v ∷ []) [] _ refl (search (rules, stmt_lemmas)) ((refl, refl), ((refl, refl), ((refl, refl), tt))) tt (λ labels.
      let ns : Names = within (wm_t ∷ wm_c ∷ wm_v ∷ []) [] in
      let g : Gives = gives.Nothing in
      let t : IsIntName ns wm_t = local refl in
      let long : IsInt ns (elem wm_len (var wm_t)) = at_name labels g ns wm_len wm_t len t in
      let place : IsInt ns (in_row wm_t b (elem wm_len (var wm_t))) = row labels g ns wm_t b (elem wm_len (var wm_t)) t long in
      assumes labels g ns (less (elem wm_len (var wm_t)) (num b)) _ (bin_int ns bin.Lt (elem wm_len (var wm_t)) (num b) long (num_int ns b))
      (sets labels g ns wm_cell (in_row wm_t b (elem wm_len (var wm_t))) (var wm_c) _ cell place (var_int ns wm_c (local refl))
      (sets labels g ns wm_val (in_row wm_t b (elem wm_len (var wm_t))) (var wm_v) _ val place (var_int ns wm_v (local refl))
      (sets labels g ns wm_len (var wm_t) (plus (elem wm_len (var wm_t)) (num 1)) [] len (var_int ns wm_t t) (one_more labels g ns wm_len wm_t len t) (done labels g ns)))))

  pub tso_get_fine : (b : ℕ) → HasArray wm_mem → HasArray wm_len → HasArray wm_cell → HasArray wm_val → AreFine [] (notes_in items k table (tso_get b))
  unfolding words.stmt_of all_labels AreFresh
  tso_get_fine b mem len cell val = helper_fine gives.Int wm_get (wm_t ∷ wm_c ∷ []) (wm_j ∷ []) _ refl (search (rules, stmt_lemmas)) ((refl, refl), ((refl, refl), tt)) ((refl, refl), tt) (λ labels.
      let ns : Names = within (wm_t ∷ wm_c ∷ []) (wm_j ∷ []) in
      let g : Gives = gives.Int in
      let t : IsIntName ns wm_t = local refl in
      let c : IsIntName ns wm_c = local refl in
      let j : IsIntName ns wm_j = local refl in
      let place : IsInt ns (in_row wm_t b (var wm_j)) = row labels g ns wm_t b (var wm_j) t (var_int ns wm_j j) in
      puts labels g ns wm_j (elem wm_len (var wm_t)) _ j (at_name labels g ns wm_len wm_t len t)
      (whiles labels g ns (greater (var wm_j) (num 0)) _ _ (bin_int ns bin.Gt (var wm_j) (num 0) (var_int ns wm_j j) (num_int ns 0))
      (puts labels g ns wm_j (minus (var wm_j) (num 1)) _ j (bin_int ns bin.Sub (var wm_j) (num 1) (var_int ns wm_j j) (num_int ns 1))
      (whens labels g ns (equal (elem wm_cell (in_row wm_t b (var wm_j))) (var wm_c)) _ [] (bin_int ns bin.Eq (elem wm_cell (in_row wm_t b (var wm_j))) (var wm_c) (elem_int ns wm_cell (in_row wm_t b (var wm_j)) cell place) (var_int ns wm_c c))
      (next labels g ns (words.return (elem wm_val (in_row wm_t b (var wm_j)))) [] (return_int items labels k ns (elem wm_val (in_row wm_t b (var wm_j))) (elem_int ns wm_val (in_row wm_t b (var wm_j)) val place)) (done labels g ns))
      (done labels g ns)))
      (next labels g ns (words.return (elem wm_mem (var wm_c))) [] (return_int items labels k ns (elem wm_mem (var wm_c)) (at_name labels g ns wm_mem wm_c mem c)) (done labels g ns))))

  pub tso_set_fine : HasArray wm_mem → HasArray wm_len → AreFine [] (notes_in items k table tso_set)
  unfolding words.stmt_of all_labels AreFresh
  tso_set_fine mem len = helper_fine gives.Nothing wm_set (wm_t ∷ wm_c ∷ wm_v ∷ []) [] _ refl (search (rules, stmt_lemmas)) ((refl, refl), ((refl, refl), ((refl, refl), tt))) tt (λ labels.
      let ns : Names = within (wm_t ∷ wm_c ∷ wm_v ∷ []) [] in
      let g : Gives = gives.Nothing in
      assumes labels g ns (equal (elem wm_len (var wm_t)) (num 0)) _ (bin_int ns bin.Eq (elem wm_len (var wm_t)) (num 0) (at_name labels g ns wm_len wm_t len (local refl)) (num_int ns 0))
      (sets labels g ns wm_mem (var wm_c) (var wm_v) [] mem (var_int ns wm_c (local refl)) (var_int ns wm_v (local refl)) (done labels g ns)))

  -- ---- PSO

  pub pso_pop_fine : (cells b : ℕ) → HasArray wm_mem → HasArray wm_len → HasArray wm_val → AreFine [] (notes_in items k table (pso_pop cells b))
  unfolding words.stmt_of all_labels AreFresh
  pso_pop_fine cells b mem len val = helper_fine gives.Nothing wm_pop (wm_b ∷ []) (wm_j ∷ []) _ refl (search (rules, stmt_lemmas)) ((refl, refl), tt) ((refl, refl), tt) (λ labels.
      let ns : Names = within (wm_b ∷ []) (wm_j ∷ []) in
      let g : Gives = gives.Nothing in
      let r : IsIntName ns wm_b = local refl in
      let j : IsIntName ns wm_j = local refl in
      let v : IsInt ns (var wm_b) = var_int ns wm_b r in
      sets labels g ns wm_mem (modulo (var wm_b) (num cells)) (elem wm_val (times (var wm_b) (num b))) _ mem (bin_int ns bin.Rem (var wm_b) (num cells) v (num_int ns cells))
      (elem_int ns wm_val (times (var wm_b) (num b)) val (bin_int ns bin.Mul (var wm_b) (num b) v (num_int ns b)))
      (sets labels g ns wm_len (var wm_b) (minus (elem wm_len (var wm_b)) (num 1)) _ len v (one_less labels g ns wm_len wm_b len r)
      (puts labels g ns wm_j (num 0) _ j (num_int ns 0)
      (whiles labels g ns (less (var wm_j) (elem wm_len (var wm_b))) _ [] (bin_int ns bin.Lt (var wm_j) (elem wm_len (var wm_b)) (var_int ns wm_j j) (at_name labels g ns wm_len wm_b len r))
      (shifts labels g ns wm_val wm_b b _ val r j (steps labels g ns wm_j [] j (done labels g ns)))
      (done labels g ns)))))

  pub pso_empty_fine : (cells : ℕ) → HasArray wm_len → AreFine [] (notes_in items k table (pso_empty cells))
  unfolding words.stmt_of all_labels AreFresh
  pso_empty_fine cells len = helper_fine gives.Nothing wm_empty (wm_t ∷ []) (wm_c ∷ []) _ refl (search (rules, stmt_lemmas)) ((refl, refl), tt) ((refl, refl), tt) (λ labels.
      let ns : Names = within (wm_t ∷ []) (wm_c ∷ []) in
      let g : Gives = gives.Nothing in
      let t : IsIntName ns wm_t = local refl in
      let c : IsIntName ns wm_c = local refl in
      let v : IsInt ns (var wm_c) = var_int ns wm_c c in
      puts labels g ns wm_c (num 0) _ c (num_int ns 0)
      (whiles labels g ns (less (var wm_c) (num cells)) _ [] (bin_int ns bin.Lt (var wm_c) (num cells) v (num_int ns cells))
      (assumes labels g ns (equal (elem wm_len (in_row wm_t cells (var wm_c))) (num 0)) _
      (bin_int ns bin.Eq (elem wm_len (in_row wm_t cells (var wm_c))) (num 0) (elem_int ns wm_len (in_row wm_t cells (var wm_c)) len (row labels g ns wm_t cells (var wm_c) t v)) (num_int ns 0))
      (steps labels g ns wm_c [] c (done labels g ns)))
      (done labels g ns)))

  pub pso_put_fine : (cells b : ℕ) → HasArray wm_len → HasArray wm_val → AreFine [] (notes_in items k table (pso_put cells b))
  unfolding words.stmt_of all_labels AreFresh
  pso_put_fine cells b len val = helper_fine gives.Nothing wm_put (wm_t ∷ wm_c ∷ wm_v ∷ []) (wm_b ∷ []) _ refl (search (rules, stmt_lemmas)) ((refl, refl), ((refl, refl), ((refl, refl), tt))) ((refl, refl), tt) (λ labels.
      let ns : Names = within (wm_t ∷ wm_c ∷ wm_v ∷ []) (wm_b ∷ []) in
      let g : Gives = gives.Nothing in
      let r : IsIntName ns wm_b = local refl in
      let long : IsInt ns (elem wm_len (var wm_b)) = at_name labels g ns wm_len wm_b len r in
      puts labels g ns wm_b (in_row wm_t cells (var wm_c)) _ r (row labels g ns wm_t cells (var wm_c) (local refl) (var_int ns wm_c (local refl)))
      (assumes labels g ns (less (elem wm_len (var wm_b)) (num b)) _ (bin_int ns bin.Lt (elem wm_len (var wm_b)) (num b) long (num_int ns b))
      (sets labels g ns wm_val (in_row wm_b b (elem wm_len (var wm_b))) (var wm_v) _ val (row labels g ns wm_b b (elem wm_len (var wm_b)) r long) (var_int ns wm_v (local refl))
      (sets labels g ns wm_len (var wm_b) (plus (elem wm_len (var wm_b)) (num 1)) [] len (var_int ns wm_b r) (one_more labels g ns wm_len wm_b len r) (done labels g ns)))))

  pub pso_get_fine : (cells b : ℕ) → HasArray wm_mem → HasArray wm_len → HasArray wm_val → AreFine [] (notes_in items k table (pso_get cells b))
  unfolding words.stmt_of all_labels AreFresh
  pso_get_fine cells b mem len val = helper_fine gives.Int wm_get (wm_t ∷ wm_c ∷ []) (wm_b ∷ []) _ refl (search (rules, stmt_lemmas)) ((refl, refl), ((refl, refl), tt)) ((refl, refl), tt) (λ labels.
      let ns : Names = within (wm_t ∷ wm_c ∷ []) (wm_b ∷ []) in
      let g : Gives = gives.Int in
      let r : IsIntName ns wm_b = local refl in
      let c : IsIntName ns wm_c = local refl in
      let long : IsInt ns (elem wm_len (var wm_b)) = at_name labels g ns wm_len wm_b len r in
      let last : Expr = minus (in_row wm_b b (elem wm_len (var wm_b))) (num 1) in
      puts labels g ns wm_b (in_row wm_t cells (var wm_c)) _ r (row labels g ns wm_t cells (var wm_c) (local refl) (var_int ns wm_c c))
      (whens labels g ns (greater (elem wm_len (var wm_b)) (num 0)) _ _ (bin_int ns bin.Gt (elem wm_len (var wm_b)) (num 0) long (num_int ns 0))
      (next labels g ns (words.return (elem wm_val last)) [] (return_int items labels k ns (elem wm_val last) (elem_int ns wm_val last val (bin_int ns bin.Sub (in_row wm_b b (elem wm_len (var wm_b))) (num 1) (row labels g ns wm_b b (elem wm_len (var wm_b)) r long) (num_int ns 1)))) (done labels g ns))
      (next labels g ns (words.return (elem wm_mem (var wm_c))) [] (return_int items labels k ns (elem wm_mem (var wm_c)) (at_name labels g ns wm_mem wm_c mem c)) (done labels g ns))))

  pub pso_set_fine : (cells : ℕ) → HasArray wm_mem → HasArray wm_len → AreFine [] (notes_in items k table (pso_set cells))
  unfolding words.stmt_of all_labels AreFresh
  pso_set_fine cells mem len = helper_fine gives.Nothing wm_set (wm_t ∷ wm_c ∷ wm_v ∷ []) [] _ refl (search (rules, stmt_lemmas)) ((refl, refl), ((refl, refl), ((refl, refl), tt))) tt (λ labels.
      let ns : Names = within (wm_t ∷ wm_c ∷ wm_v ∷ []) [] in
      let g : Gives = gives.Nothing in
      let place : IsInt ns (in_row wm_t cells (var wm_c)) = row labels g ns wm_t cells (var wm_c) (local refl) (var_int ns wm_c (local refl)) in
      assumes labels g ns (equal (elem wm_len (in_row wm_t cells (var wm_c))) (num 0)) _ (bin_int ns bin.Eq (elem wm_len (in_row wm_t cells (var wm_c))) (num 0) (elem_int ns wm_len (in_row wm_t cells (var wm_c)) len place) (num_int ns 0))
      (sets labels g ns wm_mem (var wm_c) (var wm_v) [] mem (var_int ns wm_c (local refl)) (var_int ns wm_v (local refl)) (done labels g ns)))
