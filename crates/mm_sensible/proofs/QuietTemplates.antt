-- What an instruction becomes in a woven program declares nothing, and what is noted in it is fine.
use Rattle.std.proofs.Common.{◌≡◌, ℕ, ◌+◌, ◌<◌, ◌≤◌, Bool, true, false, not, ◌&&◌, ◌||◌, if◌then◌else◌, List, [], ◌∷◌, ◌++◌, length, codes, is_some, slice_get, arith, refl, sym, ap, subst, Option, Some, None}
use Rattle.std.specs.Prelude.{IsSomeAnd, unwrap_or, option_map}
use Rattle.std.proofs.lemmas.Bool.Decides.{nat_tests}
use Rattle.mm_goto.specs.declared.ident.Ident.{Ident}
use Rattle.mm_goto.specs.declared.model.Model.{Model}
use Rattle.mm_goto.specs.declared.model.Model.TheVariants.{Tso, Pso}
use Rattle.mm_goto.specs.declared.shape.Shape.{Shape}
use Rattle.mm_goto.specs.declared.pure.Pure.{Pure}
use Rattle.mm_goto.specs.declared.pure.Pure.TheOpen as pure
use Rattle.mm_goto.specs.declared.pure.Pure.TheViews.{roll-Pure}
use Rattle.mm_goto.specs.declared.pure.Pure.TheFolds.{fold-roll-Pure, ind-Pure, map-Pure}
use Rattle.mm_goto.specs.declared.pure.Unary.TheVariants as un
use Rattle.mm_goto.specs.declared.pure.Binary.TheVariants as bin
use Rattle.mm_goto.specs.declared.program.Cell.{Cell}
use Rattle.mm_goto.specs.declared.program.Target.{Target}
use Rattle.mm_goto.specs.declared.program.Target.TheVariants as target
use Rattle.mm_goto.specs.declared.program.Instr.{Instr}
use Rattle.mm_goto.specs.declared.program.Instr.TheVariants as i
use Rattle.mm_goto.specs.Listing.{Listing}
use Rattle.mm_goto.specs.Locals.{local_bound, local_bound_step, larger}
use Rattle.mm_goto.specs.Shapes.{flag_at}
use Rattle.mm_tree.specs.declared.expr.Expr.{Expr}
use Rattle.mm_tree.specs.declared.item.Gives.{Gives}
use Rattle.mm_tree.specs.declared.item.Gives.TheVariants as gives
use Rattle.mm_tree.specs.declared.item.Item.{Item}
use Rattle.mm_tree.specs.declared.stmt.Stmt.{Stmt}
use Rattle.mm_scope.specs.declared.table.Meaning.TheVariants as meaning
use Rattle.mm_scope.specs.Parts.{is_assertion_text}
use Rattle.mm_scope.specs.Scopes.{Names, Table, meaning_of, meaning_in}
use Rattle.mm_words.specs.Words as words
use Rattle.mm_words.specs.Words.{num, var, equal, plus, minus}
use Rattle.mm_helpers.specs.Helpers.{wm_mem, nondet_wm, wm_flush, wm_empty, wm_put, wm_get, wm_set, wm_t, wm_c, wm_v}
use Rattle.mm_templates.specs.Names.{local_name, label_name}
use Rattle.mm_templates.specs.Expressions.{printed, printed_step, cell_number}
use Rattle.mm_templates.specs.Homes.{cell_name, has_moved, is_moved, read_by_name, write_by_name}
use Rattle.mm_templates.specs.Instructions.{mutex_name, reaches_by_pointer, flushed, emptied, emptied_before, drained, value_at, written, added, swapped, plain, loaded, stored, with_buffers, woven_instr}
use Rattle.mm_instr.specs.Woven.{has_moved_cells}
use Rattle.mm_sensible.proofs.IntExpressions.{IsInt, IsIntName, local, IsArrayName, number_int, num_int, var_int, elem_int, un_int, bin_int, choice_of_ints}
use Rattle.mm_sensible.proofs.QuietStatements.{AreInts, IsCallable}
use Rattle.mm_sensible.proofs.WordStatements.{Quiet, AllQuiet, quiet_append, assign_quiet, assign_elem_quiet, assign_call_quiet, assign_input_quiet, call_stmt_quiet, skip_quiet, fence_quiet, assume_quiet, assert_quiet, lock_quiet, unlock_quiet, goto_quiet, branch_quiet, when_quiet, labelled_quiet, section_quiet}
use Rattle.mm_sensible.proofs.MovedMemory.{some_moved}

-- ---- expressions

larger_first : (m n k : ℕ) → larger m n ≤ k → m ≤ k
larger_first m n k h = grind (arith, nat_tests)

larger_second : (m n k : ℕ) → larger m n ≤ k → n ≤ k
larger_second m n k h = grind (arith, nat_tests)

module _ (names : Names) (n : ℕ) (locals : (l : ℕ) → l < n → meaning_of names (local_name l) ≡ Some meaning.Int) where
  abbrev Printable : Pure → Type 0
  Printable e = local_bound e ≤ n → IsInt names (printed e)

  bound_at : (x : pure.Pure-F Pure) → local_bound (roll-Pure x) ≡ local_bound_step (map-Pure Pure ℕ local_bound x)
  bound_at x = fold-roll-Pure ℕ local_bound_step x

  printed_at : (x : pure.Pure-F Pure) → printed (roll-Pure x) ≡ printed_step (map-Pure Pure Expr printed x)
  printed_at x = fold-roll-Pure Expr printed_step x

  by_layer : (x : pure.Pure-F Pure) → (local_bound_step (map-Pure Pure ℕ local_bound x) ≤ n → IsInt names (printed_step (map-Pure Pure Expr printed x))) → Printable (roll-Pure x)
  by_layer x h low = subst (IsInt names) (sym (printed_at x)) (h (subst (λ m. m ≤ n) (bound_at x) low))

  layer_printable : (y : pure.Pure-F ((e : Pure) × Printable e)) → Printable (roll-Pure (map-Pure ((e : Pure) × Printable e) Pure (λ d. d.0) y))
  layer_printable (pure.Const z) = by_layer (pure.Const z) (λ low. number_int names z)
  layer_printable (pure.Local l) = by_layer (pure.Local l) (λ low. var_int names (local_name l) (local (locals l (omega (arith, low)))))
  layer_printable (pure.Addr c) = by_layer (pure.Addr c) (λ low. num_int names (c + 1))
  layer_printable (pure.AddrElem first len x) = by_layer (pure.AddrElem first len x.0) (λ low. bin_int names bin.Add (num (first + 1)) (printed x.0) (num_int names (first + 1)) (x.1 low))
  layer_printable (pure.Un op x) = by_layer (pure.Un op x.0) (λ low. un_int names op (printed x.0) (x.1 low))
  layer_printable (pure.Bin op x y) = by_layer (pure.Bin op x.0 y.0) (λ low.
      bin_int names op (printed x.0) (printed y.0) (x.1 (larger_first (local_bound x.0) (local_bound y.0) n low)) (y.1 (larger_second (local_bound x.0) (local_bound y.0) n low)))
  layer_printable (pure.Cond c x y) = by_layer (pure.Cond c.0 x.0 y.0) (λ low.
      let more = larger_second (local_bound c.0) (larger (local_bound x.0) (local_bound y.0)) n low in
      choice_of_ints names (printed c.0) (printed x.0) (printed y.0) (c.1 (larger_first (local_bound c.0) (larger (local_bound x.0) (local_bound y.0)) n low)) (x.1 (larger_first (local_bound x.0) (local_bound y.0) n more)) (y.1 (larger_second (local_bound x.0) (local_bound y.0) n more)))

  -- an expression over these locals is an int
  pub printed_int : (e : Pure) → Printable e
  printed_int e = ind-Pure Printable (λ x y is. subst (λ v. Printable (roll-Pure v)) is (layer_printable y)) e

-- ---- where the code of a thread stands

-- what the names mean where the code of a thread with n locals and so many instructions stands, in function k
pub record IsHome (p : Listing) (shape : Shape) (buffers : Bool) (items : List Item) (labels : Table) (k : ℕ) (names : Names) (n size : ℕ) : Type 0 where
  pub locals : (l : ℕ) → l < n → meaning_of names (local_name l) ≡ Some meaning.Int
  pub single : (c : ℕ) (cell : Cell) → slice_get p.cells c ≡ Some cell → cell.index ≡ None → has_moved shape.moved c ≡ false → IsIntName names cell.name
  pub arrays : (c : ℕ) (cell : Cell) → slice_get p.cells c ≡ Some cell → cell.index ≡ Some 0 → has_moved shape.moved c ≡ false → IsArrayName names cell.name
  pub memory : (has_moved_cells shape || buffers) ≡ true → IsArrayName names wm_mem
  pub mutexes : (m : ℕ) → m < length p.mutexes → meaning_of names (mutex_name p.mutexes m) ≡ Some meaning.Mutex
  pub places : (i : ℕ) → i < size → is_some (meaning_in labels (label_name i)) ≡ true
  pub flush : buffers ≡ true → IsCallable items k names wm_flush gives.Nothing []
  pub empty : buffers ≡ true → IsCallable items k names wm_empty gives.Nothing (wm_t ∷ [])
  pub put : buffers ≡ true → IsCallable items k names wm_put gives.Nothing (wm_t ∷ wm_c ∷ wm_v ∷ [])
  pub get : buffers ≡ true → IsCallable items k names wm_get gives.Int (wm_t ∷ wm_c ∷ [])
  pub set : buffers ≡ true → IsCallable items k names wm_set gives.Nothing (wm_t ∷ wm_c ∷ wm_v ∷ [])

module _ (p : Listing) (shape : Shape) (buffers : Bool) (items : List Item) (labels : Table) (k : ℕ) (g : Gives) (names : Names) (n size : ℕ) (home : IsHome p shape buffers items labels k names n size) where
  -- the target names locals of the thread, and a variable, a whole array or what a pointer reaches
  unfoldable pub IsKnown : Target → Type 0
  IsKnown (target.Cell c) = IsSomeAnd (slice_get p.cells c) (λ cell. cell.index ≡ None)
  IsKnown (target.Elem first len index) = (local_bound index ≤ n) × IsSomeAnd (slice_get p.cells first) (λ cell. cell.index ≡ Some 0)
  IsKnown (target.Deref e) = (local_bound e ≤ n) × IsArrayName names wm_mem

  int : (e : Pure) → local_bound e ≤ n → IsInt names (printed e)
  int e low = printed_int names n home.locals e low

  the_local : (l : ℕ) → l < n → IsIntName names (local_name l)
  the_local l low = local (home.locals l low)

  local_int : (l : ℕ) → l < n → IsInt names (var (local_name l))
  local_int l low = var_int names (local_name l) (the_local l low)

  number_of_int : (a : Target) → IsKnown a → IsInt names (cell_number a)
  unfolding IsKnown
  number_of_int (target.Cell c) h = num_int names c
  number_of_int (target.Elem first len index) h = bin_int names bin.Add (num first) (printed index) (num_int names first) (int index h.0)
  number_of_int (target.Deref e) h = bin_int names bin.Sub (printed e) (num 1) (int e h.0) (num_int names 1)

  moved_memory : (c : ℕ) → has_moved shape.moved c ≡ true → IsArrayName names wm_mem
  moved_memory c e = home.memory (ap (λ b. b || buffers) (some_moved shape.moved c e))

  target_memory : (a : Target) → IsKnown a → is_moved shape.moved a ≡ true → IsArrayName names wm_mem
  unfolding IsKnown
  target_memory (target.Cell c) h e = moved_memory c e
  target_memory (target.Elem first len index) h e = moved_memory first e
  target_memory (target.Deref e) h q = h.1

  -- what the cell at a place is called
  found_name : (c : ℕ) (P : Cell → Type 0) (Q : Ident → Type 0) → ((cell : Cell) → slice_get p.cells c ≡ Some cell → P cell → Q cell.name) → IsSomeAnd (slice_get p.cells c) P → Q (cell_name p.cells c)
  found_name c P Q h is = by (slice_get p.cells c) refl is
    where
      by : (o : Option Cell) → slice_get p.cells c ≡ o → IsSomeAnd o P → Q (unwrap_or (option_map (λ a. a.name) o) [])
      by None e q = absurd q
      by (Some cell) e q = h cell e q

  variable_int : (c : ℕ) → IsSomeAnd (slice_get p.cells c) (λ cell. cell.index ≡ None) → has_moved shape.moved c ≡ false → IsIntName names (cell_name p.cells c)
  variable_int c is e = found_name c (λ cell. cell.index ≡ None) (IsIntName names) (λ cell at none. home.single c cell at none e) is

  array_name : (c : ℕ) → IsSomeAnd (slice_get p.cells c) (λ cell. cell.index ≡ Some 0) → has_moved shape.moved c ≡ false → IsArrayName names (cell_name p.cells c)
  array_name c is e = found_name c (λ cell. cell.index ≡ Some 0) (IsArrayName names) (λ cell at first. home.arrays c cell at first e) is

  value_int : (a : Target) → IsKnown a → IsInt names (value_at p shape a)
  unfolding IsKnown
  value_int a h = by (is_moved shape.moved a) refl
    where
      unmoved : (a : Target) → IsKnown a → is_moved shape.moved a ≡ false → IsInt names (read_by_name p.cells a)
      unmoved (target.Cell c) h e = var_int names (cell_name p.cells c) (variable_int c h e)
      unmoved (target.Elem first len index) h e = elem_int names (cell_name p.cells first) (printed index) (array_name first h.1 e) (int index h.0)
      unmoved (target.Deref e) h q = elem_int names wm_mem (cell_number (target.Deref e)) h.1 (number_of_int (target.Deref e) h)

      by : (b : Bool) → is_moved shape.moved a ≡ b → IsInt names (if b then words.elem wm_mem (cell_number a) else read_by_name p.cells a)
      by true e = elem_int names wm_mem (cell_number a) (target_memory a h e) (number_of_int a h)
      by false e = unmoved a h e

  written_quiet : (a : Target) (e : Expr) → IsKnown a → IsInt names e → Quiet items labels k g names (written p shape a e)
  unfolding IsKnown
  written_quiet a e h q = by (is_moved shape.moved a) refl
    where
      unmoved : (a : Target) → IsKnown a → is_moved shape.moved a ≡ false → Quiet items labels k g names (write_by_name p.cells a e)
      unmoved (target.Cell c) h r = assign_quiet items labels k g names (cell_name p.cells c) e (variable_int c h r) q
      unmoved (target.Elem first len index) h r = assign_elem_quiet items labels k g names (cell_name p.cells first) (printed index) e (array_name first h.1 r) (int index h.0) q
      unmoved (target.Deref d) h r = assign_elem_quiet items labels k g names wm_mem (cell_number (target.Deref d)) e h.1 (number_of_int (target.Deref d) h) q

      by : (b : Bool) → is_moved shape.moved a ≡ b → Quiet items labels k g names (if b then words.assign_elem wm_mem (cell_number a) e else write_by_name p.cells a e)
      by true r = assign_elem_quiet items labels k g names wm_mem (cell_number a) e (target_memory a h r) (number_of_int a h) q
      by false r = unmoved a h r

  -- ---- instructions

  -- the instruction names locals of the thread, known targets, mutexes and places; it starts no thread and waits for none
  unfoldable pub IsReady : Instr → Type 0
  IsReady (i.Set l e) = (l < n) × (local_bound e ≤ n)
  IsReady (i.Load l a) = (l < n) × IsKnown a
  IsReady (i.Store a e) = IsKnown a × (local_bound e ≤ n)
  IsReady (i.Input l) = l < n
  IsReady (i.Jump j) = j < size
  IsReady (i.Branch e j) = (local_bound e ≤ n) × (j < size)
  IsReady (i.Assert e m) = (local_bound e ≤ n) × (is_assertion_text (words.numbered (codes "assertion ") m) ≡ true)
  IsReady (i.Assume e) = local_bound e ≤ n
  IsReady i.Fence = Unit {0}
  IsReady (i.Lock m) = m < length p.mutexes
  IsReady (i.Unlock m) = m < length p.mutexes
  IsReady (i.Add l a e) = (l < n) × IsKnown a × (local_bound e ≤ n)
  IsReady (i.Cas l a e f) = (l < n) × IsKnown a × (local_bound e ≤ n) × (local_bound f ≤ n)
  IsReady (i.Start u) = ⊥
  IsReady (i.Join u) = ⊥
  IsReady i.AtomBegin = Unit {0}
  IsReady i.AtomEnd = Unit {0}
  IsReady i.End = Unit {0}

  -- the statements are quiet here
  unfoldable pub Calm : List Stmt → Type 0
  Calm ss = AllQuiet items labels k g names ss

  one : (s : Stmt) → Quiet items labels k g names s → Calm (s ∷ [])
  unfolding Calm AllQuiet
  one s h = (h, tt)

  pub next : (s : Stmt) (ss : List Stmt) → Quiet items labels k g names s → Calm ss → Calm (s ∷ ss)
  unfolding Calm AllQuiet
  next s ss h r = (h, r)

  pub none : Calm []
  unfolding Calm AllQuiet
  none = tt

  append : (ss ts : List Stmt) → Calm ss → Calm ts → Calm (ss ++ ts)
  unfolding Calm
  append ss ts h r = quiet_append items labels k g names ss ts h r

  in_section : (ss : List Stmt) → Calm ss → Calm (words.section ss)
  unfolding Calm
  in_section ss h = section_quiet items labels k g names ss h

  when_calm : (e : Expr) (ss : List Stmt) → IsInt names e → Calm ss → Quiet items labels k g names (words.when e ss)
  unfolding Calm
  when_calm e ss i h = when_quiet items labels k g names e ss i h

  -- where the code ends, 0 may be given back
  module _ (ends : Quiet items labels k g names (words.return (num 0))) where
    added_calm : (l : ℕ) (a : Target) (e : Pure) → l < n → IsKnown a → local_bound e ≤ n → Calm (added p shape l a e)
    added_calm l a e low h r =
        next (words.assign (local_name l) (value_at p shape a)) (written p shape a (plus (var (local_name l)) (printed e)) ∷ []) (assign_quiet items labels k g names (local_name l) (value_at p shape a) (the_local l low) (value_int a h))
        (one (written p shape a (plus (var (local_name l)) (printed e))) (written_quiet a (plus (var (local_name l)) (printed e)) h (bin_int names bin.Add (var (local_name l)) (printed e) (local_int l low) (int e r))))

    swapped_calm : (l : ℕ) (a : Target) (e f : Pure) → l < n → IsKnown a → local_bound e ≤ n → local_bound f ≤ n → Calm (swapped p shape l a e f)
    swapped_calm l a e f low h r q =
        let same : IsInt names (equal (var (local_name l)) (printed e)) = bin_int names bin.Eq (var (local_name l)) (printed e) (local_int l low) (int e r) in
        next (words.assign (local_name l) (value_at p shape a)) _ (assign_quiet items labels k g names (local_name l) (value_at p shape a) (the_local l low) (value_int a h))
        (next (words.when (equal (var (local_name l)) (printed e)) (written p shape a (printed f) ∷ [])) _ (when_calm (equal (var (local_name l)) (printed e)) (written p shape a (printed f) ∷ []) same (one (written p shape a (printed f)) (written_quiet a (printed f) h (int f q))))
        (one (words.assign (local_name l) (equal (var (local_name l)) (printed e))) (assign_quiet items labels k g names (local_name l) (equal (var (local_name l)) (printed e)) (the_local l low) same)))

    plain_calm : (it : Instr) → IsReady it → Calm (plain p shape it)
    unfolding IsReady
    plain_calm (i.Set l e) h = one _ (assign_quiet items labels k g names (local_name l) (printed e) (the_local l h.0) (int e h.1))
    plain_calm (i.Load l a) h = one _ (assign_quiet items labels k g names (local_name l) (value_at p shape a) (the_local l h.0) (value_int a h.1))
    plain_calm (i.Store a e) h = one _ (written_quiet a (printed e) h.0 (int e h.1))
    plain_calm (i.Input l) h = one _ (assign_input_quiet items labels k g names (local_name l) nondet_wm (the_local l h) refl)
    plain_calm (i.Jump j) h = one _ (goto_quiet items labels k g names (label_name j) (home.places j h))
    plain_calm (i.Branch e j) h = one _ (branch_quiet items labels k g names (words.un un.Not (printed e)) (label_name j) (un_int names un.Not (printed e) (int e h.0)) (home.places j h.1))
    plain_calm (i.Assert e m) h = one _ (assert_quiet items labels k g names (printed e) m (int e h.0) h.1)
    plain_calm (i.Assume e) h = one _ (assume_quiet items labels k g names (printed e) (int e h))
    plain_calm i.Fence h = one _ (fence_quiet items labels k g names)
    plain_calm (i.Lock m) h = one _ (lock_quiet items labels k g names (mutex_name p.mutexes m) (home.mutexes m h))
    plain_calm (i.Unlock m) h = one _ (unlock_quiet items labels k g names (mutex_name p.mutexes m) (home.mutexes m h))
    plain_calm (i.Add l a e) h = in_section (added p shape l a e) (added_calm l a e h.0 h.1 h.2)
    plain_calm (i.Cas l a e f) h = in_section (swapped p shape l a e f) (swapped_calm l a e f h.0 h.1 h.2 h.3)
    plain_calm (i.Start u) h = absurd h
    plain_calm (i.Join u) h = absurd h
    plain_calm i.AtomBegin h = none
    plain_calm i.AtomEnd h = none
    plain_calm i.End h = one _ ends

    -- ---- where some store is buffered

    module _ (yes : buffers ≡ true) where
      ints_one : (e : Expr) → IsInt names e → AreInts names (e ∷ [])
      unfolding AreInts
      ints_one e i = (i, tt)

      ints_two : (e f : Expr) → IsInt names e → IsInt names f → AreInts names (e ∷ f ∷ [])
      unfolding AreInts
      ints_two e f i j = (i, (j, tt))

      ints_three : (e f d : Expr) → IsInt names e → IsInt names f → IsInt names d → AreInts names (e ∷ f ∷ d ∷ [])
      unfolding AreInts
      ints_three e f d i j q = (i, (j, (q, tt)))

      no_ints : AreInts names []
      unfolding AreInts
      no_ints = tt

      flushed_calm : (t i : ℕ) → Calm (flushed shape.points t i)
      flushed_calm t i = by (flag_at shape.points t i)
        where
          by : (b : Bool) → Calm (if b then words.call wm_flush [] ∷ [] else [])
          by true = one (words.call wm_flush []) (call_stmt_quiet items labels k g names wm_flush gives.Nothing [] [] (home.flush yes) no_ints refl)
          by false = none

      pub emptied_quiet : (u : ℕ) → Quiet items labels k g names (emptied u)
      emptied_quiet u = call_stmt_quiet items labels k g names wm_empty gives.Nothing (wm_t ∷ []) (num u ∷ []) (home.empty yes) (ints_one (num u) (num_int names u)) refl

      pub drained_calm : (t i : ℕ) (rest : List Stmt) → Calm rest → Calm (drained shape.points t i rest)
      drained_calm t i rest h = in_section (flushed shape.points t i ++ emptied t ∷ rest) (append (flushed shape.points t i) (emptied t ∷ rest) (flushed_calm t i) (next (emptied t) rest (emptied_quiet t) h))

      loaded_quiet : (t l : ℕ) (a : Target) → l < n → IsKnown a → Quiet items labels k g names (loaded p shape t l a)
      loaded_quiet t l a low h = by (is_moved shape.moved a)
        where
          by : (b : Bool) → Quiet items labels k g names (if b then words.assign_call (local_name l) wm_get (num t ∷ cell_number a ∷ []) else words.assign (local_name l) (value_at p shape a))
          by true = assign_call_quiet items labels k g names (local_name l) wm_get (wm_t ∷ wm_c ∷ []) (num t ∷ cell_number a ∷ []) (the_local l low) (home.get yes) (ints_two (num t) (cell_number a) (num_int names t) (number_of_int a h)) refl
          by false = assign_quiet items labels k g names (local_name l) (value_at p shape a) (the_local l low) (value_int a h)

      emptied_before_calm : (m : Model) (t : ℕ) → Calm (emptied_before m t)
      emptied_before_calm Tso t = one (emptied t) (emptied_quiet t)
      emptied_before_calm Pso t = none

      stored_calm : (t i : ℕ) (a : Target) (e : Pure) → IsKnown a → local_bound e ≤ n → Calm (stored p shape t i a e)
      stored_calm t i a e h low = by (flag_at shape.buffered t i) (is_moved shape.moved a)
        where
          put : List Stmt
          put = words.call wm_put (num t ∷ cell_number a ∷ printed e ∷ []) ∷ []

          set : List Stmt
          set = words.call wm_set (num t ∷ cell_number a ∷ printed e ∷ []) ∷ []

          values : AreInts names (num t ∷ cell_number a ∷ printed e ∷ [])
          values = ints_three (num t) (cell_number a) (printed e) (num_int names t) (number_of_int a h) (int e low)

          by : (b m : Bool) → Calm (if b then put else (if m then set else (emptied_before shape.model t ++ written p shape a (printed e) ∷ [])))
          by true m = one _ (call_stmt_quiet items labels k g names wm_put gives.Nothing (wm_t ∷ wm_c ∷ wm_v ∷ []) (num t ∷ cell_number a ∷ printed e ∷ []) (home.put yes) values refl)
          by false true = one _ (call_stmt_quiet items labels k g names wm_set gives.Nothing (wm_t ∷ wm_c ∷ wm_v ∷ []) (num t ∷ cell_number a ∷ printed e ∷ []) (home.set yes) values refl)
          by false false = append (emptied_before shape.model t) (written p shape a (printed e) ∷ []) (emptied_before_calm shape.model t) (one (written p shape a (printed e)) (written_quiet a (printed e) h (int e low)))

      buffered_calm : (t i : ℕ) (it : Instr) → IsReady it → Calm (with_buffers p shape t i it)
      unfolding IsReady
      buffered_calm t j (i.Load l a) h = in_section (flushed shape.points t j ++ loaded p shape t l a ∷ []) (append (flushed shape.points t j) (loaded p shape t l a ∷ []) (flushed_calm t j) (one (loaded p shape t l a) (loaded_quiet t l a h.0 h.1)))
      buffered_calm t j (i.Store a e) h = in_section (flushed shape.points t j ++ stored p shape t j a e) (append (flushed shape.points t j) (stored p shape t j a e) (flushed_calm t j) (stored_calm t j a e h.0 h.1))
      buffered_calm t j (i.Add l a e) h = drained_calm t j (added p shape l a e) (added_calm l a e h.0 h.1 h.2)
      buffered_calm t j (i.Cas l a e f) h = drained_calm t j (swapped p shape l a e f) (swapped_calm l a e f h.0 h.1 h.2 h.3)
      buffered_calm t j i.Fence h = append (drained shape.points t j []) (plain p shape i.Fence) (drained_calm t j [] none) (plain_calm i.Fence h)
      buffered_calm t j (i.Lock m) h = append (drained shape.points t j []) (plain p shape (i.Lock m)) (drained_calm t j [] none) (plain_calm (i.Lock m) h)
      buffered_calm t j (i.Unlock m) h = append (drained shape.points t j []) (plain p shape (i.Unlock m)) (drained_calm t j [] none) (plain_calm (i.Unlock m) h)
      buffered_calm t j (i.Set l e) h = plain_calm (i.Set l e) h
      buffered_calm t j (i.Input l) h = plain_calm (i.Input l) h
      buffered_calm t j (i.Jump m) h = plain_calm (i.Jump m) h
      buffered_calm t j (i.Branch e m) h = plain_calm (i.Branch e m) h
      buffered_calm t j (i.Assert e m) h = plain_calm (i.Assert e m) h
      buffered_calm t j (i.Assume e) h = plain_calm (i.Assume e) h
      buffered_calm t j (i.Start u) h = absurd h
      buffered_calm t j (i.Join u) h = absurd h
      buffered_calm t j i.AtomBegin h = plain_calm i.AtomBegin h
      buffered_calm t j i.AtomEnd h = plain_calm i.AtomEnd h
      buffered_calm t j i.End h = plain_calm i.End h

    -- ---- the instruction with its label

    labelled_calm : (x : Ident) (ss : List Stmt) → Calm ss → Calm (words.labelled x ss)
    unfolding Calm
    labelled_calm x ss h = labelled_quiet items labels k g names x ss h

    -- what an instruction becomes, where it follows a pointer only if an address stands in the program
    pub woven_calm : (addresses : Bool) (t j : ℕ) (it : Instr) → ((reaches_by_pointer it && not addresses) ≡ false → IsReady it) → Calm (woven_instr p shape buffers addresses t j it)
    woven_calm addresses t j it h = by (reaches_by_pointer it && not addresses) refl buffers refl
      where
        by : (b : Bool) → (reaches_by_pointer it && not addresses) ≡ b → (c : Bool) → buffers ≡ c → Calm (words.labelled (label_name j) (if b then words.skip ∷ [] else (if c then with_buffers p shape t j it else plain p shape it)))
        by true e c q = labelled_calm (label_name j) (words.skip ∷ []) (one words.skip (skip_quiet items labels k g names))
        by false e true q = labelled_calm (label_name j) (with_buffers p shape t j it) (buffered_calm q t j it (h e))
        by false e false q = labelled_calm (label_name j) (plain p shape it) (plain_calm it (h e))
