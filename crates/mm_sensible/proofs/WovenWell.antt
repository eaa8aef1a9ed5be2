-- Every item of a woven program is well, each behind those that it names.
use Rattle.std.proofs.Common.{◌≡◌, ℕ, zero, suc, ◌+◌, ◌-◌, ◌*◌, ◌≤◌, Bool, true, false, ◌||◌, if◌then◌else◌, List, [], ◌∷◌, ◌++◌, map, length, slice_get, slice_index_or, codes, append_assoc, arith, refl, ◌∙◌, sym, ap, subst, Some, None, inl, inr}
use Rattle.std.specs.List.{list_any, range_with_len}
use Rattle.std.proofs.lemmas.Option.{slice_get_within}
use Rattle.mm_goto.specs.declared.ident.Ident.{Ident}
use Rattle.mm_goto.specs.declared.model.Model.{Model}
use Rattle.mm_goto.specs.declared.model.Model.TheVariants.{Tso, Pso}
use Rattle.mm_goto.specs.declared.program.Thread.{Thread}
use Rattle.mm_goto.specs.declared.shape.Shape.{Shape}
use Rattle.mm_goto.specs.Bounds.{IsBound}
use Rattle.mm_goto.specs.Listing.{Listing}
use Rattle.mm_goto.specs.Shapes.{Fits}
use Rattle.mm_goto.specs.Sourcelike.{IsSourcelike}
use Rattle.mm_tree.specs.declared.expr.Expr.{Expr}
use Rattle.mm_tree.specs.declared.item.Item.{Item}
use Rattle.mm_scope.specs.Notes.{Use}
use Rattle.mm_words.specs.Words as words
use Rattle.mm_helpers.specs.Helpers.{Sizes, wm_mem, wm_len, wm_cell, wm_val, nondet_wm, helpers, arrays}
use Rattle.mm_templates.specs.Homes.{has_moved}
use Rattle.mm_templates.specs.Names.{handle_name}
use Rattle.mm_templates.specs.Instructions.{mutex_name}
use Rattle.mm_instr.specs.Woven.{has_buffers, has_address, has_moved_cells, start_value, filled, variables, start_values, memory, sizes, thread_items, functions, woven_body, woven_items}
use Rattle.mm_sensible.proofs.ItemWalk.{AreWell, AreApart, Stands, more}
use Rattle.mm_sensible.proofs.WellItems.{input_well}
use Rattle.mm_sensible.proofs.MovedMemory.{any_at, either}
use Rattle.mm_sensible.proofs.DataItems.{IsIn, Follows, AreGood, follows_behind, stands_before, stands_later, good_none, good_more, well_part, global_good, length_fits, memory_numbers, memory_length, variables_good, mutexes_good, handles_good, single_in, array_in, mutex_in, handle_in}
use Rattle.mm_sensible.proofs.HelperItems.{IsArrayBefore, arrays_good, helpers_well}
use Rattle.mm_sensible.proofs.UsesOrder.{told}
use Rattle.mm_sensible.proofs.ThreadHomes.{HasBefore}
use Rattle.mm_sensible.proofs.WholeWell.{zero_plus, functions_well}

-- ---- a program of buffers or of moved cells has a cell

taken : {X : Type 0} (xs : List X) (k : ℕ) (d x : X) → slice_get xs k ≡ Some x → slice_index_or xs k d ≡ x
taken [] k d x e = absurd (nothing e)
  where
    nothing : None ≡ Some x → ⊥
    nothing q = cc
taken (y ∷ xs) zero d x e = same e
  where
    same : Some y ≡ Some x → y ≡ x
    same q = cc
taken (y ∷ xs) (suc k) d x e = taken xs k d x e

module _ (p : Listing) (shape : Shape) (fits : Fits p shape) where
  cell_where_buffers : has_buffers shape ≡ true → 1 ≤ length p.cells
  cell_where_buffers e =
      let row = any_at (list_any (λ b. b)) shape.buffered e in
      let flag = any_at (λ b. b) row.1 row.3 in
      (fits.stores row.0 flag.0 (ap (λ flags. slice_index_or flags flag.0 false) (taken shape.buffered row.0 [] row.1 row.2) ∙ taken row.1 flag.0 false flag.1 flag.2 ∙ flag.3)).1

  cell_where_moved : has_moved_cells shape ≡ true → 1 ≤ length p.cells
  cell_where_moved e =
      let flag = any_at (λ b. b) shape.moved e in
      let low = slice_get_within shape.moved flag.0 flag.1 flag.2 in
      let same = fits.moved_flags in
      omega (arith, low, same)

  cell_where_memory : (has_moved_cells shape || has_buffers shape) ≡ true → 1 ≤ length p.cells
  cell_where_memory e = elim (either (has_moved_cells shape) (has_buffers shape) e) [
    | inl h ↦ cell_where_moved h
    | inr h ↦ cell_where_buffers h
  ]

-- ---- the arrays of helpers

some_product : (a b : ℕ) → 1 ≤ a → 1 ≤ b → 1 ≤ a * b
some_product zero b p q = absurd (omega (arith, p))
some_product (suc a) zero p q = absurd (omega (arith, q))
some_product (suc a) (suc b) p q = omega arith

len_in : (m : Model) (s : Sizes) → (n : ℕ) × IsIn (arrays m s) (words.global wm_len (Some n) [])
len_in Tso s = (_, (0, omega arith, refl))
len_in Pso s = (_, (0, omega arith, refl))

cell_in : (m : Model) (s : Sizes) → m ≡ Tso → (n : ℕ) × IsIn (arrays m s) (words.global wm_cell (Some n) [])
cell_in Tso s e = (_, (1, omega arith, refl))
cell_in Pso s e = absurd (differ e)
  where
    differ : Pso ≡ Tso → ⊥
    differ q = cc

val_in : (m : Model) (s : Sizes) → (n : ℕ) × IsIn (arrays m s) (words.global wm_val (Some n) [])
val_in Tso s = (_, (2, omega arith, refl))
val_in Pso s = (_, (1, omega arith, refl))

-- ---- the items in order, grouped from the right

module _ (p : Listing) (shape : Shape) where
  abbrev on : Bool
  on = has_buffers shape

  abbrev s : Sizes
  s = sizes p shape

  abbrev cells_part : List Item
  cells_part = variables shape.moved 0 p.cells

  abbrev arrays_part : List Item
  arrays_part = if on then arrays shape.model s else []

  abbrev mutexes_part : List Item
  mutexes_part = map words.mutex p.mutexes

  abbrev handles_part : List Item
  handles_part = map (λ u. words.thread_variable (handle_name u)) (range_with_len 1 (length p.threads - 1))

  abbrev helpers_part : List Item
  helpers_part = if on then helpers shape.model s else []

  module _ (main : Thread) (others : List Thread) where
    abbrev threads_part : List Item
    threads_part = thread_items p shape on (has_address p) 1 others ++ words.int (codes "main") [] (woven_body p shape on (has_address p) 0 main) ∷ []

    abbrev from_helpers : List Item
    from_helpers = helpers_part ++ threads_part

    abbrev from_handles : List Item
    from_handles = handles_part ++ from_helpers

    abbrev from_mutexes : List Item
    from_mutexes = mutexes_part ++ from_handles

    abbrev from_arrays : List Item
    from_arrays = arrays_part ++ from_mutexes

    abbrev from_memory : List Item
    from_memory = memory p shape ++ from_arrays

    abbrev in_order : List Item
    in_order = words.input nondet_wm ∷ cells_part ++ from_memory

    regroup : (a b c d e f g : List Item) → a ++ b ++ c ++ d ++ e ++ f ++ g ≡ a ++ (b ++ (c ++ (d ++ (e ++ (f ++ g)))))
    regroup a b c d e f g =
        append_assoc (a ++ b ++ c ++ d ++ e) f g
        ∙ append_assoc (a ++ b ++ c ++ d) e (f ++ g)
        ∙ append_assoc (a ++ b ++ c) d (e ++ (f ++ g))
        ∙ append_assoc (a ++ b) c (d ++ (e ++ (f ++ g)))
        ∙ append_assoc a b (c ++ (d ++ (e ++ (f ++ g))))

    are_in_order : p.threads ≡ main ∷ others → woven_items p shape ≡ in_order
    are_in_order e =
        ap (λ ts. words.input nondet_wm ∷ cells_part ++ memory p shape ++ arrays_part ++ mutexes_part ++ handles_part ++ helpers_part ++ functions p shape on (has_address p) ts) e
        ∙ regroup (words.input nondet_wm ∷ cells_part) (memory p shape) arrays_part mutexes_part handles_part helpers_part threads_part

    module _ (source : IsSourcelike p) (few : length p.cells ≤ 256) (bound : IsBound shape.bound) (fits : Fits p shape) (split : p.threads ≡ main ∷ others) (items : List Item) (apart : AreApart items) (follows : Follows items 0 in_order) where
      abbrev at_cells : ℕ
      at_cells = 1

      abbrev at_memory : ℕ
      at_memory = at_cells + length cells_part

      abbrev at_arrays : ℕ
      at_arrays = at_memory + length (memory p shape)

      abbrev at_mutexes : ℕ
      at_mutexes = at_arrays + length arrays_part

      abbrev at_handles : ℕ
      at_handles = at_mutexes + length mutexes_part

      abbrev at_helpers : ℕ
      at_helpers = at_handles + length handles_part

      abbrev at_threads : ℕ
      at_threads = at_helpers + length helpers_part

      cells_follow : Follows items at_cells (cells_part ++ from_memory)
      cells_follow j = ap (slice_get items) (let e : 1 + j ≡ 0 + suc j = omega arith in e) ∙ follows (suc j)

      memory_follows : Follows items at_memory from_memory
      memory_follows = follows_behind items at_cells cells_part from_memory cells_follow

      arrays_follow : Follows items at_arrays from_arrays
      arrays_follow = follows_behind items at_memory (memory p shape) from_arrays memory_follows

      mutexes_follow : Follows items at_mutexes from_mutexes
      mutexes_follow = follows_behind items at_arrays arrays_part from_mutexes arrays_follow

      handles_follow : Follows items at_handles from_handles
      handles_follow = follows_behind items at_mutexes mutexes_part from_handles mutexes_follow

      helpers_follow : Follows items at_helpers from_helpers
      helpers_follow = follows_behind items at_handles handles_part from_helpers handles_follow

      threads_follow : Follows items at_threads threads_part
      threads_follow = follows_behind items at_helpers helpers_part threads_part helpers_follow

      -- ---- what stands where

      memory_good : AreGood items at_memory (memory p shape)
      memory_good = by (has_moved_cells shape || has_buffers shape) (cell_where_memory p shape fits)
        where
          values : List Expr
          values = start_values shape.moved 0 p.cells

          by : (b : Bool) → (b ≡ true → 1 ≤ length p.cells) → AreGood items at_memory (if b then filled wm_mem values ∷ [] else [])
          by true some =
              let one = some refl in
              let long = memory_length shape.moved 0 p.cells in
              good_more items at_memory (filled wm_mem values) []
              (global_good items at_memory wm_mem (Some (length values)) values refl (memory_numbers shape.moved 0 p.cells) (length_fits values (length values) (omega (arith, one, long)) (omega (arith, long, few)) (omega arith)))
              (good_none items at_memory)
          by false some = good_none items at_memory

      arrays_part_good : AreGood items at_arrays arrays_part
      arrays_part_good = by on (cell_where_buffers p shape fits)
        where
          by : (b : Bool) → (b ≡ true → 1 ≤ length p.cells) → AreGood items at_arrays (if b then arrays shape.model s else [])
          by true some =
              let cells = some refl in
              let threads = source.valid.main in
              let tc = some_product (length p.threads) (length p.cells) threads cells in
              arrays_good items at_arrays shape.model s threads tc (some_product (length p.threads) shape.bound threads bound.0) (some_product (length p.threads * length p.cells) shape.bound tc bound.0)
          by false some = good_none items at_arrays

      memory_stands : (has_moved_cells shape || has_buffers shape) ≡ true → Stands items at_arrays (filled wm_mem (start_values shape.moved 0 p.cells))
      memory_stands e = stands_before items at_memory (memory p shape) from_arrays (filled wm_mem (start_values shape.moved 0 p.cells)) memory_follows (by (has_moved_cells shape || has_buffers shape) e)
        where
          by : (b : Bool) → b ≡ true → IsIn (if b then filled wm_mem (start_values shape.moved 0 p.cells) ∷ [] else []) (filled wm_mem (start_values shape.moved 0 p.cells))
          by true h = (0, omega arith, refl)
          by false h = absurd (differ h)
            where
              differ : false ≡ true → ⊥
              differ q = cc

      array_stands : on ≡ true → (x : Ident) (n : ℕ) → IsIn (arrays shape.model s) (words.global x (Some n) []) → Stands items at_mutexes (words.global x (Some n) [])
      array_stands e x n h = stands_before items at_arrays arrays_part from_mutexes (words.global x (Some n) []) arrays_follow (by on e)
        where
          by : (b : Bool) → b ≡ true → IsIn (if b then arrays shape.model s else []) (words.global x (Some n) [])
          by true q = h
          by false q = absurd (differ q)
            where
              differ : false ≡ true → ⊥
              differ r = cc

      helper_stands : on ≡ true → (i : Item) → IsIn (helpers shape.model s) i → Stands items at_threads i
      helper_stands e i h = stands_before items at_helpers helpers_part threads_part i helpers_follow (by on e)
        where
          by : (b : Bool) → b ≡ true → IsIn (if b then helpers shape.model s else []) i
          by true q = h
          by false q = absurd (differ q)
            where
              differ : false ≡ true → ⊥
              differ r = cc

      before : HasBefore p shape items at_threads
      before = record {
        single = λ c cell at none still. let i : Item = words.global cell.name None (start_value cell ∷ []) in
            stands_later items at_memory at_threads i (omega arith) (stands_before items at_cells cells_part from_memory i cells_follow (single_in shape.moved 0 p.cells c cell at none (ap (has_moved shape.moved) (zero_plus c) ∙ still)));
        arrays = λ c cell at first still. let it = array_in shape.moved 0 p.cells c cell at first (ap (has_moved shape.moved) (zero_plus c) ∙ still) in
            (it.0, stands_later items at_memory at_threads (filled cell.name it.0) (omega arith) (stands_before items at_cells cells_part from_memory (filled cell.name it.0) cells_follow it.1));
        memory = λ e. stands_later items at_arrays at_threads (filled wm_mem (start_values shape.moved 0 p.cells)) (omega arith) (memory_stands e);
        mutexes = λ m less. let i : Item = words.mutex (mutex_name p.mutexes m) in
            stands_later items at_handles at_threads i (omega arith) (stands_before items at_mutexes mutexes_part from_handles i mutexes_follow (mutex_in p.mutexes m less));
        handles = λ u some less. let i : Item = words.thread_variable (handle_name u) in
            stands_later items at_helpers at_threads i (omega arith) (stands_before items at_handles handles_part from_helpers i handles_follow (handle_in 1 (length p.threads - 1) u some (omega (arith, some, less))));
        helper = λ e g f xs has. (has.0, helper_stands e (words.function g f (map words.param xs) has.0) has.1);
      }

      -- ---- all of them

      helpers_part_well : (us : List Use) → AreWell items us at_threads threads_part → AreWell items us at_helpers from_helpers
      helpers_part_well us = by on refl helpers_follow
        where
          has_array : on ≡ true → (x : Ident) → (n : ℕ) × IsIn (arrays shape.model s) (words.global x (Some n) []) → IsArrayBefore items apart at_helpers x
          has_array e x it = (it.0, [], stands_later items at_mutexes at_helpers (words.global x (Some it.0) []) (omega arith) (array_stands e x it.0 it.1))

          by : (b : Bool) → on ≡ b → Follows items at_helpers ((if b then helpers shape.model s else []) ++ threads_part)
              → AreWell items us (at_helpers + length (if b then helpers shape.model s else [])) threads_part
              → AreWell items us at_helpers ((if b then helpers shape.model s else []) ++ threads_part)
          by true e h w =
              helpers_well items apart at_helpers shape.model s threads_part us h
              (let values : List Expr = start_values shape.moved 0 p.cells in (length values, values, stands_later items at_arrays at_helpers (filled wm_mem values) (omega arith) (memory_stands (either_right (has_moved_cells shape) on e))))
              (has_array e wm_len (len_in shape.model s)) (λ m. has_array e wm_cell (cell_in shape.model s m)) (has_array e wm_val (val_in shape.model s)) w
            where
              either_right : (a b : Bool) → b ≡ true → (a || b) ≡ true
              either_right true b q = refl
              either_right false b q = q
          by false e h w = subst (λ k. AreWell items us k threads_part) (let q : at_helpers + 0 ≡ at_helpers = omega arith in q) w

      pub items_well : AreWell items (told main.code) 0 in_order
      items_well =
          let us : List Use = told main.code in
          let threads : AreWell items us at_threads threads_part = functions_well p shape source fits items apart at_threads main others split before threads_follow in
          more (follows 0) refl (input_well items 0 nondet_wm refl)
          (well_part items at_cells at_cells cells_part from_memory us (omega arith) cells_follow (variables_good items at_cells shape.moved 0 p.cells source.cell_names few)
          (well_part items at_memory at_memory (memory p shape) from_arrays us (omega arith) memory_follows memory_good
          (well_part items at_arrays at_arrays arrays_part from_mutexes us (omega arith) arrays_follow arrays_part_good
          (well_part items at_mutexes at_mutexes mutexes_part from_handles us (omega arith) mutexes_follow (mutexes_good items at_mutexes p.mutexes source.mutex_names)
          (well_part items at_handles at_handles handles_part from_helpers us (omega arith) handles_follow (handles_good items at_handles 1 (length p.threads - 1))
          (helpers_part_well us threads))))))

-- the items of a woven program are well, and tell of the starts and joins of main
pub woven_well : (p : Listing) (shape : Shape) (main : Thread) (others : List Thread) → IsSourcelike p → length p.cells ≤ 256 → IsBound shape.bound → Fits p shape → p.threads ≡ main ∷ others → AreApart (woven_items p shape) → AreWell (woven_items p shape) (told main.code) 0 (woven_items p shape)
woven_well p shape main others source few bound fits split apart =
    let order : woven_items p shape ≡ in_order p shape main others = are_in_order p shape main others split in
    subst (λ is. AreWell is (told main.code) 0 is) (sym order)
    (items_well p shape main others source few bound fits split (in_order p shape main others) (subst AreApart order apart) (λ j. ap (slice_get (in_order p shape main others)) (zero_plus j)))
