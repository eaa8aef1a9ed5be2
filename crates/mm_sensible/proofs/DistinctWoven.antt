-- No two items of a woven program declare one name.
use Rattle.std.proofs.Common.{◌≡◌, ◌≢◌, ℕ, suc, ◌+◌, ◌-◌, ◌≤◌, Bool, true, false, ◌||◌, if◌then◌else◌, List, [], ◌∷◌, ◌++◌, map, length, slice_get, codes, append_assoc, arith, refl, ◌∙◌, sym, ap, subst, inl, inr}
use Rattle.std.specs.Prelude.{◌⊎◌}
use Rattle.std.specs.List.{range_with_len}
use Rattle.std.specs.Str.{bytes_eq}
use Rattle.std.proofs.lemmas.Slice.Eq.{bytes_eq-Decides}
use Rattle.mm_goto.specs.declared.ident.Ident.{Ident}
use Rattle.mm_goto.specs.declared.model.Model.{Model}
use Rattle.mm_goto.specs.declared.model.Model.TheVariants.{Tso, Pso}
use Rattle.mm_goto.specs.declared.program.Cell.{Cell}
use Rattle.mm_goto.specs.declared.program.Thread.{Thread}
use Rattle.mm_goto.specs.declared.shape.Shape.{Shape}
use Rattle.mm_goto.specs.Listing.{Listing}
use Rattle.mm_goto.specs.Names.{IsDeclarable}
use Rattle.mm_goto.specs.Sourcelike.{IsSourcelike}
use Rattle.mm_tree.specs.declared.item.Item.{Item}
use Rattle.mm_words.specs.Words as words
use Rattle.mm_helpers.specs.Helpers.{Sizes, wm_mem, wm_len, wm_cell, wm_val, wm_pop, wm_flush, wm_empty, wm_put, wm_get, wm_set, nondet_wm, helpers, arrays}
use Rattle.mm_templates.specs.Names.{handle_name, thread_name}
use Rattle.mm_instr.specs.Woven.{has_buffers, has_moved_cells, has_address, filled, start_values, variables, memory, thread_items, functions, sizes, woven_body, woven_items}
use Rattle.mm_sensible.proofs.ItemWalk.{item_name}
use Rattle.mm_sensible.proofs.MovedMemory.{at_place}
use Rattle.mm_sensible.proofs.DistinctItems.{Differs, AreDistinct, EachName, differs_all, distinct_both, each_both, each_weaker, IsFirstName, variables_distinct}
use Rattle.mm_sensible.proofs.NameSorts.{sort_of, sort_if, by_letters, source_sort, thread_sort, handle_sort, IsNumbered, threads_distinct, handles_distinct, IsMutexName, mutexes_distinct}

-- the name is of this sort
abbrev IsSort : ℕ → Ident → Type 0
IsSort s x = sort_of x ≡ s

-- its sort is from 1 up to this
abbrev IsUpTo : ℕ → Ident → Type 0
IsUpTo s x = (1 ≤ sort_of x) × (sort_of x ≤ s)

-- a part of the next sort behind parts of the sorts before it
grown : (s : ℕ) (is js : List Item) → 1 ≤ s → EachName (IsUpTo s) is × AreDistinct is → EachName (IsSort (s + 1)) js × AreDistinct js → EachName (IsUpTo (s + 1)) (is ++ js) × AreDistinct (is ++ js)
grown s is js some h g = (
  each_both (IsUpTo (s + 1)) is js (each_weaker (IsUpTo s) (IsUpTo (s + 1)) (λ x q. let low = q.1 in (q.0, omega (arith, low))) is h.0) (each_weaker (IsSort (s + 1)) (IsUpTo (s + 1)) (λ x e. (omega (arith, e), omega (arith, e))) js g.0),
  distinct_both (IsUpTo s) (IsSort (s + 1)) (λ x q e. let low = q.1 in omega (arith, low, e)) is js h.0 g.0 h.1 g.1,
)

sorted : (s : ℕ) (P : Ident → Type 0) → ((x : Ident) → P x → IsSort s x) → (is : List Item) → EachName P is × AreDistinct is → EachName (IsSort s) is × AreDistinct is
sorted s P f is h = (each_weaker P (IsSort s) f is h.0, h.1)

none_sorted : (s : ℕ) → EachName (IsSort s) [] × AreDistinct []
unfolding EachName AreDistinct
none_sorted s = (tt, tt)

-- names that are told apart by their bytes
apart_if : (x y : Ident) → bytes_eq x y ≡ false → x ≢ y
apart_if x y e q = differ (sym (ap (bytes_eq x) (sym q) ∙ (bytes_eq-Decides x x).1 refl) ∙ e)
  where
    differ : true ≡ false → ⊥
    differ r = cc

memory_sorted : (p : Listing) (shape : Shape) → EachName (IsSort 2) (memory p shape) × AreDistinct (memory p shape)
unfolding EachName AreDistinct Differs sort_of sort_if by_letters
memory_sorted p shape = by (has_moved_cells shape || has_buffers shape)
  where
    by : (b : Bool) → EachName (IsSort 2) (if b then filled wm_mem (start_values shape.moved 0 p.cells) ∷ [] else []) × AreDistinct (if b then filled wm_mem (start_values shape.moved 0 p.cells) ∷ [] else [])
    by true = ((refl, tt), (tt, tt))
    by false = (tt, tt)

arrays_sorted : (m : Model) (s : Sizes) → EachName (IsSort 3) (arrays m s) × AreDistinct (arrays m s)
unfolding EachName AreDistinct Differs sort_of sort_if by_letters
arrays_sorted Tso s = ((refl, (refl, (refl, tt))), ((apart_if wm_len wm_cell refl, (apart_if wm_len wm_val refl, tt)), ((apart_if wm_cell wm_val refl, tt), (tt, tt))))
arrays_sorted Pso s = ((refl, (refl, tt)), ((apart_if wm_len wm_val refl, tt), (tt, tt)))

-- the six helpers' names, which both models have
six_sorted : (a b c d e f : Item) → item_name a ≡ wm_pop → item_name b ≡ wm_flush → item_name c ≡ wm_empty → item_name d ≡ wm_put → item_name e ≡ wm_get → item_name f ≡ wm_set → EachName (IsSort 5) (a ∷ b ∷ c ∷ d ∷ e ∷ f ∷ []) × AreDistinct (a ∷ b ∷ c ∷ d ∷ e ∷ f ∷ [])
unfolding EachName AreDistinct Differs sort_of sort_if by_letters
six_sorted a b c d e f pa pb pc pd pe pf = (
  (ap sort_of pa, (ap sort_of pb, (ap sort_of pc, (ap sort_of pd, (ap sort_of pe, (ap sort_of pf, tt)))))),
  (
    (two a b wm_pop wm_flush pa pb refl, (two a c wm_pop wm_empty pa pc refl, (two a d wm_pop wm_put pa pd refl, (two a e wm_pop wm_get pa pe refl, (two a f wm_pop wm_set pa pf refl, tt))))),
    (
      (two b c wm_flush wm_empty pb pc refl, (two b d wm_flush wm_put pb pd refl, (two b e wm_flush wm_get pb pe refl, (two b f wm_flush wm_set pb pf refl, tt)))),
      (
        (two c d wm_empty wm_put pc pd refl, (two c e wm_empty wm_get pc pe refl, (two c f wm_empty wm_set pc pf refl, tt))),
        ((two d e wm_put wm_get pd pe refl, (two d f wm_put wm_set pd pf refl, tt)), ((two e f wm_get wm_set pe pf refl, tt), (tt, tt))),
      ),
    ),
  ),
)
  where
    two : (i j : Item) (x y : Ident) → item_name i ≡ x → item_name j ≡ y → bytes_eq x y ≡ false → item_name i ≢ item_name j
    two i j x y p q n e = apart_if x y n (sym p ∙ e ∙ q)

helpers_sorted : (m : Model) (s : Sizes) → EachName (IsSort 5) (helpers m s) × AreDistinct (helpers m s)
helpers_sorted Tso s = six_sorted _ _ _ _ _ _ refl refl refl refl refl refl
helpers_sorted Pso s = six_sorted _ _ _ _ _ _ refl refl refl refl refl refl

from_zero : (k : ℕ) → 0 + k ≡ k
from_zero k = omega arith

module _ (p : Listing) (shape : Shape) (s : IsSourcelike p) where
  -- ---- the parts

  -- a cell's name, or a name of the two sorts behind
  IsEarly : Ident → Type 0
  IsEarly x = IsFirstName p.cells shape.moved s.apart.cells 0 x ⊎ ((2 ≤ sort_of x) × (sort_of x ≤ 3))

  mutex_source : (x : Ident) → IsMutexName p.mutexes s.apart.mutexes 0 x → IsSort 1 x
  mutex_source x (n, low, at) = source_sort x (at_place IsDeclarable p.mutexes n x s.mutex_names at)

  cell_source : (x : Ident) → IsFirstName p.cells shape.moved s.apart.cells 0 x → IsSort 1 x
  cell_source x (d, cell, low, at, first, is) = ap sort_of is ∙ source_sort cell.name (at_place (λ (c : Cell). IsDeclarable c.name) p.cells d cell s.cell_names at)

  early_apart : (x : Ident) → IsEarly x → IsMutexName p.mutexes s.apart.mutexes 0 x → ⊥
  unfolding IsEarly
  early_apart x (inl (d, cell, low, at, first, is)) (n, above, there) = s.apart.neither d n cell x at there (sym is)
  early_apart x (inr r) h = let e = mutex_source x h in let low = r.0 in omega (arith, low, e)

  early_sort : (x : Ident) → IsEarly x → IsUpTo 3 x
  unfolding IsEarly
  early_sort x (inl h) = let e = cell_source x h in (omega (arith, e), omega (arith, e))
  early_sort x (inr r) = let low = r.0 in let high = r.1 in (omega (arith, low), high)

  if_arrays : (b : Bool) → EachName (IsSort 3) (if b then arrays shape.model (sizes p shape) else []) × AreDistinct (if b then arrays shape.model (sizes p shape) else [])
  if_arrays true = arrays_sorted shape.model (sizes p shape)
  if_arrays false = none_sorted 3

  if_helpers : (b : Bool) → EachName (IsSort 5) (if b then helpers shape.model (sizes p shape) else []) × AreDistinct (if b then helpers shape.model (sizes p shape) else [])
  if_helpers true = helpers_sorted shape.model (sizes p shape)
  if_helpers false = none_sorted 5

  abbrev cells_part : List Item
  cells_part = variables shape.moved 0 p.cells

  abbrev arrays_part : List Item
  arrays_part = if has_buffers shape then arrays shape.model (sizes p shape) else []

  abbrev helpers_part : List Item
  helpers_part = if has_buffers shape then helpers shape.model (sizes p shape) else []

  abbrev mutexes_part : List Item
  mutexes_part = map words.mutex p.mutexes

  early : EachName IsEarly ((cells_part ++ memory p shape) ++ arrays_part) × AreDistinct ((cells_part ++ memory p shape) ++ arrays_part)
  unfolding IsEarly
  early =
      let P : Ident → Type 0 = IsFirstName p.cells shape.moved s.apart.cells 0 in
      let E : Ident → Type 0 = IsEarly in
      let v = variables_distinct p.cells shape.moved s.apart.cells 0 p.cells (λ k. ap (slice_get p.cells) (from_zero k)) in
      let m = memory_sorted p shape in
      let a = if_arrays (has_buffers shape) in
      let vm = distinct_both P (IsSort 2) (λ x h e. let q = cell_source x h in omega (arith, q, e)) cells_part (memory p shape) v.0 m.0 v.1 m.1 in
      let each_vm = each_both (λ x. P x ⊎ IsSort 2 x) cells_part (memory p shape) (each_weaker P (λ x. P x ⊎ IsSort 2 x) (λ x h. inl h) cells_part v.0) (each_weaker (IsSort 2) (λ x. P x ⊎ IsSort 2 x) (λ x h. inr h) (memory p shape) m.0) in (
        each_both E (cells_part ++ memory p shape) arrays_part
            (each_weaker (λ x. P x ⊎ IsSort 2 x) E first_two (cells_part ++ memory p shape) each_vm)
            (each_weaker (IsSort 3) E (λ x e. inr (omega (arith, e), omega (arith, e))) arrays_part a.0),
        distinct_both (λ x. P x ⊎ IsSort 2 x) (IsSort 3) third (cells_part ++ memory p shape) arrays_part each_vm a.0 vm a.1,
      )
    where
      first_two : (x : Ident) → IsFirstName p.cells shape.moved s.apart.cells 0 x ⊎ IsSort 2 x → IsEarly x
      first_two x (inl h) = inl h
      first_two x (inr e) = inr (omega (arith, e), omega (arith, e))

      third : (x : Ident) → IsFirstName p.cells shape.moved s.apart.cells 0 x ⊎ IsSort 2 x → IsSort 3 x → ⊥
      third x (inl h) e = let q = cell_source x h in omega (arith, q, e)
      third x (inr q) e = omega (arith, q, e)

  with_mutexes : EachName (IsUpTo 3) (((cells_part ++ memory p shape) ++ arrays_part) ++ mutexes_part) × AreDistinct (((cells_part ++ memory p shape) ++ arrays_part) ++ mutexes_part)
  with_mutexes =
      let x = mutexes_distinct p.mutexes s.apart.mutexes 0 p.mutexes (λ k. ap (slice_get p.mutexes) (from_zero k)) in (
        each_both (IsUpTo 3) ((cells_part ++ memory p shape) ++ arrays_part) mutexes_part (each_weaker IsEarly (IsUpTo 3) early_sort ((cells_part ++ memory p shape) ++ arrays_part) early.0)
            (each_weaker (IsMutexName p.mutexes s.apart.mutexes 0) (IsUpTo 3) (λ y h. let e = mutex_source y h in (omega (arith, e), omega (arith, e))) mutexes_part x.0),
        distinct_both IsEarly (IsMutexName p.mutexes s.apart.mutexes 0) early_apart ((cells_part ++ memory p shape) ++ arrays_part) mutexes_part early.0 x.0 early.1 x.1,
      )

  -- ---- the whole

  pub woven_distinct : (main : Thread) (others : List Thread) → p.threads ≡ main ∷ others → AreDistinct (woven_items p shape)
  unfolding AreDistinct EachName Differs sort_of sort_if by_letters
  woven_distinct main others e = (differs_all nondet_wm (IsUpTo 7) (λ q. let low = q.0 in omega (arith, low)) rest all.0, all.1)
    where
      b : Bool
      b = has_buffers shape

      handles : List Item
      handles = map (λ u. words.thread_variable (handle_name u)) (range_with_len 1 (length p.threads - 1))

      few : length p.threads ≤ 16
      few = s.limits.threads

      to_handles : EachName (IsUpTo 4) ((((cells_part ++ memory p shape) ++ arrays_part) ++ mutexes_part) ++ handles) × AreDistinct ((((cells_part ++ memory p shape) ++ arrays_part) ++ mutexes_part) ++ handles)
      to_handles =
          grown 3 (((cells_part ++ memory p shape) ++ arrays_part) ++ mutexes_part) handles (omega arith) with_mutexes
          (sorted 4 (IsNumbered handle_name 1) handle_is handles (handles_distinct 1 (length p.threads - 1) (omega (arith, few))))
        where
          handle_is : (x : Ident) → IsNumbered handle_name 1 x → IsSort 4 x
          handle_is x (u, above, below, is) = ap sort_of is ∙ handle_sort u below

      to_helpers : EachName (IsUpTo 5) (((((cells_part ++ memory p shape) ++ arrays_part) ++ mutexes_part) ++ handles) ++ helpers_part) × AreDistinct (((((cells_part ++ memory p shape) ++ arrays_part) ++ mutexes_part) ++ handles) ++ helpers_part)
      to_helpers = grown 4 ((((cells_part ++ memory p shape) ++ arrays_part) ++ mutexes_part) ++ handles) helpers_part (omega arith) to_handles (if_helpers (has_buffers shape))

      threads : List Item
      threads = thread_items p shape b (has_address p) 1 others

      fewer : suc (length others) ≤ 16
      fewer = subst (λ ts. length ts ≤ 16) e few

      to_threads : EachName (IsUpTo 6) ((((((cells_part ++ memory p shape) ++ arrays_part) ++ mutexes_part) ++ handles) ++ helpers_part) ++ threads) × AreDistinct ((((((cells_part ++ memory p shape) ++ arrays_part) ++ mutexes_part) ++ handles) ++ helpers_part) ++ threads)
      to_threads =
          grown 5 (((((cells_part ++ memory p shape) ++ arrays_part) ++ mutexes_part) ++ handles) ++ helpers_part) threads (omega arith) to_helpers
          (sorted 6 (IsNumbered thread_name 1) (λ x h. ap sort_of h.3 ∙ thread_sort h.0) threads (threads_distinct p shape b (has_address p) 1 others (omega (arith, fewer))))

      the_main : Item
      the_main = words.int (codes "main") [] (woven_body p shape b (has_address p) 0 main)

      main_sorted : EachName (IsSort 7) (the_main ∷ []) × AreDistinct (the_main ∷ [])
      main_sorted = ((refl, tt), (tt, tt))

      rest : List Item
      rest = (((((cells_part ++ memory p shape) ++ arrays_part) ++ mutexes_part) ++ handles) ++ helpers_part) ++ functions p shape b (has_address p) p.threads

      all : EachName (IsUpTo 7) rest × AreDistinct rest
      all =
          let before : List Item = ((((cells_part ++ memory p shape) ++ arrays_part) ++ mutexes_part) ++ handles) ++ helpers_part in
          let whole = grown 6 (before ++ threads) (the_main ∷ []) (omega arith) to_threads main_sorted in
          let joined = subst (λ is. EachName (IsUpTo 7) is × AreDistinct is) (append_assoc before threads (the_main ∷ [])) whole in
          subst (λ ts. EachName (IsUpTo 7) (before ++ functions p shape b (has_address p) ts) × AreDistinct (before ++ functions p shape b (has_address p) ts)) (sym e) joined
