-- The helpers of a woven program and the arrays that they work on are well where the arrays stand before them.
use Rattle.std.proofs.Common.{◌≡◌, ℕ, pos, suc, ◌+◌, ◌*◌, ◌<◌, ◌≤◌, nat_eq, false, List, [], ◌∷◌, ◌++◌, map, length, slice_get, codes, arith, refl, ◌∙◌, ap, subst, Some}
use Rattle.std.specs.List.{starts_with}
use Rattle.mm_goto.specs.declared.ident.Ident.{Ident}
use Rattle.mm_goto.specs.declared.model.Model.{Model}
use Rattle.mm_goto.specs.declared.model.Model.TheVariants.{Tso, Pso}
use Rattle.mm_tree.specs.declared.expr.Expr.{Expr}
use Rattle.mm_tree.specs.declared.item.Gives.{Gives}
use Rattle.mm_tree.specs.declared.item.Gives.TheVariants as gives
use Rattle.mm_tree.specs.declared.item.Item.{Item}
use Rattle.mm_tree.specs.declared.item.Param.{Param}
use Rattle.mm_tree.specs.declared.stmt.Stmt.{Stmt}
use Rattle.mm_scope.specs.Notes.{Use}
use Rattle.mm_scope.specs.Scopes.{Table, meaning_in}
use Rattle.mm_words.specs.Words as words
use Rattle.mm_helpers.specs.Helpers.{Sizes, wm_mem, wm_len, wm_cell, wm_val, wm_pop, wm_flush, wm_empty, wm_put, wm_get, wm_set, wm_t, wm_c, wm_v, wm_b, wm_n, flush, helpers, arrays, tso_pop, tso_empty, tso_put, tso_get, tso_set, pso_pop, pso_empty, pso_put, pso_get, pso_set}
use Rattle.mm_sensible.proofs.QuietStatements.{AreFine, IsCallable}
use Rattle.mm_sensible.proofs.ItemWalk.{item_name, item_meaning, Stands, Knows, AreApart, AreWell}
use Rattle.mm_sensible.proofs.WellItems.{AreNumbers, function_well}
use Rattle.mm_sensible.proofs.HelperNotes.{notes_in, HasArray, within, tso_pop_fine, flush_fine, tso_empty_fine, tso_put_fine, tso_get_fine, tso_set_fine, pso_pop_fine, pso_empty_fine, pso_put_fine, pso_get_fine, pso_set_fine}
use Rattle.mm_sensible.proofs.DataItems.{IsIn, Follows, IsGood, AreGood, good_none, good_more, well_part, global_good, array_fits}

no_numbers : AreNumbers []
unfolding AreNumbers
no_numbers = tt

module _ (items : List Item) where
  -- the arrays of helpers are good where each has an element
  pub arrays_good : (b : ℕ) (m : Model) (s : Sizes) → 1 ≤ s.threads → 1 ≤ s.threads * s.cells → 1 ≤ s.threads * s.bound → 1 ≤ (s.threads * s.cells) * s.bound → AreGood items b (arrays m s)
  arrays_good b Tso s t tc tb tcb =
      good_more items b _ _ (global_good items b wm_len (Some s.threads) [] refl no_numbers (array_fits s.threads t))
      (good_more items b _ _ (global_good items b wm_cell (Some (s.threads * s.bound)) [] refl no_numbers (array_fits (s.threads * s.bound) tb))
      (good_more items b _ _ (global_good items b wm_val (Some (s.threads * s.bound)) [] refl no_numbers (array_fits (s.threads * s.bound) tb)) (good_none items b)))
  arrays_good b Pso s t tc tb tcb =
      good_more items b _ _ (global_good items b wm_len (Some (s.threads * s.cells)) [] refl no_numbers (array_fits (s.threads * s.cells) tc))
      (good_more items b _ _ (global_good items b wm_val (Some ((s.threads * s.cells) * s.bound)) [] refl no_numbers (array_fits ((s.threads * s.cells) * s.bound) tcb)) (good_none items b))

  -- what an item that stands further up means
  pub known_item : (b k : ℕ) (i : Item) (table : Table) → b ≤ k → Stands items b i → Knows items k table → (j : ℕ) × (j < b) × (slice_get items j ≡ Some i) × (meaning_in table (item_name i) ≡ Some (item_meaning j i))
  known_item b k i table low s knows = let below = s.below in (s.place, below, s.is, knows.known s.place i (omega (arith, low, below)) s.is)

  pub known_array : (b k : ℕ) (x : Ident) (n : ℕ) (es : List Expr) (table : Table) → b ≤ k → Stands items b (words.global x (Some n) es) → Knows items (k + 1) table → HasArray items k table x
  known_array b k x n es table low s knows = (pos n, (known_item b (k + 1) (words.global x (Some n) es) table (omega (arith, low)) s knows).3)

  module _ (apart : AreApart items) where
    -- a function in which nothing is wrong
    function_good : (b : ℕ) (g : Gives) (x : Ident) (ps : List Param) (ss : List Stmt) → starts_with nat_eq x (codes "nondet_") ≡ false → ((k : ℕ) (table : Table) → b ≤ k → Knows items (k + 1) table → AreFine [] (notes_in items k table (words.function g x ps ss))) → IsGood items b (words.function g x ps ss)
    function_good b g x ps ss plain fine k low at = (refl, function_well items [] k g x ps ss apart at plain (λ table knows. fine k table low knows))

    -- an array stands before place b
    abbrev pub IsArrayBefore : ℕ → Ident → Type 0
    IsArrayBefore b x = (n : ℕ) × (es : List Expr) × Stands items b (words.global x (Some n) es)

    module _ (b : ℕ) where
      abbrev Has : Ident → Type 0
      Has x = IsArrayBefore b x

      array_here : (x : Ident) → Has x → (k : ℕ) (table : Table) → b ≤ k → Knows items (k + 1) table → HasArray items k table x
      array_here x h k table low knows = known_array b k x h.0 h.1 table low h.2 knows

      pop_here : (y : Ident) (ss : List Stmt) → slice_get items b ≡ Some (words.void wm_pop (words.param y ∷ []) ss) → (k : ℕ) (table : Table) → b + 1 ≤ k → Knows items (k + 1) table → IsCallable items k (within items k table [] (wm_n ∷ [])) wm_pop gives.Nothing (y ∷ [])
      pop_here y ss at k table low knows = record {
        callee = b;
        body = ss;
        means = knows.known b (words.void wm_pop (words.param y ∷ []) ss) (omega (arith, low)) at;
        is = at;
        up = omega (arith, low);
        can = refl;
        no_input = refl;
      }

      here : (js : List Item) (i : Item) → Follows items b (i ∷ js) → slice_get items b ≡ Some i
      here js i h = ap (slice_get items) (let e : b ≡ b + 0 = omega arith in e) ∙ h 0

      -- the helpers, from place b on
      pub helpers_well : (m : Model) (s : Sizes) (rest : List Item) (us : List Use) → Follows items b (helpers m s ++ rest) → Has wm_mem → Has wm_len → (m ≡ Tso → Has wm_cell) → Has wm_val
          → AreWell items us (b + length (helpers m s)) rest → AreWell items us b (helpers m s ++ rest)
      helpers_well Tso s rest us h mem len cells val w =
          let cell = cells refl in
          let c : ℕ = b + 1 in
          let behind : List Item = flush s.threads ∷ tso_empty ∷ tso_put s.bound ∷ tso_get s.bound ∷ tso_set ∷ [] in
          well_part items b b (tso_pop s.bound ∷ []) (behind ++ rest) us (omega arith) h
          (good_more items b _ [] (function_good b _ _ _ _ refl (λ k t low kn. tso_pop_fine items k t s.bound (array_here wm_mem mem k t low kn) (array_here wm_len len k t low kn) (array_here wm_cell cell k t low kn) (array_here wm_val val k t low kn))) (good_none items b))
          (well_part items c c behind rest us (omega arith) (λ j. ap (slice_get items) (let e : (b + 1) + j ≡ b + suc j = omega arith in e) ∙ h (suc j))
          (good_more items c _ _ (function_good c _ _ _ _ refl (λ k t low kn. flush_fine items k t s.threads wm_t (array_here wm_len len k t (omega (arith, low)) kn) (pop_here wm_t _ (here (behind ++ rest) (tso_pop s.bound) h) k t low kn)))
          (good_more items c _ _ (function_good c _ _ _ _ refl (λ k t low kn. tso_empty_fine items k t (array_here wm_len len k t (omega (arith, low)) kn)))
          (good_more items c _ _ (function_good c _ _ _ _ refl (λ k t low kn. tso_put_fine items k t s.bound (array_here wm_len len k t (omega (arith, low)) kn) (array_here wm_cell cell k t (omega (arith, low)) kn) (array_here wm_val val k t (omega (arith, low)) kn)))
          (good_more items c _ _ (function_good c _ _ _ _ refl (λ k t low kn. tso_get_fine items k t s.bound (array_here wm_mem mem k t (omega (arith, low)) kn) (array_here wm_len len k t (omega (arith, low)) kn) (array_here wm_cell cell k t (omega (arith, low)) kn) (array_here wm_val val k t (omega (arith, low)) kn)))
          (good_more items c _ _ (function_good c _ _ _ _ refl (λ k t low kn. tso_set_fine items k t (array_here wm_mem mem k t (omega (arith, low)) kn) (array_here wm_len len k t (omega (arith, low)) kn)))
          (good_none items c))))))
          (subst (λ l. AreWell items us l rest) (let e : b + 6 ≡ (b + 1) + 5 = omega arith in e) w))
      helpers_well Pso s rest us h mem len cells val w =
          let c : ℕ = b + 1 in
          let behind : List Item = flush (s.threads * s.cells) ∷ pso_empty s.cells ∷ pso_put s.cells s.bound ∷ pso_get s.cells s.bound ∷ pso_set s.cells ∷ [] in
          well_part items b b (pso_pop s.cells s.bound ∷ []) (behind ++ rest) us (omega arith) h
          (good_more items b _ [] (function_good b _ _ _ _ refl (λ k t low kn. pso_pop_fine items k t s.cells s.bound (array_here wm_mem mem k t low kn) (array_here wm_len len k t low kn) (array_here wm_val val k t low kn))) (good_none items b))
          (well_part items c c behind rest us (omega arith) (λ j. ap (slice_get items) (let e : (b + 1) + j ≡ b + suc j = omega arith in e) ∙ h (suc j))
          (good_more items c _ _ (function_good c _ _ _ _ refl (λ k t low kn. flush_fine items k t (s.threads * s.cells) wm_b (array_here wm_len len k t (omega (arith, low)) kn) (pop_here wm_b _ (here (behind ++ rest) (pso_pop s.cells s.bound) h) k t low kn)))
          (good_more items c _ _ (function_good c _ _ _ _ refl (λ k t low kn. pso_empty_fine items k t s.cells (array_here wm_len len k t (omega (arith, low)) kn)))
          (good_more items c _ _ (function_good c _ _ _ _ refl (λ k t low kn. pso_put_fine items k t s.cells s.bound (array_here wm_len len k t (omega (arith, low)) kn) (array_here wm_val val k t (omega (arith, low)) kn)))
          (good_more items c _ _ (function_good c _ _ _ _ refl (λ k t low kn. pso_get_fine items k t s.cells s.bound (array_here wm_mem mem k t (omega (arith, low)) kn) (array_here wm_len len k t (omega (arith, low)) kn) (array_here wm_val val k t (omega (arith, low)) kn)))
          (good_more items c _ _ (function_good c _ _ _ _ refl (λ k t low kn. pso_set_fine items k t s.cells (array_here wm_mem mem k t (omega (arith, low)) kn) (array_here wm_len len k t (omega (arith, low)) kn)))
          (good_none items c))))))
          (subst (λ l. AreWell items us l rest) (let e : b + 6 ≡ (b + 1) + 5 = omega arith in e) w))

-- ---- the helpers that threads call

-- such a function is one of these
abbrev pub HasFunction : List Item → Gives → Ident → List Ident → Type 0
HasFunction is g f xs = (ss : List Stmt) × IsIn is (words.function g f (map words.param xs) ss)

pub record HasHelpers (is : List Item) : Type 0 where
  pub flush : HasFunction is gives.Nothing wm_flush []
  pub empty : HasFunction is gives.Nothing wm_empty (wm_t ∷ [])
  pub put : HasFunction is gives.Nothing wm_put (wm_t ∷ wm_c ∷ wm_v ∷ [])
  pub get : HasFunction is gives.Int wm_get (wm_t ∷ wm_c ∷ [])
  pub set : HasFunction is gives.Nothing wm_set (wm_t ∷ wm_c ∷ wm_v ∷ [])

pub helpers_in : (m : Model) (s : Sizes) → HasHelpers (helpers m s)
helpers_in Tso s = record { flush = (_, (1, omega arith, refl)); empty = (_, (2, omega arith, refl)); put = (_, (3, omega arith, refl)); get = (_, (4, omega arith, refl)); set = (_, (5, omega arith, refl)) }
helpers_in Pso s = record { flush = (_, (1, omega arith, refl)); empty = (_, (2, omega arith, refl)); put = (_, (3, omega arith, refl)); get = (_, (4, omega arith, refl)); set = (_, (5, omega arith, refl)) }
