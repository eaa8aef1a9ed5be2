-- The variables, mutexes and handles of a woven program: each is well, and each stands where one looks for it.
use Rattle.std.proofs.Common.{◌≡◌, ℕ, ℤ, pos, zero, suc, ◌+◌, ◌<◌, ◌≤◌, ◌^◌, nat_eq, Bool, true, false, if◌then◌else◌, List, [], ◌∷◌, ◌++◌, map, length, slice_get, slice_index_or, codes, arith, refl, ◌∙◌, sym, ap, subst, Option, Some, None}
use Rattle.std.specs.Prelude.{All, int_lt, option_map}
use Rattle.std.specs.List.{starts_with, range_with_len}
use Rattle.std.specs.Int.{w32, cast_unsigned}
use Rattle.std.proofs.lemmas.Bool.Decides.{nat_tests}
use Rattle.std.proofs.lemmas.List.Elements.{All-head, All-tail}
use Rattle.std.proofs.lemmas.Option.{slice_get_past}
use Rattle.mm_goto.specs.declared.ident.Ident.{Ident}
use Rattle.mm_goto.specs.declared.program.Cell.{Cell}
use Rattle.mm_goto.specs.Names.{IsDeclarable}
use Rattle.mm_tree.specs.Places.{nowhere}
use Rattle.mm_tree.specs.declared.expr.Expr.{Expr}
use Rattle.mm_tree.specs.declared.item.Item.{Item}
use Rattle.mm_scope.specs.Notes.{Use}
use Rattle.mm_scope.specs.Scopes.{is_declared}
use Rattle.mm_names.specs.Items.{refused_if, too_long}
use Rattle.mm_words.specs.Words as words
use Rattle.mm_templates.specs.Homes.{has_moved}
use Rattle.mm_templates.specs.Names.{handle_name}
use Rattle.mm_instr.specs.Woven.{start_value, further, is_behind, filled, declared, variables, start_values}
use Rattle.mm_sensible.proofs.ItemWalk.{item_meaning, Stands, IsWell, AreWell, more}
use Rattle.mm_sensible.proofs.WellItems.{AreNumbers, HasLength, global_well, mutex_well, handle_well}

-- ---- places

-- the item is one of these
abbrev pub IsIn : List Item → Item → Type 0
IsIn is i = (j : ℕ) × (j < length is) × (slice_get is j ≡ Some i)

pub in_left : (xs ys : List Item) (i : Item) → IsIn xs i → IsIn (xs ++ ys) i
in_left [] ys i (j, low, at) = absurd (omega (arith, low))
in_left (x ∷ xs) ys i (zero, low, at) = (0, omega arith, at)
in_left (x ∷ xs) ys i (suc j, low, at) = let r = in_left xs ys i (j, omega (arith, low), at) in (suc r.0, (let q = r.1 in omega (arith, q)), r.2)

pub in_right : (xs ys : List Item) (i : Item) → IsIn ys i → IsIn (xs ++ ys) i
in_right [] ys i h = h
in_right (x ∷ xs) ys i h = let r = in_right xs ys i h in (suc r.0, (let q = r.1 in omega (arith, q)), r.2)

module _ (items : List Item) where
  -- from place k on stand these
  abbrev pub Follows : ℕ → List Item → Type 0
  Follows k js = (j : ℕ) → slice_get items (k + j) ≡ slice_get js j

  pub follows_behind : (k : ℕ) (xs ys : List Item) → Follows k (xs ++ ys) → Follows (k + length xs) ys
  follows_behind k [] ys h j = ap (slice_get items) (let e : (k + 0) + j ≡ k + j = omega arith in e) ∙ h j
  follows_behind k (x ∷ xs) ys h j =
      ap (slice_get items) (let e : (k + length (x ∷ xs)) + j ≡ ((k + 1) + length xs) + j = omega arith in e)
      ∙ follows_behind (k + 1) xs ys (λ l. ap (slice_get items) (let e : (k + 1) + l ≡ k + suc l = omega arith in e) ∙ h (suc l)) j

  -- one of those in front stands before the others
  pub stands_before : (k : ℕ) (xs ys : List Item) (i : Item) → Follows k (xs ++ ys) → IsIn xs i → Stands items (k + length xs) i
  stands_before k xs ys i h (j, low, at) = record { place = k + j; below = omega (arith, low); is = h j ∙ front xs ys j low at }
    where
      front : (xs ys : List Item) (j : ℕ) → j < length xs → slice_get xs j ≡ Some i → slice_get (xs ++ ys) j ≡ Some i
      front [] ys j low e = absurd (omega (arith, low))
      front (x ∷ xs) ys zero low e = e
      front (x ∷ xs) ys (suc j) low e = front xs ys j (omega (arith, low)) e

  pub stands_later : (k l : ℕ) (i : Item) → k ≤ l → Stands items k i → Stands items l i
  stands_later k l i low s = let b = s.below in record { place = s.place; below = omega (arith, low, b); is = s.is }

  -- wherever the item stands from place b on, it is well and tells of nothing
  abbrev pub IsGood : ℕ → Item → Type 0
  IsGood b i = (k : ℕ) → b ≤ k → slice_get items k ≡ Some i → (is_declared (Some (item_meaning k i)) ≡ true) × IsWell items [] k i

  unfoldable pub AreGood : ℕ → List Item → Type 0
  AreGood b [] = Unit {0}
  AreGood b (i ∷ is) = IsGood b i × AreGood b is

  pub good_none : (b : ℕ) → AreGood b []
  unfolding AreGood
  good_none b = tt

  pub good_more : (b : ℕ) (i : Item) (is : List Item) → IsGood b i → AreGood b is → AreGood b (i ∷ is)
  unfolding AreGood
  good_more b i is h g = (h, g)

  pub good_both : (b : ℕ) (xs ys : List Item) → AreGood b xs → AreGood b ys → AreGood b (xs ++ ys)
  unfolding AreGood
  good_both b [] ys h g = g
  good_both b (x ∷ xs) ys h g = (h.0, good_both b xs ys h.1 g)

  -- good items, and well ones behind them
  pub well_part : (b k : ℕ) (xs ys : List Item) (us : List Use) → b ≤ k → Follows k (xs ++ ys) → AreGood b xs → AreWell items us (k + length xs) ys → AreWell items us k (xs ++ ys)
  unfolding AreGood
  well_part b k [] ys us low h good w = subst (λ l. AreWell items us l ys) (let e : k + 0 ≡ k = omega arith in e) w
  well_part b k (x ∷ xs) ys us low h good w =
      let at : slice_get items k ≡ Some x = ap (slice_get items) (let e : k ≡ k + 0 = omega arith in e) ∙ h 0 in
      let own = good.0 k low at in
      more at own.0 own.1
      (well_part b (k + 1) xs ys us (omega (arith, low)) (λ l. ap (slice_get items) (let e : (k + 1) + l ≡ k + suc l = omega arith in e) ∙ h (suc l)) good.1
      (subst (λ l. AreWell items us l ys) (let e : k + length (x ∷ xs) ≡ (k + 1) + length xs = omega arith in e) w))

  -- ---- globals

  global_declared : (len : Option ℕ) (k : ℕ) (x : Ident) (es : List Expr) → is_declared (Some (item_meaning k (words.global x len es))) ≡ true
  global_declared None k x es = refl
  global_declared (Some n) k x es = refl

  pub global_good : (b : ℕ) (x : Ident) (len : Option ℕ) (es : List Expr) → starts_with nat_eq x (codes "nondet_") ≡ false → AreNumbers es → HasLength es (option_map pos len) → IsGood b (words.global x len es)
  global_good b x len es plain numbers long k low at = (global_declared len k x es, global_well items k x (option_map pos len) es plain numbers long)

-- an array has room for its start values
pub length_fits : (es : List Expr) (n : ℕ) → 1 ≤ n → n < 2 ^ 32 → length es ≤ n → HasLength es (Some (pos n))
length_fits es n some low fits =
    ap (λ b. refused_if b nowhere ++ too_long (int_lt (pos n) (pos 0)) (slice_get es (cast_unsigned w32 (pos n)))) (enough n some)
    ∙ ap (too_long (int_lt (pos n) (pos 0))) (ap (slice_get es) (same n low) ∙ slice_get_past es n fits)
  where
    enough : (n : ℕ) → 1 ≤ n → int_lt (pos n) (pos 1) ≡ false
    enough n some = grind (arith, nat_tests)

    same : (n : ℕ) → n < 2 ^ 32 → cast_unsigned w32 (pos n) ≡ n
    same n low = omega (arith, low)

pub array_fits : (n : ℕ) → 1 ≤ n → HasLength [] (Some (pos n))
array_fits n some = ap (λ b. refused_if b nowhere ++ too_long (int_lt (pos n) (pos 0)) None) (enough n some)
  where
    enough : (n : ℕ) → 1 ≤ n → int_lt (pos n) (pos 1) ≡ false
    enough n some = grind (arith, nat_tests)

-- ---- start values

numbers_of : (cells : List Cell) → AreNumbers (map start_value cells)
unfolding AreNumbers
numbers_of [] = tt
numbers_of (c ∷ cells) = ((_, refl), numbers_of cells)

one_number : (cell : Cell) → AreNumbers (start_value cell ∷ [])
unfolding AreNumbers
one_number cell = ((_, refl), tt)

further_fewer : (cells : List Cell) → length (further cells) ≤ length cells
further_fewer [] = omega arith
further_fewer (cell ∷ cells) = by (is_behind cell.index) (further_fewer cells)
  where
    by : (b : Bool) → length (further cells) ≤ length cells → length (if b then cell ∷ further cells else []) ≤ length (cell ∷ cells)
    by true h = omega (arith, h)
    by false h = omega arith

length_of_map : (cells : List Cell) → length (map start_value cells) ≡ length cells
length_of_map [] = refl
length_of_map (c ∷ cells) = (let h = length_of_map cells in omega (arith, h))

pub memory_numbers : (moved : List Bool) (c : ℕ) (cells : List Cell) → AreNumbers (start_values moved c cells)
unfolding AreNumbers
memory_numbers moved c [] = tt
memory_numbers moved c (cell ∷ cells) = (by (has_moved moved c), memory_numbers moved (c + 1) cells)
  where
    by : (b : Bool) → (z : ℤ) × ((if b then start_value cell else words.num 0) ≡ words.number z)
    by true = (_, refl)
    by false = (_, refl)

pub memory_length : (moved : List Bool) (c : ℕ) (cells : List Cell) → length (start_values moved c cells) ≡ length cells
memory_length moved c [] = refl
memory_length moved c (cell ∷ cells) = (let h = memory_length moved (c + 1) cells in omega (arith, h))

module _ (items : List Item) (b : ℕ) where
  declared_good : (cell : Cell) (cells : List Cell) (index : Option ℕ) → starts_with nat_eq cell.name (codes "nondet_") ≡ false → length (cell ∷ cells) ≤ 256 → AreGood items b (declared cell cells index)
  declared_good cell cells None plain few = good_more items b _ [] (global_good items b cell.name None (start_value cell ∷ []) plain (one_number cell) refl) (good_none items b)
  declared_good cell cells (Some zero) plain few =
      let es : List Expr = map start_value (cell ∷ further cells) in
      let long = length_of_map (cell ∷ further cells) in
      let less = further_fewer cells in
      good_more items b (filled cell.name es) [] (global_good items b cell.name (Some (length es)) es plain (numbers_of (cell ∷ further cells)) (length_fits es (length es) (omega (arith, long)) (omega (arith, long, less, few)) (omega arith))) (good_none items b)
  declared_good cell cells (Some (suc k)) plain few = good_none items b

  pub variables_good : (moved : List Bool) (c : ℕ) (cells : List Cell) → All (λ (cell : Cell). IsDeclarable cell.name) cells → length cells ≤ 256 → AreGood items b (variables moved c cells)
  variables_good moved c [] all few = good_none items b
  variables_good moved c (cell ∷ cells) all few =
      good_both items b (if has_moved moved c then [] else declared cell cells cell.index) (variables moved (c + 1) cells)
      (by (has_moved moved c))
      (variables_good moved (c + 1) cells (All-tail (λ (d : Cell). IsDeclarable d.name) cell cells all) (omega (arith, few)))
    where
      by : (d : Bool) → AreGood items b (if d then [] else declared cell cells cell.index)
      by true = good_none items b
      by false = declared_good cell cells cell.index (All-head (λ (d : Cell). IsDeclarable d.name) cell cells all).no_input few

  pub mutexes_good : (xs : List Ident) → All IsDeclarable xs → AreGood items b (map words.mutex xs)
  mutexes_good [] all = good_none items b
  mutexes_good (x ∷ xs) all = good_more items b (words.mutex x) (map words.mutex xs) (λ k low at. (refl, mutex_well items k x (All-head IsDeclarable x xs all).no_input)) (mutexes_good xs (All-tail IsDeclarable x xs all))

  pub handles_good : (a n : ℕ) → AreGood items b (map (λ u. words.thread_variable (handle_name u)) (range_with_len a n))
  handles_good a zero = good_none items b
  handles_good a (suc n) = good_more items b (words.thread_variable (handle_name a)) (map (λ u. words.thread_variable (handle_name u)) (range_with_len (a + 1) n)) (λ k low at. (refl, handle_well items k (handle_name a) refl)) (handles_good (a + 1) n)

-- ---- where one looks for them

-- a variable that has not moved
pub single_in : (moved : List Bool) (d : ℕ) (cells : List Cell) (c : ℕ) (cell : Cell) → slice_get cells c ≡ Some cell → cell.index ≡ None → has_moved moved (d + c) ≡ false → IsIn (variables moved d cells) (words.global cell.name None (start_value cell ∷ []))
single_in moved d [] c cell at none e = absurd (nothing at)
  where
    nothing : None ≡ Some cell → ⊥
    nothing q = cc
single_in moved d (x ∷ cells) zero cell at none e =
    in_left (if has_moved moved d then [] else declared x cells x.index) (variables moved (d + 1) cells) (words.global cell.name None (start_value cell ∷ []))
    (subst (λ is. IsIn is (words.global cell.name None (start_value cell ∷ []))) (sym (ap (λ b. if b then [] else declared x cells x.index) (ap (has_moved moved) (let q : d ≡ d + 0 = omega arith in q) ∙ e) ∙ ap (λ c. declared c cells c.index) (same at) ∙ ap (declared cell cells) none))
    (0, omega arith, refl))
  where
    same : Some x ≡ Some cell → x ≡ cell
    same q = cc
single_in moved d (x ∷ cells) (suc c) cell at none e =
    in_right (if has_moved moved d then [] else declared x cells x.index) (variables moved (d + 1) cells) (words.global cell.name None (start_value cell ∷ []))
    (single_in moved (d + 1) cells c cell at none (ap (has_moved moved) (let q : (d + 1) + c ≡ d + suc c = omega arith in q) ∙ e))

-- an array that has not moved
pub array_in : (moved : List Bool) (d : ℕ) (cells : List Cell) (c : ℕ) (cell : Cell) → slice_get cells c ≡ Some cell → cell.index ≡ Some 0 → has_moved moved (d + c) ≡ false → (es : List Expr) × IsIn (variables moved d cells) (filled cell.name es)
array_in moved d [] c cell at first e = absurd (nothing at)
  where
    nothing : None ≡ Some cell → ⊥
    nothing q = cc
array_in moved d (x ∷ cells) zero cell at first e = (
  map start_value (cell ∷ further cells),
  in_left (if has_moved moved d then [] else declared x cells x.index) (variables moved (d + 1) cells) (filled cell.name (map start_value (cell ∷ further cells)))
      (subst (λ is. IsIn is (filled cell.name (map start_value (cell ∷ further cells)))) (sym (ap (λ b. if b then [] else declared x cells x.index) (ap (has_moved moved) (let q : d ≡ d + 0 = omega arith in q) ∙ e) ∙ ap (λ c. declared c cells c.index) (same at) ∙ ap (declared cell cells) first))
      (0, omega arith, refl)),
)
  where
    same : Some x ≡ Some cell → x ≡ cell
    same q = cc
array_in moved d (x ∷ cells) (suc c) cell at first e =
    let r = array_in moved (d + 1) cells c cell at first (ap (has_moved moved) (let q : (d + 1) + c ≡ d + suc c = omega arith in q) ∙ e) in
    (r.0, in_right (if has_moved moved d then [] else declared x cells x.index) (variables moved (d + 1) cells) (filled cell.name r.0) r.1)

pub mutex_in : (xs : List Ident) (m : ℕ) → m < length xs → IsIn (map words.mutex xs) (words.mutex (slice_index_or xs m []))
mutex_in [] m low = absurd (omega (arith, low))
mutex_in (x ∷ xs) zero low = (0, omega arith, refl)
mutex_in (x ∷ xs) (suc m) low = let r = mutex_in xs m (omega (arith, low)) in (suc r.0, (let q = r.1 in omega (arith, q)), r.2)

pub handle_in : (a n u : ℕ) → a ≤ u → u < a + n → IsIn (map (λ v. words.thread_variable (handle_name v)) (range_with_len a n)) (words.thread_variable (handle_name u))
handle_in a zero u above below = absurd (omega (arith, above, below))
handle_in a (suc n) u above below = by (nat_eq a u) refl (λ q. handle_in (a + 1) n u q (omega (arith, below)))
  where
    by : (b : Bool) → nat_eq a u ≡ b → (a + 1 ≤ u → IsIn (map (λ v. words.thread_variable (handle_name v)) (range_with_len (a + 1) n)) (words.thread_variable (handle_name u))) → IsIn (map (λ v. words.thread_variable (handle_name v)) (range_with_len a (suc n))) (words.thread_variable (handle_name u))
    by true e rest = let same : a ≡ u = grind (arith, nat_tests) in (0, omega arith, ap (λ v. Some (words.thread_variable (handle_name v))) same)
    by false e rest =
        let other : (a ≡ u → ⊥) = grind (arith, nat_tests) in
        let r = rest (omega (arith, above, other)) in (suc r.0, (let q = r.1 in omega (arith, q)), r.2)
