-- The names in woven programs by sorts, which keep the parts of a program apart.
use Rattle.std.proofs.Common.{rules, ◌≡◌, ◌≢◌, ℕ, zero, suc, ◌+◌, ◌<◌, ◌≤◌, ◌^◌, nat_eq, Bool, true, false, ◌||◌, if◌then◌else◌, List, [], ◌∷◌, map, length, slice_get, get_or, codes, arith, refl, ◌∙◌, sym, ap, subst, Some}
use Rattle.std.specs.List.{starts_with, range_with_len, list_all}
use Rattle.std.specs.Char.{is_ascii_digit}
use Rattle.std.specs.Str.{bytes_eq}
use Rattle.std.specs.Str.Parse.{digits_value}
use Rattle.std.specs.Fmt.{decimal}
use Rattle.std.proofs.lemmas.Fmt.{decimal_injective, decimal_nonempty, digits_decimal}
use Rattle.std.proofs.lemmas.Str.Parse.{IsNumeralModel, numerals_by_value}
use Rattle.std.proofs.lemmas.Bool.Decides.{nat_tests}
use Rattle.mm_goto.specs.declared.ident.Ident.{Ident}
use Rattle.mm_goto.specs.declared.program.Thread.{Thread}
use Rattle.mm_goto.specs.declared.shape.Shape.{Shape}
use Rattle.mm_goto.specs.Listing.{Listing}
use Rattle.mm_goto.specs.Names.{IsDeclarable}
use Rattle.mm_tree.specs.declared.item.Item.{Item}
use Rattle.mm_words.specs.Words as words
use Rattle.mm_templates.specs.Names.{handle_name, thread_name}
use Rattle.mm_instr.specs.Woven.{thread_item, thread_items}
use Rattle.mm_sensible.proofs.ItemWalk.{item_name, apart_names}
use Rattle.mm_sensible.proofs.DistinctItems.{AreDistinct, EachName, differs_all, each_weaker}

-- the sort of a name that begins with wm_, by its next two letters
unfoldable pub by_letters : ℕ → ℕ → ℕ
by_letters a b =
    if nat_eq a 109 then 2
    else (if nat_eq a 108 || (nat_eq a 99 || nat_eq a 118) then 3
    else (if nat_eq a 116 then (if nat_eq b 104 then 6 else 4)
    else 5))

-- the sort by whether it is an input's, whether it begins with wm_, and whether it is main's
unfoldable pub sort_if : Bool → Bool → Bool → Ident → ℕ
sort_if input woven main x = if input then 0 else (if woven then by_letters (get_or x 3 0) (get_or x 4 0) else (if main then 7 else 1))

-- 0 is an input, 1 a name of the source, 2 the shared array, 3 the other arrays, 4 the threads' variables, 5 the helpers, 6 the
-- threads' functions, and 7 main
unfoldable pub sort_of : Ident → ℕ
sort_of x = sort_if (starts_with nat_eq x (codes "nondet_")) (starts_with nat_eq x (codes "wm_")) (bytes_eq x (codes "main")) x

pub source_sort : (x : Ident) → IsDeclarable x → sort_of x ≡ 1
unfolding sort_of sort_if
source_sort x h =
    ap (λ b. sort_if b (starts_with nat_eq x (codes "wm_")) (bytes_eq x (codes "main")) x) h.no_input
    ∙ ap (λ b. sort_if false b (bytes_eq x (codes "main")) x) h.not_woven
    ∙ ap (λ b. sort_if false false b x) (apart_names x (codes "main") h.not_main)

pub thread_sort : (u : ℕ) → sort_of (thread_name u) ≡ 6
unfolding sort_of sort_if by_letters
thread_sort u = refl

-- ---- numbered names

numerals : IsNumeralModel (λ ds. list_all is_ascii_digit ds ≡ true) (digits_value 10)
numerals = numerals_by_value _ (search rules)

digit_first : (ds : List ℕ) → 0 < length ds → list_all is_ascii_digit ds ≡ true → nat_eq (get_or ds 0 0) 104 ≡ false
digit_first [] some all = absurd (omega (arith, some))
digit_first (d ∷ ds) some all = by (nat_eq d 104) refl
  where
    by : (b : Bool) → nat_eq d 104 ≡ b → b ≡ false
    by false e = refl
    by true e = absurd (no_digit (subst (λ c. list_all is_ascii_digit (c ∷ ds) ≡ true) (same e) all))
      where
        same : nat_eq d 104 ≡ true → d ≡ 104
        same q = grind (arith, nat_tests)

        no_digit : list_all is_ascii_digit (104 ∷ ds) ≡ true → ⊥
        no_digit q = cc

pub handle_sort : (u : ℕ) → u < 2 ^ 32 → sort_of (handle_name u) ≡ 4
unfolding sort_of sort_if by_letters
handle_sort u low = ap (λ b. if b then 6 else 4) (digit_first (decimal u) (decimal_nonempty u (omega (arith, low))) (digits_decimal numerals u (omega (arith, low))))

-- u is a number from a on, and this is its name
abbrev pub IsNumbered : (ℕ → Ident) → ℕ → Ident → Type 0
IsNumbered name a x = (u : ℕ) × (a ≤ u) × (u < 2 ^ 32) × (x ≡ name u)

number_apart : (name : ℕ → Ident) → ((u v : ℕ) → name u ≡ name v → decimal u ≡ decimal v) → (a b : ℕ) (x : Ident) → a < b → a < 2 ^ 32 → x ≡ name a → IsNumbered name b x → ⊥
number_apart name inner a b x less low is (v, above, below, same) =
    let e = decimal_injective a v (omega (arith, low)) (omega (arith, below)) (inner a v (sym is ∙ same)) in
    omega (arith, less, above, e)

-- items with numbered names, from number a on
module _ (name : ℕ → Ident) (inner : (u v : ℕ) → name u ≡ name v → decimal u ≡ decimal v) where
  later : (a : ℕ) (x : Ident) → IsNumbered name (a + 1) x → IsNumbered name a x
  later a x (u, above, below, is) = (u, omega (arith, above), below, is)

  one_more : (a : ℕ) (i : Item) (is : List Item) → a < 2 ^ 32 → item_name i ≡ name a → EachName (IsNumbered name (a + 1)) is × AreDistinct is → EachName (IsNumbered name a) (i ∷ is) × AreDistinct (i ∷ is)
  unfolding EachName AreDistinct
  one_more a i is low e h = (
    ((a, omega arith, low, e), each_weaker (IsNumbered name (a + 1)) (IsNumbered name a) (later a) is h.0),
    (differs_all (item_name i) (IsNumbered name (a + 1)) (number_apart name inner a (a + 1) (item_name i) (omega arith) low e) is h.0, h.1),
  )

thread_inner : (u v : ℕ) → thread_name u ≡ thread_name v → decimal u ≡ decimal v
thread_inner u v e = cc

handle_inner : (u v : ℕ) → handle_name u ≡ handle_name v → decimal u ≡ decimal v
handle_inner u v e = cc

pub threads_distinct : (p : Listing) (shape : Shape) (buffers addresses : Bool) (a : ℕ) (threads : List Thread) → a + length threads < 2 ^ 32 → EachName (IsNumbered thread_name a) (thread_items p shape buffers addresses a threads) × AreDistinct (thread_items p shape buffers addresses a threads)
unfolding EachName AreDistinct thread_item
threads_distinct p shape buffers addresses a [] low = (tt, tt)
threads_distinct p shape buffers addresses a (t ∷ threads) low =
    one_more thread_name thread_inner a (thread_item p shape buffers addresses a t) (thread_items p shape buffers addresses (a + 1) threads) (omega (arith, low)) refl (threads_distinct p shape buffers addresses (a + 1) threads (omega (arith, low)))

pub handles_distinct : (a n : ℕ) → a + n < 2 ^ 32 → EachName (IsNumbered handle_name a) (map (λ u. words.thread_variable (handle_name u)) (range_with_len a n)) × AreDistinct (map (λ u. words.thread_variable (handle_name u)) (range_with_len a n))
unfolding EachName AreDistinct
handles_distinct a zero low = (tt, tt)
handles_distinct a (suc n) low =
    one_more handle_name handle_inner a (words.thread_variable (handle_name a)) (map (λ u. words.thread_variable (handle_name u)) (range_with_len (a + 1) n)) (omega (arith, low)) refl (handles_distinct (a + 1) n (omega (arith, low)))

-- ---- mutexes

module _ (mutexes : List Ident) (apart : (m n : ℕ) (x : Ident) → slice_get mutexes m ≡ Some x → slice_get mutexes n ≡ Some x → m ≡ n) where
  -- the name of a mutex from number m on
  abbrev pub IsMutexName : ℕ → Ident → Type 0
  IsMutexName m x = (n : ℕ) × (m ≤ n) × (slice_get mutexes n ≡ Some x)

  pub mutexes_distinct : (m : ℕ) (rest : List Ident) → ((k : ℕ) → slice_get mutexes (m + k) ≡ slice_get rest k) → EachName (IsMutexName m) (map words.mutex rest) × AreDistinct (map words.mutex rest)
  unfolding EachName AreDistinct
  mutexes_distinct m [] h = (tt, tt)
  mutexes_distinct m (x ∷ rest) h = by (mutexes_distinct (m + 1) rest (λ k. ap (slice_get mutexes) (place m k) ∙ h (suc k)))
    where
      place : (m k : ℕ) → m + 1 + k ≡ m + suc k
      place m k = omega arith

      here : (m : ℕ) → m ≡ m + 0
      here m = omega arith

      at : slice_get mutexes m ≡ Some x
      at = ap (slice_get mutexes) (here m) ∙ h 0

      by : EachName (IsMutexName (m + 1)) (map words.mutex rest) × AreDistinct (map words.mutex rest) → EachName (IsMutexName m) (words.mutex x ∷ map words.mutex rest) × AreDistinct (words.mutex x ∷ map words.mutex rest)
      by r = (
        ((m, omega arith, at), each_weaker (IsMutexName (m + 1)) (IsMutexName m) (λ y q. (q.0, (let low = q.1 in omega (arith, low)), q.2)) (map words.mutex rest) r.0),
        (differs_all x (IsMutexName (m + 1)) (λ q. let e = apart m q.0 x at q.2 in let low = q.1 in omega (arith, e, low)) (map words.mutex rest) r.0, r.1),
      )

-- the variables of different threads have different names
pub handle_apart : (u v : ℕ) → u < 2 ^ 32 → v < 2 ^ 32 → u ≢ v → handle_name u ≢ handle_name v
handle_apart u v low below n e = n (decimal_injective u v (omega (arith, low)) (omega (arith, below)) (handle_inner u v e))
