-- What names mean where a thread's locals are declared: each local is an int, and no other name is hidden.
use Rattle.std.proofs.Common.{◌≡◌, ◌≢◌, ℕ, zero, suc, ◌+◌, ◌<◌, ◌≤◌, ◌^◌, nat_eq, Bool, true, false, cond, ◌||◌, List, [], ◌∷◌, ◌++◌, map, reverse, append_assoc, append-nil, arith, refl, ◌∙◌, sym, ap, Some, None}
use Rattle.std.specs.Prelude.{option_map}
use Rattle.std.specs.Option.{option_or}
use Rattle.std.specs.List.{find, range_with_len}
use Rattle.std.specs.Str.{bytes_eq}
use Rattle.std.specs.Fmt.{decimal}
use Rattle.std.proofs.lemmas.Fmt.{decimal_injective}
use Rattle.std.proofs.lemmas.List.{reverse-append}
use Rattle.std.proofs.lemmas.Bool.Decides.{nat_tests}
use Rattle.std.proofs.lemmas.Slice.Eq.{bytes_eq-Decides}
use Rattle.mm_goto.specs.declared.ident.Ident.{Ident}
use Rattle.mm_scope.specs.declared.table.Meaning.{Meaning}
use Rattle.mm_scope.specs.declared.table.Meaning.TheVariants as meaning
use Rattle.mm_scope.specs.Scopes.{Names, Named, Table, named_as, is_named, found, meaning_in, meaning_of, stands}
use Rattle.mm_templates.specs.Names.{local_name}
use Rattle.mm_sensible.proofs.FunctionNotes.{AreFresh, named_all}
use Rattle.mm_sensible.proofs.ItemWalk.{apart_names}

-- ---- one more name

found_behind : (ls : List Named) (n : Named) (x : Ident) → found (ls ++ n ∷ []) x ≡ cond (is_named x n) (Some n.meaning) (found ls x)
found_behind ls n x = ap (λ r. option_map (λ (m : Named). m.meaning) (find (is_named x) r)) (reverse-append ls (n ∷ [])) ∙ by (is_named x n) refl
  where
    by : (b : Bool) → is_named x n ≡ b → option_map (λ (m : Named). m.meaning) (find (is_named x) (n ∷ reverse ls)) ≡ cond b (Some n.meaning) (found ls x)
    by true e = rw e refl
    by false e = rw e refl

module _ (m : Meaning) where
  -- what means so goes on to mean so behind more of that meaning
  found_still : (ls : List Named) (xs : List Ident) (x : Ident) → found ls x ≡ Some m → found (ls ++ named_all m xs) x ≡ Some m
  found_still ls [] x h = ap (λ ns. found ns x) (append-nil ls) ∙ h
  found_still ls (y ∷ xs) x h =
      ap (λ ns. found ns x) (sym (append_assoc ls (named_as y m ∷ []) (named_all m xs)))
      ∙ found_still (ls ++ named_as y m ∷ []) xs x (found_behind ls (named_as y m) x ∙ by (bytes_eq y x))
    where
      by : (b : Bool) → cond b (Some m) (found ls x) ≡ Some m
      by true = refl
      by false = h

  -- no other name is hidden
  found_other : (ls : List Named) (a n : ℕ) (x : Ident) → ((l : ℕ) → bytes_eq (local_name l) x ≡ false) → found (ls ++ named_all m (map local_name (range_with_len a n))) x ≡ found ls x
  found_other ls a zero x h = ap (λ ns. found ns x) (append-nil ls)
  found_other ls a (suc n) x h =
      ap (λ ns. found ns x) (sym (append_assoc ls (named_as (local_name a) m ∷ []) (named_all m (map local_name (range_with_len (a + 1) n)))))
      ∙ found_other (ls ++ named_as (local_name a) m ∷ []) (a + 1) n x h
      ∙ found_behind ls (named_as (local_name a) m) x ∙ ap (λ b. cond b (Some m) (found ls x)) (h a)

  -- a local means so
  found_local : (ls : List Named) (a n l : ℕ) → a ≤ l → l < a + n → found (ls ++ named_all m (map local_name (range_with_len a n))) (local_name l) ≡ Some m
  found_local ls a zero l above below = absurd (omega (arith, above, below))
  found_local ls a (suc n) l above below = by (nat_eq a l) refl (λ more. found_local (ls ++ named_as (local_name a) m ∷ []) (a + 1) n l more (omega (arith, below)))
    where
      moved : found (ls ++ named_all m (map local_name (range_with_len a (suc n)))) (local_name l) ≡ found ((ls ++ named_as (local_name a) m ∷ []) ++ named_all m (map local_name (range_with_len (a + 1) n))) (local_name l)
      moved = ap (λ ns. found ns (local_name l)) (sym (append_assoc ls (named_as (local_name a) m ∷ []) (named_all m (map local_name (range_with_len (a + 1) n)))))

      own : (x : Ident) → bytes_eq x x ≡ true
      own x = (bytes_eq-Decides x x).1 refl

      by : (b : Bool) → nat_eq a l ≡ b → (a + 1 ≤ l → found ((ls ++ named_as (local_name a) m ∷ []) ++ named_all m (map local_name (range_with_len (a + 1) n))) (local_name l) ≡ Some m) → found (ls ++ named_all m (map local_name (range_with_len a (suc n)))) (local_name l) ≡ Some m
      by true e more =
          let same : a ≡ l = grind (arith, nat_tests) in
          moved ∙ found_still (ls ++ named_as (local_name a) m ∷ []) (map local_name (range_with_len (a + 1) n)) (local_name l)
          (found_behind ls (named_as (local_name a) m) (local_name l) ∙ ap (λ b. cond b (Some m) (found ls (local_name l))) (ap (λ k. bytes_eq (local_name a) (local_name k)) (sym same) ∙ own (local_name a)))
      by false e more = let other : a ≢ l = grind (arith, nat_tests) in moved ∙ more (omega (arith, above, other))

  -- ---- locals may be declared one behind another

  stands_behind : (ls : List Named) (n : Named) (x : Ident) → stands ls 0 x ≡ false → is_named x n ≡ false → stands (ls ++ n ∷ []) 0 x ≡ false
  stands_behind [] n x h e = ap (λ b. b || false) e
  stands_behind (k ∷ ls) n x h e = by (is_named x k) h (stands_behind ls n x)
    where
      by : (b : Bool) → (b || stands ls 0 x) ≡ false → (stands ls 0 x ≡ false → is_named x n ≡ false → stands (ls ++ n ∷ []) 0 x ≡ false) → (b || stands (ls ++ n ∷ []) 0 x) ≡ false
      by true q more = cc
      by false q more = more q e

  local_apart : (a l : ℕ) → a < l → l < 2 ^ 32 → bytes_eq (local_name a) (local_name l) ≡ false
  local_apart a l less low = apart_names (local_name a) (local_name l) (λ e. let q = decimal_injective a l (omega (arith, less, low)) (omega (arith, low)) (same e) in omega (arith, q, less))
    where
      same : local_name a ≡ local_name l → decimal a ≡ decimal l
      same q = cc

  fresh_locals : (ls : List Named) (a n : ℕ) → a + n < 2 ^ 32 → ((l : ℕ) → a ≤ l → l < 2 ^ 32 → stands ls 0 (local_name l) ≡ false) → AreFresh m ls (map local_name (range_with_len a n))
  unfolding AreFresh
  fresh_locals ls a zero low h = tt
  fresh_locals ls a (suc n) low h = (
    (h a (omega arith) (omega (arith, low)), refl),
    fresh_locals (ls ++ named_as (local_name a) m ∷ []) (a + 1) n (omega (arith, low)) (λ l above below.
        stands_behind ls (named_as (local_name a) m) (local_name l) (h l (omega (arith, above)) below) (local_apart a l (omega (arith, above)) below)),
  )

-- ---- a thread, whose function takes wm_arg or nothing

-- the parameters in front hide no local
abbrev pub IsFront : List Named → Type 0
IsFront ds = (l : ℕ) → stands ds 0 (local_name l) ≡ false

-- the name is hidden by no local
abbrev pub IsOutside : List Named → Ident → Type 0
IsOutside ds x = (found ds x ≡ None) × ((l : ℕ) → bytes_eq (local_name l) x ≡ false)

-- the names where a thread with n locals has its code
abbrev pub thread_names : Table → List Named → ℕ → Names
thread_names table ds n = record { globals = table; locals = ds ++ named_all meaning.Int (map local_name (range_with_len 0 n)) }

pub locals_fresh : (ds : List Named) (n : ℕ) → n < 2 ^ 32 → IsFront ds → AreFresh meaning.Int ds (map local_name (range_with_len 0 n))
locals_fresh ds n low front = fresh_locals meaning.Int ds 0 n (omega (arith, low)) (λ l above below. front l)

pub local_means : (table : Table) (ds : List Named) (n l : ℕ) → l < n → meaning_of (thread_names table ds n) (local_name l) ≡ Some meaning.Int
local_means table ds n l low = ap (λ o. option_or o (meaning_in table (local_name l))) (found_local meaning.Int ds 0 n l (omega arith) (omega (arith, low)))

pub global_means : (table : Table) (ds : List Named) (n : ℕ) (x : Ident) → IsOutside ds x → meaning_of (thread_names table ds n) x ≡ meaning_in table x
global_means table ds n x h = ap (λ o. option_or o (meaning_in table x)) (found_other meaning.Int ds 0 n x h.1 ∙ h.0)
