-- Local names, and a table that has them all.
use Rattle.std.proofs.Common.{◌≡◌, refl, sym, ap, ◌∙◌, subst, ℕ, Bool, true, false, cond, ◌||◌, List, [], ◌∷◌, ◌++◌, take, drop, reverse, Option, Some, None, is_some, ◌⊎◌, ⊎_elim, inl, inr}
use Rattle.std.specs.List.{list_any}
use Rattle.std.specs.Prelude.{find}
use Rattle.std.specs.Map.{lookup}
use Rattle.std.specs.Option.{option_map}
use Rattle.std.specs.Str.{bytes_eq}
use Rattle.std.proofs.lemmas.Slice.Eq.{bytes_eq-Decides}
use Rattle.std.proofs.lemmas.List.{take-append-drop, reverse-append}
use Rattle.std.proofs.lemmas.List.Folds.{list_any-append}
use Rattle.mm_goto.specs.declared.ident.Ident.{Ident}
use Rattle.mm_scope.specs.declared.table.Meaning.{Meaning}
use Rattle.mm_scope.specs.Scopes.{Table, Named, AreSeen, meaning_in, with_name, named_as, is_named, found, stands}

true_apart : {b : Bool} → b ≡ true → b ≡ false → ⊥
true_apart p q = cc

or_cases : (a b : Bool) → (a || b) ≡ true → (a ≡ true) ⊎ (b ≡ true)
or_cases true b e = inl refl
or_cases false b e = inr e

or_first : (a b : Bool) → a ≡ true → (a || b) ≡ true
or_first true b e = refl
or_first false b e = cc

or_second : (a b : Bool) → b ≡ true → (a || b) ≡ true
or_second true b e = refl
or_second false b e = e

or_neither : (a b : Bool) → a ≡ false → b ≡ false → (a || b) ≡ false
or_neither true b p q = cc
or_neither false b p q = q

or_own : (b : Bool) → (b || false) ≡ true → b ≡ true
or_own true h = refl
or_own false h = h

not_true : (b : Bool) → (b ≡ true → ⊥) → b ≡ false
not_true true h = absurd (h refl)
not_true false h = refl

-- ---- tables

first : (v w : Meaning) (o : Option Meaning) (b : Bool) → is_some (cond b (Some v) o) ≡ true → is_some (cond b (Some w) o) ≡ true
first v w o true h = refl
first v w o false h = h

second : (v : Meaning) (o p : Option Meaning) (b : Bool) → is_some (cond b (Some v) o) ≡ true → (is_some o ≡ true → is_some p ≡ true) → is_some (cond b (Some v) p) ≡ true
second v o p true h more = refl
second v o p false h more = more h

-- what is in a table stays
kept : (t : Table) (x y : Ident) (m : Meaning) → is_some (meaning_in t y) ≡ true → is_some (meaning_in (with_name t x m) y) ≡ true
kept [] x y m h = cc
kept (e ∷ es) x y m h =
    elim (bytes_eq x e.0) as (λ a. is_some (lookup (bytes_eq y) (cond a ((e.0, m) ∷ es) (e ∷ with_name es x m))) ≡ true) [
      | true ↦ first e.1 m (meaning_in es y) (bytes_eq y e.0) h
      | false ↦ second e.1 (meaning_in es y) (meaning_in (with_name es x m) y) (bytes_eq y e.0) h (kept es x y m)
    ]

-- what is put into a table is there
put : (t : Table) (x : Ident) (m : Meaning) → is_some (meaning_in (with_name t x m) x) ≡ true
put [] x m = ap (λ b. is_some (cond b (Some m) None)) ((bytes_eq-Decides x x).1 refl)
put (e ∷ es) x m = by (bytes_eq x e.0) refl (put es x m)
  where
    by : (a : Bool) → bytes_eq x e.0 ≡ a → is_some (meaning_in (with_name es x m) x) ≡ true → is_some (lookup (bytes_eq x) (cond a ((e.0, m) ∷ es) (e ∷ with_name es x m))) ≡ true
    by true p more = ap (λ b. is_some (cond b (Some m) (meaning_in es x))) p
    by false p more = ap (λ b. is_some (cond b (Some e.1) (meaning_in (with_name es x m) x))) p ∙ more

-- ---- what a table has

pub seen-none : (t : Table) → AreSeen t []
seen-none t = record { each = λ x h. cc }

pub seen-kept : {t : Table} {locals : List Named} (x : Ident) (m : Meaning) → AreSeen t locals → AreSeen (with_name t x m) locals
seen-kept {t} x m seen = record { each = λ y h. kept t x y m (seen.each y h) }

pub seen-more : {t : Table} {locals : List Named} (x : Ident) (m : Meaning) → AreSeen t locals → AreSeen (with_name t x m) (locals ++ named_as x m ∷ [])
seen-more {t} {locals} x m seen = record { each = each }
  where
    each : (y : Ident) → list_any (is_named y) (locals ++ named_as x m ∷ []) ≡ true → is_some (meaning_in (with_name t x m) y) ≡ true
    each y h = ⊎_elim
        (λ p. kept t x y m (seen.each y p))
        (λ q. let same : x ≡ y = (bytes_eq-Decides x y).0 (or_own (bytes_eq x y) q) in subst (λ z. is_some (meaning_in (with_name t x m) z) ≡ true) same (put t x m))
        (or_cases (list_any (is_named y) locals) (list_any (is_named y) (named_as x m ∷ [])) (sym (list_any-append (is_named y) locals (named_as x m ∷ [])) ∙ h))

pub seen-fewer : {t : Table} {locals : List Named} (n : ℕ) → AreSeen t locals → AreSeen t (take n locals)
seen-fewer {t} {locals} n seen = record { each = λ x h. seen.each x (ap (list_any (is_named x)) (sym (take-append-drop n locals)) ∙ list_any-append (is_named x) (take n locals) (drop n locals) ∙ or_first (list_any (is_named x) (take n locals)) (list_any (is_named x) (drop n locals)) h) }

-- ---- what is in no table is not found

none_is : {t : Table} {locals : List Named} (x : Ident) → AreSeen t locals → is_some (meaning_in t x) ≡ false → list_any (is_named x) locals ≡ false
none_is {t} {locals} x seen none = not_true (list_any (is_named x) locals) (λ h. true_apart (seen.each x h) none)

none_behind : (p : Named → Bool) (xs ys : List Named) → list_any p (xs ++ ys) ≡ false → list_any p ys ≡ false
none_behind p xs ys h = not_true (list_any p ys) (λ e. true_apart (list_any-append p xs ys ∙ or_second (list_any p xs) (list_any p ys) e) h)

pub not_standing : {t : Table} {locals : List Named} (from : ℕ) (x : Ident) → AreSeen t locals → is_some (meaning_in t x) ≡ false → stands locals from x ≡ false
not_standing {t} {locals} from x seen none =
    none_behind (is_named x) (take from locals) (drop from locals) (ap (list_any (is_named x)) (take-append-drop from locals) ∙ none_is x seen none)

find_none : (p : Named → Bool) (xs : List Named) → list_any p xs ≡ false → find p xs ≡ None
find_none p [] h = refl
find_none p (x ∷ xs) h = by (p x) h (find_none p xs)
  where
    by : (b : Bool) → (b || list_any p xs) ≡ false → (list_any p xs ≡ false → find p xs ≡ None) → cond b (Some x) (find p xs) ≡ None
    by true h more = cc
    by false h more = more h

any_reverse : (p : Named → Bool) (xs : List Named) → list_any p xs ≡ false → list_any p (reverse xs) ≡ false
any_reverse p [] h = refl
any_reverse p (x ∷ xs) h =
    ap (list_any p) (reverse-append (x ∷ []) xs)
    ∙ list_any-append p (reverse xs) (x ∷ [])
    ∙ or_neither (list_any p (reverse xs)) (p x || false) (any_reverse p xs (none_behind p (x ∷ []) xs h)) (own (p x) (list_any p xs) h)
  where
    own : (a b : Bool) → (a || b) ≡ false → (a || false) ≡ false
    own true b h = h
    own false b h = refl

pub not_found : {t : Table} {locals : List Named} (x : Ident) → AreSeen t locals → is_some (meaning_in t x) ≡ false → found locals x ≡ None
not_found {t} {locals} x seen none = ap (option_map (λ (n : Named). n.meaning)) (find_none (is_named x) (reverse locals) (any_reverse (is_named x) locals (none_is x seen none)))
