-- Tables from names to numbers, and the lists that they stand for.
use Rattle.std.proofs.Common.{arith, ◌≡◌, refl, sym, ap, ◌∙◌, subst, ℕ, ◌+◌, ◌<◌, Bool, true, false, cond, if◌then◌else◌, List, [], ◌∷◌, ◌++◌, map, length, take, get_or, reverse, Option, Some, None, IsSome, is_some}
use Rattle.std.specs.Prelude.{find, position, nat_lt, slice_get}
use Rattle.std.specs.List.{position_from, position_or_len}
use Rattle.std.specs.Map.{lookup, set_value}
use Rattle.std.specs.Option.{option_map, option_or}
use Rattle.std.specs.Str.{bytes_eq}
use Rattle.std.specs.Cmp.Lexicographic.{nat_list_eq_equiv}
use Rattle.std.proofs.Math.Seq.{append_snoc}
use Rattle.std.proofs.lemmas.Bool.{ltb-false}
use Rattle.std.proofs.lemmas.Iterator.Adapters.{position_from-zero}
use Rattle.std.proofs.lemmas.List.{append-nil, length-take-le, map-append, reverse-append, take_more}
use Rattle.std.proofs.lemmas.List.Folds.{find_at}
use Rattle.std.proofs.lemmas.Map.{lookup-set_value}
use Rattle.std.proofs.lemmas.Option.{slice_get_past}
use Rattle.std.proofs.lemmas.Slice.Eq.{bytes_eq-Decides}
use Rattle.indexmap.specs.IndexMap.{insert_entry}
use Rattle.mm_goto.specs.declared.ident.Ident.{Ident}
use Rattle.mm_flow.specs.declared.locals.Entry.{Entry}
use Rattle.mm_flow.specs.declared.names.Named.{Named}
use Rattle.mm_flow.specs.Scopes.{local_of, named}
use Rattle.mm_flow.specs.reading.Finding.{Placing, ArePlaced, noted, at_place, Presence, joined, present, entry_name, entry_names, Hide, IsPresent}

-- ---- a map as the table that it is

-- an entry of a map, by the name that its key is
abbrev pub view : {K M : Type 0} → (K → Ident) → K × M → Ident × M
view f e = (f e.0, e.1)

pub lookup-view : {K M : Type 0} (f : K → Ident) (x : Ident) (es : List (K × M)) → lookup (λ k. bytes_eq x (f k)) es ≡ lookup (bytes_eq x) (map (view f) es)
lookup-view f x [] = refl
lookup-view f x (e ∷ es) = ap (cond (bytes_eq x (f e.0)) (Some e.1)) (lookup-view f x es)

pub insert-view : {K M : Type 0} (f : K → Ident) (k : K) (m : M) (es : List (K × M)) → map (view f) (insert_entry (λ a b. bytes_eq (f a) (f b)) es k m) ≡ insert_entry bytes_eq (map (view f) es) (f k) m
insert-view f k m [] = refl
insert-view f k m (e ∷ es) =
    elim (bytes_eq (f k) (f e.0)) as (λ b. map (view f) (if b then (e.0, m) ∷ es else e ∷ insert_entry (λ c d. bytes_eq (f c) (f d)) es k m) ≡ (if b then (f e.0, m) ∷ map (view f) es else view f e ∷ insert_entry bytes_eq (map (view f) es) (f k) m)) [
      | true ↦ refl
      | false ↦ ap (λ l. view f e ∷ l) (insert-view f k m es)
    ]

pub set-view : {K M : Type 0} (f : K → Ident) (x : Ident) (m : M) (es : List (K × M)) → map (view f) (set_value (λ k. bytes_eq x (f k)) es m) ≡ set_value (bytes_eq x) (map (view f) es) m
set-view f x m [] = refl
set-view f x m (e ∷ es) =
    elim (bytes_eq x (f e.0)) as (λ b. map (view f) (cond b ((e.0, m) ∷ es) (e ∷ set_value (λ k. bytes_eq x (f k)) es m)) ≡ cond b ((f e.0, m) ∷ map (view f) es) (view f e ∷ set_value (bytes_eq x) (map (view f) es) m)) [
      | true ↦ refl
      | false ↦ ap (λ l. view f e ∷ l) (set-view f x m es)
    ]

-- what is set where there is nothing changes nothing
pub set_none : {M : Type 0} (x : Ident) (m : M) (t : List (Ident × M)) → lookup (bytes_eq x) t ≡ None → set_value (bytes_eq x) t m ≡ t
set_none x m [] h = refl
set_none x m (e ∷ t) h = by (bytes_eq x e.0) h (set_none x m t)
  where
    by : (b : Bool) → cond b (Some e.1) (lookup (bytes_eq x) t) ≡ None → (lookup (bytes_eq x) t ≡ None → set_value (bytes_eq x) t m ≡ t) → cond b ((e.0, m) ∷ t) (e ∷ set_value (bytes_eq x) t m) ≡ e ∷ t
    by true h more = absurd (cc)
    by false h more = ap (λ l. e ∷ l) (more h)

-- ---- what is put into a table

same_name : (x y : Ident) → bytes_eq x y ≡ true → x ≡ y
same_name x y h = (bytes_eq-Decides x y).0 h

own_name : (x : Ident) → bytes_eq x x ≡ true
own_name x = (bytes_eq-Decides x x).1 refl

either_way : (x y : Ident) → bytes_eq x y ≡ bytes_eq y x
either_way x y = by (bytes_eq x y) (bytes_eq y x) refl refl
  where
    by : (a b : Bool) → bytes_eq x y ≡ a → bytes_eq y x ≡ b → a ≡ b
    by true true p q = refl
    by false false p q = refl
    by true false p q = absurd (let e : bytes_eq y x ≡ true = subst (λ z. bytes_eq z x ≡ true) (same_name x y p) (own_name x) in cc)
    by false true p q = absurd (let e : bytes_eq x y ≡ true = subst (λ z. bytes_eq z y ≡ true) (same_name y x q) (own_name y) in cc)

pub lookup-put : {M : Type 0} (t : List (Ident × M)) (x y : Ident) (m : M) → lookup (bytes_eq y) (insert_entry bytes_eq t x m) ≡ cond (bytes_eq x y) (Some m) (lookup (bytes_eq y) t)
lookup-put [] x y m = ap (λ b. cond b (Some m) None) (either_way y x)
lookup-put (e ∷ t) x y m = by (bytes_eq x e.0) (bytes_eq x y) refl refl (lookup-put t x y m)
  where
    by : (a b : Bool) → bytes_eq x e.0 ≡ a → bytes_eq x y ≡ b → lookup (bytes_eq y) (insert_entry bytes_eq t x m) ≡ cond (bytes_eq x y) (Some m) (lookup (bytes_eq y) t)
        → lookup (bytes_eq y) (if a then (e.0, m) ∷ t else e ∷ insert_entry bytes_eq t x m) ≡ cond b (Some m) (cond (bytes_eq y e.0) (Some e.1) (lookup (bytes_eq y) t))
    by true true p q more =
        let same : bytes_eq y e.0 ≡ true = subst (λ z. bytes_eq z e.0 ≡ true) (same_name x y q) p in
        ap (λ c. cond c (Some m) (lookup (bytes_eq y) t)) same
    by true false p q more =
        let other : bytes_eq y e.0 ≡ false = either_way y e.0 ∙ subst (λ z. bytes_eq z y ≡ false) (same_name x e.0 p) q in
        ap (λ c. cond c (Some m) (lookup (bytes_eq y) t)) other ∙ sym (ap (λ c. cond c (Some e.1) (lookup (bytes_eq y) t)) other)
    by false true p q more =
        let other : bytes_eq y e.0 ≡ false = subst (λ z. bytes_eq z e.0 ≡ false) (same_name x y q) p in
        ap (λ c. cond c (Some e.1) (lookup (bytes_eq y) (insert_entry bytes_eq t x m))) other ∙ more ∙ ap (λ c. cond c (Some m) (lookup (bytes_eq y) t)) q
    by false false p q more = ap (cond (bytes_eq y e.0) (Some e.1)) (more ∙ ap (λ c. cond c (Some m) (lookup (bytes_eq y) t)) q)

-- ---- where names stand

noted_lookup : (t : Placing) (n x : Ident) (i : ℕ) → lookup (bytes_eq x) (noted t n i) ≡ option_or (lookup (bytes_eq x) t) (cond (bytes_eq n x) (Some i) None)
noted_lookup t n x i = by (lookup (bytes_eq n) t) (bytes_eq n x) refl refl
  where
    or_none : (o : Option ℕ) → o ≡ option_or o None
    or_none None = refl
    or_none (Some k) = refl

    by : (o : Option ℕ) (b : Bool) → lookup (bytes_eq n) t ≡ o → bytes_eq n x ≡ b → lookup (bytes_eq x) (if is_some o then t else insert_entry bytes_eq t n i) ≡ option_or (lookup (bytes_eq x) t) (cond b (Some i) None)
    by (Some k) true p q =
        let found : lookup (bytes_eq x) t ≡ Some k = subst (λ y. lookup (bytes_eq y) t ≡ Some k) (same_name n x q) p in
        found ∙ ap (λ o. option_or o (Some i)) (sym found)
    by (Some k) false p q = or_none (lookup (bytes_eq x) t)
    by None true p q =
        let none : lookup (bytes_eq x) t ≡ None = subst (λ y. lookup (bytes_eq y) t ≡ None) (same_name n x q) p in
        lookup-put t n x i ∙ ap (λ b. cond b (Some i) (lookup (bytes_eq x) t)) q ∙ ap (λ o. option_or o (Some i)) (sym none)
    by None false p q = lookup-put t n x i ∙ ap (λ b. cond b (Some i) (lookup (bytes_eq x) t)) q ∙ or_none (lookup (bytes_eq x) t)

from_more : {X : Type 0} (p : X → Bool) (k : ℕ) (xs : List X) (y : X) → position_from p k (xs ++ y ∷ []) ≡ option_or (position_from p k xs) (cond (p y) (Some (k + length xs)) None)
from_more p k [] y = ap (λ n. cond (p y) (Some n) None) (omega arith)
from_more p k (x ∷ xs) y = by (p x) (from_more p (k + 1) xs y)
  where
    by : (b : Bool) → position_from p (k + 1) (xs ++ y ∷ []) ≡ option_or (position_from p (k + 1) xs) (cond (p y) (Some (k + 1 + length xs)) None)
        → cond b (Some k) (position_from p (k + 1) (xs ++ y ∷ [])) ≡ option_or (cond b (Some k) (position_from p (k + 1) xs)) (cond (p y) (Some (k + length (x ∷ xs))) None)
    by true more = refl
    by false more = more ∙ ap (λ n. option_or (position_from p (k + 1) xs) (cond (p y) (Some n) None)) (omega arith)

position_more : {X : Type 0} (p : X → Bool) (xs : List X) (i : ℕ) (y : X) → i < length xs → y ≡ get_or xs i y → position p (take (i + 1) xs) ≡ option_or (position p (take i xs)) (cond (p y) (Some i) None)
position_more p xs i y within is =
    position_from-zero p (take (i + 1) xs)
    ∙ ap (position_from p 0) (take_more xs i y within ∙ ap (λ z. take i xs ++ z ∷ []) (sym is))
    ∙ from_more p 0 (take i xs) y
    ∙ ap (λ n. option_or (position_from p 0 (take i xs)) (cond (p y) (Some n) None)) (same_length i (take i xs) (length-take-le i xs (omega (arith, within))))
    ∙ ap (λ o. option_or o (cond (p y) (Some i) None)) (sym (position_from-zero p (take i xs)))
  where
    same_length : {Y : Type 0} (n : ℕ) (ys : List Y) → length ys ≡ n → 0 + length ys ≡ n
    same_length n ys h = omega (arith, h)

pub placed_none : {X : Type 0} (called : Ident → X → Bool) → ArePlaced called [] []
placed_none called = record { each = λ x. refl }

pub placed_more : {X : Type 0} {called : Ident → X → Bool} {t : Placing} (xs : List X) (i : ℕ) (y : X) (n : Ident) → i < length xs → y ≡ get_or xs i y → ((x : Ident) → called x y ≡ bytes_eq n x)
    → ArePlaced called t (take i xs) → ArePlaced called (noted t n i) (take (i + 1) xs)
placed_more {called = called} {t} xs i y n within is own p = record {
  each = λ x.
      noted_lookup t n x i
      ∙ ap (λ o. option_or o (cond (bytes_eq n x) (Some i) None)) (p.each x)
      ∙ ap (λ b. option_or (position (called x) (take i xs)) (cond b (Some i) None)) (sym (own x))
      ∙ sym (position_more (called x) xs i y within is);
}

pub placed_same : {X : Type 0} {called : Ident → X → Bool} {t : Placing} (xs : List X) (i : ℕ) (y : X) → i < length xs → y ≡ get_or xs i y → ((x : Ident) → called x y ≡ false)
    → ArePlaced called t (take i xs) → ArePlaced called t (take (i + 1) xs)
placed_same {called = called} {t} xs i y within is other p = record {
  each = λ x.
      p.each x
      ∙ or_none (position (called x) (take i xs))
      ∙ ap (λ b. option_or (position (called x) (take i xs)) (cond b (Some i) None)) (sym (other x))
      ∙ sym (position_more (called x) xs i y within is);
}
  where
    or_none : (o : Option ℕ) → o ≡ option_or o None
    or_none None = refl
    or_none (Some k) = refl

pub found_at : {X : Type 0} (p : X → Bool) (xs : List X) → find p xs ≡ at_place xs (position p xs)
found_at p xs = find_at p xs ∙ by (nat_lt (position_or_len p xs) (length xs)) refl
  where
    by : (b : Bool) → nat_lt (position_or_len p xs) (length xs) ≡ b → slice_get xs (position_or_len p xs) ≡ at_place xs (cond b (Some (position_or_len p xs)) None)
    by true h = refl
    by false h = slice_get_past xs (position_or_len p xs) (ltb-false (position_or_len p xs) (length xs) h)

-- ---- the locals that names stand for

present_put : (t : Presence) (x y : Ident) → present (insert_entry bytes_eq t x (present t x)) y ≡ present t y
present_put t x y = ap joined (lookup-put t x y (present t x)) ∙ by (bytes_eq x y) refl
  where
    by : (b : Bool) → bytes_eq x y ≡ b → joined (cond b (Some (present t x)) (lookup (bytes_eq y) t)) ≡ present t y
    by true p = ap (present t) (same_name x y p)
    by false p = refl

there : (t : Presence) (x : Ident) (m : Option ℕ) → IsSome (lookup (bytes_eq x) (insert_entry bytes_eq t x m))
there t x m = subst IsSome (sym (lookup-put t x x m ∙ ap (λ b. cond b (Some m) (lookup (bytes_eq x) t)) (own_name x))) refl

joined_cond : (b : Bool) (m : Option ℕ) (o : Option (Option ℕ)) → joined (cond b (Some m) o) ≡ cond b m (joined o)
joined_cond true m o = refl
joined_cond false m o = refl

present_set : (t : Presence) (x y : Ident) (m : Option ℕ) → IsSome (lookup (bytes_eq x) t) → present (set_value (bytes_eq x) t m) y ≡ cond (bytes_eq x y) m (present t y)
present_set t x y m h =
    ap joined (lookup-set_value nat_list_eq_equiv (bytes_eq x) (λ a b e. nat_list_eq_equiv.congr x a b e) y m t h)
    ∙ joined_cond (bytes_eq x y) m (lookup (bytes_eq y) t)

local_of_more : (ns : List Named) (x y : Ident) (n : ℕ) → local_of (ns ++ named x n ∷ []) y ≡ cond (bytes_eq x y) (Some n) (local_of ns y)
local_of_more ns x y n =
    ap (λ (ms : List Named). option_map (λ (m : Named). m.number) (find (λ (m : Named). bytes_eq m.name y) ms)) (reverse-append ns (named x n ∷ []))
    ∙ by (bytes_eq x y) (find (λ (m : Named). bytes_eq m.name y) (reverse ns))
  where
    by : (b : Bool) (o : Option Named) → option_map (λ (m : Named). m.number) (cond b (Some (named x n)) o) ≡ cond b (Some n) (option_map (λ (m : Named). m.number) o)
    by true o = refl
    by false o = refl

hide_more : (before : List Named) (es : List Entry) (e : Entry) → Hide before es → e.hidden ≡ local_of (before ++ entry_names es) e.name → Hide before (es ++ e ∷ [])
hide_more before [] e h own = (own ∙ ap (λ ns. local_of ns e.name) (append-nil before), tt)
hide_more before (d ∷ es) e h own = (h.0, hide_more (before ++ entry_name d ∷ []) es e h.1 (own ∙ ap (λ ns. local_of ns e.name) (sym (append_snoc before (entry_name d) (entry_names es)))))

hide_less : (before : List Named) (es : List Entry) (e : Entry) → Hide before (es ++ e ∷ []) → Hide before es × (e.hidden ≡ local_of (before ++ entry_names es) e.name)
hide_less before [] e h = (tt, h.0 ∙ ap (λ ns. local_of ns e.name) (sym (append-nil before)))
hide_less before (d ∷ es) e h =
    let rest = hide_less (before ++ entry_name d ∷ []) es e h.1 in
    ((h.0, rest.0), rest.1 ∙ ap (λ ns. local_of ns e.name) (append_snoc before (entry_name d) (entry_names es)))

-- ---- a table that follows its names

pub nothing_present : IsPresent [] []
nothing_present = record { each = λ x. refl; hide = tt }

pub put_present : {t : Presence} {es : List Entry} (x : Ident) → IsPresent t es → IsPresent (insert_entry bytes_eq t x (present t x)) es
put_present {t} {es} x p = record { each = λ y. present_put t x y ∙ p.each y; hide = p.hide }

pub push_present : {t : Presence} {es : List Entry} (x : Ident) (n : ℕ) → IsPresent t es
    → IsPresent (set_value (bytes_eq x) (insert_entry bytes_eq t x (present t x)) (Some n)) (es ++ record { name = x; number = n; hidden = present t x } ∷ [])
push_present {t} {es} x n p = record {
  each = λ y.
      present_set (insert_entry bytes_eq t x (present t x)) x y (Some n) (there t x (present t x))
      ∙ ap (cond (bytes_eq x y) (Some n)) (present_put t x y ∙ p.each y)
      ∙ sym (local_of_more (entry_names es) x y n)
      ∙ ap (λ ns. local_of ns y) (sym (map-append entry_name es (record { name = x; number = n; hidden = present t x } ∷ [])));
  hide = hide_more [] es (record { name = x; number = n; hidden = present t x }) p.hide (p.each x);
}

some_there : (o : Option (Option ℕ)) (n : ℕ) → joined o ≡ Some n → IsSome o
some_there None n h = absurd (cc)
some_there (Some l) n h = refl

pub pop_present : {t : Presence} {es : List Entry} (e : Entry) → IsPresent t (es ++ e ∷ []) → IsPresent (set_value (bytes_eq e.name) t e.hidden) es
pop_present {t} {es} e p =
    let found : (y : Ident) → present t y ≡ cond (bytes_eq e.name y) (Some e.number) (local_of (entry_names es) y) =
    λ y. p.each y ∙ ap (λ ns. local_of ns y) (map-append entry_name es (e ∷ [])) ∙ local_of_more (entry_names es) e.name y e.number in
    let own : present t e.name ≡ Some e.number = found e.name ∙ ap (λ b. cond b (Some e.number) (local_of (entry_names es) e.name)) (own_name e.name) in
    let less = hide_less [] es e p.hide in
    record {
      each = λ y. present_set t e.name y e.hidden (some_there (lookup (bytes_eq e.name) t) e.number own) ∙ by t es e y (bytes_eq e.name y) refl (found y) less.1;
      hide = less.0;
    }
  where
    by : (t : Presence) (es : List Entry) (e : Entry) (y : Ident) (b : Bool) → bytes_eq e.name y ≡ b → present t y ≡ cond (bytes_eq e.name y) (Some e.number) (local_of (entry_names es) y) → e.hidden ≡ local_of (entry_names es) e.name
        → cond b e.hidden (present t y) ≡ local_of (entry_names es) y
    by t es e y true q f own = own ∙ ap (local_of (entry_names es)) (same_name e.name y q)
    by t es e y false q f own = f ∙ ap (λ b. cond b (Some e.number) (local_of (entry_names es) y)) q
