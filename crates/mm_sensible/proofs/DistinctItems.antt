-- The items of a woven program declare different names.
use Rattle.std.proofs.Common.{◌≡◌, ◌≢◌, ℕ, zero, suc, ◌+◌, ◌≤◌, Bool, true, false, if◌then◌else◌, List, [], ◌∷◌, ◌++◌, slice_get, arith, refl, ◌∙◌, sym, ap, subst, Option, Some, None, inl, inr}
use Rattle.std.specs.Prelude.{◌⊎◌}
use Rattle.mm_goto.specs.declared.ident.Ident.{Ident}
use Rattle.mm_goto.specs.declared.program.Cell.{Cell}
use Rattle.mm_tree.specs.declared.item.Item.{Item}
use Rattle.mm_templates.specs.Homes.{has_moved}
use Rattle.mm_instr.specs.Woven.{declared, variables}
use Rattle.mm_sensible.proofs.ItemWalk.{item_name}

-- ---- lists of items

-- no item has this name
unfoldable pub Differs : Ident → List Item → Type 0
Differs x [] = Unit {0}
Differs x (i ∷ is) = (x ≢ item_name i) × Differs x is

-- no two have one name
unfoldable pub AreDistinct : List Item → Type 0
AreDistinct [] = Unit {0}
AreDistinct (i ∷ is) = Differs (item_name i) is × AreDistinct is

-- the name of each is so
unfoldable pub EachName : (Ident → Type 0) → List Item → Type 0
EachName P [] = Unit {0}
EachName P (i ∷ is) = P (item_name i) × EachName P is

differs_at : (x : Ident) (is : List Item) (k : ℕ) (i : Item) → Differs x is → slice_get is k ≡ Some i → x ≢ item_name i
unfolding Differs
differs_at x [] k i h e = absurd (nothing e)
  where
    nothing : None ≡ Some i → ⊥
    nothing q = cc
differs_at x (j ∷ is) zero i h e = subst (λ o. x ≢ item_name o) (same e) h.0
  where
    same : Some j ≡ Some i → j ≡ i
    same q = cc
differs_at x (j ∷ is) (suc k) i h e = differs_at x is k i h.1 e

-- so two with one name are one
pub distinct_apart : (is : List Item) → AreDistinct is → (j l : ℕ) (a b : Item) → slice_get is j ≡ Some a → slice_get is l ≡ Some b → item_name a ≡ item_name b → j ≡ l
unfolding AreDistinct
distinct_apart [] h j l a b p q e = absurd (nothing p)
  where
    nothing : None ≡ Some a → ⊥
    nothing r = cc
distinct_apart (i ∷ is) h zero zero a b p q e = refl
distinct_apart (i ∷ is) h zero (suc l) a b p q e = absurd (differs_at (item_name i) is l b h.0 q (ap item_name (same p) ∙ e))
  where
    same : Some i ≡ Some a → i ≡ a
    same r = cc
distinct_apart (i ∷ is) h (suc j) zero a b p q e = absurd (differs_at (item_name i) is j a h.0 p (ap item_name (same q) ∙ sym e))
  where
    same : Some i ≡ Some b → i ≡ b
    same r = cc
distinct_apart (i ∷ is) h (suc j) (suc l) a b p q e = ap suc (distinct_apart is h.1 j l a b p q e)

differs_append : (x : Ident) (is js : List Item) → Differs x is → Differs x js → Differs x (is ++ js)
unfolding Differs
differs_append x [] js h g = g
differs_append x (i ∷ is) js h g = (h.0, differs_append x is js h.1 g)

pub differs_all : (x : Ident) (Q : Ident → Type 0) → (Q x → ⊥) → (js : List Item) → EachName Q js → Differs x js
unfolding Differs EachName
differs_all x Q n [] h = tt
differs_all x Q n (j ∷ js) h = (λ e. n (subst Q (sym e) h.0), differs_all x Q n js h.1)

-- two parts whose names are of different sorts
pub distinct_both : (P Q : Ident → Type 0) → ((x : Ident) → P x → Q x → ⊥) → (is js : List Item) → EachName P is → EachName Q js → AreDistinct is → AreDistinct js → AreDistinct (is ++ js)
unfolding AreDistinct EachName
distinct_both P Q apart [] js p q h g = g
distinct_both P Q apart (i ∷ is) js p q h g = (differs_append (item_name i) is js h.0 (differs_all (item_name i) Q (apart (item_name i) p.0) js q), distinct_both P Q apart is js p.1 q h.1 g)

pub each_both : (P : Ident → Type 0) (is js : List Item) → EachName P is → EachName P js → EachName P (is ++ js)
unfolding EachName
each_both P [] js h g = g
each_both P (i ∷ is) js h g = (h.0, each_both P is js h.1 g)

pub each_weaker : (P Q : Ident → Type 0) → ((x : Ident) → P x → Q x) → (is : List Item) → EachName P is → EachName Q is
unfolding EachName
each_weaker P Q f [] h = tt
each_weaker P Q f (i ∷ is) h = (f (item_name i) h.0, each_weaker P Q f is h.1)

-- ---- global variables

module _ (cells : List Cell) (moved : List Bool) (apart : (c d : ℕ) (a b : Cell) → slice_get cells c ≡ Some a → slice_get cells d ≡ Some b → a.name ≡ b.name → (c ≡ d) ⊎ ((a.index ≢ None) × (b.index ≢ None) × (a.index ≢ b.index))) where
  -- the name of a cell from number c on that is no further element of an array
  abbrev pub IsFirstName : ℕ → Ident → Type 0
  IsFirstName c x = (d : ℕ) × (cell : Cell) × (c ≤ d) × (slice_get cells d ≡ Some cell) × ((cell.index ≡ None) ⊎ (cell.index ≡ Some 0)) × (x ≡ cell.name)

  later_name : (c : ℕ) (x : Ident) → IsFirstName (c + 1) x → IsFirstName c x
  later_name c x (d, cell, low, at, first, is) = (d, cell, omega (arith, low), at, first, is)

  declared_names : (c : ℕ) (cell : Cell) (rest : List Cell) (o : Option ℕ) → slice_get cells c ≡ Some cell → cell.index ≡ o → EachName (λ x. (x ≡ cell.name) × ((cell.index ≡ None) ⊎ (cell.index ≡ Some 0))) (declared cell rest o) × AreDistinct (declared cell rest o)
  unfolding EachName AreDistinct Differs
  declared_names c cell rest None at is = (((refl, inl is), tt), (tt, tt))
  declared_names c cell rest (Some zero) at is = (((refl, inr is), tt), (tt, tt))
  declared_names c cell rest (Some (suc k)) at is = (tt, tt)

  -- two such names of different cells differ
  first_apart : (c : ℕ) (cell : Cell) → slice_get cells c ≡ Some cell → (x : Ident) → (x ≡ cell.name) × ((cell.index ≡ None) ⊎ (cell.index ≡ Some 0)) → IsFirstName (c + 1) x → ⊥
  first_apart c cell at x (is, first) (d, other, low, there, second, same) = by (apart c d cell other at there (sym is ∙ same)) first second
    where
      by : (c ≡ d) ⊎ ((cell.index ≢ None) × (other.index ≢ None) × (cell.index ≢ other.index)) → (cell.index ≡ None) ⊎ (cell.index ≡ Some 0) → (other.index ≡ None) ⊎ (other.index ≡ Some 0) → ⊥
      by (inl e) p q = omega (arith, e, low)
      by (inr n) (inl p) q = n.0 p
      by (inr n) (inr p) (inl q) = n.1 q
      by (inr n) (inr p) (inr q) = n.2 (p ∙ sym q)

  -- the globals that keep their names, from number c on
  pub variables_distinct : (c : ℕ) (rest : List Cell) → ((k : ℕ) → slice_get cells (c + k) ≡ slice_get rest k) → EachName (IsFirstName c) (variables moved c rest) × AreDistinct (variables moved c rest)
  unfolding EachName AreDistinct
  variables_distinct c [] h = (tt, tt)
  variables_distinct c (cell ∷ rest) h = by (has_moved moved c) (variables_distinct (c + 1) rest (λ k. ap (slice_get cells) (place c k) ∙ h (suc k)))
    where
      place : (c k : ℕ) → c + 1 + k ≡ c + suc k
      place c k = omega arith

      at : slice_get cells c ≡ Some cell
      at = ap (slice_get cells) (here c) ∙ h 0
        where
          here : (c : ℕ) → c ≡ c + 0
          here c = omega arith

      more : List Item
      more = variables moved (c + 1) rest

      by : (b : Bool) → EachName (IsFirstName (c + 1)) (variables moved (c + 1) rest) × AreDistinct (variables moved (c + 1) rest)
          → EachName (IsFirstName c) ((if b then [] else declared cell rest cell.index) ++ variables moved (c + 1) rest) × AreDistinct ((if b then [] else declared cell rest cell.index) ++ variables moved (c + 1) rest)
      by true r = (each_weaker (IsFirstName (c + 1)) (IsFirstName c) (later_name c) (variables moved (c + 1) rest) r.0, r.1)
      by false r =
          let own = declared_names c cell rest cell.index at refl in
          let P : Ident → Type 0 = λ x. (x ≡ cell.name) × ((cell.index ≡ None) ⊎ (cell.index ≡ Some 0)) in (
            each_both (IsFirstName c) (declared cell rest cell.index) (variables moved (c + 1) rest)
                (each_weaker P (IsFirstName c) (λ x h. (c, cell, omega arith, at, h.1, h.0)) (declared cell rest cell.index) own.0)
                (each_weaker (IsFirstName (c + 1)) (IsFirstName c) (later_name c) (variables moved (c + 1) rest) r.0),
            distinct_both P (IsFirstName (c + 1)) (first_apart c cell at) (declared cell rest cell.index) (variables moved (c + 1) rest) own.0 r.0 own.1 r.1,
          )
