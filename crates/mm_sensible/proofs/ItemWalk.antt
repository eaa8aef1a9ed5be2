-- Items that each declare one name, all of them different, one behind another.
use Rattle.std.proofs.Common.{◌≡◌, ◌≢◌, ℕ, ◌+◌, ◌<◌, nat_lt, Bool, true, false, cond, if◌then◌else◌, is_some, List, [], ◌∷◌, ◌++◌, slice_get, arith, refl, ◌∙◌, sym, ap, subst, Some, inl, inr}
use Rattle.std.specs.Prelude.{◌⊎◌}
use Rattle.std.specs.Str.{bytes_eq}
use Rattle.std.proofs.lemmas.Slice.Eq.{bytes_eq-Decides}
use Rattle.std.proofs.lemmas.Bool.Decides.{nat_tests}
use Rattle.std.proofs.lemmas.Option.{same_Some}
use Rattle.mm_goto.specs.declared.ident.Ident.{Ident}
use Rattle.mm_tree.specs.declared.item.Item.{Item}
use Rattle.mm_tree.specs.declared.item.Item.TheVariants as item
use Rattle.mm_tree.specs.declared.side.Side.TheVariants.{Output}
use Rattle.mm_flow.proofs.Finds.{lookup-put}
use Rattle.mm_scope.specs.declared.table.Meaning.{Meaning}
use Rattle.mm_scope.specs.declared.table.Meaning.TheVariants as meaning
use Rattle.mm_scope.specs.Notes.{Use}
use Rattle.mm_scope.specs.Scopes.{Names, Table, meaning_in, with_name, is_declared}
use Rattle.mm_names.specs.Items.{meaning_of_global, listed_item, listed_items, with_ahead, ahead}
use Rattle.mm_names.specs.Programs.{notes_of}
use Rattle.mm_names.specs.Tops.{no_more, top_then, with_globals}
use Rattle.mm_sensible.proofs.QuietStatements.{AreFine, fine_none, fine_both}

-- the name that an item declares, which declares one
abbrev pub item_name : Item → Ident
item_name (item.Globals (g ∷ [])) = g.name
item_name (item.Mutexes (w ∷ [])) = w.name
item_name (item.Threads (w ∷ [])) = w.name
item_name (item.InputDecl at x) = x
item_name (item.Function at g x ps ss) = x
item_name _ = []

-- what item k declares it as
abbrev pub item_meaning : ℕ → Item → Meaning
item_meaning k (item.Globals (g ∷ [])) = meaning_of_global g.pointer g.len
item_meaning k (item.Globals _) = meaning.Unready
item_meaning k (item.Mutexes ws) = meaning.Mutex
item_meaning k (item.Threads ws) = meaning.SharedThread
item_meaning k (item.InputDecl at x) = meaning.Input
item_meaning k (item.Function at g x ps ss) = meaning.Function k

-- ---- tables

same_name : (x y : Ident) → bytes_eq x y ≡ true → x ≡ y
same_name x y e = (bytes_eq-Decides x y).0 e

itself : (x : Ident) → bytes_eq x x ≡ true
itself x = (bytes_eq-Decides x x).1 refl

pub apart_names : (x y : Ident) → x ≢ y → bytes_eq x y ≡ false
apart_names x y n = by (bytes_eq x y) (bytes_eq-Decides x y).0
  where
    by : (b : Bool) → (b ≡ true → x ≡ y) → b ≡ false
    by true h = absurd (n (h refl))
    by false h = refl

-- what names mean behind one more
pub meaning_new : (table : Table) (x : Ident) (m : Meaning) → meaning_in (with_name table x m) x ≡ Some m
meaning_new table x m = lookup-put table x x m ∙ ap (λ b. cond b (Some m) (meaning_in table x)) (itself x)

pub meaning_old : (table : Table) (x y : Ident) (m : Meaning) → x ≢ y → meaning_in (with_name table x m) y ≡ meaning_in table y
meaning_old table x y m n = lookup-put table x y m ∙ ap (λ b. cond b (Some m) (meaning_in table y)) (apart_names x y n)

true_false : {b : Bool} → b ≡ true → b ≡ false → ⊥
true_false p q = cc

-- no name that is known ahead is declared
module _ (k : ℕ) where
  undeclared_with : (table : Table) (x y : Ident) → is_declared (meaning_in table y) ≡ false → is_declared (meaning_in (with_name table x (meaning.Ahead k)) y) ≡ false
  undeclared_with table x y h = ap is_declared (lookup-put table x y (meaning.Ahead k)) ∙ by (bytes_eq x y)
    where
      by : (b : Bool) → is_declared (cond b (Some (meaning.Ahead k)) (meaning_in table y)) ≡ false
      by true = refl
      by false = h

  ahead_one : (table : Table) (i : Item) (y : Ident) → is_declared (meaning_in table y) ≡ false → is_declared (meaning_in (with_ahead table k i) y) ≡ false
  ahead_one table (item.Function at g x ps ss) y h = by (is_some (meaning_in table x))
    where
      by : (b : Bool) → is_declared (meaning_in (if b then table else with_name table x (meaning.Ahead k)) y) ≡ false
      by true = h
      by false = undeclared_with table x y h
  ahead_one table (item.Globals gs) y h = h
  ahead_one table (item.Mutexes ws) y h = h
  ahead_one table (item.Threads ws) y h = h
  ahead_one table (item.InputDecl at x) y h = h

ahead_undeclared : (table : Table) (k : ℕ) (is : List Item) (y : Ident) → is_declared (meaning_in table y) ≡ false → is_declared (meaning_in (ahead table k is) y) ≡ false
unfolding ahead
ahead_undeclared table k [] y h = h
ahead_undeclared table k (i ∷ is) y h = ahead_undeclared (with_ahead table k i) (k + 1) is y (ahead_one k table i y h)

-- ---- the items of a program

module _ (items : List Item) where
  -- item i stands among the first k
  pub record Stands (k : ℕ) (i : Item) : Type 0 where
    pub place : ℕ
    pub below : place < k
    pub is : slice_get items place ≡ Some i

  -- no two items declare one name
  abbrev pub AreApart : Type 0
  AreApart = (j l : ℕ) (a b : Item) → slice_get items j ≡ Some a → slice_get items l ≡ Some b → item_name a ≡ item_name b → j ≡ l

  -- the table has what the first k items declare, and no more
  pub record Knows (k : ℕ) (table : Table) : Type 0 where
    pub known : (j : ℕ) (i : Item) → j < k → slice_get items j ≡ Some i → meaning_in table (item_name i) ≡ Some (item_meaning j i)
    pub only : (x : Ident) → is_declared (meaning_in table x) ≡ true → (i : Item) × (s : Stands k i) × (item_name i ≡ x)

  below_or : (j k : ℕ) → j < k + 1 → (j < k) ⊎ (j ≡ k)
  below_or j k low = by (nat_lt j k) refl
    where
      by : (b : Bool) → nat_lt j k ≡ b → (j < k) ⊎ (j ≡ k)
      by true e = inl (grind (arith, nat_tests))
      by false e = inr (grind (arith, nat_tests))

  -- behind item k the table has one more
  pub knows_next : AreApart → (k : ℕ) (i : Item) (table : Table) → slice_get items k ≡ Some i → is_declared (Some (item_meaning k i)) ≡ true → Knows k table → Knows (k + 1) (with_name table (item_name i) (item_meaning k i))
  knows_next apart k i table at d knows = record { known = known; only = λ x e. only x e (bytes_eq (item_name i) x) refl }
    where
      known : (j : ℕ) (o : Item) → j < k + 1 → slice_get items j ≡ Some o → meaning_in (with_name table (item_name i) (item_meaning k i)) (item_name o) ≡ Some (item_meaning j o)
      known j o low is = elim (below_or j k low) [
        | inl less ↦ meaning_old table (item_name i) (item_name o) (item_meaning k i) (λ same. let e = apart k j i o at is same in omega (arith, e, less)) ∙ knows.known j o less is
        | inr same ↦
            let one : i ≡ o = same_Some i o (sym at ∙ ap (slice_get items) (sym same) ∙ is) in
            ap (λ q. meaning_in (with_name table (item_name i) (item_meaning k i)) (item_name q)) (sym one) ∙ meaning_new table (item_name i) (item_meaning k i) ∙ ap Some (ap (item_meaning k) one ∙ ap (λ m. item_meaning m o) (sym same))
      ]

      only : (x : Ident) → is_declared (meaning_in (with_name table (item_name i) (item_meaning k i)) x) ≡ true → (b : Bool) → bytes_eq (item_name i) x ≡ b → (o : Item) × (s : Stands (k + 1) o) × (item_name o ≡ x)
      only x e true q = (i, record { place = k; below = omega arith; is = at }, same_name (item_name i) x q)
      only x e false q =
          let old = knows.only x (sym (ap is_declared (lookup-put table (item_name i) x (item_meaning k i) ∙ ap (λ b. cond b (Some (item_meaning k i)) (meaning_in table x)) q)) ∙ e) in
          let low = old.1.below in
          (old.0, record { place = old.1.place; below = omega (arith, low); is = old.1.is }, old.2)

  -- the name of item k is new
  pub is_new : AreApart → (k : ℕ) (i : Item) (table : Table) → slice_get items k ≡ Some i → Knows k table → is_declared (meaning_in table (item_name i)) ≡ false
  is_new apart k i table at knows = by (is_declared (meaning_in table (item_name i))) refl
    where
      by : (b : Bool) → is_declared (meaning_in table (item_name i)) ≡ b → b ≡ false
      by false e = refl
      by true e =
          let old = knows.only (item_name i) e in
          let low = old.1.below in
          let same = apart old.1.place k old.0 i old.1.is at old.2 in
          absurd (omega (arith, low, same))

  -- item k declares its name, and what is noted in it is fine and of starts and joins has these
  abbrev pub IsWell : List Use → ℕ → Item → Type 0
  IsWell us k i = (table : Table) → Knows k table → is_declared (meaning_in table (item_name i)) ≡ false
      → ((listed_item Output items k i (record { globals = table; locals = [] })).globals ≡ with_name table (item_name i) (item_meaning k i))
      × AreFine us (listed_item Output items k i (record { globals = table; locals = [] })).notes

  -- so do the items from number k on
  pub data AreWell : List Use → ℕ → List Item → Type 0 where
    none : {k : ℕ} → AreWell [] k []
    more : {us vs : List Use} {k : ℕ} {i : Item} {is : List Item} → slice_get items k ≡ Some i → is_declared (Some (item_meaning k i)) ≡ true → IsWell us k i → AreWell vs (k + 1) is → AreWell (us ++ vs) k (i ∷ is)

  walk : AreApart → {us : List Use} {k : ℕ} {is : List Item} (table : Table) → AreWell us k is → Knows k table → AreFine us (listed_items Output items k is (record { globals = table; locals = [] })).notes
  unfolding listed_items no_more top_then
  walk apart table none knows = fine_none
  walk apart table (more {us} {vs} {k} {i} {is} at d well rest) knows =
      let names : Names = record { globals = table; locals = [] } in
      let here = well table knows (is_new apart k i table at knows) in
      fine_both (listed_item Output items k i names).notes (listed_items Output items (k + 1) is (with_globals names (listed_item Output items k i names).globals)).notes here.1
      (subst (λ t. AreFine vs (listed_items Output items (k + 1) is (with_globals names t)).notes) (sym here.0)
      (walk apart (with_name table (item_name i) (item_meaning k i)) rest (knows_next apart k i table at d knows)))

  -- what is noted in a program of such items
  pub walked : AreApart → {us : List Use} → AreWell us 0 items → AreFine us (notes_of Output (record { items = items }))
  unfolding notes_of
  walked apart well = walk apart (ahead [] 0 items) well (record {
    known = λ j i low at. absurd (omega (arith, low));
    only = λ x e. absurd (true_false e (ahead_undeclared [] 0 items x refl));
  })
