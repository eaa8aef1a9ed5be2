-- Tables of global names: what a name stands for behind a declaration.
use Rattle.std.proofs.Common.{arith, ◌≡◌, ℕ, suc, ◌+◌, ◌<◌, ◌≤◌, nat_lt, Bool, true, false, not, cond, if◌then◌else◌, List, [], ◌∷◌, ◌++◌, length, refl, ◌∙◌, sym, ap, subst, Option, Some, None}
use Rattle.std.specs.List.{AllByRecursion, prefix_len}
use Rattle.std.specs.Str.{bytes_eq}
use Rattle.std.proofs.lemmas.Bool.Decides.{nat_tests}
use Rattle.std.proofs.lemmas.Slice.Eq.{bytes_eq-Decides}
use Rattle.mm_goto.specs.declared.ident.At.{At}
use Rattle.mm_goto.specs.declared.ident.Ident.{Ident}
use Rattle.mm_tree.specs.declared.item.Global.{Global}
use Rattle.mm_tree.specs.declared.item.Item.{Item}
use Rattle.mm_tree.specs.declared.item.Item.TheVariants as item
use Rattle.mm_flow.specs.declared.names.Spot.{Spot}
use Rattle.mm_flow.specs.Programs.{cells_in, capped, spots}
use Rattle.mm_flow.specs.Scopes.{spot_of}
use Rattle.mm_scope.specs.declared.table.Meaning.{Meaning}
use Rattle.mm_scope.specs.declared.fault.Rule.TheVariants.{TwiceDeclared}
use Rattle.mm_scope.specs.Notes.{refusal}
use Rattle.mm_scope.specs.Scopes.{Names, Table, meaning_in, with_name, is_declared}
use Rattle.mm_names.specs.Tops.{Listed, listed}
use Rattle.mm_sourcelike.proofs.Scoping.{NoFault, HasMutex, Means, IsSound, same_some}

-- ---- names as bytes

pub same_names : (x y : Ident) → bytes_eq x y ≡ true → x ≡ y
same_names x y e = (bytes_eq-Decides x y).0 e

pub itself : (x : Ident) → bytes_eq x x ≡ true
itself x = (bytes_eq-Decides x x).1 refl

pub true_is_not : {A : Type 0} → true ≡ false → A
true_is_not e = absurd (by e)
  where
    by : true ≡ false → ⊥
    by q = cc

pub otherwise : (x y : Ident) → (x ≡ y → ⊥) → bytes_eq x y ≡ false
otherwise x y h = by (bytes_eq x y) refl
  where
    by : (b : Bool) → bytes_eq x y ≡ b → b ≡ false
    by true e = absurd (h (same_names x y e))
    by false e = refl

-- ---- one more name

at_front : (b c d : Bool) (m v : Meaning) (rest more : Option Meaning) → (b ≡ true → c ≡ d) → (b ≡ false → d ≡ true → c ≡ false) → (b ≡ false → more ≡ (if c then Some m else rest))
    → (if b then cond d (Some m) rest else cond d (Some v) more) ≡ (if c then Some m else cond d (Some v) rest)
at_front true c d m v rest more h g i = by c d (h refl)
  where
    by : (c d : Bool) → c ≡ d → cond d (Some m) rest ≡ (if c then Some m else cond d (Some v) rest)
    by true true e = refl
    by false false e = refl
    by true false e = true_is_not e
    by false true e = true_is_not (sym e)
at_front false c d m v rest more h g i = by c d (g refl) (i refl)
  where
    by : (c d : Bool) → (d ≡ true → c ≡ false) → more ≡ (if c then Some m else rest) → cond d (Some v) more ≡ (if c then Some m else cond d (Some v) rest)
    by true true q e = true_is_not (q refl)
    by false true q e = refl
    by true false q e = e
    by false false q e = e

picked : (b : Bool) (y k : Ident) (v m : Meaning) (es : Table) (x : Ident)
    → meaning_in (if b then (k, m) ∷ es else (k, v) ∷ with_name es x m) y ≡ (if b then cond (bytes_eq y k) (Some m) (meaning_in es y) else cond (bytes_eq y k) (Some v) (meaning_in (with_name es x m) y))
picked true y k v m es x = refl
picked false y k v m es x = refl

pub meaning_with : (table : Table) (x : Ident) (m : Meaning) (y : Ident) → meaning_in (with_name table x m) y ≡ (if bytes_eq y x then Some m else meaning_in table y)
meaning_with [] x m y = by (bytes_eq y x)
  where
    by : (b : Bool) → cond b (Some m) None ≡ (if b then Some m else None)
    by true = refl
    by false = refl
meaning_with (e ∷ es) x m y =
    picked (bytes_eq x e.0) y e.0 e.1 m es x
    ∙ at_front (bytes_eq x e.0) (bytes_eq y x) (bytes_eq y e.0) m e.1 (meaning_in es y) (meaning_in (with_name es x m) y)
    (λ q. ap (bytes_eq y) (same_names x e.0 q))
    (λ q r. otherwise y x (λ s. true_is_not (sym (subst (λ z. bytes_eq z e.0 ≡ true) s r) ∙ q)))
    (λ q. meaning_with es x m y)

-- ---- what is known behind declarations

-- the functions among the items are declared
abbrev pub IsListed : Table → Item → Type 0
IsListed table (item.Globals gs) = Unit {0}
IsListed table (item.Mutexes ws) = Unit {0}
IsListed table (item.Threads ws) = Unit {0}
IsListed table (item.InputDecl at x) = Unit {0}
IsListed table (item.Function at gives x ps ss) = is_declared (meaning_in table x) ≡ true

abbrev pub GlobalListed : Table → Global → Type 0
GlobalListed table g = is_declared (meaning_in table g.name) ≡ true

pub record Behind (spots : List Spot) (mutexes : List Ident) (items done : List Item) (gs : List Global) (table : Table) : Type 0 where
  pub sound : IsSound spots mutexes items table
  pub globals : AllByRecursion (GlobalListed table) gs
  pub functions : AllByRecursion (IsListed table) done

pub all_weaker : {A : Type 0} (P Q : A → Type 0) → ((x : A) → P x → Q x) → (xs : List A) → AllByRecursion P xs → AllByRecursion Q xs
all_weaker P Q f [] h = tt
all_weaker P Q f (x ∷ xs) h = (f x h.0, all_weaker P Q f xs h.1)

pub still : (table : Table) (x : Ident) (m : Meaning) (y : Ident) → is_declared (Some m) ≡ true → is_declared (meaning_in table y) ≡ true → is_declared (meaning_in (with_name table x m) y) ≡ true
still table x m y d h = ap is_declared (meaning_with table x m y) ∙ by (bytes_eq y x)
  where
    by : (b : Bool) → is_declared (if b then Some m else meaning_in table y) ≡ true
    by true = d
    by false = h

pub now : (table : Table) (x : Ident) (m : Meaning) → is_declared (Some m) ≡ true → is_declared (meaning_in (with_name table x m) x) ≡ true
now table x m d = ap is_declared (meaning_with table x m x) ∙ (ap (λ b. is_declared (if b then Some m else meaning_in table x)) (itself x) ∙ d)

still_listed : (table : Table) (x : Ident) (m : Meaning) → is_declared (Some m) ≡ true → (i : Item) → IsListed table i → IsListed (with_name table x m) i
still_listed table x m d (item.Globals gs) h = tt
still_listed table x m d (item.Mutexes ws) h = tt
still_listed table x m d (item.Threads ws) h = tt
still_listed table x m d (item.InputDecl at y) h = tt
still_listed table x m d (item.Function at gives y ps ss) h = still table x m y d h

pub sound_with : (spots : List Spot) (mutexes : List Ident) (items : List Item) (table : Table) (x : Ident) (m : Meaning) → Means spots mutexes items x m → IsSound spots mutexes items table → IsSound spots mutexes items (with_name table x m)
sound_with spots mutexes items table x m h s = record { each = λ y q e. by y q (bytes_eq y x) refl (sym (meaning_with table x m y) ∙ e) }
  where
    by : (y : Ident) (q : Meaning) (b : Bool) → bytes_eq y x ≡ b → (if bytes_eq y x then Some m else meaning_in table y) ≡ Some q → Means spots mutexes items y q
    by y q true e f =
        subst (Means spots mutexes items y) (same_some m q (sym (ap (λ d. if d then Some m else meaning_in table y) e) ∙ f))
        (subst (λ z. Means spots mutexes items z m) (sym (same_names y x e)) h)
    by y q false e f = s.each y q (sym (ap (λ d. if d then Some m else meaning_in table y) e) ∙ f)

pub behind_with : (spots : List Spot) (mutexes : List Ident) (items done : List Item) (gs : List Global) (table : Table) (x : Ident) (m : Meaning) → is_declared (Some m) ≡ true → Means spots mutexes items x m → Behind spots mutexes items done gs table → Behind spots mutexes items done gs (with_name table x m)
behind_with spots mutexes items done gs table x m d h b = record {
  sound = sound_with spots mutexes items table x m h b.sound;
  globals = all_weaker (GlobalListed table) (GlobalListed (with_name table x m)) (λ g l. still table x m g.name d l) gs b.globals;
  functions = all_weaker (IsListed table) (IsListed (with_name table x m)) (still_listed table x m d) done b.functions;
}

-- ---- a name that is listed without fault

pub record IsNew (at : At) (x : Ident) (m : Meaning) (names : Names) : Type 0 where
  pub fresh : is_declared (meaning_in names.globals x) ≡ false
  pub globals : (listed at x m names).globals ≡ with_name names.globals x m

abbrev listed_if : At → Ident → Meaning → Names → Bool → Listed
listed_if at x m names b = if b then record { globals = names.globals; notes = refusal TwiceDeclared at ∷ [] } else record { globals = with_name names.globals x m; notes = [] }

pub is_new : (at : At) (x : Ident) (m : Meaning) (names : Names) → NoFault (listed at x m names).notes → IsNew at x m names
unfolding listed
is_new at x m names f = by (is_declared (meaning_in names.globals x)) refl f
  where
    by : (b : Bool) → is_declared (meaning_in names.globals x) ≡ b → NoFault (listed_if at x m names b).notes → IsNew at x m names
    by true e h = absurd h
    by false e h = record { fresh = e; globals = ap (λ d. (listed_if at x m names d).globals) e }

-- ---- where new names stand

pub differs : (table : Table) (x y : Ident) → is_declared (meaning_in table x) ≡ true → is_declared (meaning_in table y) ≡ false → bytes_eq x y ≡ false
differs table x y h g = otherwise x y (λ e. true_is_not (sym h ∙ (ap (λ z. is_declared (meaning_in table z)) e ∙ g)))

-- the spot of a global that no earlier one has the name of
pub spot_here : (pre : List Global) (g : Global) (post : List Global) (n : ℕ) → AllByRecursion (λ (h : Global). bytes_eq h.name g.name ≡ false) pre
    → (s : Spot) × (spot_of (spots (pre ++ g ∷ post) n) g.name ≡ Some s) × (s.len ≡ cells_in g)
spot_here [] g post n h =
    (record { name = g.name; first = n; len = cells_in g }, ap (λ b. cond b (Some (record { name = g.name; first = n; len = cells_in g })) (spot_of (spots post (capped (n + cells_in g))) g.name)) (itself g.name), refl)
spot_here (q ∷ pre) g post n h =
    let r = spot_here pre g post (capped (n + cells_in q)) h.1 in
    (r.0, ap (λ b. cond b (Some (record { name = q.name; first = n; len = cells_in q })) (spot_of (spots (pre ++ g ∷ post) (capped (n + cells_in q))) g.name)) h.0 ∙ r.1, r.2)

-- a name among others has an index
short : (b : Bool) (n m : ℕ) → (b ≡ true → n ≤ m) → cond b n 0 < suc m
short true n m h = omega (arith, h refl)
short false n m h = omega arith

some_fails : {A : Type 0} (test : A → Bool) (pre : List A) (x : A) (post : List A) → test x ≡ false → prefix_len test (pre ++ x ∷ post) < length (pre ++ x ∷ post)
some_fails test [] x post h = short (test x) (1 + prefix_len test post) (length post) (λ e. true_is_not (sym e ∙ h))
some_fails test (y ∷ pre) x post h = short (test y) (1 + prefix_len test (pre ++ x ∷ post)) (length (pre ++ x ∷ post)) (λ e. omega (arith, some_fails test pre x post h))

pub less : (m n : ℕ) → m < n → nat_lt m n ≡ true
less m n h = grind (arith, nat_tests)

pub mutex_here : (pre : List Ident) (x : Ident) (post : List Ident) → HasMutex (pre ++ x ∷ post) x
mutex_here pre x post =
    let i : ℕ = prefix_len (λ y. not (bytes_eq y x)) (pre ++ x ∷ post) in
    let below : i < length (pre ++ x ∷ post) = some_fails (λ y. not (bytes_eq y x)) pre x post (ap not (itself x)) in
    record { index = i; is = ap (λ b. cond b (Some i) None) (less i (length (pre ++ x ∷ post)) below) }
