-- What the value of an expression is the address of.
use Rattle.std.proofs.Common.{arith, ◌≡◌, ℕ, zero, suc, ◌+◌, ◌<◌, ◌≤◌, ◌^◌, ℤ, pos, negsuc, ◌⊎◌, inl, inr, List, [], ◌∷◌, ◌++◌, length, Option, Some, None, refl, Bool, true, false, not, nat_lt, sym, ◌∙◌, ap, subst, slice_get, slice_index_or, slice_set, if◌then◌else◌, ltb-true, lt-ltb, FitsSigned}
use Rattle.std.specs.Prelude.{◌&&◌, ◌||◌, ◌==◌, int_lt, IsTrue, IsSomeAnd}
use Rattle.std.specs.List.{All, Contains}
use Rattle.std.specs.Int.{w32, int_wrapping_add, cast_signed}
use Rattle.std.proofs.lemmas.Bool.{and_parts, or_parts, false≢true, true≢false, eq-eqb, ne_eqb}
use Rattle.std.proofs.lemmas.Int.{to_z_pos, wrapping_add_is, int_wrap_fits}
use Rattle.std.proofs.lemmas.List.{get_or-set_other}
use Rattle.std.proofs.lemmas.List.Elements.{All-head, All-weaker, All-contains, All-contains_itself, Contains-append_left, Contains-append_right, Contains-push}
use Rattle.std.proofs.Math.Nat.{mod-eq_of_lt}
use Rattle.mm_goto.specs.declared.limits.TheConstants.{MAX_CELLS}
use Rattle.mm_goto.specs.declared.pure.Unary.{Unary}
use Rattle.mm_goto.specs.declared.pure.Unary.TheVariants as unary
use Rattle.mm_goto.specs.declared.pure.Binary.{Binary}
use Rattle.mm_goto.specs.declared.pure.Binary.TheVariants as binary
use Rattle.mm_goto.specs.declared.pure.Pure.{Pure}
use Rattle.mm_goto.specs.declared.pure.Pure.TheOpen as pure
use Rattle.mm_goto.specs.declared.pure.Pure.TheViews.{roll-Pure}
use Rattle.mm_goto.specs.declared.pure.Pure.TheFolds.{fold-Pure, fold-roll-Pure, ind-Pure, map-Pure}
use Rattle.mm_goto.specs.declared.program.Cell.{Cell}
use Rattle.mm_goto.specs.declared.row.Row.{Row}
use Rattle.mm_goto.specs.Checks.{Checked, checked_step, checks_of, is_in_range, names, names_step}
use Rattle.mm_goto.specs.Kinds.{Kinds, kinds_of, kinds_step, unary_kinds, binary_kinds, is_typed, IsRowOfInts, NamesInts}
use Rattle.mm_goto.specs.Listing.{Listing}
use Rattle.mm_goto.specs.Locals.{rows_of, rows_step}
use Rattle.mm_goto.specs.PointsTo.{Aims, joined, aims_of, aims_step, element_row, IsInRow, HoldsPointer, Holder, MayName, local, expr, address as by_address, copy}
use Rattle.mm_goto.specs.Terms.{constant, combined}
use Rattle.mm_goto.specs.Valid.{IsRow, StartKind, start_kind, start_step, is_index}
use Rattle.mm_goto.specs.Value.{value_of, value_step, binary_value, truth, is_zero, address}
use Rattle.mm_goto.proofs.Folding.{fold_constant, fold_combined}
use Rattle.mm_sched.specs.Event.{pointee}

-- ---- lists

pub all_left : {A : Type 0} (P : A → Type 0) (xs ys : List A) → All P (xs ++ ys) → All P xs
all_left P xs ys h = All-weaker (Contains xs) P (λ x c. All-contains P (xs ++ ys) x h (Contains-append_left xs ys x c)) xs (All-contains_itself xs)

pub all_right : {A : Type 0} (P : A → Type 0) (xs ys : List A) → All P (xs ++ ys) → All P ys
all_right P xs ys h = All-weaker (Contains ys) P (λ x c. All-contains P (xs ++ ys) x h (Contains-append_right xs ys x c)) ys (All-contains_itself ys)

get_left : {A : Type 0} (xs ys : List A) (k : ℕ) (x : A) → slice_get xs k ≡ Some x → (j : ℕ) × (slice_get (xs ++ ys) j ≡ Some x)
get_left [] ys k x h = cc
get_left (y ∷ xs) ys zero x h = (zero, h)
get_left (y ∷ xs) ys (suc k) x h = let z = get_left xs ys k x h in (suc z.0, z.1)

get_right : {A : Type 0} (xs ys : List A) (k : ℕ) (x : A) → slice_get ys k ≡ Some x → (j : ℕ) × (slice_get (xs ++ ys) j ≡ Some x)
get_right [] ys k x h = (k, h)
get_right (y ∷ xs) ys k x h = let z = get_right xs ys k x h in (suc z.0, z.1)

-- ---- one layer of an expression

abbrev checked : Pure → Checked
checked = fold-Pure Checked checked_step

checked_at : (x : pure.Pure-F Pure) → checked (roll-Pure x) ≡ checked_step (map-Pure Pure Checked checked x)
checked_at x = fold-roll-Pure Checked checked_step x

aims_at : (x : pure.Pure-F Pure) → aims_of (roll-Pure x) ≡ aims_step (map-Pure Pure Aims aims_of x)
aims_at x = fold-roll-Pure Aims aims_step x

rows_at : (x : pure.Pure-F Pure) → rows_of (roll-Pure x) ≡ rows_step (map-Pure Pure (List Row) rows_of x)
rows_at x = fold-roll-Pure (List Row) rows_step x

kinds_at : (pointers : ℕ → Bool) (x : pure.Pure-F Pure) → kinds_of pointers (roll-Pure x) ≡ kinds_step pointers (map-Pure Pure Kinds (kinds_of pointers) x)
kinds_at pointers x = fold-roll-Pure Kinds (kinds_step pointers) x

names_at : (l : ℕ) (x : pure.Pure-F Pure) → names l (roll-Pure x) ≡ names_step l (map-Pure Pure Bool (names l) x)
names_at l x = fold-roll-Pure Bool (names_step l) x

value_at : (locals : List ℤ) (x : pure.Pure-F Pure) → value_of (roll-Pure x) locals ≡ value_step locals (map-Pure Pure ℤ (λ e. value_of e locals) x)
unfolding value_of
value_at locals x = fold-roll-Pure ℤ (value_step locals) x

-- ---- the checks of an expression are of its own parts

abbrev Rebuilt : Pure → Type 0
Rebuilt e = (checked e).expr ≡ e

rebuilt : (e : Pure) → Rebuilt e
rebuilt e = ind-Pure Rebuilt (λ x y is.
    let P : pure.Pure-F Pure → Type 0 = λ v. Rebuilt (roll-Pure v) in
    elim y as (λ v. map-Pure _ Pure (λ d. d.0) v ≡ x → Rebuilt (roll-Pure x)) [
      | pure.Const c ↦ λ same. subst P same (ap (λ k. k.expr) (checked_at (pure.Const c)))
      | pure.Local m ↦ λ same. subst P same (ap (λ k. k.expr) (checked_at (pure.Local m)))
      | pure.Addr c ↦ λ same. subst P same (ap (λ k. k.expr) (checked_at (pure.Addr c)))
      | pure.AddrElem first len x ↦ λ same. subst P same (ap (λ k. k.expr) (checked_at (pure.AddrElem first len x.0)) ∙ ap (λ i. roll-Pure (pure.AddrElem first len i)) x.1)
      | pure.Un op x ↦ λ same. subst P same (ap (λ k. k.expr) (checked_at (pure.Un op x.0)) ∙ ap (λ i. roll-Pure (pure.Un op i)) x.1)
      | pure.Bin op x y ↦ λ same. subst P same (ap (λ k. k.expr) (checked_at (pure.Bin op x.0 y.0)) ∙ ap (λ i. roll-Pure (pure.Bin op i (checked y.0).expr)) x.1 ∙ ap (λ i. roll-Pure (pure.Bin op x.0 i)) y.1)
      | pure.Cond x y z ↦ λ same. subst P same (ap (λ k. k.expr) (checked_at (pure.Cond x.0 y.0 z.0)) ∙ ap (λ i. roll-Pure (pure.Cond i (checked y.0).expr (checked z.0).expr)) x.1 ∙ ap (λ i. roll-Pure (pure.Cond x.0 i (checked z.0).expr)) y.1 ∙ ap (λ i. roll-Pure (pure.Cond x.0 y.0 i)) z.1)
    ] is) e

-- ---- numbers

no_number : (z : ℤ) → None ≡ Some z → ⊥
no_number z e = cc

-- an expression that is a number has it as its value
abbrev Numbered : Pure → Type 0
Numbered e = (z : ℤ) → (aims_of e).constant ≡ Some z → (locals : List ℤ) → value_of e locals ≡ z

no_constant : (x : pure.Pure-F Pure) → (aims_of (roll-Pure x)).constant ≡ None → Numbered (roll-Pure x)
no_constant x e z h locals = absurd (no_number z (sym e ∙ h))

same_number : (c z : ℤ) → Some c ≡ Some z → c ≡ z
same_number c z e = cc

pub numbered : (e : Pure) → Numbered e
numbered e = ind-Pure Numbered (λ x y is.
    let P : pure.Pure-F Pure → Type 0 = λ v. Numbered (roll-Pure v) in
    elim y as (λ v. map-Pure _ Pure (λ d. d.0) v ≡ x → Numbered (roll-Pure x)) [
      | pure.Const c ↦ λ same. subst P same (λ z h locals. value_at locals (pure.Const c) ∙ same_number c z (sym (ap (λ a. a.constant) (aims_at (pure.Const c))) ∙ h))
      | pure.Local m ↦ λ same. subst P same (no_constant (pure.Local m) (ap (λ a. a.constant) (aims_at (pure.Local m))))
      | pure.Addr c ↦ λ same. subst P same (no_constant (pure.Addr c) (ap (λ a. a.constant) (aims_at (pure.Addr c))))
      | pure.AddrElem first len x ↦ λ same. subst P same (no_constant (pure.AddrElem first len x.0) (ap (λ a. a.constant) (aims_at (pure.AddrElem first len x.0))))
      | pure.Un op x ↦ λ same. subst P same (no_constant (pure.Un op x.0) (ap (λ a. a.constant) (aims_at (pure.Un op x.0))))
      | pure.Bin op x y ↦ λ same. subst P same (no_constant (pure.Bin op x.0 y.0) (ap (λ a. a.constant) (aims_at (pure.Bin op x.0 y.0))))
      | pure.Cond x y z ↦ λ same. subst P same (no_constant (pure.Cond x.0 y.0 z.0) (ap (λ a. a.constant) (aims_at (pure.Cond x.0 y.0 z.0))))
    ] is) e

-- ---- a local that an expression does not name

abbrev Keeping : ℕ → Pure → Type 0
Keeping l e = names l e ≡ false → (locals : List ℤ) (v : ℤ) → value_of e (slice_set locals l v) ≡ value_of e locals

module _ (l : ℕ) where
  by_layer : (x : pure.Pure-F Pure) → (names l (roll-Pure x) ≡ false → (locals : List ℤ) (v : ℤ) → value_step (slice_set locals l v) (map-Pure Pure ℤ (λ e. value_of e (slice_set locals l v)) x) ≡ value_step locals (map-Pure Pure ℤ (λ e. value_of e locals) x)) → Keeping l (roll-Pure x)
  by_layer x h n locals v = value_at (slice_set locals l v) x ∙ h n locals v ∙ sym (value_at locals x)

  apart : (m : ℕ) → (m == l) ≡ false → l ≡ m → ⊥
  apart m e i = false≢true (sym e ∙ eq-eqb m l (sym i))

  keep_local : (m : ℕ) → Keeping l (roll-Pure (pure.Local m))
  keep_local m = by_layer (pure.Local m) (λ n locals v. get_or-set_other locals l m v (pos 0) (λ i. apart m (sym (names_at l (pure.Local m)) ∙ n) (sym i)))

  pub value_keeps : (e : Pure) → Keeping l e
  value_keeps e = ind-Pure (Keeping l) (λ x y is.
      let P : pure.Pure-F Pure → Type 0 = λ v. Keeping l (roll-Pure v) in
      elim y as (λ v. map-Pure _ Pure (λ d. d.0) v ≡ x → Keeping l (roll-Pure x)) [
        | pure.Const c ↦ λ same. subst P same (by_layer (pure.Const c) (λ n locals v. refl))
        | pure.Local m ↦ λ same. subst P same (keep_local m)
        | pure.Addr c ↦ λ same. subst P same (by_layer (pure.Addr c) (λ n locals v. refl))
        | pure.AddrElem first len x ↦ λ same. subst P same (by_layer (pure.AddrElem first len x.0) (λ n locals v. ap (λ i. int_wrapping_add w32 (address first) i) (x.1 (sym (names_at l (pure.AddrElem first len x.0)) ∙ n) locals v)))
        | pure.Un op x ↦ λ same. subst P same (keep_un op x.0 x.1)
        | pure.Bin op x y ↦ λ same. subst P same (keep_bin op x.0 y.0 x.1 y.1)
        | pure.Cond x y z ↦ λ same. subst P same (keep_cond x.0 y.0 z.0 x.1 y.1 z.1)
      ] is) e
    where
      keep_un : (op : Unary) (x : Pure) → Keeping l x → Keeping l (roll-Pure (pure.Un op x))
      keep_un op x h = by_layer (pure.Un op x) (λ n locals v. ap (λ i. value_step locals (pure.Un op i)) (h (sym (names_at l (pure.Un op x)) ∙ n) locals v))

      keep_bin : (op : Binary) (x y : Pure) → Keeping l x → Keeping l y → Keeping l (roll-Pure (pure.Bin op x y))
      keep_bin op x y h k = by_layer (pure.Bin op x y) (λ n locals v.
          let two = or_parts (names l x) (names l y) (sym (names_at l (pure.Bin op x y)) ∙ n) in
          ap (λ i. binary_value op i (value_of y (slice_set locals l v))) (h two.0 locals v) ∙ ap (λ i. binary_value op (value_of x locals) i) (k two.1 locals v))

      keep_cond : (x y z : Pure) → Keeping l x → Keeping l y → Keeping l z → Keeping l (roll-Pure (pure.Cond x y z))
      keep_cond x y z h k j = by_layer (pure.Cond x y z) (λ n locals v.
          let two = or_parts (names l x || names l y) (names l z) (sym (names_at l (pure.Cond x y z)) ∙ n) in
          let one = or_parts (names l x) (names l y) two.0 in
          ap (λ i. if is_zero i then value_of z (slice_set locals l v) else value_of y (slice_set locals l v)) (h one.0 locals v)
          ∙ ap (λ i. if is_zero (value_of x locals) then value_of z (slice_set locals l v) else i) (k one.1 locals v)
          ∙ ap (λ i. if is_zero (value_of x locals) then i else value_of y locals) (j two.1 locals v))

-- ---- addresses

fits : (n : ℕ) → n ≤ 65536 + 65536 → FitsSigned w32 (pos n)
fits n l = record { sfits = omega (arith, l) }

pub address_is : (c : ℕ) → c < 65536 → address c ≡ pos (c + 1)
address_is c l =
    ap (cast_signed w32) (mod-eq_of_lt {n = c + 1} {m = 2 ^ 32} (omega (arith, l))) ∙ to_z_pos w32 (c + 1) (omega (arith, l))

pub element_is : (first n : ℕ) → first + n < 65536 → int_wrapping_add w32 (address first) (pos n) ≡ pos (suc (first + n))
element_is first n l =
    ap (λ z. int_wrapping_add w32 z (pos n)) (address_is first (omega (arith, l)))
    ∙ wrapping_add_is w32 (pos (first + 1)) (pos n) (fits (first + 1) (omega (arith, l))) (fits n (omega (arith, l)))
    ∙ int_wrap_fits w32 (pos ((first + 1) + n)) (fits ((first + 1) + n) (omega (arith, l)))
    ∙ ap pos (let e : (first + 1) + n ≡ suc (first + n) = omega arith in e)

-- a check of an index that holds
ranged : (v : ℤ) (len : ℕ) → is_zero (binary_value binary.Land (binary_value binary.Le (pos 0) v) (binary_value binary.Lt v (pos len))) ≡ false → (n : ℕ) × (v ≡ pos n) × (n < len)
ranged (negsuc n) len h = absurd (true≢false h)
ranged (pos n) len h = (n, refl, go (int_lt (pos n) (pos 0)) (nat_lt n len) refl h)
  where
    go : (a b : Bool) → nat_lt n len ≡ b → is_zero (truth (not (is_zero (truth (not a))) && not (is_zero (truth b)))) ≡ false → n < len
    go a true e h = ltb-true n len e
    go true false e h = absurd (true≢false h)
    go false false e h = absurd (true≢false h)

pub in_range : (index : Pure) (len : ℕ) (locals : List ℤ) → is_zero (value_of (is_in_range index len) locals) ≡ false → (n : ℕ) × (value_of index locals ≡ pos n) × (n < len)
unfolding value_of
in_range index len locals h = ranged (value_of index locals) len (sym (ap is_zero whole) ∙ h)
  where
    step : pure.Pure-F ℤ → ℤ
    step = value_step locals

    whole : value_of (is_in_range index len) locals ≡ binary_value binary.Land (binary_value binary.Le (pos 0) (value_of index locals)) (binary_value binary.Lt (value_of index locals) (pos len))
    whole =
        fold_combined step binary.Land (combined binary.Le (constant (pos 0)) index) (combined binary.Lt index (constant (pos len)))
        ∙ ap (λ i. binary_value binary.Land i (fold-Pure ℤ step (combined binary.Lt index (constant (pos len))))) (fold_combined step binary.Le (constant (pos 0)) index ∙ ap (λ i. binary_value binary.Le i (fold-Pure ℤ step index)) (fold_constant step (pos 0)))
        ∙ ap (λ i. binary_value binary.Land (binary_value binary.Le (pos 0) (fold-Pure ℤ step index)) i) (fold_combined step binary.Lt index (constant (pos len)) ∙ ap (λ i. binary_value binary.Lt (fold-Pure ℤ step index) i) (fold_constant step (pos len)))

-- the cell of an index is one of the cells that its row has
pub element_named : (first len n : ℕ) (o : Option ℤ) → n < len → ((z : ℤ) → o ≡ Some z → pos n ≡ z) → IsInRow (element_row first len o) (first + n)
element_named first len n None l h = (omega arith, omega (arith, l))
element_named first len n (Some (negsuc k)) l h = (omega arith, omega (arith, l))
element_named first len n (Some (pos k)) l h = go (nat_lt k len)
  where
    go : (b : Bool) → IsInRow (if b then record { first = first + k; len = 1 } else record { first = first; len = len }) (first + n)
    go true = let e : n ≡ k = number n k (h (pos k) refl) in (omega (arith, e), omega (arith, e))
      where
        number : (n k : ℕ) → pos n ≡ pos k → n ≡ k
        number n k e = cc
    go false = (omega arith, omega (arith, l))

-- ---- what a value is the address of

-- the cell is one whose address stands in the expression, or that one of its locals may name
abbrev pub Aimed : Listing → ℕ → Aims → ℕ → Type 0
Aimed p t a d = ((k : ℕ) × (row : Row) × (slice_get a.rows k ≡ Some row) × IsInRow row d) ⊎ ((k : ℕ) × (l : ℕ) × (slice_get a.locals k ≡ Some l) × MayName p (local t l) d)

aimed_names : (p : Listing) (t : ℕ) (e : Pure) (d : ℕ) → Aimed p t (aims_of e) d → MayName p (expr t e) d
aimed_names p t e d (inl r) = by_address r.0 r.1 r.2 r.3
aimed_names p t e d (inr r) = copy r.0 r.1 r.2 r.3

aimed_left : (p : Listing) (t : ℕ) (x y : Aims) (d : ℕ) → Aimed p t x d → Aimed p t (joined x y) d
aimed_left p t x y d (inl r) = let z = get_left x.rows y.rows r.0 r.1 r.2 in inl (z.0, r.1, z.1, r.3)
aimed_left p t x y d (inr r) = let z = get_left x.locals y.locals r.0 r.1 r.2 in inr (z.0, r.1, z.1, r.3)

aimed_right : (p : Listing) (t : ℕ) (x y : Aims) (d : ℕ) → Aimed p t y d → Aimed p t (joined x y) d
aimed_right p t x y d (inl r) = let z = get_right x.rows y.rows r.0 r.1 r.2 in inl (z.0, r.1, z.1, r.3)
aimed_right p t x y d (inr r) = let z = get_right x.locals y.locals r.0 r.1 r.2 in inr (z.0, r.1, z.1, r.3)

-- the cell holds an int
abbrev pub IsIntCell : Listing → ℕ → Type 0
IsIntCell p c = HoldsPointer p c → ⊥

pub int_cell : (p : Listing) (c : ℕ) → IsSomeAnd (slice_get p.cells c) (λ cell. cell.pointer ≡ false) → IsIntCell p c
int_cell p c = go (slice_get p.cells c)
  where
    go : (o : Option Cell) → IsSomeAnd o (λ cell. cell.pointer ≡ false) → IsSomeAnd o (λ cell. cell.pointer ≡ true) → ⊥
    go None h k = absurd h
    go (Some x) h k = false≢true (sym h ∙ k)

-- this holds of the cell, or the value is null
abbrev pub OrNull : ℤ → (ℕ → Type 0) → Option ℕ → Type 0
OrNull z P None = is_zero z ≡ true
OrNull z P (Some c) = P c

-- the value is null or the address of a cell, which is one that the holder may name, and it holds an int
abbrev pub Points : Listing → Holder → ℤ → Type 0
Points p h z = OrNull z (λ c. MayName p h c × IsIntCell p c) (pointee z (length p.cells))

pub some_then : (P Q : ℕ → Type 0) (z : ℤ) (n : ℕ) → OrNull z P (pointee z n) → ((c : ℕ) → P c → Q c) → OrNull z Q (pointee z n)
some_then P Q z n h f = by (pointee z n) h
  where
    by : (o : Option ℕ) → OrNull z P o → OrNull z Q o
    by None h = h
    by (Some c) h = f c h

pub points_to : (P : ℕ → Type 0) (z : ℤ) (n c : ℕ) → pointee z n ≡ Some c → OrNull z P (pointee z n) → P c
points_to P z n c e h = subst (OrNull z P) e h

-- the check holds
abbrev pub Holds : List ℤ → Pure → Type 0
Holds locals check = is_zero (value_of check locals) ≡ false

no_unary : (op : Unary) (k : Kinds) → (unary_kinds op k).pointer ≡ false
no_unary unary.Not k = refl
no_unary _ k = refl

no_binary : (op : Binary) (x y : Kinds) → (binary_kinds op x y).pointer ≡ false
no_binary binary.Eq x y = refl
no_binary _ x y = refl

module _ (p : Listing) (small : length p.cells ≤ MAX_CELLS) (t : ℕ) (locals : List ℤ) where
  abbrev Good : Aims → ℤ → Type 0
  Good a z = OrNull z (λ d. Aimed p t a d × IsIntCell p d) (pointee z (length p.cells))

  good_at : (x : pure.Pure-F Pure) (a : Aims) (z : ℤ) → aims_of (roll-Pure x) ≡ a → value_of (roll-Pure x) locals ≡ z → Good a z → Good (aims_of (roll-Pure x)) (value_of (roll-Pure x) locals)
  good_at x a z e f h = subst (λ b. Good b (value_of (roll-Pure x) locals)) (sym e) (subst (Good a) (sym f) h)

  good_null : (a : Aims) (z : ℤ) → is_zero z ≡ true → Good a z
  good_null a (pos zero) h = h
  good_null a (pos (suc n)) h = absurd (false≢true (sym (ne_eqb (suc n) 0 (λ e. omega (arith, e))) ∙ h))
  good_null a (negsuc n) h = h

  good_cell : (a : Aims) (c : ℕ) → c < length p.cells → Aimed p t a c → IsIntCell p c → Good a (pos (suc c))
  good_cell a c low h k = subst (λ b. OrNull (pos (suc c)) (λ d. Aimed p t a d × IsIntCell p d) (if b then Some c else None)) (sym (lt-ltb c (length p.cells) low)) (h, k)

  good_addr : (c : ℕ) → All (IsRow p.cells) (rows_of (roll-Pure (pure.Addr c))) → NamesInts p (roll-Pure (pure.Addr c)) → Good (aims_of (roll-Pure (pure.Addr c))) (value_of (roll-Pure (pure.Addr c)) locals)
  good_addr c rows ints =
      let row : IsRow p.cells (record { first = c; len = 1 }) = All-head (IsRow p.cells) (record { first = c; len = 1 }) [] (subst (All (IsRow p.cells)) (rows_at (pure.Addr c)) rows) in
      let int : IsRowOfInts p (record { first = c; len = 1 }) = All-head (IsRowOfInts p) (record { first = c; len = 1 }) [] (subst (All (IsRowOfInts p)) (rows_at (pure.Addr c)) ints) in
      let l : c + 1 ≤ length p.cells = row.within in
      let a : Aims = record { constant = None; rows = record { first = c; len = 1 } ∷ []; locals = [] } in
      good_at (pure.Addr c) a (pos (suc c)) (aims_at (pure.Addr c)) (value_at locals (pure.Addr c) ∙ address_is c (omega (arith, l, small)) ∙ ap pos (let e : c + 1 ≡ suc c = omega arith in e))
      (good_cell a c (omega (arith, l)) (inl (0, record { first = c; len = 1 }, refl, (omega arith, omega arith))) (int_cell p c (subst (λ k. IsSomeAnd (slice_get p.cells k) (λ cell. cell.pointer ≡ false)) (let e : c + 0 ≡ c = omega arith in e) (int 0 (omega arith)))))

  good_elem : (first len : ℕ) (x : Pure) (n : ℕ) → value_of x locals ≡ pos n → n < len → ((z : ℤ) → (aims_of x).constant ≡ Some z → pos n ≡ z) → All (IsRow p.cells) (rows_of (roll-Pure (pure.AddrElem first len x))) → NamesInts p (roll-Pure (pure.AddrElem first len x)) → Good (aims_of (roll-Pure (pure.AddrElem first len x))) (value_of (roll-Pure (pure.AddrElem first len x)) locals)
  good_elem first len x n v l number rows ints =
      let whole : Row = record { first = first; len = len } in
      let row : IsRow p.cells whole = All-head (IsRow p.cells) whole (rows_of x) (subst (All (IsRow p.cells)) (rows_at (pure.AddrElem first len x)) rows) in
      let int : IsRowOfInts p whole = All-head (IsRowOfInts p) whole (rows_of x) (subst (All (IsRowOfInts p)) (rows_at (pure.AddrElem first len x)) ints) in
      let w : first + len ≤ length p.cells = row.within in
      let a : Aims = record { constant = None; rows = element_row first len (aims_of x).constant ∷ (aims_of x).rows; locals = (aims_of x).locals } in
      good_at (pure.AddrElem first len x) a (pos (suc (first + n))) (aims_at (pure.AddrElem first len x)) (value_at locals (pure.AddrElem first len x) ∙ ap (λ i. int_wrapping_add w32 (address first) i) v ∙ element_is first n (omega (arith, w, l, small)))
      (good_cell a (first + n) (omega (arith, w, l)) (inl (0, element_row first len (aims_of x).constant, refl, element_named first len n (aims_of x).constant l number)) (int_cell p (first + n) (int n l)))

  module _ (pointers : ℕ → Bool) (known : (l : ℕ) → pointers l ≡ true → Points p (local t l) (slice_index_or locals l (pos 0))) where
    abbrev Pointing : Pure → Type 0
    Pointing e = IsTrue (kinds_of pointers e).pointer → All (IsRow p.cells) (rows_of e) → NamesInts p e → All (Holds locals) (checks_of e) → Good (aims_of e) (value_of e locals)

    kind_at : (x : pure.Pure-F Pure) → IsTrue (kinds_of pointers (roll-Pure x)).pointer → (kinds_step pointers (map-Pure Pure Kinds (kinds_of pointers) x)).pointer ≡ true
    kind_at x h = sym (ap (λ k. k.pointer) (kinds_at pointers x)) ∙ h

    at_local : (m : ℕ) → Pointing (roll-Pure (pure.Local m))
    at_local m kind rows ints checks =
        let a : Aims = record { constant = None; rows = []; locals = m ∷ [] } in
        good_at (pure.Local m) a (slice_index_or locals m (pos 0)) (aims_at (pure.Local m)) (value_at locals (pure.Local m))
        (some_then (λ c. MayName p (local t m) c × IsIntCell p c) (λ d. Aimed p t a d × IsIntCell p d) (slice_index_or locals m (pos 0)) (length p.cells) (known m (kind_at (pure.Local m) kind)) (λ d q. (inr (0, m, refl, q.0), q.1)))

    at_elem : (first len : ℕ) (x : Pure) → Pointing (roll-Pure (pure.AddrElem first len x))
    at_elem first len x kind rows ints checks =
        let all : All (Holds locals) (checks_of x ++ is_in_range (checked x).expr len ∷ []) = subst (All (Holds locals)) (ap (λ k. k.wants) (checked_at (pure.AddrElem first len x))) checks in
        let check : Holds locals (is_in_range (checked x).expr len) = All-contains (Holds locals) (checks_of x ++ is_in_range (checked x).expr len ∷ []) (is_in_range (checked x).expr len) all (Contains-push (checks_of x) (is_in_range (checked x).expr len)) in
        let r = in_range x len locals (subst (λ i. Holds locals (is_in_range i len)) (rebuilt x) check) in
        good_elem first len x r.0 r.1 r.2 (λ z e. sym r.1 ∙ numbered x z e locals) rows ints

    at_cond : (c x y : Pure) → Pointing x → Pointing y → Pointing (roll-Pure (pure.Cond c x y))
    at_cond c x y hx hy kind rows ints checks = go (is_zero (value_of c locals)) refl
      where
        layer : pure.Pure-F Pure
        layer = pure.Cond c x y

        kinds : ((kinds_of pointers x).pointer ≡ true) × ((kinds_of pointers y).pointer ≡ true)
        kinds = and_parts (kinds_of pointers x).pointer (kinds_of pointers y).pointer (and_parts (is_typed (kinds_of pointers c)) ((kinds_of pointers x).pointer && (kinds_of pointers y).pointer) (kind_at layer kind)).1

        both : {A : Type 0} (P : A → Type 0) (cs xs ys : List A) → All P (cs ++ xs ++ ys) → All P xs × All P ys
        both P cs xs ys h = (all_right P cs xs (all_left P (cs ++ xs) ys h), all_right P (cs ++ xs) ys h)

        two_rows : All (IsRow p.cells) (rows_of x) × All (IsRow p.cells) (rows_of y)
        two_rows = both (IsRow p.cells) (rows_of c) (rows_of x) (rows_of y) (subst (All (IsRow p.cells)) (rows_at layer) rows)

        two_ints : NamesInts p x × NamesInts p y
        two_ints = both (IsRowOfInts p) (rows_of c) (rows_of x) (rows_of y) (subst (All (IsRowOfInts p)) (rows_at layer) ints)

        two_checks : All (Holds locals) (checks_of x) × All (Holds locals) (checks_of y)
        two_checks = both (Holds locals) (checks_of c) (checks_of x) (checks_of y) (subst (All (Holds locals)) (ap (λ k. k.wants) (checked_at layer)) checks)

        value : (b : Bool) → is_zero (value_of c locals) ≡ b → value_of (roll-Pure layer) locals ≡ (if b then value_of y locals else value_of x locals)
        value b e = value_at locals layer ∙ ap (λ z. if z then value_of y locals else value_of x locals) e

        whole : Aims
        whole = joined (joined (aims_of c) (aims_of x)) (aims_of y)

        more : (a : Aims) (z : ℤ) → ((d : ℕ) → Aimed p t a d → Aimed p t whole d) → Good a z → Good whole z
        more a z f h = some_then (λ d. Aimed p t a d × IsIntCell p d) (λ d. Aimed p t whole d × IsIntCell p d) z (length p.cells) h (λ d q. (f d q.0, q.1))

        go : (b : Bool) → is_zero (value_of c locals) ≡ b → Good (aims_of (roll-Pure layer)) (value_of (roll-Pure layer) locals)
        go true e = good_at layer whole (value_of y locals) (aims_at layer) (value true e) (more (aims_of y) (value_of y locals) (λ d q. aimed_right p t (joined (aims_of c) (aims_of x)) (aims_of y) d q) (hy kinds.1 two_rows.1 two_ints.1 two_checks.1))
        go false e = good_at layer whole (value_of x locals) (aims_at layer) (value false e) (more (aims_of x) (value_of x locals) (λ d q. aimed_left p t (joined (aims_of c) (aims_of x)) (aims_of y) d (aimed_right p t (aims_of c) (aims_of x) d q)) (hx kinds.0 two_rows.0 two_ints.0 two_checks.0))

    pointing : (e : Pure) → Pointing e
    pointing e = ind-Pure Pointing (λ x y is.
        let P : pure.Pure-F Pure → Type 0 = λ v. Pointing (roll-Pure v) in
        elim y as (λ v. map-Pure _ Pure (λ d. d.0) v ≡ x → Pointing (roll-Pure x)) [
          | pure.Const c ↦ λ same. subst P same (λ kind rows ints checks. good_at (pure.Const c) (record { constant = Some c; rows = []; locals = [] }) c (aims_at (pure.Const c)) (value_at locals (pure.Const c)) (good_null (record { constant = Some c; rows = []; locals = [] }) c (kind_at (pure.Const c) kind)))
          | pure.Local m ↦ λ same. subst P same (at_local m)
          | pure.Addr c ↦ λ same. subst P same (λ kind rows ints checks. good_addr c rows ints)
          | pure.AddrElem first len x ↦ λ same. subst P same (at_elem first len x.0)
          | pure.Un op x ↦ λ same. subst P same (λ kind rows ints checks. absurd (false≢true (sym (no_unary op (kinds_of pointers x.0)) ∙ kind_at (pure.Un op x.0) kind)))
          | pure.Bin op x y ↦ λ same. subst P same (λ kind rows ints checks. absurd (false≢true (sym (no_binary op (kinds_of pointers x.0) (kinds_of pointers y.0)) ∙ kind_at (pure.Bin op x.0 y.0) kind)))
          | pure.Cond x y z ↦ λ same. subst P same (at_cond x.0 y.0 z.0 y.1 z.1)
        ] is) e

    -- a pointer's value, where its checks hold
    pub value_points : (e : Pure) → IsTrue (kinds_of pointers e).pointer → All (IsRow p.cells) (rows_of e) → NamesInts p e → All (Holds locals) (checks_of e) → Points p (expr t e) (value_of e locals)
    value_points e kind rows ints checks = some_then (λ d. Aimed p t (aims_of e) d × IsIntCell p d) (λ c. MayName p (expr t e) c × IsIntCell p c) (value_of e locals) (length p.cells) (pointing e kind rows ints checks) (λ d q. (aimed_names p t e d q.0, q.1))

-- ---- start values

abbrev StartNumbered : Pure → Type 0
StartNumbered e = (z : ℤ) → (start_kind e).constant ≡ Some z → (aims_of e).constant ≡ Some z

start_at : (x : pure.Pure-F Pure) → start_kind (roll-Pure x) ≡ start_step (map-Pure Pure StartKind start_kind x)
start_at x = fold-roll-Pure StartKind start_step x

no_start : (x : pure.Pure-F Pure) → (start_kind (roll-Pure x)).constant ≡ None → StartNumbered (roll-Pure x)
no_start x e z h = absurd (no_number z (sym e ∙ h))

start_numbered : (e : Pure) → StartNumbered e
start_numbered e = ind-Pure StartNumbered (λ x y is.
    let P : pure.Pure-F Pure → Type 0 = λ v. StartNumbered (roll-Pure v) in
    elim y as (λ v. map-Pure _ Pure (λ d. d.0) v ≡ x → StartNumbered (roll-Pure x)) [
      | pure.Const c ↦ λ same. subst P same (λ z h. ap (λ a. a.constant) (aims_at (pure.Const c)) ∙ sym (ap (λ a. a.constant) (start_at (pure.Const c))) ∙ h)
      | pure.Local m ↦ λ same. subst P same (no_start (pure.Local m) (ap (λ a. a.constant) (start_at (pure.Local m))))
      | pure.Addr c ↦ λ same. subst P same (no_start (pure.Addr c) (ap (λ a. a.constant) (start_at (pure.Addr c))))
      | pure.AddrElem first len x ↦ λ same. subst P same (no_start (pure.AddrElem first len x.0) (ap (λ a. a.constant) (start_at (pure.AddrElem first len x.0))))
      | pure.Un op x ↦ λ same. subst P same (no_start (pure.Un op x.0) (ap (λ a. a.constant) (start_at (pure.Un op x.0))))
      | pure.Bin op x y ↦ λ same. subst P same (no_start (pure.Bin op x.0 y.0) (ap (λ a. a.constant) (start_at (pure.Bin op x.0 y.0))))
      | pure.Cond x y z ↦ λ same. subst P same (no_start (pure.Cond x.0 y.0 z.0) (ap (λ a. a.constant) (start_at (pure.Cond x.0 y.0 z.0))))
    ] is) e

indexed : (o : Option ℤ) (len : ℕ) → is_index o len ≡ true → (n : ℕ) × (o ≡ Some (pos n)) × (n < len)
indexed (Some (pos k)) len h = (k, refl, ltb-true k len h)
indexed (Some (negsuc k)) len h = absurd (false≢true h)
indexed None len h = absurd (false≢true h)

module _ (p : Listing) (small : length p.cells ≤ MAX_CELLS) where
  abbrev Starting : Pure → Type 0
  Starting e = (start_kind e).fits ≡ true → IsTrue (kinds_of (λ l. false) e).pointer → All (IsRow p.cells) (rows_of e) → NamesInts p e → Good p small 0 [] (aims_of e) (value_of e [])

  unfit : (x : pure.Pure-F Pure) → (start_kind (roll-Pure x)).fits ≡ false → Starting (roll-Pure x)
  unfit x e fits kind rows ints = absurd (false≢true (sym e ∙ fits))

  start_elem : (first len : ℕ) (x : Pure) → Starting (roll-Pure (pure.AddrElem first len x))
  start_elem first len x fits kind rows ints =
      let r = indexed (start_kind x).constant len (sym (ap (λ k. k.fits) (start_at (pure.AddrElem first len x))) ∙ fits) in
      let v : value_of x [] ≡ pos r.0 = numbered x (pos r.0) (start_numbered x (pos r.0) r.1) [] in
      good_elem p small 0 [] first len x r.0 v r.2 (λ z e. sym v ∙ numbered x z e []) rows ints

  starting : (e : Pure) → Starting e
  starting e = ind-Pure Starting (λ x y is.
      let P : pure.Pure-F Pure → Type 0 = λ v. Starting (roll-Pure v) in
      elim y as (λ v. map-Pure _ Pure (λ d. d.0) v ≡ x → Starting (roll-Pure x)) [
        | pure.Const c ↦ λ same. subst P same (λ fits kind rows ints. good_at p small 0 [] (pure.Const c) (record { constant = Some c; rows = []; locals = [] }) c (aims_at (pure.Const c)) (value_at [] (pure.Const c)) (good_null p small 0 [] (record { constant = Some c; rows = []; locals = [] }) c (sym (ap (λ k. k.pointer) (kinds_at (λ l. false) (pure.Const c))) ∙ kind)))
        | pure.Local m ↦ λ same. subst P same (unfit (pure.Local m) (ap (λ k. k.fits) (start_at (pure.Local m))))
        | pure.Addr c ↦ λ same. subst P same (λ fits kind rows ints. good_addr p small 0 [] c rows ints)
        | pure.AddrElem first len x ↦ λ same. subst P same (start_elem first len x.0)
        | pure.Un op x ↦ λ same. subst P same (unfit (pure.Un op x.0) (ap (λ k. k.fits) (start_at (pure.Un op x.0))))
        | pure.Bin op x y ↦ λ same. subst P same (unfit (pure.Bin op x.0 y.0) (ap (λ k. k.fits) (start_at (pure.Bin op x.0 y.0))))
        | pure.Cond x y z ↦ λ same. subst P same (unfit (pure.Cond x.0 y.0 z.0) (ap (λ k. k.fits) (start_at (pure.Cond x.0 y.0 z.0))))
      ] is) e

  -- what a pointer cell has at the start
  pub start_points : (e : Pure) → (start_kind e).fits ≡ true → IsTrue (kinds_of (λ l. false) e).pointer → All (IsRow p.cells) (rows_of e) → NamesInts p e → Points p (expr 0 e) (value_of e [])
  start_points e fits kind rows ints = some_then (λ d. Aimed p 0 (aims_of e) d × IsIntCell p d) (λ c. MayName p (expr 0 e) c × IsIntCell p c) (value_of e []) (length p.cells) (starting e fits kind rows ints) (λ d q. (aimed_names p 0 e d q.0, q.1))
