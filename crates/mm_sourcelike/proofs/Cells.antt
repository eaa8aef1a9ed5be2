-- The cells of the globals: how many they are, and where the cells of each stand.
use Rattle.std.proofs.Common.{arith, ◌≡◌, ℕ, zero, suc, ℤ, pos, ◌+◌, ◌<◌, ◌≤◌, ◌^◌, nat_lt, Bool, true, false, IsTrue, if◌then◌else◌, List, [], ◌∷◌, ◌++◌, length, refl, ◌∙◌, sym, ap, subst, zero-add, append_assoc, Option, Some, None, IsSomeAnd}
use Rattle.std.specs.List.{AllByRecursion, slice_get}
use Rattle.std.proofs.lemmas.Bool.Decides.{nat_tests}
use Rattle.std.proofs.lemmas.List.{length-append}
use Rattle.std.proofs.lemmas.List.Elements.{All-from_recursion}
use Rattle.mm_goto.specs.declared.ident.Ident.{Ident}
use Rattle.mm_goto.specs.declared.program.Cell.{Cell}
use Rattle.mm_goto.specs.declared.pure.Pure.{Pure}
use Rattle.mm_goto.specs.declared.row.Row.{Row}
use Rattle.mm_goto.specs.Locals.{rows_of, rows_step}
use Rattle.mm_goto.specs.Parts.{numbers, numbers_step}
use Rattle.mm_goto.specs.Terms.{constant}
use Rattle.mm_goto.specs.Valid.{IsInt, IsRow, IsNextElement, IsCellIn, start_kind, start_step}
use Rattle.mm_goto.proofs.Folding.{fold_constant}
use Rattle.mm_tree.specs.declared.expr.Expr.{Expr}
use Rattle.mm_tree.specs.declared.item.Global.{Global}
use Rattle.mm_flow.specs.declared.names.Spot.{Spot}
use Rattle.mm_flow.specs.Words.{address, element}
use Rattle.mm_flow.specs.Expressions.{zero_value}
use Rattle.mm_flow.specs.Programs.{natural, length_of, cells_in, capped, spots, cell_count, start_value, first_start, elements, cells_of_length, cells_of}
use Rattle.mm_sourcelike.proofs.Pures.{fold_address, fold_element}

-- ---- parts of lists

pub at_right : {A : Type 0} (xs ys : List A) (k : ℕ) → slice_get (xs ++ ys) (length xs + k) ≡ slice_get ys k
at_right [] ys k = ap (slice_get ys) (zero-add k)
at_right (x ∷ xs) ys k =
    let e : suc (length xs) + k ≡ suc (length xs + k) = omega arith in
    ap (slice_get (x ∷ (xs ++ ys))) e ∙ at_right xs ys k

pub at_left : {A : Type 0} (xs ys : List A) (k : ℕ) → k < length xs → slice_get (xs ++ ys) k ≡ slice_get xs k
at_left [] ys k h = absurd (omega arith)
at_left (x ∷ xs) ys zero h = refl
at_left (x ∷ xs) ys (suc k) h = at_left xs ys k (omega arith)

pub in_middle : {A : Type 0} (xs ys zs : List A) (k : ℕ) → k < length ys → slice_get (xs ++ (ys ++ zs)) (length xs + k) ≡ slice_get ys k
in_middle xs ys zs k h = at_right xs (ys ++ zs) k ∙ at_left ys zs k h

-- ---- how many they are

pub elements_length : (ss : List Spot) (g : Global) (i n : ℕ) (es : List Expr) → length (elements ss g i n es) ≡ n
elements_length ss g i zero es = refl
elements_length ss g i (suc n) [] = ap suc (elements_length ss g (i + 1) n [])
elements_length ss g i (suc n) (e ∷ es) = ap suc (elements_length ss g (i + 1) n es)

pub part_length : (ss : List Spot) (g : Global) (len : Option ℤ) → length (cells_of_length ss g len) ≡ length_of len
part_length ss g (Some n) = elements_length ss g 0 (natural n) g.init
part_length ss g None = refl

pub cells_length : (ss : List Spot) (gs : List Global) → length (cells_of ss gs) ≡ cell_count gs
cells_length ss [] = refl
cells_length ss (g ∷ gs) = length-append (cells_of_length ss g g.len) (cells_of ss gs) ∙ rw (part_length ss g g.len, cells_length ss gs) refl

-- ---- where they stand

-- a cell of this name and this index
pub record IsElement (x : Ident) (i : ℕ) (is_pointer : Bool) (c : Cell) : Type 0 where
  pub name : c.name ≡ x
  pub index : c.index ≡ Some i
  pub pointer : c.pointer ≡ is_pointer

pub element_at : (ss : List Spot) (g : Global) (i n : ℕ) (es : List Expr) (k : ℕ) → k < n → (c : Cell) × (slice_get (elements ss g i n es) k ≡ Some c) × IsElement g.name (i + k) g.pointer c
element_at ss g i zero es k h = absurd (omega arith)
element_at ss g i (suc n) [] zero h = (_, refl, record { name = refl; index = ap Some (omega arith); pointer = refl })
element_at ss g i (suc n) (e ∷ es) zero h = (_, refl, record { name = refl; index = ap Some (omega arith); pointer = refl })
element_at ss g i (suc n) [] (suc k) h =
    let r = element_at ss g (i + 1) n [] k (omega arith) in
    (r.0, r.1, record { name = r.2.name; index = r.2.index ∙ ap Some (omega arith); pointer = r.2.pointer })
element_at ss g i (suc n) (e ∷ es) (suc k) h =
    let r = element_at ss g (i + 1) n es k (omega arith) in
    (r.0, r.1, record { name = r.2.name; index = r.2.index ∙ ap Some (omega arith); pointer = r.2.pointer })

abbrev pub row_of : Spot → Row
row_of s = record { first = s.first; len = s.len }

pub some_and : {A : Type 0} (P : A → Type 0) (o : Option A) (x : A) → o ≡ Some x → P x → IsSomeAnd o P
some_and P o x e h = subst (λ q. IsSomeAnd q P) (sym e) h

next_element : (name : Ident) (i : ℕ) (pointer : Bool) (a b : Cell) → IsElement name i pointer a → IsElement name (i + 1) pointer b → IsNextElement a b
next_element name i pointer a b h g = (h.name ∙ sym g.name, some_and (λ j. b.index ≡ Some (j + 1)) a.index i h.index g.index)

array_row : (ss : List Spot) (g : Global) (n : ℕ) (xs ys : List Cell) → 1 ≤ n → IsRow (xs ++ (elements ss g 0 n g.init ++ ys)) (record { first = length xs; len = n })
array_row ss g n xs ys h = record {
  some = h;
  within = omega (arith, length-append xs (elements ss g 0 n g.init ++ ys), length-append (elements ss g 0 n g.init) ys, elements_length ss g 0 n g.init);
  together = λ k l. together k l;
}
  where
    all : List Cell
    all = xs ++ (elements ss g 0 n g.init ++ ys)

    found : (k : ℕ) → k < n → (c : Cell) × (slice_get all (length xs + k) ≡ Some c) × IsElement g.name k g.pointer c
    found k l =
        let r = element_at ss g 0 n g.init k l in
        (r.0, in_middle xs (elements ss g 0 n g.init) ys k (omega (arith, elements_length ss g 0 n g.init)) ∙ r.1, record { name = r.2.name; index = r.2.index ∙ ap Some (zero-add k); pointer = r.2.pointer })

    together : (k : ℕ) → k + 1 < n → IsSomeAnd (slice_get all (length xs + k)) (λ a. IsSomeAnd (slice_get all (length xs + k + 1)) (IsNextElement a))
    together k l =
        let a = found k (omega arith) in
        let b = found (k + 1) l in
        let e : length xs + k + 1 ≡ length xs + (k + 1) = omega arith in
        some_and (λ c. IsSomeAnd (slice_get all (length xs + k + 1)) (IsNextElement c)) (slice_get all (length xs + k)) a.0 a.1
        (some_and (IsNextElement a.0) (slice_get all (length xs + k + 1)) b.0 (ap (slice_get all) e ∙ b.1) (next_element g.name k g.pointer a.0 b.0 a.2 b.2))

pub single_row : (cells : List Cell) (c : ℕ) → c < length cells → IsRow cells (record { first = c; len = 1 })
single_row cells c h = record { some = omega arith; within = omega arith; together = λ k l. absurd (omega arith) }

one_row : (ss : List Spot) (g : Global) (len : Option ℤ) (xs ys : List Cell) → 1 ≤ length_of len → IsRow (xs ++ (cells_of_length ss g len ++ ys)) (record { first = length xs; len = length_of len })
one_row ss g (Some n) xs ys h = array_row ss g (natural n) xs ys h
one_row ss g None xs ys h = single_row _ (length xs) (omega (arith, length-append xs (record { name = g.name; index = None; pointer = g.pointer; init = first_start ss g.init } ∷ ys)))

pub uncapped : (n : ℕ) → n < 2 ^ 32 → capped n ≡ n
uncapped n h = by (nat_lt n (2 ^ 32)) refl
  where
    by : (b : Bool) → nat_lt n (2 ^ 32) ≡ b → (if b then n else 4294967295) ≡ n
    by true e = refl
    by false e = absurd (grind (arith, nat_tests))

abbrev pub EachHasCells : List Global → Type 0
EachHasCells gs = AllByRecursion (λ g. 1 ≤ cells_in g) gs

-- the cells of each global stand in a row
pub spot_rows : (ss : List Spot) (gs : List Global) (cells xs : List Cell) (n : ℕ) → cells ≡ xs ++ cells_of ss gs → length xs ≡ n → n + cell_count gs < 2 ^ 32 → EachHasCells gs
    → AllByRecursion (λ s. IsRow cells (row_of s)) (spots gs n)
spot_rows ss [] cells xs n e l r h = tt
spot_rows ss (g ∷ gs) cells xs n e l r h =
    let part = cells_of_length ss g g.len in
    let next : ℕ = n + cells_in g in
    let long : length (xs ++ part) ≡ next = length-append xs part ∙ rw (l, part_length ss g g.len) refl in
    let is : capped next ≡ next = uncapped next (omega arith) in
    let more : cells ≡ (xs ++ part) ++ cells_of ss gs = e ∙ sym (append_assoc xs part (cells_of ss gs)) in (
      subst (λ (cs : List Cell). IsRow cs (record { first = n; len = cells_in g })) (sym e)
          (subst (λ m. IsRow (xs ++ (part ++ cells_of ss gs)) (record { first = m; len = cells_in g })) l (one_row ss g g.len xs (cells_of ss gs) h.0)),
      subst (λ m. AllByRecursion (λ s. IsRow cells (row_of s)) (spots gs m)) (sym is) (spot_rows ss gs cells (xs ++ part) next more long (omega arith) h.1),
    )

-- ---- start values

-- what a start value may be among these cells
pub record StartsIn (cells : List Cell) (init : Pure) : Type 0 where
  pub kind : IsTrue (start_kind init).fits
  pub rows : AllByRecursion (IsRow cells) (rows_of init)
  pub ints : AllByRecursion IsInt (numbers init)

pub number_starts : (cells : List Cell) (z : ℤ) → IsInt z → StartsIn cells (constant z)
number_starts cells z h = record {
  kind = rw (fold_constant start_step z) refl;
  rows = rw (fold_constant rows_step z) tt;
  ints = rw (fold_constant numbers_step z) (h, tt);
}

pub zero_starts : (cells : List Cell) → StartsIn cells zero_value
zero_starts cells = number_starts cells (pos 0) (omega arith)

pub address_starts : (cells : List Cell) (c : ℕ) → c < length cells → StartsIn cells (address c)
address_starts cells c h = record {
  kind = rw (fold_address start_step c) refl;
  rows = rw (fold_address rows_step c) (single_row cells c h, tt);
  ints = rw (fold_address numbers_step c) tt;
}

is_below : (k len : ℕ) → k < len → nat_lt k len ≡ true
is_below k len h = grind (arith, nat_tests)

pub element_starts : (cells : List Cell) (first len k : ℕ) → IsRow cells (record { first = first; len = len }) → k < len → IsInt (pos k) → StartsIn cells (element first len (constant (pos k)))
element_starts cells first len k r h i = record {
  kind = rw (fold_element start_step first len (constant (pos k)), fold_constant start_step (pos k)) (is_below k len h);
  rows = rw (fold_element rows_step first len (constant (pos k)), fold_constant rows_step (pos k)) (r, tt);
  ints = rw (fold_element numbers_step first len (constant (pos k)), fold_constant numbers_step (pos k)) (i, tt);
}

-- ---- the whole

abbrev pub EachStarts : List Spot → List Cell → List Global → Type 0
EachStarts ss cells gs = AllByRecursion (λ g. AllByRecursion (λ e. StartsIn cells (start_value ss e)) g.init) gs

abbrev CellsIn : List Cell → List Cell → Type 0
CellsIn cells cs = AllByRecursion (λ c. StartsIn cells c.init) cs

elements_in : (ss : List Spot) (cells : List Cell) (g : Global) (i n : ℕ) (es : List Expr) → AllByRecursion (λ e. StartsIn cells (start_value ss e)) es → CellsIn cells (elements ss g i n es)
elements_in ss cells g i zero es h = tt
elements_in ss cells g i (suc n) [] h = (zero_starts cells, elements_in ss cells g (i + 1) n [] h)
elements_in ss cells g i (suc n) (e ∷ es) h = (h.0, elements_in ss cells g (i + 1) n es h.1)

first_in : (ss : List Spot) (cells : List Cell) (es : List Expr) → AllByRecursion (λ e. StartsIn cells (start_value ss e)) es → StartsIn cells (first_start ss es)
first_in ss cells [] h = zero_starts cells
first_in ss cells (e ∷ es) h = h.0

part_in : (ss : List Spot) (cells : List Cell) (g : Global) (len : Option ℤ) → AllByRecursion (λ e. StartsIn cells (start_value ss e)) g.init → CellsIn cells (cells_of_length ss g len)
part_in ss cells g (Some n) h = elements_in ss cells g 0 (natural n) g.init h
part_in ss cells g None h = (first_in ss cells g.init h, tt)

pub both_all : {A : Type 0} (P : A → Type 0) (xs ys : List A) → AllByRecursion P xs → AllByRecursion P ys → AllByRecursion P (xs ++ ys)
both_all P [] ys h g = g
both_all P (x ∷ xs) ys h g = (h.0, both_all P xs ys h.1 g)

cells_start : (ss : List Spot) (cells : List Cell) (gs : List Global) → EachStarts ss cells gs → CellsIn cells (cells_of ss gs)
cells_start ss cells [] h = tt
cells_start ss cells (g ∷ gs) h = both_all (λ c. StartsIn cells c.init) (cells_of_length ss g g.len) (cells_of ss gs) (part_in ss cells g g.len h.0) (cells_start ss cells gs h.1)

are_in : (cells cs : List Cell) → CellsIn cells cs → AllByRecursion (IsCellIn cells) cs
are_in cells [] h = tt
are_in cells (c ∷ cs) h = (record { kind = h.0.kind; rows = All-from_recursion (IsRow cells) (rows_of c.init) h.0.rows; ints = All-from_recursion IsInt (numbers c.init) h.0.ints }, are_in cells cs h.1)

pub cells_in_range : (ss : List Spot) (cells : List Cell) (gs : List Global) → EachStarts ss cells gs → AllByRecursion (IsCellIn cells) (cells_of ss gs)
cells_in_range ss cells gs h = are_in cells (cells_of ss gs) (cells_start ss cells gs h)
