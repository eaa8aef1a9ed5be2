-- Where an address stands in a program that a source can have, some cell has moved to the shared array.
use Rattle.std.proofs.Common.{◌≡◌, ℕ, zero, suc, pos, negsuc, ◌+◌, ◌<◌, ◌≤◌, nat_lt, ℤ, Bool, true, false, ◌||◌, if◌then◌else◌, List, [], ◌∷◌, ◌++◌, length, slice_get, slice_index_or, arith, refl, ◌∙◌, sym, ap, subst, Option, Some, None, inl, inr}
use Rattle.std.specs.Prelude.{All, IsSomeAnd, ◌⊎◌}
use Rattle.std.specs.List.{list_any, Contains}
use Rattle.std.proofs.lemmas.Bool.Decides.{nat_tests}
use Rattle.std.proofs.lemmas.List.Elements.{All-head, All-tail, All-append, All-from_recursion, Contains-append_left, Contains-append_right}
use Rattle.mm_goto.specs.declared.shape.Shape.{Shape}
use Rattle.mm_goto.specs.declared.pure.Pure.{Pure}
use Rattle.mm_goto.specs.declared.pure.Pure.TheOpen as pure
use Rattle.mm_goto.specs.declared.pure.Pure.TheViews.{roll-Pure}
use Rattle.mm_goto.specs.declared.pure.Pure.TheFolds.{fold-roll-Pure, ind-Pure, map-Pure}
use Rattle.mm_goto.specs.declared.program.Cell.{Cell}
use Rattle.mm_goto.specs.declared.row.Row.{Row}
use Rattle.mm_goto.specs.Listing.{Listing}
use Rattle.mm_goto.specs.Checks.{target_exprs}
use Rattle.mm_goto.specs.Locals.{rows_of, rows_step}
use Rattle.mm_goto.specs.PointsTo.{Aims, aims_of, aims_step, element_row, IsInRow, instr_at}
use Rattle.mm_goto.specs.declared.program.Instr.{Instr}
use Rattle.mm_goto.specs.declared.program.Instr.TheVariants as i
use Rattle.mm_goto.specs.declared.program.Target.{Target}
use Rattle.mm_goto.specs.declared.program.Target.TheVariants as target
use Rattle.mm_goto.specs.declared.program.Thread.{Thread}
use Rattle.mm_goto.specs.Shapes.{TakesAddress, IsAddressed, in_code, in_start, AreOfOneName, Fits}
use Rattle.mm_goto.specs.Sourcelike.{exprs_of}
use Rattle.mm_goto.specs.Valid.{IsRow, IsCellIn, IsPureIn, IsTargetIn, IsInstrIn, IsThreadIn, IsValid}
use Rattle.mm_instr.specs.Woven.{takes_address, takes_address_step, code_takes_address, has_address, has_moved_cells}

-- a cell of the program whose address stands in the expression
abbrev pub Addressed : List Cell → Pure → Type 0
Addressed cells e = (c : ℕ) × (c < length cells) × TakesAddress c e

-- the rows of two lists are those of each
rows_split : (P : Row → Type 0) (xs ys : List Row) → All P (xs ++ ys) → All P xs × All P ys
rows_split P [] ys h = (λ k d low. absurd (omega (arith, low)), h)
rows_split P (x ∷ xs) ys h =
    let more = rows_split P xs ys (All-tail P x (xs ++ ys) h) in
    (all_cons (All-head P x (xs ++ ys) h) more.0, more.1)
  where
    all_cons : P x → All P xs → All P (x ∷ xs)
    all_cons p q zero d low = p
    all_cons p q (suc k) d low = q k d (omega (arith, low))

pub either : (a b : Bool) → (a || b) ≡ true → (a ≡ true) ⊎ (b ≡ true)
either true b e = inl refl
either false b e = inr e

module _ (cells : List Cell) where
  abbrev Finds : Pure → Type 0
  Finds e = takes_address e ≡ true → All (IsRow cells) (rows_of e) → Addressed cells e

  takes_at : (x : pure.Pure-F Pure) → takes_address (roll-Pure x) ≡ takes_address_step (map-Pure Pure Bool takes_address x)
  takes_at x = fold-roll-Pure Bool takes_address_step x

  rows_at : (x : pure.Pure-F Pure) → rows_of (roll-Pure x) ≡ rows_step (map-Pure Pure (List Row) rows_of x)
  rows_at x = fold-roll-Pure (List Row) rows_step x

  aims_at : (x : pure.Pure-F Pure) → (aims_of (roll-Pure x)).rows ≡ (aims_step (map-Pure Pure Aims aims_of x)).rows
  aims_at x = ap (λ (a : Aims). a.rows) (fold-roll-Pure Aims aims_step x)

  -- by the outermost layer
  Layer : pure.Pure-F Pure → Type 0
  Layer x = takes_address_step (map-Pure Pure Bool takes_address x) ≡ true → All (IsRow cells) (rows_step (map-Pure Pure (List Row) rows_of x))
      → (c : ℕ) × (c < length cells) × ((row : Row) × Contains (aims_step (map-Pure Pure Aims aims_of x)).rows row × IsInRow row c)

  by_layer : (x : pure.Pure-F Pure) → Layer x → Finds (roll-Pure x)
  unfolding Layer
  by_layer x h takes rows =
      let it = h (sym (takes_at x) ∙ takes) (subst (All (IsRow cells)) (rows_at x) rows) in
      (it.0, it.1, (it.2.0, subst (λ rs. Contains rs it.2.0) (sym (aims_at x)) it.2.1, it.2.2))

  -- the first cell of an element's row
  first_of : (first len : ℕ) (o : Option ℤ) → 1 ≤ len → (c : ℕ) × (c < first + len) × IsInRow (element_row first len o) c
  first_of first len None some = (first, omega (arith, some), (omega arith, omega (arith, some)))
  first_of first len (Some (negsuc k)) some = (first, omega (arith, some), (omega arith, omega (arith, some)))
  first_of first len (Some (pos k)) some = by (nat_lt k len) refl
    where
      by : (b : Bool) → nat_lt k len ≡ b → (c : ℕ) × (c < first + len) × IsInRow (if b then record { first = first + k; len = 1 } else record { first = first; len = len }) c
      by true e = let low : k < len = grind (arith, nat_tests) in (first + k, omega (arith, low), (omega arith, omega arith))
      by false e = (first, omega (arith, some), (omega arith, omega (arith, some)))

  no_way : {A : Type 0} → false ≡ true → A
  no_way e = absurd (by e)
    where
      by : false ≡ true → ⊥
      by q = cc

  wider : (e : Pure) (rows : List Row) → ((row : Row) → Contains (aims_of e).rows row → Contains rows row) → Addressed cells e → (c : ℕ) × (c < length cells) × ((row : Row) × Contains rows row × IsInRow row c)
  wider e rows h a = (a.0, a.1, (a.2.0, h a.2.0 a.2.1, a.2.2))

  layer_finds : (y : pure.Pure-F ((e : Pure) × Finds e)) → Finds (roll-Pure (map-Pure ((e : Pure) × Finds e) Pure (λ d. d.0) y))
  unfolding Layer
  layer_finds (pure.Const z) = by_layer (pure.Const z) (λ e rows. no_way e)
  layer_finds (pure.Local l) = by_layer (pure.Local l) (λ e rows. no_way e)
  layer_finds (pure.Addr c) = by_layer (pure.Addr c) (λ e rows.
      let r = All-head (IsRow cells) (record { first = c; len = 1 }) [] rows in
      let low = r.within in
      (c, omega (arith, low), (record { first = c; len = 1 }, (0, omega arith, refl), (omega arith, omega arith))))
  layer_finds (pure.AddrElem first len x) = by_layer (pure.AddrElem first len x.0) (λ e rows.
      let r = All-head (IsRow cells) (record { first = first; len = len }) (rows_of x.0) rows in
      let low = r.within in
      let it = first_of first len (aims_of x.0).constant r.some in
      let below = it.1 in
      (it.0, omega (arith, low, below), (element_row first len (aims_of x.0).constant, (0, omega arith, refl), it.2)))
  layer_finds (pure.Un op x) = by_layer (pure.Un op x.0) (λ e rows. wider x.0 (aims_of x.0).rows (λ row h. h) (x.1 e rows))
  layer_finds (pure.Bin op x y) = by_layer (pure.Bin op x.0 y.0) (λ e rows.
      let split = rows_split (IsRow cells) (rows_of x.0) (rows_of y.0) rows in
      let a : List Row = (aims_of x.0).rows in
      let b : List Row = (aims_of y.0).rows in
      elim (either (takes_address x.0) (takes_address y.0) e) [
        | inl h ↦ wider x.0 (a ++ b) (λ row has. Contains-append_left a b row has) (x.1 h split.0)
        | inr h ↦ wider y.0 (a ++ b) (λ row has. Contains-append_right a b row has) (y.1 h split.1)
      ])
  layer_finds (pure.Cond c x y) = by_layer (pure.Cond c.0 x.0 y.0) (λ e rows.
      let a : List Row = (aims_of c.0).rows in
      let b : List Row = (aims_of x.0).rows in
      let d : List Row = (aims_of y.0).rows in
      let outer = rows_split (IsRow cells) (rows_of c.0 ++ rows_of x.0) (rows_of y.0) rows in
      let inner = rows_split (IsRow cells) (rows_of c.0) (rows_of x.0) outer.0 in
      elim (either (takes_address c.0) (takes_address x.0 || takes_address y.0) e) [
        | inl h ↦ wider c.0 ((a ++ b) ++ d) (λ row has. Contains-append_left (a ++ b) d row (Contains-append_left a b row has)) (c.1 h inner.0)
        | inr q ↦ elim (either (takes_address x.0) (takes_address y.0) q) [
          | inl h ↦ wider x.0 ((a ++ b) ++ d) (λ row has. Contains-append_left (a ++ b) d row (Contains-append_right a b row has)) (x.1 h inner.1)
          | inr h ↦ wider y.0 ((a ++ b) ++ d) (λ row has. Contains-append_right (a ++ b) d row has) (y.1 h outer.1)
        ]
      ])

  -- an expression that takes an address takes that of a cell
  pub address_found : (e : Pure) → Finds e
  address_found e = ind-Pure Finds (λ x y is. subst (λ v. Finds (roll-Pure v)) is (layer_finds y)) e

-- ---- a program with an address

-- where one of a list is so, one at a place is so
pub any_at : {X : Type 0} (f : X → Bool) (xs : List X) → list_any f xs ≡ true → (k : ℕ) × (x : X) × (slice_get xs k ≡ Some x) × (f x ≡ true)
any_at f [] e = absurd (differ e)
  where
    differ : false ≡ true → ⊥
    differ q = cc
any_at f (x ∷ xs) e = by (f x) refl e (any_at f xs)
  where
    by : (b : Bool) → f x ≡ b → (b || list_any f xs) ≡ true → (list_any f xs ≡ true → (k : ℕ) × (y : _) × (slice_get xs k ≡ Some y) × (f y ≡ true)) → (k : ℕ) × (y : _) × (slice_get (x ∷ xs) k ≡ Some y) × (f y ≡ true)
    by true h q more = (0, x, refl, h)
    by false h q more = let it = more q in (suc it.0, it.1, it.2, it.3)

-- what holds of all holds at a place
pub at_place : {X : Type 0} (P : X → Type 0) (xs : List X) (k : ℕ) (x : X) → All P xs → slice_get xs k ≡ Some x → P x
at_place P [] k x all e = absurd (differ e)
  where
    differ : None ≡ Some x → ⊥
    differ q = cc
at_place P (y ∷ xs) zero x all e = subst P (same e) (All-head P y xs all)
  where
    same : Some y ≡ Some x → y ≡ x
    same q = cc
at_place P (y ∷ xs) (suc k) x all e = at_place P xs k x (All-tail P y xs all) e

pub some_moved : (moved : List Bool) (c : ℕ) → slice_index_or moved c false ≡ true → list_any (λ b. b) moved ≡ true
some_moved [] c e = e
some_moved (b ∷ moved) zero e = ap (λ d. d || list_any (λ b. b) moved) e
some_moved (true ∷ moved) (suc c) e = refl
some_moved (false ∷ moved) (suc c) e = some_moved moved c e

there_is : (cells : List Cell) (c : ℕ) → c < length cells → (P : Cell → Type 0) → ((cell : Cell) → P cell) → IsSomeAnd (slice_get cells c) P
there_is [] c low P h = absurd (omega (arith, low))
there_is (x ∷ cells) zero low P h = h x
there_is (x ∷ cells) (suc c) low P h = there_is cells c (omega (arith, low)) P h

pub contained : {X : Type 0} (xs : List X) (k : ℕ) (x : X) → slice_get xs k ≡ Some x → Contains xs x
contained [] k x e = absurd (differ e)
  where
    differ : None ≡ Some x → ⊥
    differ q = cc
contained (y ∷ xs) zero x e = (0, omega arith, same e)
  where
    same : Some y ≡ Some x → y ≡ x
    same q = cc
contained (y ∷ xs) (suc k) x e = let more = contained xs k x e in (suc more.0, (let low = more.1 in omega (arith, low)), more.2)

module _ (p : Listing) (shape : Shape) (fits : Fits p shape) where
  code_is : (t : ℕ) (thread : Thread) → slice_get p.threads t ≡ Some thread → (k : ℕ) → instr_at p t k ≡ slice_get thread.code k
  code_is t thread e k =
      let P : Option Thread → Type 0 = λ o. slice_get (elim o as (λ x. List Instr) [ None ↦ [] | Some there ↦ there.code ]) k ≡ slice_get thread.code k in
      subst P (sym e) refl

  of_one_name : (c : ℕ) → c < length p.cells → AreOfOneName p c c
  of_one_name c low = by (slice_get p.cells c) (there_is p.cells c low (λ cell. cell.name ≡ cell.name) (λ cell. refl))
    where
      by : (o : Option Cell) → IsSomeAnd o (λ cell. cell.name ≡ cell.name) → IsSomeAnd o (λ x. IsSomeAnd o (λ y. x.name ≡ y.name))
      by None h = h
      by (Some cell) h = h

  moves : (c : ℕ) → c < length p.cells → IsAddressed p c → has_moved_cells shape ≡ true
  moves c low h = some_moved shape.moved c ((fits.moved c).1 (c, of_one_name c low, inl h))

  in_starts : IsValid p → list_any (λ (c : Cell). takes_address c.init) p.cells ≡ true → has_moved_cells shape ≡ true
  in_starts valid e =
      let at = any_at (λ (c : Cell). takes_address c.init) p.cells e in
      let in_cells : IsCellIn p.cells at.1 = at_place (IsCellIn p.cells) p.cells at.0 at.1 valid.each_cell at.2 in
      let it = address_found p.cells at.1.init at.3 in_cells.rows in
      moves it.0 it.1 (in_start at.0 at.1 at.2 it.2)

  module _ (t : Thread) where
    abbrev Keep : List Pure → Type 0
    Keep es = All (IsPureIn p t) es

    keep_none : Keep []
    keep_none k d low = absurd (omega (arith, low))

    keep_one : (e : Pure) → IsPureIn p t e → Keep (e ∷ [])
    keep_one e h = All-from_recursion (IsPureIn p t) (e ∷ []) (h, tt)

    target_in : (a : Target) → IsTargetIn p t a → Keep (target_exprs a)
    target_in (target.Cell c) h = keep_none
    target_in (target.Elem first len index) h = keep_one index h.1
    target_in (target.Deref e) h = keep_one e h

    -- a target, and these expressions
    with_target : (a : Target) (es : List Pure) → IsTargetIn p t a → Keep es → Keep ((target_exprs a ++ []) ++ es)
    with_target a es h g = All-append (IsPureIn p t) (target_exprs a ++ []) es (All-append (IsPureIn p t) (target_exprs a) [] (target_in a h) keep_none) g

    -- each expression of an instruction keeps to the program
    exprs_in : (it : Instr) → IsInstrIn p t it → Keep (exprs_of it)
    exprs_in (i.Set l e) h = keep_one e h.1
    exprs_in (i.Load l a) h = with_target a [] h.1 keep_none
    exprs_in (i.Store a e) h = with_target a (e ∷ []) h.0 (keep_one e h.1)
    exprs_in (i.Input l) h = keep_none
    exprs_in (i.Jump j) h = keep_none
    exprs_in (i.Branch e j) h = keep_one e h.0
    exprs_in (i.Assert e m) h = keep_one e h.0
    exprs_in (i.Assume e) h = keep_one e h
    exprs_in i.Fence h = keep_none
    exprs_in (i.Lock m) h = keep_none
    exprs_in (i.Unlock m) h = keep_none
    exprs_in (i.Add l a e) h = with_target a (e ∷ []) h.1 (keep_one e h.2)
    exprs_in (i.Cas l a e f) h = with_target a (e ∷ f ∷ []) h.1 (All-append (IsPureIn p t) (e ∷ []) (f ∷ []) (keep_one e h.2) (keep_one f h.3))
    exprs_in (i.Start u) h = keep_none
    exprs_in (i.Join u) h = keep_none
    exprs_in i.AtomBegin h = keep_none
    exprs_in i.AtomEnd h = keep_none
    exprs_in i.End h = keep_none

  in_threads : IsValid p → list_any (λ (t : Thread). code_takes_address t.code) p.threads ≡ true → has_moved_cells shape ≡ true
  in_threads valid e =
      let at = any_at (λ (t : Thread). code_takes_address t.code) p.threads e in
      let ok : IsThreadIn p at.1 = at_place (IsThreadIn p) p.threads at.0 at.1 valid.each_thread at.2 in
      let there = any_at (λ it. list_any takes_address (exprs_of it)) at.1.code at.3 in
      let instr : IsInstrIn p at.1 there.1 = at_place (IsInstrIn p at.1) at.1.code there.0 there.1 ok.instructions there.2 in
      let expr = any_at takes_address (exprs_of there.1) there.3 in
      let pure_in : IsPureIn p at.1 expr.1 = at_place (IsPureIn p at.1) (exprs_of there.1) expr.0 expr.1 (exprs_in at.1 there.1 instr) expr.2 in
      let it = address_found p.cells expr.1 expr.3 pure_in.cells in
      moves it.0 it.1 (in_code at.0 there.0 there.1 expr.1 (code_is at.0 at.1 at.2 there.0 ∙ there.2) (contained (exprs_of there.1) expr.0 expr.1 expr.2) it.2)

  -- so some cell has moved
  pub moved_where_addressed : IsValid p → has_address p ≡ true → has_moved_cells shape ≡ true
  moved_where_addressed valid e = elim (either (list_any (λ (c : Cell). takes_address c.init) p.cells) (list_any (λ (t : Thread). code_takes_address t.code) p.threads) e) [
    | inl h ↦ in_starts valid h
    | inr h ↦ in_threads valid h
  ]
