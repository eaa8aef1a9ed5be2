-- In a valid program, the numbers in rules and targets are in range.
use Rattle.std.proofs.Common.{◌≡◌, ◌∙◌, ℕ, ℤ, pos, negsuc, zero, suc, ◌+◌, ◌*◌, ◌<◌, ◌≤◌, List, [], ◌∷◌, ◌++◌, length, get_or, inl, inr, refl, sym, ap, Some, None, Option, arith, subst}
use Rattle.std.proofs.lemmas.Nat.{row_fits}
use Rattle.std.proofs.lemmas.Bool.{cases_Bool, ltb-true}
use Rattle.std.proofs.lemmas.Option.{slice_get_within, get_or_from_slice_get, slice_get-get_or}
use Rattle.std.specs.Prelude.{All, slice_get, nat_lt}
use Rattle.mm_goto.specs.declared.pure.Unary.{Unary}
use Rattle.mm_goto.specs.declared.pure.Binary.{Binary}
use Rattle.mm_goto.specs.declared.pure.Pure.{Pure}
use Rattle.mm_goto.specs.declared.pure.Pure.TheOpen as pure
use Rattle.mm_goto.specs.declared.pure.Pure.TheViews.{roll-Pure}
use Rattle.mm_goto.specs.declared.pure.Pure.TheFolds.{fold-Pure, fold-roll-Pure, ind-Pure, map-Pure}
use Rattle.mm_goto.specs.declared.program.Cell.{Cell}
use Rattle.mm_goto.specs.declared.program.Thread.{Thread}
use Rattle.mm_goto.specs.declared.program.Target.{Target}
use Rattle.mm_goto.specs.declared.program.Target.TheVariants as target
use Rattle.mm_goto.specs.declared.program.Instr.{Instr}
use Rattle.mm_goto.specs.declared.program.Instr.TheVariants as instr
use Rattle.mm_goto.specs.declared.row.Row.{Row}
use Rattle.mm_goto.specs.Listing.{Listing}
use Rattle.mm_goto.specs.Locals.{rows_of, rows_step}
use Rattle.mm_goto.specs.PointsTo.{Aims, aims_of, aims_step, element_row, MayName, Holder, local, cell, expr, place, address, copy, itself, element, behind, start, set, load, store, instr_at}
use Rattle.mm_goto.specs.Valid.{IsValid, IsThreadIn, IsInstrIn, IsTargetIn, IsPureIn, IsRow, IsCellIn}
use Rattle.mm_points.specs.declared.rules.Rule.{Rule}
use Rattle.mm_points.specs.declared.rules.Rule.TheVariants as rules
use Rattle.mm_points.specs.reading.Rules.{IsAimIn, IsIn}
use Rattle.mm_points.specs.reading.Ruled.{aim_of, aim_to, rule_of, rules_of}
use Rattle.mm_points.proofs.Derived.{stands_at}
use Rattle.mm_points.proofs.Lists.{among_front, among_back, among_split, same_some, no_some}
use Rattle.mm_points.proofs.Ranges.{below}
use Rattle.mm_points.proofs.RulesOf.{rule_from}
use Rattle.mm_points.proofs.Starts.{start_localless}

pub all_at : {X : Type 0} (P : X → Type 0) (xs : List X) → All P xs → (k : ℕ) (x : X) → slice_get xs k ≡ Some x → P x
all_at P xs all k x is = subst P (get_or_from_slice_get xs k x x is) (all k x (slice_get_within xs k x is))

-- ---- rows

-- the rows end by n
abbrev pub RowsBelow : ℕ → List Row → Type 0
RowsBelow n rows = (k : ℕ) (row : Row) → slice_get rows k ≡ Some row → row.first + row.len ≤ n

no_rows : (n : ℕ) → RowsBelow n []
no_rows n k row is = absurd (no_some row is)

one_row : (n : ℕ) (row : Row) (rows : List Row) → row.first + row.len ≤ n → RowsBelow n rows → RowsBelow n (row ∷ rows)
one_row n row rows first rest zero x is = let P : Row → Type 0 = λ r. r.first + r.len ≤ n in subst P (same_some row x is) first
one_row n row rows first rest (suc k) x is = rest k x is

rows_left : (n : ℕ) (xs ys : List Row) → RowsBelow n (xs ++ ys) → RowsBelow n xs
rows_left n xs ys all k row is = let a = among_front xs ys k row is in all a.0 row a.1

rows_right : (n : ℕ) (xs ys : List Row) → RowsBelow n (xs ++ ys) → RowsBelow n ys
rows_right n xs ys all k row is = let a = among_back xs ys row (k, is) in all a.0 row a.1

rows_both : (n : ℕ) (xs ys : List Row) → RowsBelow n xs → RowsBelow n ys → RowsBelow n (xs ++ ys)
rows_both n xs ys f g k row is = elim (among_split xs ys k row is) [ inl a ↦ f a.0 row a.1 | inr a ↦ g a.0 row a.1 ]

pub element_below : (n first len : ℕ) (at : Option ℤ) → first + len ≤ n → (element_row first len at).first + (element_row first len at).len ≤ n
element_below n first len (Some (pos k)) fits =
    elim (cases_Bool (nat_lt k len)) [ inl t ↦ let h = ltb-true k len t in rw t (omega arith) | inr f ↦ rw f fits ]
element_below n first len (Some (negsuc k)) fits = fits
element_below n first len None fits = fits

-- what ends by n among an expression's rows ends by n among what it may name
abbrev Ends : Pure → Type 0
Ends e = (n : ℕ) → RowsBelow n (rows_of e) → RowsBelow n (aims_of e).rows

by_layer : (x : pure.Pure-F Pure) (rows aims : List Row) → fold-Pure (List Row) rows_step (roll-Pure x) ≡ rows → (fold-Pure Aims aims_step (roll-Pure x)).rows ≡ aims
    → ((n : ℕ) → RowsBelow n rows → RowsBelow n aims) → Ends (roll-Pure x)
by_layer x rows aims e f ends n all =
    let P : List Row → Type 0 = RowsBelow n in
    subst P (sym f) (ends n (subst P e all))

at_const : (c : ℤ) → Ends (roll-Pure (pure.Const c))
at_const c = by_layer (pure.Const c) [] [] (fold-roll-Pure (List Row) rows_step (pure.Const c)) (ap (λ a. a.rows) (fold-roll-Pure Aims aims_step (pure.Const c))) (λ n all. all)

at_local : (m : ℕ) → Ends (roll-Pure (pure.Local m))
at_local m = by_layer (pure.Local m) [] [] (fold-roll-Pure (List Row) rows_step (pure.Local m)) (ap (λ a. a.rows) (fold-roll-Pure Aims aims_step (pure.Local m))) (λ n all. all)

at_addr : (c : ℕ) → Ends (roll-Pure (pure.Addr c))
at_addr c = by_layer (pure.Addr c) (record { first = c; len = 1 } ∷ []) (record { first = c; len = 1 } ∷ []) (fold-roll-Pure (List Row) rows_step (pure.Addr c)) (ap (λ a. a.rows) (fold-roll-Pure Aims aims_step (pure.Addr c))) (λ n all. all)

at_elem : (first len : ℕ) (x : Pure) → Ends x → Ends (roll-Pure (pure.AddrElem first len x))
at_elem first len x ends = by_layer (pure.AddrElem first len x) (record { first = first; len = len } ∷ rows_of x) (element_row first len (aims_of x).constant ∷ (aims_of x).rows)
    (fold-roll-Pure (List Row) rows_step (pure.AddrElem first len x)) (ap (λ a. a.rows) (fold-roll-Pure Aims aims_step (pure.AddrElem first len x)))
    (λ n all. one_row n (element_row first len (aims_of x).constant) (aims_of x).rows (element_below n first len (aims_of x).constant (all zero (record { first = first; len = len }) refl)) (ends n (λ k row is. all (suc k) row is)))

at_un : (op : Unary) (x : Pure) → Ends x → Ends (roll-Pure (pure.Un op x))
at_un op x ends = by_layer (pure.Un op x) (rows_of x) (aims_of x).rows (fold-roll-Pure (List Row) rows_step (pure.Un op x)) (ap (λ a. a.rows) (fold-roll-Pure Aims aims_step (pure.Un op x))) ends

at_bin : (op : Binary) (x y : Pure) → Ends x → Ends y → Ends (roll-Pure (pure.Bin op x y))
at_bin op x y f g = by_layer (pure.Bin op x y) (rows_of x ++ rows_of y) ((aims_of x).rows ++ (aims_of y).rows)
    (fold-roll-Pure (List Row) rows_step (pure.Bin op x y)) (ap (λ a. a.rows) (fold-roll-Pure Aims aims_step (pure.Bin op x y)))
    (λ n all. rows_both n (aims_of x).rows (aims_of y).rows (f n (rows_left n (rows_of x) (rows_of y) all)) (g n (rows_right n (rows_of x) (rows_of y) all)))

at_cond : (x y z : Pure) → Ends x → Ends y → Ends z → Ends (roll-Pure (pure.Cond x y z))
at_cond x y z f g h = by_layer (pure.Cond x y z) ((rows_of x ++ rows_of y) ++ rows_of z) (((aims_of x).rows ++ (aims_of y).rows) ++ (aims_of z).rows)
    (fold-roll-Pure (List Row) rows_step (pure.Cond x y z)) (ap (λ a. a.rows) (fold-roll-Pure Aims aims_step (pure.Cond x y z)))
    (λ n all.
    let both = rows_left n (rows_of x ++ rows_of y) (rows_of z) all in
    rows_both n ((aims_of x).rows ++ (aims_of y).rows) (aims_of z).rows
    (rows_both n (aims_of x).rows (aims_of y).rows (f n (rows_left n (rows_of x) (rows_of y) both)) (g n (rows_right n (rows_of x) (rows_of y) both)))
    (h n (rows_right n (rows_of x ++ rows_of y) (rows_of z) all)))

pub ends : (e : Pure) → Ends e
ends e = ind-Pure Ends (λ x y is.
    let P : pure.Pure-F Pure → Type 0 = λ v. Ends (roll-Pure v) in
    elim y as (λ v. map-Pure _ Pure (λ d. d.0) v ≡ x → Ends (roll-Pure x)) [
      | pure.Const c ↦ λ same. subst P same (at_const c)
      | pure.Local m ↦ λ same. subst P same (at_local m)
      | pure.Addr c ↦ λ same. subst P same (at_addr c)
      | pure.AddrElem first len x ↦ λ same. subst P same (at_elem first len x.0 x.1)
      | pure.Un op x ↦ λ same. subst P same (at_un op x.0 x.1)
      | pure.Bin op x y ↦ λ same. subst P same (at_bin op x.0 y.0 x.1 y.1)
      | pure.Cond x y z ↦ λ same. subst P same (at_cond x.0 y.0 z.0 x.1 y.1 z.1)
    ] is) e

-- ---- a valid program

-- the rows that an expression names end with the cells
pub bounded : (p : Listing) (e : Pure) → All (IsRow p.cells) (rows_of e) → RowsBelow (length p.cells) (aims_of e).rows
bounded p e rows = ends e (length p.cells) (λ k row is. (all_at (IsRow p.cells) (rows_of e) rows k row is).within)

abbrev pub IsTargetBounded : Listing → Target → Type 0
IsTargetBounded p (target.Cell c) = c < length p.cells
IsTargetBounded p (target.Elem first len index) = first + len ≤ length p.cells
IsTargetBounded p (target.Deref e) = RowsBelow (length p.cells) (aims_of e).rows

pub target_bounded : (p : Listing) (thread : Thread) (to : Target) → IsTargetIn p thread to → IsTargetBounded p to
target_bounded p thread (target.Cell c) is = is
target_bounded p thread (target.Elem first len index) is = is.0.within
target_bounded p thread (target.Deref e) is = bounded p e is.cells

-- the instruction is one of a thread of the program, and valid there
pub record IsOfThread (p : Listing) (t i : ℕ) (it : Instr) : Type 0 where
  pub thread : Thread
  pub runs : slice_get p.threads t ≡ Some thread
  pub stands : slice_get thread.code i ≡ Some it
  pub all : IsThreadIn p thread
  pub is : IsInstrIn p thread it

module _ (p : Listing) (valid : IsValid p) where
  pub of_thread : (t i : ℕ) (it : Instr) → instr_at p t i ≡ Some it → IsOfThread p t i it
  of_thread t i it is =
      let at = stands_at p t i it is in
      let thread = all_at (IsThreadIn p) p.threads valid.each_thread t at.thread at.runs in
      record { thread = at.thread; runs = at.runs; stands = at.stands; all = thread; is = all_at (IsInstrIn p at.thread) at.thread.code thread.instructions i it at.stands }

  abbrev pub IsHolderBounded : Holder → Type 0
  IsHolderBounded (local t l) = Unit {0}
  IsHolderBounded (cell k) = Unit {0}
  IsHolderBounded (expr t e) = RowsBelow (length p.cells) (aims_of e).rows
  IsHolderBounded (place t to) = IsTargetBounded p to

  -- what may be named is a cell of the program
  pub named_within : (v : Holder) (c : ℕ) → IsHolderBounded v → MayName p v c → c < length p.cells
  named_within (expr t e) c bound (address k row is within) = let h = bound k row is in omega (arith, within.1)
  named_within (expr t e) c bound (copy k l is may) = named_within (local t l) c tt may
  named_within (place t _) c bound itself = bound
  named_within (place t (target.Elem first len index)) c bound (element within) =
      let h = element_below (length p.cells) first len (aims_of index).constant bound in omega (arith, within.1)
  named_within (place t (target.Deref e)) c bound (behind may) = named_within (expr t e) c bound may
  named_within (cell k) c bound (start of is may) =
      named_within (expr 0 of.init) c (bounded p of.init (all_at (IsCellIn p.cells) p.cells valid.each_cell k of is).rows) may
  named_within (local t l) c bound (set i e is may) = let at = of_thread t i (instr.Set l e) is in named_within (expr t e) c (bounded p e at.is.1.cells) may
  named_within (local t l) c bound (load i to k is names pointer may) = named_within (cell k) c tt may
  named_within (cell k) c bound (store t i to e is names pointer may) = let at = of_thread t i (instr.Store to e) is in named_within (expr t e) c (bounded p e at.is.1.cells) may

  -- ---- the rules

  module _ (step : ℕ) (most : All (λ t. t.locals ≤ step) p.threads) where
    abbrev base_of : ℕ → ℕ
    base_of t = length p.cells + t * step

    pub locals_below : (t : ℕ) (thread : Thread) → slice_get p.threads t ≡ Some thread → thread.locals ≤ step
    locals_below t thread is = all_at (λ t. t.locals ≤ step) p.threads most t thread is

    in_step : (t l : ℕ) → t < length p.threads → l < step → length p.cells + t * step + l < length p.cells + length p.threads * step
    in_step t l small low =
        let all : t * step + step ≤ length p.threads * step = row_fits t step (length p.threads) step small (omega arith) in
        omega arith

    aim_in : (t : ℕ) (thread : Thread) (e : Pure) → slice_get p.threads t ≡ Some thread → IsPureIn p thread e
        → IsAimIn (length p.cells + length p.threads * step) (aim_of (base_of t) e)
    aim_in t thread e runs is =
        let few : length p.cells ≤ 65536 = valid.cells in
        record {
          rows = λ k row at. let h = bounded p e is.cells k row at in omega arith;
          locals = λ k l at.
              let low = below e k l at in
              let bound = is.locals in
              let own = locals_below t thread runs in
              in_step t l (slice_get_within p.threads t thread runs) (omega arith);
        }

    pub target_in : (t : ℕ) (thread : Thread) (to : Target) → slice_get p.threads t ≡ Some thread → IsTargetIn p thread to
        → IsAimIn (length p.cells + length p.threads * step) (aim_to (base_of t) to)
    target_in t thread (target.Deref e) runs is = aim_in t thread e runs is
    target_in t thread (target.Cell c) runs is = let few : length p.cells ≤ 65536 = valid.cells in record {
      rows = λ k row at. let h = one_row (length p.cells) (record { first = c; len = 1 }) [] (omega (arith, is)) (no_rows (length p.cells)) k row at in omega arith;
      locals = λ k l at. absurd (no_some l at);
    }
    target_in t thread (target.Elem first len index) runs is = let few : length p.cells ≤ 65536 = valid.cells in record {
      rows = λ k row at. let h = one_row (length p.cells) (element_row first len (aims_of index).constant) [] (element_below (length p.cells) first len (aims_of index).constant is.0.within) (no_rows (length p.cells)) k row at in omega arith;
      locals = λ k l at. absurd (no_some l at);
    }

    instr_rule_in : (t : ℕ) (thread : Thread) (it : Instr) → slice_get p.threads t ≡ Some thread → IsInstrIn p thread it
        → IsIn (length p.cells + length p.threads * step) (rule_of (base_of t) it)
    instr_rule_in t thread (instr.Set l e) runs is = let own = locals_below t thread runs in (in_step t l (slice_get_within p.threads t thread runs) (omega (arith, is.0)), aim_in t thread e runs is.1)
    instr_rule_in t thread (instr.Load l to) runs is = let own = locals_below t thread runs in (in_step t l (slice_get_within p.threads t thread runs) (omega (arith, is.0)), target_in t thread to runs is.1)
    instr_rule_in t thread (instr.Store to e) runs is = (target_in t thread to runs is.0, aim_in t thread e runs is.1)
    instr_rule_in t thread (instr.Input l) runs is = tt
    instr_rule_in t thread (instr.Jump k) runs is = tt
    instr_rule_in t thread (instr.Branch e k) runs is = tt
    instr_rule_in t thread (instr.Assert e n) runs is = tt
    instr_rule_in t thread (instr.Assume e) runs is = tt
    instr_rule_in t thread instr.Fence runs is = tt
    instr_rule_in t thread (instr.Lock m) runs is = tt
    instr_rule_in t thread (instr.Unlock m) runs is = tt
    instr_rule_in t thread (instr.Add l to e) runs is = tt
    instr_rule_in t thread (instr.Cas l to e f) runs is = tt
    instr_rule_in t thread (instr.Start u) runs is = tt
    instr_rule_in t thread (instr.Join u) runs is = tt
    instr_rule_in t thread instr.AtomBegin runs is = tt
    instr_rule_in t thread instr.AtomEnd runs is = tt
    instr_rule_in t thread instr.End runs is = tt

    start_rule_in : (at : ℕ) (of : Cell) → slice_get p.cells at ≡ Some of → (h : ℕ) → h ≡ at
        → IsIn (length p.cells + length p.threads * step) (rules.Set h (aim_of (length p.cells) of.init))
    start_rule_in at of is h e =
        let few : length p.cells ≤ 65536 = valid.cells in
        let cell_in = all_at (IsCellIn p.cells) p.cells valid.each_cell at of is in
        let small = slice_get_within p.cells at of is in (
          omega arith,
          record {
            rows = λ k row row_is. let h = bounded p of.init cell_in.rows k row row_is in omega arith;
            locals = λ k l l_is. absurd (no_some l (sym (ap (λ ls. slice_get ls k) (start_localless of.init cell_in.kind)) ∙ l_is));
          },
        )

    pub rules_in : All (IsIn (length p.cells + length p.threads * step)) (rules_of p step)
    rules_in k d small =
        let rule : Rule = get_or (rules_of p step) k d in
        let P : Rule → Type 0 = IsIn (length p.cells + length p.threads * step) in
        elim (rule_from p step k rule (slice_get-get_or (rules_of p step) k d small)) [
          | inl r ↦ subst P (sym r.is) (start_rule_in r.at r.of r.stands (0 + r.at) (omega arith))
          | inr r ↦ subst P (sym r.is) (instr_rule_in r.t r.thread r.it r.runs
              (all_at (IsInstrIn p r.thread) r.thread.code (all_at (IsThreadIn p) p.threads valid.each_thread r.t r.thread r.runs).instructions r.j r.it r.stands))
        ]
