-- Each global of an accepted source has cells of its type, and each cell is a source's.
use Rattle.std.proofs.Common.{arith, ◌≡◌, ℕ, zero, suc, ℤ, pos, negsuc, ◌+◌, ◌<◌, ◌≤◌, ◌^◌, Bool, true, false, cond, List, [], ◌∷◌, ◌++◌, length, All, refl, ◌∙◌, sym, ap, subst, zero-add, append_assoc, Option, Some, None}
use Rattle.std.specs.Prelude.{◌≤ℤ◌}
use Rattle.std.specs.List.{AllByRecursion, slice_get}
use Rattle.std.specs.Str.{bytes_eq}
use Rattle.std.proofs.lemmas.List.{length-append}
use Rattle.std.proofs.lemmas.List.Elements.{All-from_recursion}
use Rattle.mm_goto.specs.declared.program.Cell.{Cell}
use Rattle.mm_goto.specs.declared.pure.Pure.{Pure}
use Rattle.mm_goto.specs.Kinds.{IsOf, IsRowOfInts, kinds_of}
use Rattle.mm_goto.specs.Listing.{Listing}
use Rattle.mm_goto.specs.Locals.{rows_of}
use Rattle.mm_goto.specs.Parts.{addressed, arrays_of, numbers}
use Rattle.mm_goto.specs.Sourcelike.{IsSingle, IsSourceCell, IsWholeArray}
use Rattle.mm_tree.specs.declared.expr.Expr.{Expr}
use Rattle.mm_tree.specs.declared.item.Global.{Global}
use Rattle.mm_tree.specs.declared.item.Item.{Item}
use Rattle.mm_tree.specs.declared.item.Tree.{Tree}
use Rattle.mm_tree.specs.declared.side.Side.TheVariants.{Source}
use Rattle.mm_flow.specs.declared.names.Spot.{Spot}
use Rattle.mm_flow.specs.Expressions.{the_spot}
use Rattle.mm_flow.specs.Programs.{capped, cell_count, cells_in, cells_of, cells_of_length, elements, first_start, globals_in, length_of, limit_passed, most_cells, natural, parts_of, program_of, spots, start_value}
use Rattle.mm_flow.specs.Scopes.{spot_of}
use Rattle.mm_names.specs.Items.{ahead}
use Rattle.mm_names.specs.Programs.{IsAccepted}
use Rattle.mm_sourcelike.specs.Grammatical.{IsGlobal, IsGrammatical, IsOfInts}
use Rattle.mm_sourcelike.specs.Ints.{all_numbers, numbers_of}
use Rattle.mm_sourcelike.proofs.Cells.{EachHasCells, at_right, element_at, in_middle, part_length, some_and, uncapped}
use Rattle.mm_sourcelike.proofs.CellsOf.{cells_each}
use Rattle.mm_sourcelike.proofs.Distinct.{EachDiffers, items_once}
use Rattle.mm_sourcelike.proofs.Evaluating.{all_left, all_right}
use Rattle.mm_sourcelike.proofs.Judging.{KindIs}
use Rattle.mm_sourcelike.proofs.Scoping.{none_is_not, same_some}
use Rattle.mm_sourcelike.proofs.Tables.{itself}
use Rattle.mm_sourcelike.proofs.TypedNames.{GlobalsFit, SpotFits}
use Rattle.mm_sourcelike.proofs.TypedStarts.{StartTyped, Starts, no_pointers, start_numbers, zero_numbers, zero_typed}
use Rattle.mm_sourcelike.proofs.Validity.{accepted_notes, all_at_index, at_most, fine, limits_kept}

-- ---- the cells of one global

-- the first cell of these globals, where there is one, is the first of its array or no element
first_index : (ss : List Spot) (gs : List Global) (a : Cell) (n : ℕ) → EachHasCells gs → slice_get (cells_of ss gs) 0 ≡ Some a → a.index ≡ Some n → n ≡ 0
first_index ss [] a n h e f = absurd (none_is_not a e)
first_index ss (g ∷ gs) a n h e f = by g.len h.0 e
  where
    by : (len : Option ℤ) → 1 ≤ length_of len → slice_get (cells_of_length ss g len ++ cells_of ss gs) 0 ≡ Some a → n ≡ 0
    by None l q = absurd (none_is_not n (ap (λ (c : Cell). c.index) (same_some _ a q) ∙ f))
    by (Some z) l q =
        let r = element_at ss g 0 (natural z) g.init 0 (omega (arith, l)) in
        let there : slice_get (elements ss g 0 (natural z) g.init ++ cells_of ss gs) 0 ≡ Some r.0 = first_of (elements ss g 0 (natural z) g.init) (cells_of ss gs) r.0 r.1 in
        let index : Some n ≡ Some (0 + 0) = sym f ∙ (ap (λ (c : Cell). c.index) (same_some a r.0 (sym q ∙ there)) ∙ r.2.index) in
        same_some n (0 + 0) index ∙ zero-add 0
      where
        first_of : (xs ys : List Cell) (c : Cell) → slice_get xs 0 ≡ Some c → slice_get (xs ++ ys) 0 ≡ Some c
        first_of [] ys c w = absurd (none_is_not c w)
        first_of (x ∷ xs) ys c w = w

module _ (p : Listing) (ss : List Spot) (g : Global) (gs : List Global) (xs : List Cell) where
  single_fits : p.cells ≡ xs ++ (cells_of_length ss g None ++ cells_of ss gs) → SpotFits p (record { name = g.name; first = length xs; len = 1 }) g.pointer None
  single_fits e =
      let cell : Cell = record { name = g.name; index = None; pointer = g.pointer; init = first_start ss g.init } in
      let i : length xs ≡ length xs + 0 = omega arith in
      let at : slice_get p.cells (length xs) ≡ Some cell = ap (λ cs. slice_get cs (length xs)) e ∙ (ap (slice_get (xs ++ (cell ∷ cells_of ss gs))) i ∙ at_right xs (cell ∷ cells_of ss gs) 0) in
      record { pointer = some_and (λ (c : Cell). c.pointer ≡ g.pointer) (slice_get p.cells (length xs)) cell at refl; single = some_and (λ (c : Cell). c.index ≡ None) (slice_get p.cells (length xs)) cell at refl }

  array_fits : (z : ℤ) → p.cells ≡ xs ++ (cells_of_length ss g (Some z) ++ cells_of ss gs) → 1 ≤ natural z → g.pointer ≡ false → EachHasCells gs → SpotFits p (record { name = g.name; first = length xs; len = natural z }) g.pointer (Some z)
  array_fits z e l ints rest = record {
    whole = record {
      first = let r = found 0 l in some_and (λ (a : Cell). a.index ≡ Some 0) (slice_get p.cells (length xs)) r.0 (ap (slice_get p.cells) start ∙ r.1) r.2;
      last = λ a q f. omega (arith, l, first_index ss gs a (natural z) rest (sym behind ∙ q) f);
    };
    ints = λ k h. let r = found k h in some_and (λ (a : Cell). a.pointer ≡ false) (slice_get p.cells (length xs + k)) r.0 r.1 r.3;
  }
    where
      part : List Cell
      part = elements ss g 0 (natural z) g.init

      start : length xs ≡ length xs + 0
      start = omega arith

      found : (k : ℕ) → k < natural z → (a : Cell) × (slice_get p.cells (length xs + k) ≡ Some a) × (a.index ≡ Some k) × (a.pointer ≡ false)
      found k h =
          let r = element_at ss g 0 (natural z) g.init k h in
          let here = in_middle xs part (cells_of ss gs) k (omega (arith, h, part_length ss g (Some z))) in
          (r.0, ap (λ cs. slice_get cs (length xs + k)) e ∙ (here ∙ r.1), r.2.index ∙ ap Some (zero-add k), r.2.pointer ∙ ints)

      behind : slice_get p.cells (length xs + natural z) ≡ slice_get (cells_of ss gs) 0
      behind =
          let long : length (xs ++ part) + 0 ≡ length xs + natural z = omega (arith, length-append xs part, part_length ss g (Some z)) in
          ap (λ cs. slice_get cs (length xs + natural z)) (e ∙ sym (append_assoc xs part (cells_of ss gs))) ∙ (ap (slice_get ((xs ++ part) ++ cells_of ss gs)) (sym long) ∙ at_right (xs ++ part) (cells_of ss gs) 0)

  part_fits : (len : Option ℤ) → p.cells ≡ xs ++ (cells_of_length ss g len ++ cells_of ss gs) → 1 ≤ length_of len → IsOfInts len g.pointer → EachHasCells gs → SpotFits p (record { name = g.name; first = length xs; len = length_of len }) g.pointer len
  part_fits None e l ints rest = single_fits e
  part_fits (Some z) e l ints rest = array_fits z e l ints rest

-- ---- all globals

-- the spot of the global's name, and its cells
record HasCells (p : Listing) (spots : List Spot) (g : Global) : Type 0 where
  spot : Spot
  is : spot_of spots g.name ≡ Some spot
  fits : SpotFits p spot g.pointer g.len

module _ (p : Listing) (ss : List Spot) where
  cells_from : (gs : List Global) (k : ℕ) (g : Global) (xs : List Cell) (n : ℕ) → p.cells ≡ xs ++ cells_of ss gs → length xs ≡ n → n + cell_count gs < 2 ^ 32 → EachDiffers gs → EachHasCells gs → AllByRecursion IsGlobal gs → slice_get gs k ≡ Some g → HasCells p (spots gs n) g
  cells_from [] k g xs n e l r d c h q = absurd (none_is_not g q)
  cells_from (f ∷ gs) zero g xs n e l r d c h q = subst (HasCells p (spots (f ∷ gs) n)) (same_some f g q) (record {
    spot = record { name = f.name; first = n; len = cells_in f };
    is = ap (λ b. cond b (Some (record { name = f.name; first = n; len = cells_in f })) (spot_of (spots gs (capped (n + cells_in f))) f.name)) (itself f.name);
    fits = subst (λ m. SpotFits p (record { name = f.name; first = m; len = cells_in f }) f.pointer f.len) l (part_fits p ss f gs xs f.len e c.0 h.0.array c.1);
  })
  cells_from (f ∷ gs) (suc k) g xs n e l r d c h q =
      let part : List Cell = cells_of_length ss f f.len in
      let next : ℕ = n + cells_in f in
      let long : length (xs ++ part) ≡ next = length-append xs part ∙ rw (l, part_length ss f f.len) refl in
      let is : capped next ≡ next = uncapped next (omega arith) in
      let more : p.cells ≡ (xs ++ part) ++ cells_of ss gs = e ∙ sym (append_assoc xs part (cells_of ss gs)) in
      let other : bytes_eq f.name g.name ≡ false = all_at_index (λ (h : Global). bytes_eq f.name h.name ≡ false) gs k g d.0 q in
      let rest : HasCells p (spots gs (capped next)) g = subst (λ m. HasCells p (spots gs m) g) (sym is) (cells_from gs k g (xs ++ part) next more long (omega arith) d.1 c.1 h.1 q) in
      record {
        spot = rest.spot;
        is = ap (λ b. cond b (Some (record { name = f.name; first = n; len = cells_in f })) (spot_of (spots gs (capped next)) g.name)) other ∙ rest.is;
        fits = rest.fits;
      }

module _ (tree : Tree) (g : IsGrammatical Source tree) (accepted : IsAccepted Source tree) (none : limit_passed Source tree ≡ None) where
  abbrev items : List Item
  items = tree.items

  abbrev p : Listing
  p = program_of Source tree

  abbrev ss : List Spot
  ss = (parts_of Source items).spots

  pub globals_fit : GlobalsFit p items ss
  globals_fit = record { each = λ k q e. by k q e }
    where
      few : 0 + cell_count (globals_in items) < 2 ^ 32
      few = omega (arith, at_most most_cells (cell_count (globals_in items)) (limits_kept Source items (parts_of Source items) none).cells)

      by : (k : ℕ) (q : Global) → slice_get (globals_in items) k ≡ Some q → SpotFits p (the_spot (spot_of ss q.name)) q.pointer q.len
      by k q e =
          let once = items_once Source items 0 items (ahead [] 0 items) (accepted_notes Source tree accepted) in
          let r = cells_from p ss (globals_in items) k q [] 0 refl refl few once.globals (fine Source tree g.ints g.scoped accepted none).globals.cells g.globals e in
          subst (λ o. SpotFits p (the_spot o) q.pointer q.len) (sym r.is) r.fits

  -- ---- start values

  abbrev IsAboveLeast : ℤ → Type 0
  IsAboveLeast z = negsuc 2147483646 ≤ℤ z

  -- a start value of the global fits it, and its numbers are above the least int
  record StartFits (q : Global) (e : Pure) : Type 0 where
    typed : StartTyped p q.pointer e
    numbers_above : AllByRecursion IsAboveLeast (numbers e)

  least : IsAboveLeast (pos 0)
  least = omega arith

  starts_above : (es : List Expr) → AllByRecursion IsAboveLeast (all_numbers es) → AllByRecursion (λ e. AllByRecursion IsAboveLeast (numbers (start_value ss e))) es
  starts_above [] h = tt
  starts_above (e ∷ es) h = (start_numbers IsAboveLeast least ss e (all_left IsAboveLeast (numbers_of e) (all_numbers es) h), starts_above es (all_right IsAboveLeast (numbers_of e) (all_numbers es) h))

  joined_starts : (q : Global) (es : List Expr) → AllByRecursion (λ e. StartTyped p q.pointer (start_value ss e)) es → AllByRecursion (λ e. AllByRecursion IsAboveLeast (numbers (start_value ss e))) es → AllByRecursion (λ e. StartFits q (start_value ss e)) es
  joined_starts q [] h k = tt
  joined_starts q (e ∷ es) h k = (record { typed = h.0; numbers_above = k.0 }, joined_starts q es h.1 k.1)

  all_starts : (gs : List Global) → AllByRecursion (Starts ss (λ q e. StartTyped p q.pointer e)) gs → AllByRecursion IsGlobal gs → AllByRecursion (Starts ss StartFits) gs
  all_starts [] h k = tt
  all_starts (q ∷ gs) h k = (joined_starts q q.init h.0 (starts_above q.init k.0.numbers), all_starts gs h.1 k.1)

  source_cell : (q : Global) (cell : Cell) → cell.pointer ≡ q.pointer → StartFits q cell.init → IsSourceCell p cell
  source_cell q cell e h = record {
    typed = cell_typed cell.pointer (subst (KindIs (kinds_of no_pointers cell.init)) (sym e) h.typed.kind);
    numbers = All-from_recursion IsAboveLeast (numbers cell.init) h.numbers_above;
    ints = All-from_recursion (IsRowOfInts p) (rows_of cell.init) h.typed.tidy.ints;
    arrays = All-from_recursion (IsWholeArray p) (arrays_of cell.init) h.typed.tidy.arrays;
    singles = All-from_recursion (IsSingle p) (addressed cell.init) h.typed.tidy.singles;
  }
    where
      cell_typed : (b : Bool) → KindIs (kinds_of no_pointers cell.init) b → IsOf (λ l. false) cell.init b
      cell_typed true k = k
      cell_typed false k = k

  pub source_cells : All (IsSourceCell p) p.cells
  source_cells =
      All-from_recursion (IsSourceCell p) p.cells
      (cells_each ss StartFits (λ q. Unit {0}) (IsSourceCell p)
      (λ q. record { typed = zero_typed p q.pointer; numbers_above = zero_numbers IsAboveLeast least })
      (λ q n s r i e h. source_cell q (record { name = q.name; index = Some i; pointer = q.pointer; init = e }) refl h)
      (λ q s r e h. source_cell q (record { name = q.name; index = None; pointer = q.pointer; init = e }) refl h)
      (globals_in items) (each_global (globals_in items)) (all_starts (globals_in items) ((fine Source tree g.ints g.scoped accepted none).globals.typed globals_fit) g.globals))
    where
      each_global : (gs : List Global) → AllByRecursion (λ (q : Global). Unit {0}) gs
      each_global [] = tt
      each_global (q ∷ gs) = (tt, each_global gs)
