-- The elements of an array stand together in the order of their indexes.
use Rattle.std.proofs.Common.{arith, ◌≡◌, ◌⊎◌, inl, inr, ℕ, ℤ, zero, suc, ◌+◌, ◌-◌, ◌<◌, ◌≤◌, List, [], ◌∷◌, ◌++◌, length, refl, ◌∙◌, sym, ap, subst, Option, Some, None, IsSomeAnd}
use Rattle.std.specs.List.{slice_get}
use Rattle.std.proofs.lemmas.Bool.{cases_lt}
use Rattle.std.proofs.lemmas.Option.{slice_get_within}
use Rattle.mm_goto.specs.declared.program.Cell.{Cell}
use Rattle.mm_tree.specs.declared.expr.Expr.{Expr}
use Rattle.mm_tree.specs.declared.item.Global.{Global}
use Rattle.mm_tree.specs.declared.item.Tree.{Tree}
use Rattle.mm_tree.specs.declared.side.Side.{Side}
use Rattle.mm_flow.specs.declared.names.Spot.{Spot}
use Rattle.mm_flow.specs.Programs.{cells_of, cells_of_length, elements, globals_in, natural, parts_of, program_of}
use Rattle.mm_sourcelike.proofs.Cells.{IsElement, at_left, at_right, element_at, elements_length}
use Rattle.mm_sourcelike.proofs.Scoping.{none_is_not, same_some}

-- before an element that is not the first stands the one of the index before it
abbrev pub Continues : List Cell → Type 0
Continues cells = (c i : ℕ) (a : Cell) → slice_get cells c ≡ Some a → a.index ≡ Some (i + 1) → (1 ≤ c) × IsSomeAnd (slice_get cells (c - 1)) (λ b. (b.name ≡ a.name) × (b.index ≡ Some i))

continues_both : (xs ys : List Cell) → Continues xs → Continues ys → Continues (xs ++ ys)
continues_both xs ys h g c i a e f = by (cases_lt c (length xs))
  where
    by : (c < length xs) ⊎ (length xs ≤ c) → (1 ≤ c) × IsSomeAnd (slice_get (xs ++ ys) (c - 1)) (λ b. (b.name ≡ a.name) × (b.index ≡ Some i))
    by (inl l) =
        let r = h c i a (sym (at_left xs ys c l) ∙ e) f in
        (r.0, subst (λ o. IsSomeAnd o (λ (b : Cell). (b.name ≡ a.name) × (b.index ≡ Some i))) (sym (at_left xs ys (c - 1) (omega arith))) r.1)
    by (inr l) =
        let k : ℕ = c - length xs in
        let here : length xs + k ≡ c = omega arith in
        let r = g k i a (sym (at_right xs ys k) ∙ (ap (slice_get (xs ++ ys)) here ∙ e)) f in
        let first : 1 ≤ k = r.0 in
        let before : length xs + (k - 1) ≡ c - 1 = omega arith in
        (omega arith, subst (λ o. IsSomeAnd o (λ (b : Cell). (b.name ≡ a.name) × (b.index ≡ Some i))) (sym (at_right xs ys (k - 1)) ∙ ap (slice_get (xs ++ ys)) before) r.1)

elements_continue : (ss : List Spot) (g : Global) (n : ℕ) (es : List Expr) → Continues (elements ss g 0 n es)
elements_continue ss g n es c i a e f =
    let within : c < length (elements ss g 0 n es) = slice_get_within (elements ss g 0 n es) c a e in
    let one = element_at ss g 0 n es c (omega (arith, elements_length ss g 0 n es)) in
    let same : one.0 ≡ a = same_some one.0 a (sym one.1 ∙ e) in
    let is : IsElement g.name (0 + c) g.pointer a = subst (IsElement g.name (0 + c) g.pointer) same one.2 in
    let index : i + 1 ≡ 0 + c = same_some (i + 1) (0 + c) (sym f ∙ is.index) in
    let two = element_at ss g 0 n es (c - 1) (omega (arith, elements_length ss g 0 n es)) in
    let last : 0 + (c - 1) ≡ i = omega arith in
    (omega arith, subst (λ o. IsSomeAnd o (λ (b : Cell). (b.name ≡ a.name) × (b.index ≡ Some i))) (sym two.1) (two.2.name ∙ sym is.name, two.2.index ∙ ap Some last))

one_continues : (cell : Cell) → cell.index ≡ None → Continues (cell ∷ [])
one_continues cell none zero i a e f = absurd (none_is_not (i + 1) (sym none ∙ (ap (λ (b : Cell). b.index) (same_some cell a e) ∙ f)))
one_continues cell none (suc c) i a e f = absurd (none_is_not a e)

part_continues : (ss : List Spot) (g : Global) (len : Option ℤ) → Continues (cells_of_length ss g len)
part_continues ss g (Some n) = elements_continue ss g (natural n) g.init
part_continues ss g None = one_continues _ refl

none_continues : Continues []
none_continues c i a e f = absurd (none_is_not a e)

cells_continue : (ss : List Spot) (gs : List Global) → Continues (cells_of ss gs)
cells_continue ss [] = none_continues
cells_continue ss (g ∷ gs) = continues_both (cells_of_length ss g g.len) (cells_of ss gs) (part_continues ss g g.len) (cells_continue ss gs)

pub arrays_continue : (side : Side) (tree : Tree) → Continues (program_of side tree).cells
arrays_continue side tree = cells_continue (parts_of side tree.items).spots (globals_in tree.items)
