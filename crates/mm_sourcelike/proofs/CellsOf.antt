-- What holds of the cells of globals, by the globals that they are of.
use Rattle.std.proofs.Common.{◌≡◌, ℕ, zero, suc, ℤ, ◌+◌, false, List, [], ◌∷◌, refl, subst, Option, Some, None}
use Rattle.std.specs.List.{AllByRecursion, slice_get}
use Rattle.mm_goto.specs.declared.program.Cell.{Cell}
use Rattle.mm_goto.specs.declared.pure.Pure.{Pure}
use Rattle.mm_tree.specs.declared.expr.Expr.{Expr}
use Rattle.mm_tree.specs.declared.item.Global.{Global}
use Rattle.mm_tree.specs.declared.item.Tree.{Tree}
use Rattle.mm_tree.specs.declared.side.Side.TheVariants.{Source}
use Rattle.mm_flow.specs.declared.names.Spot.{Spot}
use Rattle.mm_flow.specs.Expressions.{zero_value}
use Rattle.mm_flow.specs.Programs.{cells_of, cells_of_length, elements, first_start, globals_in, natural, parts_of, program_of, start_value}
use Rattle.mm_sourcelike.specs.Grammatical.{IsGlobal, IsGrammatical, IsOfInts}
use Rattle.mm_sourcelike.proofs.Cells.{both_all}
use Rattle.mm_sourcelike.proofs.Scoping.{none_is_not}
use Rattle.mm_sourcelike.proofs.Tables.{all_weaker}
use Rattle.mm_sourcelike.proofs.TypedStarts.{Starts}
use Rattle.mm_sourcelike.proofs.Validity.{all_at_index}

pub anything : (ss : List Spot) (gs : List Global) → AllByRecursion (Starts ss (λ g e. Unit {0})) gs
anything ss [] = tt
anything ss (g ∷ gs) = (each g.init, anything ss gs)
  where
    each : (es : List Expr) → AllByRecursion (λ e. Unit {0}) es
    each [] = tt
    each (e ∷ es) = (tt, each es)

module _ (ss : List Spot) (S : Global → Pure → Type 0) (R : Global → Type 0) (P : Cell → Type 0)
    (absent : (g : Global) → S g zero_value)
    (element : (g : Global) (n : ℤ) → g.len ≡ Some n → R g → (i : ℕ) (e : Pure) → S g e → P (record { name = g.name; index = Some i; pointer = g.pointer; init = e }))
    (single : (g : Global) → g.len ≡ None → R g → (e : Pure) → S g e → P (record { name = g.name; index = None; pointer = g.pointer; init = e })) where
  elements_each : (g : Global) (n : ℤ) → g.len ≡ Some n → R g → (i count : ℕ) (es : List Expr) → AllByRecursion (λ e. S g (start_value ss e)) es → AllByRecursion P (elements ss g i count es)
  elements_each g n s r i zero es h = tt
  elements_each g n s r i (suc c) [] h = (element g n s r i zero_value (absent g), elements_each g n s r (i + 1) c [] h)
  elements_each g n s r i (suc c) (e ∷ es) h = (element g n s r i (start_value ss e) h.0, elements_each g n s r (i + 1) c es h.1)

  first_each : (g : Global) (es : List Expr) → AllByRecursion (λ e. S g (start_value ss e)) es → S g (first_start ss es)
  first_each g [] h = absent g
  first_each g (e ∷ es) h = h.0

  part_each : (g : Global) (len : Option ℤ) → g.len ≡ len → R g → Starts ss S g → AllByRecursion P (cells_of_length ss g len)
  part_each g (Some n) s r h = elements_each g n s r 0 (natural n) g.init h
  part_each g None s r h = (single g s r (first_start ss g.init) (first_each g g.init h), tt)

  pub cells_each : (gs : List Global) → AllByRecursion R gs → AllByRecursion (Starts ss S) gs → AllByRecursion P (cells_of ss gs)
  cells_each [] r h = tt
  cells_each (g ∷ gs) r h = both_all P (cells_of_length ss g g.len) (cells_of ss gs) (part_each g g.len refl r.0 h.0) (cells_each gs r.1 h.1)

-- ---- elements are ints

abbrev IsElementOfInts : Cell → Type 0
IsElementOfInts c = (i : ℕ) → c.index ≡ Some i → c.pointer ≡ false

pub elements_are_ints : (tree : Tree) → IsGrammatical Source tree → (c i : ℕ) (a : Cell) → slice_get (program_of Source tree).cells c ≡ Some a → a.index ≡ Some i → a.pointer ≡ false
elements_are_ints tree g c i a e f =
    let ss : List Spot = (parts_of Source tree.items).spots in
    all_at_index IsElementOfInts (program_of Source tree).cells c a
    (cells_each ss (λ q d. Unit {0}) (λ (q : Global). IsOfInts q.len q.pointer) IsElementOfInts (λ q. tt)
    (λ q n s h j d u k m. subst (λ l. IsOfInts l q.pointer) s h) (λ q s h d u k m. absurd (none_is_not k m))
    (globals_in tree.items) (all_weaker IsGlobal (λ (q : Global). IsOfInts q.len q.pointer) (λ q h. h.array) (globals_in tree.items) g.globals) (anything ss (globals_in tree.items))) e i f
