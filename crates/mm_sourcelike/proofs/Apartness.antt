-- Two cells of one name are two elements of one array, no mutex has the name of another, and none that of a cell.
use Rattle.std.proofs.Common.{arith, ◌≡◌, ◌≢◌, ◌⊎◌, inl, inr, ℕ, zero, suc, ℤ, ◌+◌, ◌-◌, ◌<◌, ◌≤◌, false, List, [], ◌∷◌, length, refl, ◌∙◌, sym, ap, subst, zero-add, Option, Some, None}
use Rattle.std.specs.List.{AllByRecursion, slice_get}
use Rattle.std.specs.Str.{bytes_eq}
use Rattle.std.proofs.lemmas.Bool.{cases_lt}
use Rattle.std.proofs.lemmas.Option.{slice_get_within}
use Rattle.mm_goto.specs.declared.ident.Ident.{Ident}
use Rattle.mm_goto.specs.declared.program.Cell.{Cell}
use Rattle.mm_goto.specs.Sourcelike.{AreApart}
use Rattle.mm_tree.specs.declared.item.Global.{Global}
use Rattle.mm_tree.specs.declared.item.Tree.{Tree}
use Rattle.mm_tree.specs.declared.side.Side.{Side}
use Rattle.mm_flow.specs.declared.names.Spot.{Spot}
use Rattle.mm_flow.specs.Programs.{cells_of, cells_of_length, elements, globals_in, mutexes_in, natural, parts_of, program_of}
use Rattle.mm_names.specs.Items.{ahead}
use Rattle.mm_names.specs.Programs.{IsAccepted}
use Rattle.mm_sourcelike.proofs.Cells.{at_left, at_right, element_at, elements_length}
use Rattle.mm_sourcelike.proofs.Distinct.{EachDiffers, EachOnce, items_once, mutexes_among, mutexes_once_each, others_in}
use Rattle.mm_sourcelike.proofs.Scoping.{none_is_not, same_some}
use Rattle.mm_sourcelike.proofs.Tables.{itself, true_is_not}
use Rattle.mm_sourcelike.proofs.Validity.{accepted_notes, all_at_index}

-- ---- the cells of one global

record IsPart (g : Global) (count k : ℕ) (a : Cell) : Type 0 where
  name : a.name ≡ g.name
  place : (count ≡ 1) ⊎ (a.index ≡ Some k)

part_at : (ss : List Spot) (g : Global) (len : Option ℤ) (k : ℕ) (a : Cell) → slice_get (cells_of_length ss g len) k ≡ Some a → IsPart g (length (cells_of_length ss g len)) k a
part_at ss g (Some n) k a e =
    let within : k < length (elements ss g 0 (natural n) g.init) = slice_get_within (elements ss g 0 (natural n) g.init) k a e in
    let r = element_at ss g 0 (natural n) g.init k (omega (arith, within, elements_length ss g 0 (natural n) g.init)) in
    let same : r.0 ≡ a = same_some r.0 a (sym r.1 ∙ e) in
    record { name = ap (λ (c : Cell). c.name) (sym same) ∙ r.2.name; place = inr (ap (λ (c : Cell). c.index) (sym same) ∙ (r.2.index ∙ ap Some (zero-add k))) }
part_at ss g None zero a e = record { name = ap (λ (c : Cell). c.name) (sym (same_some _ a e)); place = inl refl }
part_at ss g None (suc k) a e = absurd (none_is_not a e)

abbrev Apart : ℕ → ℕ → Cell → Cell → Type 0
Apart c d a b = (c ≡ d) ⊎ ((a.index ≢ None) × (b.index ≢ None) × (a.index ≢ b.index))

two_indexes : (c d : ℕ) (a b : Cell) → a.index ≡ Some c → b.index ≡ Some d → (c ≡ d → ⊥) → Apart c d a b
two_indexes c d a b h g n = inr ((λ e. none_is_not c (sym e ∙ h)), (λ e. none_is_not d (sym e ∙ g)), (λ e. n (same_some c d (sym h ∙ (e ∙ g)))))

by_index : (c d : ℕ) (a b : Cell) → a.index ≡ Some c → b.index ≡ Some d → Apart c d a b
by_index c d a b h g = choose (cases_lt c d) (cases_lt d c)
  where
    choose : (c < d) ⊎ (d ≤ c) → (d < c) ⊎ (c ≤ d) → Apart c d a b
    choose (inl l) q = two_indexes c d a b h g (λ e. omega (arith, l, e))
    choose (inr l) (inl m) = two_indexes c d a b h g (λ e. omega (arith, m, e))
    choose (inr l) (inr m) = inl (omega (arith, l, m))

parts_apart : (g : Global) (count c d : ℕ) (a b : Cell) → c < count → d < count → IsPart g count c a → IsPart g count d b → Apart c d a b
parts_apart g count c d a b l m h k = by h.place k.place
  where
    by : (count ≡ 1) ⊎ (a.index ≡ Some c) → (count ≡ 1) ⊎ (b.index ≡ Some d) → Apart c d a b
    by (inl e) q = inl (omega (arith, l, m, e))
    by (inr e) (inl f) = inl (omega (arith, l, m, f))
    by (inr e) (inr f) = by_index c d a b e f

-- ---- the cells of all globals

-- where a cell stands: among those of the first global, or behind them
record Behind (ss : List Spot) (g : Global) (gs : List Global) (c : ℕ) (a : Cell) : Type 0 where
  place : ℕ
  is : c ≡ length (cells_of_length ss g g.len) + place
  at : slice_get (cells_of ss gs) place ≡ Some a

placed_at : (ss : List Spot) (g : Global) (gs : List Global) (c : ℕ) (a : Cell) → slice_get (cells_of ss (g ∷ gs)) c ≡ Some a
    → ((c < length (cells_of_length ss g g.len)) × IsPart g (length (cells_of_length ss g g.len)) c a) ⊎ Behind ss g gs c a
placed_at ss g gs c a e = choose (cases_lt c (length (cells_of_length ss g g.len)))
  where
    choose : (c < length (cells_of_length ss g g.len)) ⊎ (length (cells_of_length ss g g.len) ≤ c) → ((c < length (cells_of_length ss g g.len)) × IsPart g (length (cells_of_length ss g g.len)) c a) ⊎ Behind ss g gs c a
    choose (inl l) = inl (l, part_at ss g g.len c a (sym (at_left (cells_of_length ss g g.len) (cells_of ss gs) c l) ∙ e))
    choose (inr l) =
        let is : c ≡ length (cells_of_length ss g g.len) + (c - length (cells_of_length ss g g.len)) = omega (arith, l) in
        inr (record {
          place = c - length (cells_of_length ss g g.len);
          is = is;
          at = sym (at_right (cells_of_length ss g g.len) (cells_of ss gs) (c - length (cells_of_length ss g g.len))) ∙ (ap (slice_get (cells_of ss (g ∷ gs))) (sym is) ∙ e);
        })

-- what holds of the globals' names holds of the cells'
cell_name : (P : Ident → Type 0) (ss : List Spot) (gs : List Global) → AllByRecursion (λ (g : Global). P g.name) gs → (c : ℕ) (a : Cell) → slice_get (cells_of ss gs) c ≡ Some a → P a.name
cell_name P ss [] h c a e = absurd (none_is_not a e)
cell_name P ss (g ∷ gs) h c a e = by (placed_at ss g gs c a e) (λ place at. cell_name P ss gs h.1 place a at)
  where
    by : ((c < length (cells_of_length ss g g.len)) × IsPart g (length (cells_of_length ss g g.len)) c a) ⊎ Behind ss g gs c a → ((k : ℕ) → slice_get (cells_of ss gs) k ≡ Some a → P a.name) → P a.name
    by (inl r) rest = subst P (sym r.1.name) h.0
    by (inr r) rest = rest r.place r.at

clash : {A : Type 0} (x y : Ident) → x ≡ y → bytes_eq x y ≡ false → A
clash x y e h = true_is_not (sym (itself x) ∙ (ap (bytes_eq x) e ∙ h))

cells_apart : (ss : List Spot) (gs : List Global) → EachDiffers gs → (c d : ℕ) (a b : Cell) → slice_get (cells_of ss gs) c ≡ Some a → slice_get (cells_of ss gs) d ≡ Some b → a.name ≡ b.name → Apart c d a b
cells_apart ss [] h c d a b e f n = absurd (none_is_not a e)
cells_apart ss (g ∷ gs) h c d a b e f n = by (placed_at ss g gs c a e) (placed_at ss g gs d b f) (λ p q i j. cells_apart ss gs h.1 p q a b i j n)
  where
    moved : (p q : ℕ) → c ≡ length (cells_of_length ss g g.len) + p → d ≡ length (cells_of_length ss g g.len) + q → Apart p q a b → Apart c d a b
    moved p q i j (inl k) = inl (omega (arith, i, j, k))
    moved p q i j (inr k) = inr k

    by : ((c < length (cells_of_length ss g g.len)) × IsPart g (length (cells_of_length ss g g.len)) c a) ⊎ Behind ss g gs c a
        → ((d < length (cells_of_length ss g g.len)) × IsPart g (length (cells_of_length ss g g.len)) d b) ⊎ Behind ss g gs d b
        → ((p q : ℕ) → slice_get (cells_of ss gs) p ≡ Some a → slice_get (cells_of ss gs) q ≡ Some b → Apart p q a b) → Apart c d a b
    by (inl r) (inl s) rest = parts_apart g (length (cells_of_length ss g g.len)) c d a b r.0 s.0 r.1 s.1
    by (inl r) (inr s) rest = clash g.name b.name (sym r.1.name ∙ n) (cell_name (λ y. bytes_eq g.name y ≡ false) ss gs h.0 s.place b s.at)
    by (inr r) (inl s) rest = clash g.name a.name (sym s.1.name ∙ sym n) (cell_name (λ y. bytes_eq g.name y ≡ false) ss gs h.0 r.place a r.at)
    by (inr r) (inr s) rest = moved r.place s.place r.is s.is (rest r.place s.place r.at s.at)

-- ---- mutexes

mutexes_apart : (ms : List Ident) → EachOnce ms → (m n : ℕ) (x : Ident) → slice_get ms m ≡ Some x → slice_get ms n ≡ Some x → m ≡ n
mutexes_apart [] h m n x e f = absurd (none_is_not x e)
mutexes_apart (y ∷ ms) h zero zero x e f = refl
mutexes_apart (y ∷ ms) h zero (suc n) x e f = clash y x (same_some y x e) (all_at_index (λ z. bytes_eq y z ≡ false) ms n x h.0 f)
mutexes_apart (y ∷ ms) h (suc m) zero x e f = clash y x (same_some y x f) (all_at_index (λ z. bytes_eq y z ≡ false) ms m x h.0 e)
mutexes_apart (y ∷ ms) h (suc m) (suc n) x e f = ap suc (mutexes_apart ms h.1 m n x e f)

-- ---- the whole

pub names_apart : (side : Side) (tree : Tree) → IsAccepted side tree → AreApart (program_of side tree)
names_apart side tree accepted =
    let once = items_once side tree.items 0 tree.items (ahead [] 0 tree.items) (accepted_notes side tree accepted) in
    record {
      cells = λ c d a b e f n. cells_apart (parts_of side tree.items).spots (globals_in tree.items) once.globals c d a b e f n;
      mutexes = λ m n x e f. mutexes_apart (mutexes_in tree.items) (mutexes_once_each tree.items once.mutexes) m n x e f;
      neither = λ c m a x e f same.
          clash a.name x same (all_at_index (λ y. bytes_eq a.name y ≡ false) (mutexes_in tree.items) m x
          (mutexes_among (λ z. bytes_eq a.name z ≡ false) tree.items (cell_name (λ y. AllByRecursion (λ z. bytes_eq y z ≡ false) (others_in tree.items)) (parts_of side tree.items).spots (globals_in tree.items) once.neither c a e)) f);
    }
