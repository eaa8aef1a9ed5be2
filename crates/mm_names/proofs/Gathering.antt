-- What is gathered along a list.
use Rattle.std.proofs.Common.{arith, ◌≡◌, refl, ap, sym, ◌∙◌, ℕ, ◌+◌, ◌<◌, List, [], ◌∷◌, ◌++◌, length, take, get_or, fold, Option, sum_by, append_assoc}
use Rattle.std.specs.List.{flat_map, filter_map}
use Rattle.std.proofs.lemmas.Grind.{fold-append, flat_map-append}
use Rattle.std.proofs.lemmas.List.{append-nil, take_more}
use Rattle.std.proofs.lemmas.List.Elements.{filter_map-append}
use Rattle.std.proofs.lemmas.List.FromFn.{map-range_with_len_more}
use Rattle.std.proofs.lemmas.List.Sums.{sum_by-append}
use Rattle.mm_tree.specs.declared.item.Global.{Global}
use Rattle.mm_names.specs.Results.{Places, cell_at, cells_to}

take_next : {X : Type 0} (xs : List X) (i : ℕ) (x : X) → i < length xs → x ≡ get_or xs i x → take (i + 1) xs ≡ take i xs ++ x ∷ []
take_next xs i x below is = take_more xs i x below ∙ ap (λ (y : _). take i xs ++ y ∷ []) (sym is)

pub flat_map-next : {X Y : Type 0} (f : X → List Y) (xs : List X) (i : ℕ) (x : X) → i < length xs → x ≡ get_or xs i x → flat_map f (take (i + 1) xs) ≡ flat_map f (take i xs) ++ f x
flat_map-next f xs i x below is =
    ap (flat_map f) (take_next xs i x below is) ∙ flat_map-append f (take i xs) (x ∷ []) ∙ ap (λ ys. flat_map f (take i xs) ++ ys) (append-nil (f x))

pub filter_map-next : {X Y : Type 0} (f : X → Option Y) (xs : List X) (i : ℕ) (x : X) → i < length xs → x ≡ get_or xs i x → filter_map f (take (i + 1) xs) ≡ filter_map f (take i xs) ++ filter_map f (x ∷ [])
filter_map-next f xs i x below is = ap (filter_map f) (take_next xs i x below is) ∙ filter_map-append f (take i xs) (x ∷ [])

pub fold-flat_map-next : {X Y Z : Type 0} (g : Z → Y → Z) (z : Z) (f : X → List Y) (xs : List X) (i : ℕ) (x : X) → i < length xs → x ≡ get_or xs i x → fold g z (flat_map f (take (i + 1) xs)) ≡ fold g (fold g z (flat_map f (take i xs))) (f x)
fold-flat_map-next g z f xs i x below is = ap (fold g z) (flat_map-next f xs i x below is) ∙ fold-append g z (flat_map f (take i xs)) (f x)

pub sum-flat_map-next : {X Y : Type 0} (g : Y → ℕ) (f : X → List Y) (xs : List X) (i : ℕ) (x : X) → i < length xs → x ≡ get_or xs i x → sum_by g (flat_map f (take (i + 1) xs)) ≡ sum_by g (flat_map f (take i xs)) + sum_by g (f x)
sum-flat_map-next g f xs i x below is = ap (sum_by g) (flat_map-next f xs i x below is) ∙ sum_by-append g (flat_map f (take i xs)) (f x)

pub cells-none : (places : Places) (g : Global) → cells_to places g 0 ≡ []
unfolding cells_to
cells-none places g = refl

pub cells-next : (places : Places) (g : Global) (k : ℕ) → cells_to places g (k + 1) ≡ cells_to places g k ++ cell_at places g k ∷ []
unfolding cells_to
cells-next places g k = map-range_with_len_more (cell_at places g) 0 k k (omega arith)

pub ruleset in_cells = (cells-none, cells-next, append-nil, append_assoc)

pub ruleset in_lists = (flat_map-next, filter_map-next)

pub ruleset in_items = (fold-flat_map-next, sum-flat_map-next)
