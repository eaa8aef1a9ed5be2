-- What is behind items that stand one behind another.
use Rattle.std.proofs.Common.{arith, ◌≡◌, refl, ap, sym, ◌∙◌, ℕ, ◌+◌, ◌<◌, List, [], ◌∷◌, length, take, get_or, fold, append_assoc}
use Rattle.std.proofs.lemmas.Grind.{fold-append}
use Rattle.std.proofs.lemmas.List.{append-nil}
use Rattle.std.proofs.lemmas.List.Sums.{fold_more}
use Rattle.std.proofs.Math.Seq.{take-append_seam}
use Rattle.mm_tree.specs.declared.item.Item.{Item}
use Rattle.mm_tree.specs.declared.side.Side.{Side}
use Rattle.mm_scope.specs.declared.walk.Walk.{Walk}
use Rattle.mm_scope.proofs.Steps as steps
use Rattle.mm_names.specs.Items.{listed_item, listed_items}
use Rattle.mm_names.specs.Tops.{Top, after_top, top_then, tops, no_more}

pub after-then : (f g : Top) (w : Walk) → after_top (top_then f g) w ≡ after_top g (after_top f w)
unfolding after_top top_then
after-then f g w = simp fold-append

pub after-none : {X : Type 0} (f : X → Top) (w : Walk) → after_top (tops f []) w ≡ w
unfolding after_top tops no_more
after-none f w = refl

pub after-no_more : (w : Walk) → after_top no_more w ≡ w
unfolding after_top no_more
after-no_more w = refl

after-fold : {X : Type 0} (f : X → Top) (xs : List X) (w : Walk) → after_top (tops f xs) w ≡ fold (λ v x. after_top (f x) v) w xs
unfolding tops
after-fold f [] w = after-none f w
after-fold f (x ∷ xs) w = after-then (f x) (tops f xs) w ∙ after-fold f xs (after_top (f x) w)

pub after-next : {X : Type 0} (f : X → Top) (xs : List X) (i : ℕ) (x : X) (w : Walk) → i < length xs → x ≡ get_or xs i x → after_top (tops f (take (i + 1) xs)) w ≡ after_top (f x) (after_top (tops f (take i xs)) w)
after-next f xs i x w below is =
    after-fold f (take (i + 1) xs) w
    ∙ fold_more (λ v y. after_top (f y) v) w xs i x below
    ∙ ap (λ (y : _). after_top (f y) (fold (λ v z. after_top (f z) v) w (take i xs))) (sym is)
    ∙ ap (after_top (f x)) (sym (after-fold f (take i xs) w))

pub ruleset in_tops = (after-then, after-none, after-no_more)

pub ruleset in_loops = (after-none, after-next)

pub ruleset seams = (append-nil, take-append_seam, fold-append)

pub ruleset in_steps = steps.in_steps

pub ruleset in_step_loops = steps.in_loops

-- ---- items

-- the walk behind items from number k on
unfoldable pub behind_items : Side → List Item → ℕ → List Item → Walk → Walk
behind_items side all k [] w = w
behind_items side all k (i ∷ is) w = behind_items side all (k + 1) is (after_top (listed_item side all k i) w)

pub after-items : (side : Side) (all : List Item) (k : ℕ) (is : List Item) (w : Walk) → after_top (listed_items side all k is) w ≡ behind_items side all k is w
unfolding behind_items listed_items
after-items side all k [] w = after-no_more w
after-items side all k (i ∷ is) w = after-then (listed_item side all k i) (listed_items side all (k + 1) is) w ∙ after-items side all (k + 1) is (after_top (listed_item side all k i) w)

pub behind-none : (side : Side) (all : List Item) (k : ℕ) (is : List Item) (w : Walk) → length is < 1 → behind_items side all k is w ≡ w
unfolding behind_items
behind-none side all k [] w none = refl
behind-none side all k (i ∷ is) w none = absurd (omega arith)

pub ruleset in_listing = after-items
