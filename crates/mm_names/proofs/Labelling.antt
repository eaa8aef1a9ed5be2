-- What is behind labels that stand one behind another.
use Rattle.std.proofs.Common.{arith, ◌≡◌, refl, ap, sym, ◌∙◌, ℕ, ◌+◌, ◌<◌, List, [], ◌∷◌, ◌++◌, length, take, get_or, fold, map, append_assoc}
use Rattle.std.proofs.lemmas.Grind.{fold-append}
use Rattle.std.proofs.lemmas.List.{append-nil}
use Rattle.std.proofs.lemmas.List.Sums.{fold_more}
use Rattle.mm_tree.specs.declared.expr.Word.{Word}
use Rattle.mm_tree.specs.declared.stmt.StmtNode.{the_lemmas as stmt_lemmas}
use Rattle.mm_tree.specs.declared.side.Side.{Side}
use Rattle.mm_scope.specs.Scopes.{Table}
use Rattle.mm_names.specs.Labels.{Known, all_labels, with_label, with_labels, labels_notes, labelled}

notes-append : (side : Side) (t : Table) (xs ys : List Word) → labels_notes side t (xs ++ ys) ≡ labels_notes side t xs ++ labels_notes side (with_labels t xs) ys
unfolding labels_notes
notes-append side t [] ys = refl
notes-append side t (x ∷ xs) ys = rw (notes-append side (with_label t x) xs ys) (simp append_assoc)

pub labelled-append : (side : Side) (xs ys : List Word) (k : Known) → labelled side (xs ++ ys) k ≡ labelled side ys (labelled side xs k)
unfolding labelled
labelled-append side xs ys k = rw (notes-append side k.0 xs ys) (simp fold-append)

pub labelled-none : (side : Side) (k : Known) → labelled side [] k ≡ k
unfolding labelled labels_notes
labelled-none side k = refl

pub labelled-first : (side : Side) (w : Word) (ws : List Word) (k : Known) → labelled side (w ∷ ws) k ≡ labelled side ws (labelled side (w ∷ []) k)
labelled-first side w ws k = labelled-append side (w ∷ []) ws k

-- ---- the labels of statements one behind another

pub all-none : (side : Side) (k : Known) → labelled side (all_labels []) k ≡ k
unfolding all_labels
all-none side k = labelled-none side k

abbrev passed : {X : Type 0} → Side → (X → List Word) → Known → X → Known
passed side f k x = labelled side (f x) k

all-fold : {X : Type 0} (side : Side) (f : X → List Word) (xs : List X) (k : Known) → labelled side (all_labels (map f xs)) k ≡ fold (passed side f) k xs
unfolding all_labels
all-fold side f [] k = labelled-none side k
all-fold side f (x ∷ xs) k = labelled-append side (f x) (all_labels (map f xs)) k ∙ all-fold side f xs (labelled side (f x) k)

pub all-next : {X : Type 0} (side : Side) (f : X → List Word) (xs : List X) (i : ℕ) (x : X) (k : Known) → i < length xs → x ≡ get_or xs i x → labelled side (all_labels (map f (take (i + 1) xs))) k ≡ labelled side (f x) (labelled side (all_labels (map f (take i xs))) k)
all-next side f xs i x k below is =
    all-fold side f (take (i + 1) xs) k
    ∙ fold_more (passed side f) k xs i x below
    ∙ ap (λ (y : _). labelled side (f y) (fold (passed side f) k (take i xs))) (sym is)
    ∙ ap (labelled side (f x)) (sym (all-fold side f (take i xs) k))

pub ruleset seams = (append-nil, fold-append)

pub ruleset in_labels = (labelled-append, labelled-none)

pub ruleset in_blocks = (all-none, all-next)

pub ruleset in_statements = (labelled-append, labelled-none, labelled-first, stmt_lemmas)
