-- One more of the items of a list.
use Rattle.std.proofs.Common.{◌≡◌, ℕ, suc, ◌+◌, ◌<◌, List, ◌∷◌, ◌++◌, length, take, drop, get_or, ◌∙◌, sym, ap, add-one, append_assoc}
use Rattle.std.proofs.Math.Seq.{drop-cons, take-append_seam}
use Rattle.std.proofs.lemmas.List.{take-append-drop}

pub split_at : {A : Type 0} (xs : List A) (i : ℕ) (x : A) → i < length xs → x ≡ get_or xs i x → drop i xs ≡ x ∷ drop (i + 1) xs
split_at xs i x within is = rw (add-one, drop-cons xs i x within) (ap (λ y. y ∷ drop (suc i) xs) (sym is))

-- what is kept of a list that is kept
pub kept_on : {A : Type 0} (a b d : List A) → take (length a) b ≡ a → take (length b) d ≡ b → take (length a) d ≡ a
kept_on a b d f g =
    let eb : b ≡ a ++ drop (length a) b = sym (take-append-drop (length a) b) ∙ ap (λ y. y ++ drop (length a) b) f in
    let ed : d ≡ b ++ drop (length b) d = sym (take-append-drop (length b) d) ∙ ap (λ y. y ++ drop (length b) d) g in
    let all : d ≡ a ++ (drop (length a) b ++ drop (length b) d) = ed ∙ ap (λ y. y ++ drop (length b) d) eb ∙ append_assoc a (drop (length a) b) (drop (length b) d) in
    ap (take (length a)) all ∙ take-append_seam a (drop (length a) b ++ drop (length b) d)
