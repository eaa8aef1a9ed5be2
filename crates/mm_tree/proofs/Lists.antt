-- Lists that are equal under a function.
use Rattle.std.proofs.Common.{◌≡◌, ◌<◌, ◌∙◌, ap, sym, ℕ, List, length, map, get_or}
use Rattle.std.proofs.lemmas.List.{get_or-map}

-- where two lists are equal under f, so are their items at one place
pub same_at : {X Y : Type 0} (f : X → Y) (xs ys : List X) (i : ℕ) (x y : X) → i < length xs → i < length ys → x ≡ get_or xs i x → y ≡ get_or ys i y → map f xs ≡ map f ys → f x ≡ f y
same_at f xs ys i x y in_xs in_ys is_x is_y same =
    ap f is_x ∙ sym (get_or-map f xs i x (f x) in_xs) ∙ ap (λ l. get_or l i (f x)) same ∙ get_or-map f ys i y (f x) in_ys ∙ ap f (sym is_y)
