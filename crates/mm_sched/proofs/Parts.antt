-- The pending stores that count for a cell, as code finds and counts them.
use Rattle.std.proofs.Common.{◌≡◌, List, [], ◌∷◌, Bool, true, false, Some, slice_get, refl, cond}
use Rattle.std.proofs.lemmas.List.Sums.{length-filter}
use Rattle.std.specs.Prelude.{find, filter}

-- the first that passes is the first of those that pass
pub first_of_filter : {A : Type 0} (p : A → Bool) (xs : List A) → slice_get (filter p xs) 0 ≡ find p xs
first_of_filter p [] = refl
first_of_filter {A = A} p (x ∷ xs) = go (p x) (first_of_filter p xs)
  where
    go : (b : Bool) → slice_get (filter p xs) 0 ≡ find p xs → slice_get (cond b (x ∷ filter p xs) (filter p xs)) 0 ≡ cond b (Some x) (find p xs)
    go true h = refl
    go false h = h

pub ruleset parts = (length-filter, first_of_filter)
