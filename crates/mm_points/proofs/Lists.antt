-- Elements of lists that are joined or mapped.
use Rattle.std.proofs.Common.{◌≡◌, ℕ, zero, suc, ◌+◌, List, [], ◌∷◌, ◌++◌, map, inl, inr, refl, sym, ap, Some, None}
use Rattle.std.specs.Prelude.{◌⊎◌, slice_get}

-- the list has the element somewhere
abbrev pub Among : {X : Type 0} → List X → X → Type 0
Among xs x = (i : ℕ) × (slice_get xs i ≡ Some x)

pub same_some : {X : Type 0} (x y : X) → Some x ≡ Some y → x ≡ y
same_some x y e = cc

pub no_some : {X : Type 0} (x : X) → None ≡ Some x → ⊥
no_some x e = cc

pub among_front : {X : Type 0} (xs ys : List X) (i : ℕ) (x : X) → slice_get xs i ≡ Some x → Among (xs ++ ys) x
among_front [] ys i x is = absurd (no_some x is)
among_front (y ∷ xs) ys zero x is = (zero, is)
among_front (y ∷ xs) ys (suc i) x is = let rest = among_front xs ys i x is in (suc rest.0, rest.1)

pub among_back : {X : Type 0} (xs ys : List X) (x : X) → Among ys x → Among (xs ++ ys) x
among_back [] ys x among = among
among_back (y ∷ xs) ys x among = let rest = among_back xs ys x among in (suc rest.0, rest.1)

pub among_split : {X : Type 0} (xs ys : List X) (i : ℕ) (x : X) → slice_get (xs ++ ys) i ≡ Some x → Among xs x ⊎ Among ys x
among_split [] ys i x is = inr (i, is)
among_split (y ∷ xs) ys zero x is = inl (zero, is)
among_split (y ∷ xs) ys (suc i) x is = elim (among_split xs ys i x is) [ inl a ↦ inl (suc a.0, a.1) | inr a ↦ inr a ]

pub among_map : {X Y : Type 0} (f : X → Y) (xs : List X) (i : ℕ) (y : Y) → slice_get (map f xs) i ≡ Some y → (x : X) × (slice_get xs i ≡ Some x) × (y ≡ f x)
among_map f [] i y is = absurd (no_some y is)
among_map f (x ∷ xs) zero y is = (x, refl, sym (same_some (f x) y is))
among_map f (x ∷ xs) (suc i) y is = among_map f xs i y is

pub mapped : {X Y : Type 0} (f : X → Y) (xs : List X) (i : ℕ) (x : X) → slice_get xs i ≡ Some x → slice_get (map f xs) i ≡ Some (f x)
mapped f [] i x is = absurd (no_some x is)
mapped f (y ∷ xs) zero x is = ap (λ o. Some (f o)) (same_some y x is)
mapped f (y ∷ xs) (suc i) x is = mapped f xs i x is
