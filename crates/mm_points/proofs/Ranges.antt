-- The locals that stand in an expression are below its bound.
use Rattle.std.proofs.Common.{◌≡◌, ◌∙◌, ℕ, ℤ, zero, suc, ◌+◌, ◌<◌, ◌≤◌, List, [], ◌∷◌, ◌++◌, inl, inr, sym, ap, Some, arith, subst}
use Rattle.std.specs.Prelude.{slice_get, nat_lt}
use Rattle.std.proofs.lemmas.Bool.{cases_Bool, ltb-true, ltb-false}
use Rattle.mm_goto.specs.declared.pure.Unary.{Unary}
use Rattle.mm_goto.specs.declared.pure.Binary.{Binary}
use Rattle.mm_goto.specs.declared.pure.Pure.{Pure}
use Rattle.mm_goto.specs.declared.pure.Pure.TheOpen as pure
use Rattle.mm_goto.specs.declared.pure.Pure.TheViews.{roll-Pure}
use Rattle.mm_goto.specs.declared.pure.Pure.TheFolds.{fold-Pure, fold-roll-Pure, ind-Pure}
use Rattle.mm_goto.specs.declared.pure.Pure.TheFolds.{map-Pure}
use Rattle.mm_goto.specs.Locals.{local_bound, local_bound_step, larger}
use Rattle.mm_goto.specs.PointsTo.{Aims, aims_of, aims_step}
use Rattle.mm_points.proofs.Lists.{among_split, no_some, same_some}

abbrev pub Below : Pure → Type 0
Below e = (k l : ℕ) → slice_get (aims_of e).locals k ≡ Some l → l < local_bound e

le_larger : (m n : ℕ) → (m ≤ larger m n) × (n ≤ larger m n)
le_larger m n = elim (cases_Bool (nat_lt m n)) [
  | inl less ↦ let h = ltb-true m n less in rw less (omega arith, omega arith)
  | inr more ↦ let h = ltb-false m n more in rw more (omega arith, omega arith)
]

larger_below : (m n k : ℕ) → m ≤ k → n ≤ k → larger m n ≤ k
larger_below m n k p q = elim (cases_Bool (nat_lt m n)) [ inl e ↦ rw e q | inr e ↦ rw e p ]

larger_turned : (a b c : ℕ) → larger (larger a b) c ≤ larger a (larger b c)
larger_turned a b c =
    let x = le_larger a (larger b c) in
    let y = le_larger b c in
    larger_below (larger a b) c (larger a (larger b c)) (larger_below a b (larger a (larger b c)) x.0 (omega arith)) (omega arith)

-- all locals of the list are below
abbrev pub AllBelow : List ℕ → ℕ → Type 0
AllBelow ls n = (k l : ℕ) → slice_get ls k ≡ Some l → l < n

join_below : (xs ys : List ℕ) (m n : ℕ) → AllBelow xs m → AllBelow ys n → AllBelow (xs ++ ys) (larger m n)
join_below xs ys m n f g k l is =
    let two = le_larger m n in
    elim (among_split xs ys k l is) [ inl a ↦ (let h = f a.0 l a.1 in omega arith) | inr a ↦ (let h = g a.0 l a.1 in omega arith) ]

more_below : (xs : List ℕ) (m n : ℕ) → m ≤ n → AllBelow xs m → AllBelow xs n
more_below xs m n le f k l is = let h = f k l is in omega arith

module _ (x : pure.Pure-F Pure) where
  -- what the two folds make of one layer
  by_layer : (ls : List ℕ) (n : ℕ) → (fold-Pure Aims aims_step (roll-Pure x)).locals ≡ ls → fold-Pure ℕ local_bound_step (roll-Pure x) ≡ n → AllBelow ls n → Below (roll-Pure x)
  by_layer ls n e f all k l is = rw f (all k l (sym (ap (λ s. slice_get s k) e) ∙ is))

at_const : (c : ℤ) → Below (roll-Pure (pure.Const c))
at_const c = by_layer (pure.Const c) [] 0 (ap (λ a. a.locals) (fold-roll-Pure Aims aims_step (pure.Const c))) (fold-roll-Pure ℕ local_bound_step (pure.Const c)) (λ k l is. absurd (no_some l is))

at_local : (m : ℕ) → Below (roll-Pure (pure.Local m))
at_local m = by_layer (pure.Local m) (m ∷ []) (m + 1) (ap (λ a. a.locals) (fold-roll-Pure Aims aims_step (pure.Local m))) (fold-roll-Pure ℕ local_bound_step (pure.Local m)) one
  where
    one : AllBelow (m ∷ []) (m + 1)
    one zero l is = let e : m ≡ l = same_some m l is in omega arith
    one (suc k) l is = absurd (no_some l is)

at_addr : (c : ℕ) → Below (roll-Pure (pure.Addr c))
at_addr c = by_layer (pure.Addr c) [] 0 (ap (λ a. a.locals) (fold-roll-Pure Aims aims_step (pure.Addr c))) (fold-roll-Pure ℕ local_bound_step (pure.Addr c)) (λ k l is. absurd (no_some l is))

at_elem : (first len : ℕ) (x : Pure) → Below x → Below (roll-Pure (pure.AddrElem first len x))
at_elem first len x f = by_layer (pure.AddrElem first len x) (aims_of x).locals (local_bound x) (ap (λ a. a.locals) (fold-roll-Pure Aims aims_step (pure.AddrElem first len x))) (fold-roll-Pure ℕ local_bound_step (pure.AddrElem first len x)) f

at_un : (op : Unary) (x : Pure) → Below x → Below (roll-Pure (pure.Un op x))
at_un op x f = by_layer (pure.Un op x) (aims_of x).locals (local_bound x) (ap (λ a. a.locals) (fold-roll-Pure Aims aims_step (pure.Un op x))) (fold-roll-Pure ℕ local_bound_step (pure.Un op x)) f

at_bin : (op : Binary) (x y : Pure) → Below x → Below y → Below (roll-Pure (pure.Bin op x y))
at_bin op x y f g = by_layer (pure.Bin op x y) ((aims_of x).locals ++ (aims_of y).locals) (larger (local_bound x) (local_bound y)) (ap (λ a. a.locals) (fold-roll-Pure Aims aims_step (pure.Bin op x y))) (fold-roll-Pure ℕ local_bound_step (pure.Bin op x y))
    (join_below (aims_of x).locals (aims_of y).locals (local_bound x) (local_bound y) f g)

at_cond : (x y z : Pure) → Below x → Below y → Below z → Below (roll-Pure (pure.Cond x y z))
at_cond x y z f g h = by_layer (pure.Cond x y z) (((aims_of x).locals ++ (aims_of y).locals) ++ (aims_of z).locals) (larger (local_bound x) (larger (local_bound y) (local_bound z)))
    (ap (λ a. a.locals) (fold-roll-Pure Aims aims_step (pure.Cond x y z))) (fold-roll-Pure ℕ local_bound_step (pure.Cond x y z))
    (let all = join_below ((aims_of x).locals ++ (aims_of y).locals) (aims_of z).locals (larger (local_bound x) (local_bound y)) (local_bound z)
    (join_below (aims_of x).locals (aims_of y).locals (local_bound x) (local_bound y) f g) h in
    more_below (((aims_of x).locals ++ (aims_of y).locals) ++ (aims_of z).locals) (larger (larger (local_bound x) (local_bound y)) (local_bound z)) (larger (local_bound x) (larger (local_bound y) (local_bound z)))
    (larger_turned (local_bound x) (local_bound y) (local_bound z)) all)

pub below : (e : Pure) → Below e
below e = ind-Pure Below (λ x y is.
    let P : pure.Pure-F Pure → Type 0 = λ v. Below (roll-Pure v) in
    elim y as (λ v. map-Pure _ Pure (λ d. d.0) v ≡ x → Below (roll-Pure x)) [
      | pure.Const c ↦ λ same. subst P same (at_const c)
      | pure.Local m ↦ λ same. subst P same (at_local m)
      | pure.Addr c ↦ λ same. subst P same (at_addr c)
      | pure.AddrElem first len x ↦ λ same. subst P same (at_elem first len x.0 x.1)
      | pure.Un op x ↦ λ same. subst P same (at_un op x.0 x.1)
      | pure.Bin op x y ↦ λ same. subst P same (at_bin op x.0 y.0 x.1 y.1)
      | pure.Cond x y z ↦ λ same. subst P same (at_cond x.0 y.0 z.0 x.1 y.1 z.1)
    ] is) e
