-- Paths of the fewest edges, the least as lists.
use Rattle.std.proofs.Common.{◌≡◌, ℕ, ◌+◌, ◌<◌, ◌≤◌, List, [], ◌∷◌, length, inl, inr, arith, refl}
use Rattle.std.proofs.lemmas.Bool.{cases_eq, cases_lt}
use Rattle.std.specs.Prelude.{◌↔◌, ◌⊎◌}
use Rattle.mm_goto.specs.Paths.{IsPath, edge, on, IsUpTo, done, less, same, IsFirstPath}
use Rattle.mm_bits.specs.Near.{Near}

-- ---- the order of lists

pub upto_head : (x y : ℕ) (xs ys : List ℕ) → IsUpTo (x ∷ xs) (y ∷ ys) → x ≤ y
upto_head x y xs ys (less h) = omega arith
upto_head x _ xs ys (same h) = omega arith

pub upto_tail : (x y : ℕ) (xs ys : List ℕ) → x ≡ y → IsUpTo (x ∷ xs) (y ∷ ys) → IsUpTo xs ys
upto_tail x y xs ys e (less h) = absurd (omega arith)
upto_tail x _ xs ys e (same h) = h

pub upto_same : (x y : ℕ) (xs ys : List ℕ) → x ≡ y → IsUpTo xs ys → IsUpTo (x ∷ xs) (y ∷ ys)
upto_same x y xs ys e h = rw (← e) (same h)

pub upto_refl : (xs : List ℕ) → IsUpTo xs xs
upto_refl [] = done
upto_refl (x ∷ xs) = same (upto_refl xs)

-- ---- near

module _ (E : ℕ → ℕ → Type 0) (b : ℕ) where
  pub path_some : (x : ℕ) (xs : List ℕ) → IsPath E x xs b → 1 ≤ length xs
  path_some x [] p = elim p [ ]
  path_some x (_ ∷ []) (edge e) = omega arith
  path_some x (_ ∷ xs) (on e p) = omega arith

  pub near_edge : (x : ℕ) → E x b ↔ Near E b 0 x
  near_edge x = (λ e. (x ∷ [], edge e, omega arith), λ near. only near.0 near.1 near.2)
    where
      only : (xs : List ℕ) → IsPath E x xs b → length xs ≤ 0 + 1 → E x b
      only [] p h = elim p [ ]
      only (_ ∷ []) (edge e) h = e
      only (_ ∷ xs) (on {b = y} e p) h = let some = path_some y xs p in absurd (omega arith)

  pub near_more : (d x : ℕ) → Near E b (d + 1) x ↔ (Near E b d x ⊎ ((y : ℕ) × E x y × Near E b d y))
  near_more d x = (λ near. split near.0 near.1 near.2, λ h. elim h [ inl n ↦ (n.0, n.1, omega arith) | inr n ↦ (x ∷ n.2.0, on n.1 n.2.1, omega arith) ])
    where
      split : (xs : List ℕ) → IsPath E x xs b → length xs ≤ d + 1 + 1 → Near E b d x ⊎ ((y : ℕ) × E x y × Near E b d y)
      split [] p h = elim p [ ]
      split (_ ∷ []) (edge e) h = inl (x ∷ [], edge e, omega arith)
      split (_ ∷ xs) (on {b = y} e p) h = inr (y, e, (xs, p, omega arith))

  -- where one edge more gives nothing new, nothing is missing
  pub all_near : (d : ℕ) → ((x : ℕ) → Near E b (d + 1) x → Near E b d x) → (x : ℕ) (xs : List ℕ) → IsPath E x xs b → Near E b d x
  all_near d stays x [] p = elim p [ ]
  all_near d stays x (_ ∷ []) (edge e) = (x ∷ [], edge e, omega arith)
  all_near d stays x (_ ∷ xs) (on {b = y} e p) = stays x ((near_more d x).1 (inr (y, e, all_near d stays y xs p)))

  -- ---- first paths

  pub first_edge : (a : ℕ) → E a b → IsFirstPath E a (a ∷ []) b
  first_edge a e = record { is = edge e; first = earlier }
    where
      earlier : (other : List ℕ) → IsPath E a other b → IsUpTo (1 ∷ a ∷ []) (length other ∷ other)
      earlier [] p = elim p [ ]
      earlier (_ ∷ []) (edge f) = same (same done)
      earlier (_ ∷ xs) (on {b = y} f p) = let some = path_some y xs p in less (omega arith)

  -- what a path begins with
  pub path_head : (x : ℕ) (xs : List ℕ) → IsPath E x xs b → (rest : List ℕ) × (xs ≡ x ∷ rest)
  path_head x [] p = elim p [ ]
  path_head x (_ ∷ []) (edge e) = ([], refl)
  path_head x (_ ∷ xs) (on e p) = (xs, refl)

  pub record IsNext (d a y : ℕ) : Type 0 where
    pub leads : E a y
    pub near : Near E b d y
    pub far : ¬ (Near E b d a)
    pub least : (z : ℕ) → E a z → Near E b d z → y ≤ z

  module _ (d a y : ℕ) (next : IsNext d a y) (rest : List ℕ) (first : IsFirstPath E y rest b) where
    few : length rest ≤ d + 1
    few = let n = upto_head _ _ _ _ (first.first next.near.0 next.near.1) in let m = next.near.2 in omega arith

    -- another path that goes by z
    against : (z : ℕ) (xs : List ℕ) → E a z → IsPath E z xs b → IsUpTo (length (a ∷ rest) ∷ a ∷ rest) (length (a ∷ xs) ∷ a ∷ xs)
    against z xs e p =
        let small = few in
        elim (cases_lt (length rest) (length xs)) [
          | inl longer ↦ less (omega arith)
          | inr not_longer ↦
              elim (cases_lt (length xs) (d + 1)) [
                | inl shorter ↦ absurd (next.far (a ∷ xs, on e p, omega arith))
                | inr enough ↦
                    let even : length rest ≡ length xs = omega arith in
                    let low : y ≤ z = next.least z e (xs, p, omega arith) in
                    let mine = path_head y rest first.is in
                    let theirs = path_head z xs p in
                    upto_same _ _ _ _ (omega arith) (same (elim (cases_eq y z) [
                      | inl one ↦ upto_tail _ _ _ _ even (first.first xs (rw (← one) at p))
                      | inr two ↦ let lt : y < z = omega arith in rw (mine.1, theirs.1) (less lt)
                    ]))
              ]
        ]

    pub first_step : IsFirstPath E a (a ∷ rest) b
    first_step = record { is = on next.leads first.is; first = earlier }
      where
        earlier : (other : List ℕ) → IsPath E a other b → IsUpTo (length (a ∷ rest) ∷ a ∷ rest) (length other ∷ other)
        earlier [] p = elim p [ ]
        earlier (_ ∷ []) (edge e) = absurd (next.far (a ∷ [], edge e, omega arith))
        earlier (_ ∷ xs) (on {b = z} e p) = against z xs e p

  pub near_leads : (d x : ℕ) → Near E b d x → (y : ℕ) × E x y
  near_leads d x near = begins near.0 near.1
    where
      begins : (xs : List ℕ) → IsPath E x xs b → (y : ℕ) × E x y
      begins [] p = elim p [ ]
      begins (_ ∷ []) (edge e) = (b, e)
      begins (_ ∷ xs) (on {b = y} e p) = (y, e)

  -- what is near by e + 1 and not by e goes on to what is near by e, and no nearer
  pub near_on : (e x : ℕ) → Near E b (e + 1) x → ¬ (Near E b e x) → (y : ℕ) × E x y × Near E b e y
  near_on e x near far = elim ((near_more e x).0 near) [ inl n ↦ absurd (far n) | inr n ↦ n ]

  pub no_nearer : (e d x y : ℕ) → d + 1 ≡ e → ¬ (Near E b e x) → E x y → ¬ (Near E b d y)
  no_nearer e d x y is far leads near = far (rw (← is) ((near_more d x).1 (inr (y, leads, near))))
