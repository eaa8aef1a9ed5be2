-- An order of the nodes, as what is done goes up along it.
use Rattle.std.proofs.Common.{arith, ◌≡◌, ℕ, zero, suc, ◌+◌, ◌<◌, ◌≤◌, List, [], ◌∷◌, ◌++◌, length, Some, refl, Bool, true, sym, ◌∙◌, ap, slice_get, ◌==◌, ⊎_elim, append_assoc, length-append}
use Rattle.std.specs.Prelude.{Contains}
use Rattle.std.proofs.lemmas.Bool.{cases_lt, cases_Bool, eq-eqb, eqb-true, or_cases, or_left, or_right}
use Rattle.std.proofs.lemmas.Option.{same_Some, slice_get-get_or, slice_get_within, get_or_from_slice_get}
use Rattle.mm_goto.specs.Listing.{Listing}
use Rattle.mm_sched.specs.declared.entry.Event.{Event}
use Rattle.mm_rungraph.specs.declared.graph.RunGraph.{RunGraph}
use Rattle.mm_runkeys.specs.declared.keys.Layout.{Layout}
use Rattle.mm_rungraph.specs.RunGraph.{Once}
use Rattle.mm_rungraph.proofs.Spanning.{get_old, get_new}
use Rattle.mm_reorder.specs.Orders.{Precedes, Taken, AreSteps}
use Rattle.mm_reorder.proofs.Cut.{with_step}
use Rattle.mm_reorder.proofs.Reordering.{Below}
use Rattle.mm_reorder.proofs.Settle.{Keeps}

-- ---- places in a list

-- the item stands in the list
abbrev pub In : {A : Type 0} → List A → A → Type 0
In xs x = (i : ℕ) × (slice_get xs i ≡ Some x)

module _ {A : Type 0} where
  pub in_list : (xs : List A) (x : A) → Contains xs x → In xs x
  in_list xs x (i, l, e) = (i, slice_get-get_or xs i x l ∙ ap Some e)

  pub listed : (xs : List A) (x : A) → In xs x → Contains xs x
  listed xs x (i, e) = (i, slice_get_within xs i x e, get_or_from_slice_get xs i x x e)

  -- what stands once stands at one place
  pub one_place : (xs : List A) → Once xs → (i j : ℕ) (x : A) → slice_get xs i ≡ Some x → slice_get xs j ≡ Some x → i ≡ j
  one_place [] o i j x e f = cc
  one_place (y ∷ xs) o zero zero x e f = refl
  one_place (y ∷ xs) o zero (suc j) x e f = absurd (o.0 (listed xs y (j, f ∙ sym e)))
  one_place (y ∷ xs) o (suc i) zero x e f = absurd (o.0 (listed xs y (i, e ∙ sym f)))
  one_place (y ∷ xs) o (suc i) (suc j) x e f = ap suc (one_place xs o.1 i j x e f)

  pub at_front : (xs : List A) (x : A) (ys : List A) → slice_get (xs ++ x ∷ ys) (length xs) ≡ Some x
  at_front [] x ys = refl
  at_front (y ∷ xs) x ys = at_front xs x ys

  pub on_left : (xs ys : List A) (i : ℕ) (x : A) → slice_get xs i ≡ Some x → slice_get (xs ++ ys) i ≡ Some x
  on_left xs ys i x e = get_old xs ys i (slice_get_within xs i x e) ∙ e

-- ---- orders

module _ (G : ℕ → ℕ → Type 0) (order : List ℕ) (once : Once order) (there : (a v : ℕ) → G a v → In order a) (before : (a v : ℕ) → G a v → Precedes order a v) where
  pub keeps_from : (ys xs : List ℕ) (done : ℕ → Bool) → order ≡ xs ++ ys → ((n : ℕ) → done n ≡ true → In xs n) → ((n : ℕ) → In xs n → done n ≡ true) → Keeps G done ys
  keeps_from [] xs done e sound complete = tt
  keeps_from (v ∷ vs) xs done e sound complete = (
    ⊎_elim (λ d. absurd (clash (sound v d))) (λ d. d) (cases_Bool (done v)),
    λ a g. ready a (there a v g) (before a v g),
    keeps_from vs (xs ++ v ∷ []) (with_step done v) (e ∙ sym (append_assoc xs (v ∷ []) vs)) (λ n d. ⊎_elim (λ h. later n (sound n h)) (λ h. here n (eqb-true n v h)) (or_cases (done n) (n == v) d)) (λ n h. back n h),
  )
    where
      place : slice_get order (length xs) ≡ Some v
      place = ap (λ zs. slice_get zs (length xs)) e ∙ at_front xs v vs

      placed : (n i : ℕ) → slice_get xs i ≡ Some n → slice_get order i ≡ Some n
      placed n i h = ap (λ zs. slice_get zs i) e ∙ on_left xs (v ∷ vs) i n h

      clash : In xs v → ⊥
      clash (i, h) = let same : i ≡ length xs = one_place order once i (length xs) v (placed v i h) place in let l : i < length xs = slice_get_within xs i v h in omega (arith, same, l)

      ready : (a : ℕ) → In order a → Precedes order a v → done a ≡ true
      ready a (i, h) earlier =
          let l : i < length xs = earlier i (length xs) h place in
          complete a (i, sym (get_old xs (v ∷ vs) i l) ∙ sym (ap (λ zs. slice_get zs i) e) ∙ h)

      later : (n : ℕ) → In xs n → In (xs ++ v ∷ []) n
      later n (i, h) = (i, on_left xs (v ∷ []) i n h)

      here : (n : ℕ) → n ≡ v → In (xs ++ v ∷ []) n
      here n h = (length xs, get_new xs v ∙ ap Some (sym h))

      back : (n : ℕ) → In (xs ++ v ∷ []) n → with_step done v n ≡ true
      back n (i, h) = ⊎_elim
          (λ l. or_left (done n) (n == v) (complete n (i, sym (get_old xs (v ∷ []) i l) ∙ h)))
          (λ l. or_right (done n) (n == v) (eq-eqb n v (last l)))
          (cases_lt i (length xs))
        where
          last : length xs ≤ i → n ≡ v
          last l =
              let w : i < length (xs ++ v ∷ []) = slice_get_within (xs ++ v ∷ []) i n h in
              let size : length (xs ++ v ∷ []) ≡ length xs + 1 = length-append xs (v ∷ []) in
              let same : i ≡ length xs = omega (arith, w, size, l) in
              sym (same_Some v n (sym (get_new xs v) ∙ ap (slice_get (xs ++ v ∷ [])) (sym same) ∙ h))

-- nodes that are there, and that are not the one that fails
pub below_from : (size fail : ℕ) (ns : List ℕ) → ((n : ℕ) → In ns n → (n < size) × (fail ≡ n → ⊥)) → Below size fail ns
below_from size fail [] h = tt
below_from size fail (n ∷ ns) h = let a = h n (zero, refl) in (a.0, a.1, below_from size fail ns (λ i e. h i (suc e.0, e.1)))

-- ---- steps of a list in two parts

module _ (s : Layout) (p : Listing) (set : List (List Bool)) (g : RunGraph) (es : List Event) where
  pub record InTwo (xs ys : List ℕ) (steps : List Taken) : Type 0 where
    pub front : List Taken
    pub back : List Taken
    pub parts : steps ≡ front ++ back
    pub one : AreSteps s p set g es xs front
    pub two : AreSteps s p set g es ys back

  pub in_two : (xs ys : List ℕ) (steps : List Taken) → AreSteps s p set g es (xs ++ ys) steps → InTwo xs ys steps
  in_two [] ys steps h = record { front = []; back = steps; parts = refl; one = refl; two = h }
  in_two (x ∷ xs) ys steps (here, rest, e, stands, h) =
      let r = in_two xs ys rest h in
      record {
        front = here ++ r.front;
        back = r.back;
        parts = e ∙ ap (λ zs. here ++ zs) r.parts ∙ sym (append_assoc here r.front r.back);
        one = (here, r.front, refl, stands, r.one);
        two = r.two;
      }
