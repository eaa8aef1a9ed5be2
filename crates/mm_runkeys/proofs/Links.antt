-- What edges a list has when those that end at a step are added.
use Rattle.std.proofs.Common.{arith, ◌≡◌, ℕ, zero, suc, ◌⊎◌, inl, inr, List, [], ◌∷◌, map, refl, sym, ap, subst}
use Rattle.std.specs.Prelude.{Contains}
use Rattle.std.proofs.lemmas.List.Elements.{Contains-append_left, Contains-append_right, Contains-append_cases}
use Rattle.mm_runkeys.specs.declared.graph.EdgeKind.{EdgeKind}
use Rattle.mm_runkeys.specs.declared.graph.EdgeKind.TheVariants.{Program, Issue, Fifo, Reads, Coherence, FromRead, Drain, Mutex, Start, Join, Room}
use Rattle.mm_runkeys.specs.declared.graph.RunEdge.{RunEdge}
use Rattle.mm_runkeys.specs.reading.Tables.{edge, linked}
use Rattle.mm_runkeys.specs.reading.Marks.{all_kinds, links}

module _ {A : Type 0} where
  pub here : (x : A) (xs : List A) → Contains (x ∷ xs) x
  here x xs = (0, omega arith, refl)

  pub there : (x : A) (xs : List A) (y : A) → Contains xs y → Contains (x ∷ xs) y
  there x xs y (k, l, e) = (suc k, omega arith, e)

  pub front : (x : A) (xs : List A) (y : A) → Contains (x ∷ xs) y → (x ≡ y) ⊎ Contains xs y
  front x xs y (zero, l, e) = inl e
  front x xs y (suc k, l, e) = inr (k, omega arith, e)

  pub empty : (y : A) → Contains [] y → ⊥
  empty y c = absurd (omega (arith, c.1))

-- the edge is to n, of the kind, and from one of the list
abbrev pub Leads : ℕ → EdgeKind → List ℕ → RunEdge → Type 0
Leads n k xs d = (d.to ≡ n) × (d.kind ≡ k) × Contains xs d.from

pub of_map : (n : ℕ) (k : EdgeKind) (xs : List ℕ) (d : RunEdge) → Contains (map (edge n k) xs) d → Leads n k xs d
of_map n k [] d c = absurd (empty d c)
of_map n k (x ∷ xs) d c = go (of_map n k xs d) (front (edge n k x) (map (edge n k) xs) d c)
  where
    go : (Contains (map (edge n k) xs) d → Leads n k xs d) → (edge n k x ≡ d) ⊎ Contains (map (edge n k) xs) d → Leads n k (x ∷ xs) d
    go ih (inl e) = (sym (ap (λ (r : RunEdge). r.to) e), sym (ap (λ (r : RunEdge). r.kind) e), subst (Contains (x ∷ xs)) (ap (λ (r : RunEdge). r.from) e) (here x xs))
    go ih (inr c) = let r = ih c in (r.0, r.1, there x xs d.from r.2)

pub to_map : (n : ℕ) (k : EdgeKind) (xs : List ℕ) (a : ℕ) → Contains xs a → Contains (map (edge n k) xs) (edge n k a)
to_map n k [] a c = absurd (empty a c)
to_map n k (x ∷ xs) a c = go (to_map n k xs a) (front x xs a c)
  where
    go : (Contains xs a → Contains (map (edge n k) xs) (edge n k a)) → (x ≡ a) ⊎ Contains xs a → Contains (map (edge n k) (x ∷ xs)) (edge n k a)
    go ih (inl e) = subst (λ y. Contains (map (edge n k) (x ∷ xs)) (edge n k y)) e (here (edge n k x) (map (edge n k) xs))
    go ih (inr c) = there (edge n k x) (map (edge n k) xs) (edge n k a) (ih c)

module _ (from : EdgeKind → List ℕ) (n : ℕ) where
  pub linked_old : (ks : List EdgeKind) (edges : List RunEdge) (d : RunEdge) → Contains edges d → Contains (links ks from n edges) d
  linked_old [] edges d c = c
  linked_old (k ∷ ks) edges d c = linked_old ks (linked edges k (from k) n) d (Contains-append_left edges (map (edge n k) (from k)) d c)

  pub linked_new : (ks : List EdgeKind) (edges : List RunEdge) (k : EdgeKind) (a : ℕ) → Contains ks k → Contains (from k) a → Contains (links ks from n edges) (edge n k a)
  linked_new [] edges k a c h = absurd (empty k c)
  linked_new (j ∷ ks) edges k a c h = go (linked_old ks (linked edges j (from j) n) (edge n k a)) (λ z. linked_new ks (linked edges j (from j) n) k a z h) (front j ks k c)
    where
      go : (Contains (linked edges j (from j) n) (edge n k a) → Contains (links (j ∷ ks) from n edges) (edge n k a)) → (Contains ks k → Contains (links (j ∷ ks) from n edges) (edge n k a)) → (j ≡ k) ⊎ Contains ks k → Contains (links (j ∷ ks) from n edges) (edge n k a)
      go old ih (inl e) = old (Contains-append_right edges (map (edge n j) (from j)) (edge n k a) (subst (λ i. Contains (map (edge n i) (from i)) (edge n k a)) (sym e) (to_map n k (from k) a h)))
      go old ih (inr c) = ih c

  pub of_linked : (ks : List EdgeKind) (edges : List RunEdge) (d : RunEdge) → Contains (links ks from n edges) d → Contains edges d ⊎ ((d.to ≡ n) × Contains (from d.kind) d.from)
  of_linked [] edges d c = inl c
  of_linked (k ∷ ks) edges d c = go (of_linked ks (linked edges k (from k) n) d c)
    where
      split : Contains edges d ⊎ Contains (map (edge n k) (from k)) d → Contains edges d ⊎ ((d.to ≡ n) × Contains (from d.kind) d.from)
      split (inl h) = inl h
      split (inr h) = let r = of_map n k (from k) d h in inr (r.0, subst (λ i. Contains (from i) d.from) (sym r.1) r.2)

      go : Contains (linked edges k (from k) n) d ⊎ ((d.to ≡ n) × Contains (from d.kind) d.from) → Contains edges d ⊎ ((d.to ≡ n) × Contains (from d.kind) d.from)
      go (inl h) = split (Contains-append_cases edges (map (edge n k) (from k)) d h)
      go (inr h) = inr h

pub each_kind : (k : EdgeKind) → Contains all_kinds k
each_kind Program = (0, omega arith, refl)
each_kind Issue = (1, omega arith, refl)
each_kind Fifo = (2, omega arith, refl)
each_kind Reads = (3, omega arith, refl)
each_kind Coherence = (4, omega arith, refl)
each_kind FromRead = (5, omega arith, refl)
each_kind Drain = (6, omega arith, refl)
each_kind Mutex = (7, omega arith, refl)
each_kind Start = (8, omega arith, refl)
each_kind Join = (9, omega arith, refl)
each_kind Room = (10, omega arith, refl)
