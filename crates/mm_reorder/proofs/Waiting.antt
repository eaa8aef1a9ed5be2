-- Where each of some nodes waits for one of them, one is before itself.
use Rattle.std.proofs.Common.{◌≡◌, ℕ, zero, suc, List, [], ◌∷◌, Some, refl, Bool, sym, ap, subst, slice_get, ◌⊎◌, inl, inr}
use Rattle.std.specs.Prelude.{Contains}
use Rattle.std.proofs.lemmas.Option.{same_Some}
use Rattle.mm_goto.specs.Bounds.{Bounding}
use Rattle.mm_goto.specs.declared.model.Model.{Model}
use Rattle.mm_goto.specs.Listing.{Listing}
use Rattle.mm_goto.specs.Valid.{IsValid}
use Rattle.mm_sched.specs.declared.entry.Entry.{Entry}
use Rattle.mm_sched.specs.Sections.{HasNoSection}
use Rattle.mm_rungraph.specs.declared.graph.RunGraph.{RunGraph}
use Rattle.mm_rungraph.specs.RunGraph.{layout_of, IsRunGraph}
use Rattle.mm_reorder.specs.Cycles.{here, Link, IsOvertaken}
use Rattle.mm_reorder.proofs.Arranging.{In, in_list, listed}
use Rattle.mm_reorder.proofs.Closing as closing
use Rattle.mm_reorder.proofs.Cycling.{overtaken}

abbrev Among : List ℕ → ℕ → Type 0
Among [] x = ⊥
Among (y ∷ ys) x = (x ≡ y) ⊎ Among ys x

module _ (R : ℕ → ℕ → Type 0) (trans : (x y z : ℕ) → R x y → R y z → R x z) where
  -- one of the nodes is before y
  abbrev Before : List ℕ → ℕ → Type 0
  Before xs y = (x : ℕ) × Among xs x × R x y

  -- one of a and the others is before a: it is a, or it can stand for a
  around : (a : ℕ) (others : List ℕ) → Before (a ∷ others) a → ((y : ℕ) → Among (a ∷ others) y → Before (a ∷ others) y) → ((z : ℕ) × R z z) ⊎ ((y : ℕ) → Among others y → Before others y)
  around a others (y, inl e, r) all = inl (a, subst (λ u. R u a) e r)
  around a others (y, inr i, r) all = inr (λ z j. instead z (all z (inr j)))
    where
      instead : (z : ℕ) → Before (a ∷ others) z → Before others z
      instead z (u, inl e, q) = (y, i, trans y a z r (subst (λ v. R v z) e q))
      instead z (u, inr l, q) = (u, l, q)

  loops : (a : ℕ) (others : List ℕ) → ((y : ℕ) → Among (a ∷ others) y → Before (a ∷ others) y) → (z : ℕ) × R z z
  loops a [] all = alone (all a (inl refl))
    where
      alone : Before (a ∷ []) a → (z : ℕ) × R z z
      alone (y, inl e, r) = (a, subst (λ u. R u a) e r)
      alone (y, inr i, r) = absurd i
  loops a (b ∷ bs) all = go (around a (b ∷ bs) (all a (inl refl)) all) (loops b bs)
    where
      go : ((z : ℕ) × R z z) ⊎ ((y : ℕ) → Among (b ∷ bs) y → Before (b ∷ bs) y) → (((y : ℕ) → Among (b ∷ bs) y → Before (b ∷ bs) y) → (z : ℕ) × R z z) → (z : ℕ) × R z z
      go (inl l) ih = l
      go (inr f) ih = ih f

among_in : (xs : List ℕ) (x : ℕ) → Among xs x → In xs x
among_in [] x h = absurd h
among_in (y ∷ ys) x (inl e) = (zero, sym (ap Some e))
among_in (y ∷ ys) x (inr h) = let r = among_in ys x h in (suc r.0, r.1)

in_among : (xs : List ℕ) (x i : ℕ) → slice_get xs i ≡ Some x → Among xs x
in_among [] x i e = absurd (cc)
in_among (y ∷ ys) x zero e = inl (same_Some x y (sym e))
in_among (y ∷ ys) x (suc i) e = inr (in_among ys x i e)

module _ (m : Model) (bound : Bounding) (p : Listing) (es : List Entry) (g : RunGraph) (graph : IsRunGraph m bound p es g) (valid : IsValid p) (calm : HasNoSection p) (set : List (List Bool)) where
  abbrev Links : ℕ → ℕ → Type 0
  Links = Link (layout_of m bound p) p set graph.trace.events

  pub waiting : (node : ℕ) (others : List ℕ) → ((b : ℕ) → Contains (node ∷ others) b → (a : ℕ) × Contains (node ∷ others) a × Link (layout_of m bound p) p set graph.trace.events a b) → (store : ℕ) × IsOvertaken (layout_of m bound p) p set graph.trace.events store
  waiting node others h =
      let r = loops (closing.Way (Link (layout_of m bound p) p set graph.trace.events)) (λ x y z a b. closing.longer (Link (layout_of m bound p) p set graph.trace.events) x y z a (closing.walk (Link (layout_of m bound p) p set graph.trace.events) y z b)) node others before in
      overtaken m bound p es g graph valid calm set r.0 r.1
    where
      before : (y : ℕ) → Among (node ∷ others) y → (x : ℕ) × Among (node ∷ others) x × closing.Way (Link (layout_of m bound p) p set graph.trace.events) x y
      before y i =
          let c = h y (listed (node ∷ others) y (among_in (node ∷ others) y i)) in
          let q = in_list (node ∷ others) c.0 c.1 in
          (c.0, in_among (node ∷ others) c.0 q.0 q.1, (y, c.2, here))
