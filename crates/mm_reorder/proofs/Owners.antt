-- The steps that take and give one mutex have ways between them.
use Rattle.std.proofs.Common.{arith, ◌≡◌, ℕ, suc, ◌<◌, ◌≤◌, Option, Some, None, option_map, refl, true, false, sym, ◌∙◌, ap, slice_get, ◌⊎◌, inl, inr, ⊎_elim}
use Rattle.std.proofs.lemmas.Bool.{false≢true, eqb-true, or_cases, or_parts}
use Rattle.std.proofs.lemmas.Option.{same_Some}
use Rattle.mm_goto.specs.Bounds.{Bounding}
use Rattle.mm_goto.specs.declared.model.Model.{Model}
use Rattle.mm_goto.specs.Listing.{Listing}
use Rattle.mm_sched.specs.declared.entry.Act.TheVariants.{Goes, Takes, Gives}
use Rattle.mm_sched.specs.declared.entry.Event.{Event}
use Rattle.mm_sched.specs.declared.entry.Event.TheVariants.{Does, Flushes}
use Rattle.mm_sched.specs.Event.{acted}
use Rattle.mm_runkeys.specs.declared.graph.EdgeKind.TheVariants.{Mutex}
use Rattle.mm_rungraph.specs.Edges.{by}
use Rattle.mm_runkeys.specs.Keys.{takes, gives}
use Rattle.mm_runkeys.specs.Spans.{is_key}
use Rattle.mm_rungraph.proofs.ForOrders.{span_at}
use Rattle.mm_reorder.proofs.Course.{Course, R, has, by_is, edge, trans, program, told}
use Rattle.mm_reorder.proofs.Cut.{stays}
use Rattle.mm_reorder.proofs.Nexts.{Next, chain}
use Rattle.mm_reorder.proofs.Parts.{Ghost, Part, OwnerOf, Same, same_refl, same_sym, same_trans, changes, follow, get_set_same}
use Rattle.mm_reorder.proofs.Threads.{runs_it}
use Rattle.mm_reorder.proofs.Walking.{changed, frame}

module _ (m : Model) (bound : Bounding) (p : Listing) (k : Course m bound p) where
  -- nothing takes or gives the mutex between: its owner stays
  owner_stays : (q a b : ℕ) → a < b → b ≤ k.walk.size → ((j : ℕ) → a < j → j < b → changes m (k.walk.what j) (OwnerOf q) ≡ false) → slice_get (k.walk.at b).state.owners q ≡ slice_get (k.walk.at (suc a)).state.owners q
  owner_stays q a b l n h = stays Part Ghost Same same_refl same_sym same_trans k.walk.size k.walk.at (changed m bound p k.walk) (frame m bound p k.walk) (OwnerOf q) (suc a) b l n (λ u c d. h u c d)

  -- a step that takes or gives it
  abbrev Moves : ℕ → ℕ → Type 0
  Moves q n = ((t : ℕ) × (k.walk.what n ≡ Does t (Takes q))) ⊎ ((t : ℕ) × (k.walk.what n ≡ Does t (Gives q)))

  taken_by : (q n : ℕ) (v : Event) → k.walk.what n ≡ v → is_key q (takes v) ≡ true → (t : ℕ) × (k.walk.what n ≡ Does t (Takes q))
  taken_by q n (Flushes t c x) e h = absurd (false≢true h)
  taken_by q n (Does t (Takes j)) e h = (t, e ∙ ap (λ i. Does t (Takes i)) (eqb-true j q h))
  taken_by q n (Does t (Goes j)) e h = absurd (false≢true h)
  taken_by q n (Does t a) e h = absurd (false≢true h)

  given_by : (q n : ℕ) (v : Event) → k.walk.what n ≡ v → is_key q (gives v) ≡ true → (t : ℕ) × (k.walk.what n ≡ Does t (Gives q))
  given_by q n (Flushes t c x) e h = absurd (false≢true h)
  given_by q n (Does t (Gives j)) e h = (t, e ∙ ap (λ i. Does t (Gives i)) (eqb-true j q h))
  given_by q n (Does t (Goes j)) e h = absurd (false≢true h)
  given_by q n (Does t a) e h = absurd (false≢true h)

  moved_by : (q n : ℕ) → changes m (k.walk.what n) (OwnerOf q) ≡ true → Moves q n
  moved_by q n h = ⊎_elim (λ d. inl (taken_by q n (k.walk.what n) refl d)) (λ d. inr (given_by q n (k.walk.what n) refl d)) (or_cases (is_key q (takes (k.walk.what n))) (is_key q (gives (k.walk.what n))) h)

  owner_taken : (q n t : ℕ) → n < k.walk.size → k.walk.what n ≡ Does t (Takes q) → slice_get (k.walk.at (suc n)).state.owners q ≡ Some (Some t)
  unfolding acted
  owner_taken q n t l e = ap (λ (g : Ghost). slice_get g.state.owners q) (k.walk.goes n l ∙ ap (follow m (k.walk.at n)) e) ∙ get_set_same (k.walk.at n).state.owners q (Some t) ∙ ap (option_map (λ (w : Option ℕ). Some t)) (told m bound p k n t (Takes q) l e).1

  owner_given : (q n t : ℕ) → n < k.walk.size → k.walk.what n ≡ Does t (Gives q) → slice_get (k.walk.at (suc n)).state.owners q ≡ Some None
  unfolding acted
  owner_given q n t l e = ap (λ (g : Ghost). slice_get g.state.owners q) (k.walk.goes n l ∙ ap (follow m (k.walk.at n)) e) ∙ get_set_same (k.walk.at n).state.owners q None ∙ ap (option_map (λ (w : Option ℕ). None)) (told m bound p k n t (Gives q) l e).1

  none_some : (t : ℕ) → ◌≡◌ {A = Option (Option ℕ)} (Some None) (Some (Some t)) → ⊥
  none_some t e = cc

  -- the next that takes what was given
  handed : (q a b t u : ℕ) → a < b → b < k.walk.size → k.walk.what a ≡ Does t (Gives q) → k.walk.what b ≡ Does u (Takes q) → ((j : ℕ) → a < j → j < b → changes m (k.walk.what j) (OwnerOf q) ≡ false) → R m bound p k a b
  handed q a b t u l l2 e d none = edge m bound p k Mutex a b (span_at (by gives k.events) (by takes k.events) (by takes k.events) q a b l (has m bound p k gives q a (omega arith) (ap gives e)) (has m bound p k takes q b l2 (ap takes d))
      (λ j x y. ap (is_key q) (by_is m bound p k takes j (omega arith)) ∙ (or_parts (is_key q (takes (k.walk.what j))) (is_key q (gives (k.walk.what j))) (none j x y)).0))

  next_moved : (q a b : ℕ) → b < k.walk.size → Next (λ n. changes m (k.walk.what n) (OwnerOf q)) (λ n. changes m (k.walk.what n) (OwnerOf q)) a b → R m bound p k a b
  next_moved q a b l n = go (moved_by q a n.from_kind) (moved_by q b n.to_kind)
    where
      la : a < k.walk.size
      la = let h : a < b = n.before in omega (arith, h, l)

      still : slice_get (k.walk.at b).state.owners q ≡ slice_get (k.walk.at (suc a)).state.owners q
      still = owner_stays q a b n.before (omega arith) n.none

      go : Moves q a → Moves q b → R m bound p k a b
      go (inl (t, e)) (inl (u, d)) = absurd (none_some t (sym (told m bound p k b u (Takes q) l d).1 ∙ still ∙ owner_taken q a t la e))
      go (inl (t, e)) (inr (u, d)) =
          let own : Some (Some u) ≡ Some (Some t) = sym (told m bound p k b u (Gives q) l d).1 ∙ still ∙ owner_taken q a t la e in
          let same : u ≡ t = same_Some u t (same_Some (Some u) (Some t) own) in
          program m bound p k t a b n.before (runs_it m bound p k t a (Takes q) la e) (runs_it m bound p k t b (Gives q) l (d ∙ ap (λ y. Does y (Gives q)) same))
      go (inr (t, e)) (inl (u, d)) = handed q a b t u n.before l e d n.none
      go (inr (t, e)) (inr (u, d)) = absurd (none_some u (sym (owner_given q a t la e) ∙ sym still ∙ (told m bound p k b u (Gives q) l d).1))

  pub owner_ordered : (q a b : ℕ) → a < b → b < k.walk.size → changes m (k.walk.what a) (OwnerOf q) ≡ true → changes m (k.walk.what b) (OwnerOf q) ≡ true → R m bound p k a b
  owner_ordered q a b l m2 p2 d = (chain (λ x y. y < k.walk.size → (x < y) × R m bound p k x y) (λ x y z r s n. let c = s n in let lower : y < z = c.0 in let e = r (omega (arith, lower, n)) in (let f : x < y = e.0 in omega (arith, f, lower), trans m bound p k x y z e.1 c.1)) (λ n. changes m (k.walk.what n) (OwnerOf q)) (λ x y n c. (n.before, next_moved q x y c n)) a b l p2 d m2).1
