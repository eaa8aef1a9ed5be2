-- The run of a trace: its states with the counters of the queues.
use Rattle.std.proofs.Common.{arith, ◌≡◌, ℕ, zero, suc, ◌+◌, ◌*◌, ◌<◌, ◌≤◌, pos, List, [], ◌∷◌, length, take, Option, Some, None, refl, Bool, true, false, sym, ◌∙◌, ap, ap₂, subst, ◌==◌, slice_get, slice_index_or, if◌then◌else◌, ◌⊎◌, inl, inr}
use Rattle.std.specs.Prelude.{◌&&◌}
use Rattle.std.proofs.lemmas.Bool.{cases_eq, eq-eqb, ne_eqb}
use Rattle.std.proofs.lemmas.Option.{same_Some}
use Rattle.mm_goto.specs.Bounds.{Bounding}
use Rattle.mm_goto.specs.declared.model.Model.{Model}
use Rattle.mm_goto.specs.Listing.{Listing}
use Rattle.mm_sched.specs.declared.entry.Entry.{Entry}
use Rattle.mm_sched.specs.declared.entry.Entry.TheVariants.{Step}
use Rattle.mm_sched.specs.declared.entry.Rules.{Rules}
use Rattle.mm_sched.specs.declared.entry.Act.TheVariants.{Goes, Pushes}
use Rattle.mm_sched.specs.declared.entry.Event.{Event}
use Rattle.mm_sched.specs.declared.entry.Event.TheVariants.{Does, Flushes}
use Rattle.mm_sched.specs.Guarded.{◌>>=◌}
use Rattle.mm_sched.specs.State.{State, Pending}
use Rattle.mm_sched.specs.Event.{event, after}
use Rattle.mm_runkeys.specs.Keys.{key, queue, pushes, pops}
use Rattle.mm_rungraph.specs.RunGraph.{layout_of}
use Rattle.mm_runkeys.specs.Spans.{is_key, times}
use Rattle.mm_rungraph.specs.Traces.{events_of, after_all}
use Rattle.mm_rungraph.proofs.Forward.{HasCell}
use Rattle.mm_rungraph.proofs.Nths.{times_cons}
use Rattle.mm_rungraph.proofs.Queues.{same_queue}
use Rattle.mm_reorder.proofs.Parts.{Ghost, PushedOf, PoppedOf, changes, count, count_least, follow}

-- the state behind the first n events
abbrev pub ghost_at : Model → Ghost → List Event → ℕ → Ghost
ghost_at m g vs zero = g
ghost_at m g [] (suc n) = g
ghost_at m g (v ∷ vs) (suc n) = ghost_at m (follow m g v) vs n

-- any event and any entry, for steps that there are not
abbrev no_event : Event
no_event = Flushes 0 0 (pos 0)

abbrev no_entry : Entry
no_entry = Step 0

-- ---- the stores of a queue

abbrev pub item : Event → Pending
item (Does t (Pushes c x)) = (c, x)
item (Does t (Goes j)) = (0, pos 0)
item (Does t a) = (0, pos 0)
item (Flushes t c x) = (c, x)

abbrev pub picked : Bool → Pending → List Pending → List Pending
picked b q ps = if b then q ∷ ps else ps

abbrev pub collect : Model → ℕ → ℕ → List Event → List Pending
collect m t q [] = []
collect m t q (v ∷ vs) = picked (changes m v (PushedOf t q)) (item v) (collect m t q vs)

module _ (m : Model) where
  pub goes_at : (g : Ghost) (vs : List Event) (n : ℕ) → n < length vs → ghost_at m g vs (suc n) ≡ follow m (ghost_at m g vs n) (slice_index_or vs n (Flushes 0 0 (pos 0)))
  goes_at g [] n l = absurd (omega arith)
  goes_at g (v ∷ vs) zero l = refl
  goes_at g (v ∷ vs) (suc n) l = goes_at (follow m g v) vs n (omega arith)

  pub state_at : (g : Ghost) (vs : List Event) (n : ℕ) → (ghost_at m g vs n).state ≡ after_all g.state (take n vs)
  state_at g [] zero = refl
  state_at g [] (suc n) = refl
  state_at g (v ∷ vs) zero = refl
  state_at g (v ∷ vs) (suc n) = state_at (follow m g v) vs n

  module _ (t q : ℕ) where
    pushed_least : (g : Ghost) (vs : List Event) (n : ℕ) → g.pushed t q ≤ (ghost_at m g vs n).pushed t q
    pushed_least g vs zero = omega arith
    pushed_least g [] (suc n) = omega arith
    pushed_least g (v ∷ vs) (suc n) =
        let h : count (changes m v (PushedOf t q)) (g.pushed t q) ≤ (ghost_at m (follow m g v) vs n).pushed t q = pushed_least (follow m g v) vs n in
        let c : g.pushed t q ≤ count (changes m v (PushedOf t q)) (g.pushed t q) = count_least (g.pushed t q) (changes m v (PushedOf t q)) in
        omega (arith, h, c)

    pub collected : (g : Ghost) (vs : List Event) (n i : ℕ) (x : Event) → slice_get vs n ≡ Some x → changes m x (PushedOf t q) ≡ true → (ghost_at m g vs n).pushed t q ≡ g.pushed t q + i → slice_get (collect m t q vs) i ≡ Some (item x)
    collected g [] n i x e h c = cc
    collected g (v ∷ vs) zero i x e h c =
        let same : v ≡ x = cc in
        let none : i ≡ 0 = omega (arith, c) in
        ap₂ (λ b j. slice_get (picked b (item v) (collect m t q vs)) j) (ap (λ z. changes m z (PushedOf t q)) same ∙ h) none ∙ ap (λ z. Some (item z)) same
    collected g (v ∷ vs) (suc n) i x e h c = go (changes m v (PushedOf t q)) refl (λ j z. collected (follow m g v) vs n j x e h z)
      where
        least : count (changes m v (PushedOf t q)) (g.pushed t q) ≤ (ghost_at m (follow m g v) vs n).pushed t q
        least = pushed_least (follow m g v) vs n

        up : (j : ℕ) → i ≡ suc j → changes m v (PushedOf t q) ≡ true → ((j : ℕ) → (ghost_at m (follow m g v) vs n).pushed t q ≡ count (changes m v (PushedOf t q)) (g.pushed t q) + j → slice_get (collect m t q vs) j ≡ Some (item x)) → slice_get (item v ∷ collect m t q vs) i ≡ Some (item x)
        up j s d ih =
            let now : (ghost_at m (follow m g v) vs n).pushed t q ≡ count (changes m v (PushedOf t q)) (g.pushed t q) + j = c ∙ (let z : g.pushed t q + i ≡ suc (g.pushed t q) + j = omega (arith, s) in z) ∙ ap (λ b. count b (g.pushed t q) + j) (sym d) in
            ap (λ k. slice_get (item v ∷ collect m t q vs) k) s ∙ ih j now

        some : changes m v (PushedOf t q) ≡ true → ((j : ℕ) → (ghost_at m (follow m g v) vs n).pushed t q ≡ count (changes m v (PushedOf t q)) (g.pushed t q) + j → slice_get (collect m t q vs) j ≡ Some (item x)) → (j : ℕ) → i ≡ j → slice_get (item v ∷ collect m t q vs) i ≡ Some (item x)
        some d ih zero s = absurd (let z : count true (g.pushed t q) ≤ (ghost_at m (follow m g v) vs n).pushed t q = subst (λ b. count b (g.pushed t q) ≤ (ghost_at m (follow m g v) vs n).pushed t q) d least in omega (arith, z, c, s))
        some d ih (suc j) s = up j s d ih

        go : (b : Bool) → changes m v (PushedOf t q) ≡ b → ((j : ℕ) → (ghost_at m (follow m g v) vs n).pushed t q ≡ count (changes m v (PushedOf t q)) (g.pushed t q) + j → slice_get (collect m t q vs) j ≡ Some (item x)) → slice_get (picked (changes m v (PushedOf t q)) (item v) (collect m t q vs)) i ≡ Some (item x)
        go true d ih = ap (λ b. slice_get (picked b (item v) (collect m t q vs)) i) d ∙ some d ih i refl
        go false d ih = ap (λ b. slice_get (picked b (item v) (collect m t q vs)) i) d ∙ ih i (c ∙ ap (λ b. count b (g.pushed t q) + i) (sym d))

-- ---- the counters are those of the keys

module _ (m : Model) (bound : Bounding) (p : Listing) where
  other_key : (u t : ℕ) → ((u == t) && false) ≡ false
  other_key u t = go (u == t)
    where
      go : (b : Bool) → (b && false) ≡ false
      go true = refl
      go false = refl

  same_test : (u t c d : ℕ) → d < length p.cells → c < length p.cells → ((u == t) && (key m d == key m c)) ≡ (queue (layout_of m bound p) u d == queue (layout_of m bound p) t c)
  same_test u t c d l l2 = go (cases_eq u t) (cases_eq (key m d) (key m c))
    where
      no : ((u ≡ t) → (key m d ≡ key m c) → ⊥) → (queue (layout_of m bound p) u d == queue (layout_of m bound p) t c) ≡ false
      no n = ne_eqb (queue (layout_of m bound p) u d) (queue (layout_of m bound p) t c) (λ e. let z = same_queue (layout_of m bound p) u t d c l l2 e in n z.0 z.1)

      go : (u ≡ t) ⊎ (u ≡ t → ⊥) → (key m d ≡ key m c) ⊎ (key m d ≡ key m c → ⊥) → ((u == t) && (key m d == key m c)) ≡ (queue (layout_of m bound p) u d == queue (layout_of m bound p) t c)
      go (inr n) y = ap (λ b. b && (key m d == key m c)) (ne_eqb u t n) ∙ sym (no (λ e f. n e))
      go (inl e) (inr n) = ap₂ (λ a b. a && b) (eq-eqb u t e) (ne_eqb (key m d) (key m c) n) ∙ sym (no (λ x f. n f))
      go (inl e) (inl f) = ap₂ (λ a b. a && b) (eq-eqb u t e) (eq-eqb (key m d) (key m c) f) ∙ sym (eq-eqb (queue (layout_of m bound p) u d) (queue (layout_of m bound p) t c) (ap₂ (λ a b. a * length p.cells + b) e f))

  push_test : (t c : ℕ) (v : Event) → c < length p.cells → HasCell (layout_of m bound p) v → changes m v (PushedOf t (key m c)) ≡ is_key (queue (layout_of m bound p) t c) (pushes (layout_of m bound p) v)
  push_test t c (Flushes u d x) l h = refl
  push_test t c (Does u (Pushes d x)) l h = same_test u t c d h l
  push_test t c (Does u (Goes j)) l h = other_key u t
  push_test t c (Does u a) l h = other_key u t

  pop_test : (t c : ℕ) (v : Event) → c < length p.cells → HasCell (layout_of m bound p) v → changes m v (PoppedOf t (key m c)) ≡ is_key (queue (layout_of m bound p) t c) (pops (layout_of m bound p) v)
  pop_test t c (Flushes u d x) l h = same_test u t c d h l
  pop_test t c (Does u a) l h = refl

  -- every event of the list has a cell of the program
  abbrev HaveCells : List Event → Type 0
  HaveCells vs = (n : ℕ) (v : Event) → slice_get vs n ≡ Some v → HasCell (layout_of m bound p) v

  plus : (b : Bool) (n : ℕ) → count b n ≡ n + (if b then 1 else 0)
  plus true n = omega arith
  plus false n = omega arith

  pub pushed_times : (t c : ℕ) → c < length p.cells → (g : Ghost) (vs : List Event) (n : ℕ) → HaveCells vs → (ghost_at m g vs n).pushed t (key m c) ≡ g.pushed t (key m c) + times (pushes (layout_of m bound p)) (queue (layout_of m bound p) t c) (take n vs)
  pushed_times t c l g [] zero h = omega arith
  pushed_times t c l g [] (suc n) h = omega arith
  pushed_times t c l g (v ∷ vs) zero h = omega arith
  pushed_times t c l g (v ∷ vs) (suc n) h =
      pushed_times t c l (follow m g v) vs n (λ i x e. h (suc i) x e)
      ∙ ap (λ i. i + times (pushes (layout_of m bound p)) (queue (layout_of m bound p) t c) (take n vs)) (plus (changes m v (PushedOf t (key m c))) (g.pushed t (key m c)) ∙ ap (λ b. g.pushed t (key m c) + (if b then 1 else 0)) (push_test t c v l (h 0 v refl)))
      ∙ (let z : g.pushed t (key m c) + (if is_key (queue (layout_of m bound p) t c) (pushes (layout_of m bound p) v) then 1 else 0) + times (pushes (layout_of m bound p)) (queue (layout_of m bound p) t c) (take n vs) ≡ g.pushed t (key m c) + ((if is_key (queue (layout_of m bound p) t c) (pushes (layout_of m bound p) v) then 1 else 0) + times (pushes (layout_of m bound p)) (queue (layout_of m bound p) t c) (take n vs)) = omega arith in z)
      ∙ ap (λ i. g.pushed t (key m c) + i) (sym (times_cons (pushes (layout_of m bound p)) (queue (layout_of m bound p) t c) v (take n vs)))

  pub popped_times : (t c : ℕ) → c < length p.cells → (g : Ghost) (vs : List Event) (n : ℕ) → HaveCells vs → (ghost_at m g vs n).popped t (key m c) ≡ g.popped t (key m c) + times (pops (layout_of m bound p)) (queue (layout_of m bound p) t c) (take n vs)
  popped_times t c l g [] zero h = omega arith
  popped_times t c l g [] (suc n) h = omega arith
  popped_times t c l g (v ∷ vs) zero h = omega arith
  popped_times t c l g (v ∷ vs) (suc n) h =
      popped_times t c l (follow m g v) vs n (λ i x e. h (suc i) x e)
      ∙ ap (λ i. i + times (pops (layout_of m bound p)) (queue (layout_of m bound p) t c) (take n vs)) (plus (changes m v (PoppedOf t (key m c))) (g.popped t (key m c)) ∙ ap (λ b. g.popped t (key m c) + (if b then 1 else 0)) (pop_test t c v l (h 0 v refl)))
      ∙ (let z : g.popped t (key m c) + (if is_key (queue (layout_of m bound p) t c) (pops (layout_of m bound p) v) then 1 else 0) + times (pops (layout_of m bound p)) (queue (layout_of m bound p) t c) (take n vs) ≡ g.popped t (key m c) + ((if is_key (queue (layout_of m bound p) t c) (pops (layout_of m bound p) v) then 1 else 0) + times (pops (layout_of m bound p)) (queue (layout_of m bound p) t c) (take n vs)) = omega arith in z)
      ∙ ap (λ i. g.popped t (key m c) + i) (sym (times_cons (pops (layout_of m bound p)) (queue (layout_of m bound p) t c) v (take n vs)))

-- ---- entries and events

split : (w : Event) (o : Option (List Event)) (vs : List Event) → (o >>= λ us. Some (w ∷ us)) ≡ Some vs → (us : List Event) × (o ≡ Some us) × (w ∷ us ≡ vs)
split w None vs h = cc
split w (Some us) vs h = (us, refl, cc)

pub event_at : (r : Rules) (p : Listing) (es : List Entry) (st : State) (vs : List Event) → events_of r p st es ≡ Some vs → (n : ℕ) → n < length vs → event r p (after_all st (take n vs)) (slice_index_or es n (Step 0)) ≡ Some (slice_index_or vs n (Flushes 0 0 (pos 0)))
event_at r p [] st vs h n l = absurd (let z : [] ≡ vs = same_Some [] vs h in let y : length {A = Event} [] ≡ length vs = ap length z in omega (arith, y, l))
event_at r p (e ∷ es) st vs h n l = go (event r p st e) refl h (λ w us x i j. event_at r p es (after st w) us x i j)
  where
    at : (w : Event) (us : List Event) → event r p st e ≡ Some w → events_of r p (after st w) es ≡ Some us → ((i : ℕ) → i < length us → event r p (after_all (after st w) (take i us)) (slice_index_or es i (Step 0)) ≡ Some (slice_index_or us i (Flushes 0 0 (pos 0)))) → (n : ℕ) → n < length (w ∷ us) → event r p (after_all st (take n (w ∷ us))) (slice_index_or (e ∷ es) n (Step 0)) ≡ Some (slice_index_or (w ∷ us) n (Flushes 0 0 (pos 0)))
    at w us x y ih zero b = x
    at w us x y ih (suc i) b = ih i (omega arith)

    go : (o : Option Event) → event r p st e ≡ o → (o >>= λ w. events_of r p (after st w) es >>= λ us. Some (w ∷ us)) ≡ Some vs
        → ((w : Event) (us : List Event) → events_of r p (after st w) es ≡ Some us → (i : ℕ) → i < length us → event r p (after_all (after st w) (take i us)) (slice_index_or es i (Step 0)) ≡ Some (slice_index_or us i (Flushes 0 0 (pos 0))))
        → event r p (after_all st (take n vs)) (slice_index_or (e ∷ es) n (Step 0)) ≡ Some (slice_index_or vs n (Flushes 0 0 (pos 0)))
    go None x y ih = cc
    go (Some w) x y ih =
        let b = split w (events_of r p (after st w) es) vs y in
        subst (λ us. n < length us → event r p (after_all st (take n us)) (slice_index_or (e ∷ es) n (Step 0)) ≡ Some (slice_index_or us n (Flushes 0 0 (pos 0)))) b.2 (at w b.0 x b.1 (ih w b.0 b.1) n) l
