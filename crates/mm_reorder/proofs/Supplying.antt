-- What the edges to a step give: where all that leads to it is done, it does in another order what it did.
use Rattle.std.proofs.Common.{arith, ◌≡◌, ℕ, ◌+◌, ◌*◌, ◌<◌, ℤ, length, Some, refl, Bool, true, false, sym, ◌∙◌, ap, ◌==◌, ◌⊎◌, inl, inr}
use Rattle.std.proofs.lemmas.Bool.{cases_order, false≢true, eq-eqb, or_left, or_right}
use Rattle.mm_goto.specs.Bounds.{Bounding}
use Rattle.mm_goto.specs.declared.model.Model.{Model}
use Rattle.mm_goto.specs.Listing.{Listing}
use Rattle.mm_sched.specs.declared.entry.Act.{Act}
use Rattle.mm_sched.specs.declared.entry.Act.TheVariants.{Goes, Assigns, Fails, Ends, Loads, Pushes, Puts, Fences, Takes, Gives, Updates, Misses, Starts, Joins, Enters, Leaves}
use Rattle.mm_sched.specs.declared.entry.Event.{Event}
use Rattle.mm_sched.specs.declared.entry.Event.TheVariants.{Does, Flushes}
use Rattle.mm_sched.specs.State.{pending_of}
use Rattle.mm_sched.specs.Buffer.{is_empty, seen}
use Rattle.mm_runkeys.specs.Keys.{key, drains, pops}
use Rattle.mm_rungraph.specs.RunGraph.{layout_of}
use Rattle.mm_reorder.proofs.Counting.{push_is, pop_is, pops_it}
use Rattle.mm_reorder.proofs.Course.{Course, Edge, R, has, program, fifo, told}
use Rattle.mm_reorder.proofs.Issuing.{flush_before, flush_behind, has_store_now, has_room_now}
use Rattle.mm_reorder.proofs.Joining.{joined_frame, joined_pushed, joined_popped}
use Rattle.mm_reorder.proofs.Loading.{cell_ordered, missed_ordered, loaded_ordered, own_cut}
use Rattle.mm_reorder.proofs.Owners.{owner_ordered}
use Rattle.mm_reorder.proofs.Parts.{Ghost, Part, FrameOf, CellOf, OwnerOf, PushedOf, PoppedOf, Sizes, Whole, changes}
use Rattle.mm_reorder.proofs.Seeing.{load_seen}
use Rattle.mm_reorder.proofs.Threads.{frame_ordered, runs_it, fails_last, fails_alone}
use Rattle.mm_reorder.proofs.Walking.{Queued, Agree, Cuts, Drained, Ready, GivenFor, Given, same_at}
use Rattle.mm_reorder.proofs.Ways.{closed_way, ready_way}

module _ (m : Model) (bound : Bounding) (p : Listing) (k : Course m bound p) where
  -- each step that changes the part has a way to v or from v
  abbrev pub Ordered : Part → ℕ → Type 0
  Ordered x v = (u : ℕ) → u < k.walk.size → changes m (k.walk.what u) x ≡ true → (u < v → R m bound p k u v) × (v < u → R m bound p k v u)

  pushed_ordered : (t q a b : ℕ) → a < b → b < k.walk.size → changes m (k.walk.what a) (PushedOf t q) ≡ true → changes m (k.walk.what b) (PushedOf t q) ≡ true → R m bound p k a b
  pushed_ordered t q a b l l2 h d =
      let x = push_is m (k.walk.what a) t q h in
      let y = push_is m (k.walk.what b) t q d in
      program m bound p k t a b l (runs_it m bound p k t a (Pushes x.0 x.1) (omega arith) x.2) (runs_it m bound p k t b (Pushes y.0 y.1) l2 y.2)

  popped_ordered : (t q a b : ℕ) → a < b → b < k.walk.size → changes m (k.walk.what a) (PoppedOf t q) ≡ true → changes m (k.walk.what b) (PoppedOf t q) ≡ true → R m bound p k a b
  popped_ordered t q a b l l2 h d =
      let x = pop_is m (k.walk.what a) t q h in
      let y = pop_is m (k.walk.what b) t q d in
      fifo m bound p k (t * length p.cells + q) a b l
      (has m bound p k (pops (layout_of m bound p)) (t * length p.cells + q) a (omega arith) (ap (pops (layout_of m bound p)) x.2 ∙ ap (λ i. Some (t * length p.cells + i)) x.3))
      (has m bound p k (pops (layout_of m bound p)) (t * length p.cells + q) b l2 (ap (pops (layout_of m bound p)) y.2 ∙ ap (λ i. Some (t * length p.cells + i)) y.3))

  no_size : (v : Event) → changes m v Sizes ≡ true → ⊥
  no_size (Does t a) h = false≢true h
  no_size (Flushes t c x) h = false≢true h

  module _ (fail tf nf : ℕ) (lf : fail < k.walk.size) (ef : k.walk.what fail ≡ Does tf (Fails nf)) where
    -- the parts that the step changes itself
    own_ordered : (v : ℕ) → v < k.walk.size → (x : Part) → changes m (k.walk.what v) x ≡ true → Ordered x v
    own_ordered v l (FrameOf x) h = λ u l2 d. (λ b. frame_ordered m bound p k x u v b l d h, λ b. frame_ordered m bound p k x v u b l2 h d)
    own_ordered v l (CellOf c) h = λ u l2 d. (λ b. cell_ordered m bound p k c u v b l d h, λ b. cell_ordered m bound p k c v u b l2 h d)
    own_ordered v l (OwnerOf q) h = λ u l2 d. (λ b. owner_ordered m bound p k q u v b l d h, λ b. owner_ordered m bound p k q v u b l2 h d)
    own_ordered v l (PushedOf t q) h = λ u l2 d. (λ b. pushed_ordered t q u v b l d h, λ b. pushed_ordered t q v u b l2 h d)
    own_ordered v l (PoppedOf t q) h = λ u l2 d. (λ b. popped_ordered t q u v b l d h, λ b. popped_ordered t q v u b l2 h d)
    own_ordered v l Sizes h = absurd (no_size (k.walk.what v) h)
    own_ordered v l Whole h = λ u l2 d.
        let e : u ≡ fail = fails_alone m bound p k fail u tf nf lf l2 ef d in
        let f : v ≡ fail = fails_alone m bound p k fail v tf nf lf l ef h in
        (λ b. absurd (omega (arith, e, f, b)), λ b. absurd (omega (arith, e, f, b)))

    module _ (done : ℕ → Bool) (g : Ghost) (v : ℕ) (l : v < k.walk.size) (not_failed : done fail ≡ false) (fresh : done v ≡ false) (ready : (a : ℕ) → Edge m bound p k a v → done a ≡ true) (closed : (a b : ℕ) → Edge m bound p k a b → done b ≡ true → done a ≡ true)
        (agree : Agree m bound p k.walk done g) (queued : Queued m k.walk.stores g) where
      closed_under : (a b : ℕ) → R m bound p k a b → done b ≡ true → done a ≡ true
      closed_under = closed_way (Edge m bound p k) done closed

      ready_for : (a : ℕ) → R m bound p k a v → done a ≡ true
      ready_for = ready_way (Edge m bound p k) done closed v ready

      cut : (x : Part) → Ordered x v → Cuts m bound p k.walk done x v
      cut x order = λ u l2 h. (λ d. go u l2 h d (cases_order u v), λ b. ready_for u ((order u l2 h).0 b))
        where
          go : (u : ℕ) → u < k.walk.size → changes m (k.walk.what u) x ≡ true → done u ≡ true → (u ≡ v) ⊎ ((u < v) ⊎ (v < u)) → u < v
          go u l2 h d (inl e) = absurd (false≢true (sym fresh ∙ ap done (sym e) ∙ d))
          go u l2 h d (inr (inl b)) = b
          go u l2 h d (inr (inr b)) = absurd (false≢true (sym fresh ∙ closed_under v u ((order u l2 h).1 b) d))

      own : (x : Part) → changes m (k.walk.what v) x ≡ true → Cuts m bound p k.walk done x v
      own x h = cut x (own_ordered v l x h)

      whole_cut : (t : ℕ) (a : Act) → k.walk.what v ≡ Does t a → Cuts m bound p k.walk done Whole v
      whole_cut t a e = λ u l2 h.
          let same : u ≡ fail = fails_alone m bound p k fail u tf nf lf l2 ef h in
          (λ d. absurd (false≢true (sym not_failed ∙ ap done (sym same) ∙ d)), λ b. absurd (fails_last m bound p k fail v tf t nf a (omega (arith, same, b)) l ef e))

      -- all stores of the thread
      stores_cut : (t q : ℕ) (a : Act) → k.walk.what v ≡ Does t a → Cuts m bound p k.walk done (PushedOf t q) v
      stores_cut t q a e = cut (PushedOf t q) (λ u l2 h. let x = push_is m (k.walk.what u) t q h in (
        λ b. program m bound p k t u v b (runs_it m bound p k t u (Pushes x.0 x.1) l2 x.2) (runs_it m bound p k t v a l e),
        λ b. program m bound p k t v u b (runs_it m bound p k t v a l e) (runs_it m bound p k t u (Pushes x.0 x.1) l2 x.2),
      ))

      -- and all its flushes, at a drained step
      flushes_cut : (t q : ℕ) (a : Act) → k.walk.what v ≡ Does t a → drains (Does t a) ≡ Some t → is_empty (pending_of (k.walk.at v).state t) ≡ true → ((c : ℕ) (x : ℤ) → a ≡ Pushes c x → ⊥) → Cuts m bound p k.walk done (PoppedOf t q) v
      flushes_cut t q a e dr empty no_push = cut (PoppedOf t q) (λ u l2 h. let x = pop_is m (k.walk.what u) t q h in (
        λ b. flush_before m bound p k t u v x.0 x.1 b l x.2 (has m bound p k drains t v l (ap drains e ∙ dr)),
        λ b. flush_behind m bound p k t u v x.0 x.1 b l2 empty x.2 a e no_push,
      ))

      drained : (t : ℕ) (a : Act) → k.walk.what v ≡ Does t a → drains (Does t a) ≡ Some t → is_empty (pending_of (k.walk.at v).state t) ≡ true → ((c : ℕ) (x : ℤ) → a ≡ Pushes c x → ⊥) → Drained m bound p k.walk done v t
      drained t a e dr empty no_push d = (stores_cut t (key m d) a e, flushes_cut t (key m d) a e dr empty no_push)

      loaded : (t i c : ℕ) (x : ℤ) → k.walk.what v ≡ Does t (Loads i c x) → seen (k.walk.at v).state t c ≡ seen g.state t c
      loaded t i c x e = load_seen m bound p k.walk done g v l agree queued t c
          (stores_cut t (key m c) (Loads i c x) e)
          (λ none. cut (CellOf c) (λ u l2 h. loaded_ordered m bound p k t i c v u x l l2 e none h))
          (λ u y l2 f pending last d. own_cut m bound p k t i c v u x y l e l2 f pending last done fresh closed_under d)

      joined : (t u : ℕ) → k.walk.what v ≡ Does t (Joins u) → Drained m bound p k.walk done v u
      joined t u e d = (
        cut (PushedOf u (key m d)) (λ y l2 h. joined_pushed m bound p k t u v y (key m d) l l2 e h),
        cut (PoppedOf u (key m d)) (λ y l2 h. joined_popped m bound p k t u v y (key m d) l l2 e h),
      )

      changed_at : (x : Part) (w : Event) → k.walk.what v ≡ w → changes m w x ≡ true → Cuts m bound p k.walk done x v
      changed_at x w e h = own x (ap (λ z. changes m z x) e ∙ h)

      ready_act : (t : ℕ) (a : Act) → k.walk.what v ≡ Does t a → Ready m bound p k.walk done g v t a
      ready_act t (Goes j) e = tt
      ready_act t (Assigns i x) e = tt
      ready_act t (Fails n) e = tt
      ready_act t Ends e = tt
      ready_act t (Loads i c x) e = loaded t i c x e
      ready_act t (Pushes c x) e = has_room_now m bound p k done g v l agree queued ready t c x e (same_at m bound p k.walk done g (PushedOf t (key m c)) v agree (stores_cut t (key m c) (Pushes c x) e) (omega arith))
      ready_act t (Puts c x) e = tt
      ready_act t Fences e = drained t Fences e refl (told m bound p k v t Fences l e) (λ c x h. cc)
      ready_act t (Takes q) e = (drained t (Takes q) e refl (told m bound p k v t (Takes q) l e).0 (λ c x h. cc), changed_at (OwnerOf q) (Does t (Takes q)) e (or_left (q == q) false (eq-eqb q q refl)))
      ready_act t (Gives q) e = (drained t (Gives q) e refl (told m bound p k v t (Gives q) l e).0 (λ c x h. cc), changed_at (OwnerOf q) (Does t (Gives q)) e (or_right false (q == q) (eq-eqb q q refl)))
      ready_act t (Updates i x c y) e = (drained t (Updates i x c y) e refl (told m bound p k v t (Updates i x c y) l e) (λ d z h. cc), changed_at (CellOf c) (Does t (Updates i x c y)) e (eq-eqb c c refl))
      ready_act t (Misses i c) e = (drained t (Misses i c) e refl (told m bound p k v t (Misses i c) l e) (λ d z h. cc), cut (CellOf c) (λ u l2 h. missed_ordered m bound p k t i c v u l l2 e h))
      ready_act t (Starts u) e = (drained t (Starts u) e refl (told m bound p k v t (Starts u) l e).0 (λ c x h. cc), changed_at (FrameOf u) (Does t (Starts u)) e (or_right (t == u) (u == u) (eq-eqb u u refl)))
      ready_act t (Joins u) e = (
        drained t (Joins u) e refl (told m bound p k v t (Joins u) l e).0 (λ c x h. cc),
        cut (FrameOf u) (λ y l2 h. joined_frame m bound p k t u v y l l2 e h),
        joined t u e,
      )
      ready_act t Enters e = tt
      ready_act t Leaves e = tt

      given_for : (w : Event) → k.walk.what v ≡ w → GivenFor m bound p k.walk done g v w
      given_for (Does t a) e = (whole_cut t a e, ready_act t a e)
      given_for (Flushes t c x) e = has_store_now m bound p k done g v l agree queued ready t c x e (same_at m bound p k.walk done g (PoppedOf t (key m c)) v agree (changed_at (PoppedOf t (key m c)) (Flushes t c x) e (pops_it m (Flushes t c x) t c x refl)) (omega arith))

      pub supply : Given m bound p k.walk done g v
      supply = (own, given_for (k.walk.what v) refl)
