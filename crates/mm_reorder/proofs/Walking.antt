-- A run, with what is pending as a part of all that is ever stored; and the next step in another order.
use Rattle.std.proofs.Common.{arith, ◌≡◌, ℕ, zero, suc, ◌+◌, ◌<◌, ◌≤◌, ℤ, pos, List, [], ◌∷◌, ◌++◌, length, Some, refl, Bool, true, false, sym, ◌∙◌, ap, ap₂, ◌==◌, slice_get, slice_set, slice_index_or, ◌⊎◌, inl, inr, subst, get_or-set_same, get_or-set_other}
use Rattle.std.specs.Prelude.{not, is_none, ◌&&◌, unwrap_or}
use Rattle.std.proofs.lemmas.Bool.{cases_eq, false≢true, eq-eqb, ne_eqb, and_from, or_left}
use Rattle.std.proofs.lemmas.Option.{unwrap_or-slice_get}
use Rattle.mm_goto.specs.Bounds.{Bounding, bound_of}
use Rattle.mm_goto.specs.declared.model.Model.{Model}
use Rattle.mm_goto.specs.Listing.{Listing}
use Rattle.mm_sched.specs.declared.entry.Entry.{Entry}
use Rattle.mm_sched.specs.declared.entry.Entry.TheVariants.{Step, In, Flush, FlushCell}
use Rattle.mm_sched.specs.declared.entry.Rules.TheVariants.{Buffered}
use Rattle.mm_sched.specs.declared.entry.Act.{Act}
use Rattle.mm_sched.specs.declared.entry.Act.TheVariants.{Goes, Assigns, Fails, Ends, Loads, Pushes, Puts, Fences, Takes, Gives, Updates, Misses, Starts, Joins, Enters, Leaves}
use Rattle.mm_sched.specs.declared.entry.Event.{Event}
use Rattle.mm_sched.specs.declared.entry.Event.TheVariants.{Does, Flushes}
use Rattle.mm_sched.specs.State.{Pending, pending_of, at_cell}
use Rattle.mm_sched.specs.Buffer.{is_empty, part, seen, without}
use Rattle.mm_sched.specs.Event.{acted, flushed, is_open_to}
use Rattle.mm_sched.proofs.Happens.{HasNames}
use Rattle.mm_runkeys.specs.Keys.{key, deed}
use Rattle.mm_runkeys.specs.Spans.{is_key}
use Rattle.mm_rungraph.proofs.Queues.{part_push, part_push_other, part_without_other}
use Rattle.mm_reorder.proofs.Acting.{Needs, act_again}
use Rattle.mm_reorder.proofs.Cut.{IsCut, Agrees, with_step, agrees_at, agrees_more}
use Rattle.mm_reorder.proofs.Doing.{Ran, Did, acts}
use Rattle.mm_reorder.proofs.Part.{part_pop, empty_alike, takes_head, takes_again}
use Rattle.mm_reorder.proofs.Parts.{Ghost, Part, FrameOf, CellOf, OwnerOf, PushedOf, PoppedOf, Sizes, Whole, Same, same_refl, same_sym, same_trans, changes, count, follow, alike, kept}
use Rattle.mm_reorder.proofs.Queue.{live, live_push, live_room, live_first, live_at, head_of}

same_rest : {A : Type 0} (x : A) (xs ys : List A) → x ∷ xs ≡ x ∷ ys → xs ≡ ys
same_rest x xs ys e = cc

without_first : (c : ℕ) (v : ℤ) (ps : List Pending) → without ((c, v) ∷ ps) c ≡ ps
without_first c v ps = rw (eq-eqb c c refl) refl

-- ---- what is pending

module _ (m : Model) (stores : ℕ → ℕ → List Pending) where
  abbrev pub QueuedAt : Ghost → ℕ → List Pending → ℕ → Type 0
  QueuedAt g t ps d = (g.popped t (key m d) ≤ g.pushed t (key m d)) × (part m ps d ≡ live (stores t (key m d)) (g.popped t (key m d)) (g.pushed t (key m d)))

  -- of all that a thread stores into a queue, the first so many are in, and of these the first so many are out again
  abbrev pub Queued : Ghost → Type 0
  Queued g = (t d : ℕ) → QueuedAt g t (pending_of g.state t) d

  -- a store that is taken in is the next of its queue, and one that comes out its first
  abbrev pub Fresh : Ghost → Event → Type 0
  Fresh g (Does t (Pushes c v)) = (slice_get (stores t (key m c)) (g.pushed t (key m c)) ≡ Some (c, v)) × (t < length g.state.pending)
  Fresh g (Does t a) = Unit {0}
  Fresh g (Flushes t c v) = (head_of (part m (pending_of g.state t) c) ≡ Some (c, v)) × (t < length g.state.pending)

  -- the counts at a queue, where they stay
  stay : (g : Ghost) (u t : ℕ) (ps qs : List Pending) (d : ℕ) (a b : Bool) → a ≡ false → b ≡ false → ps ≡ qs → QueuedAt g t qs d
      → (count a (g.popped t (key m d)) ≤ count b (g.pushed t (key m d))) × (part m ps d ≡ live (stores t (key m d)) (count a (g.popped t (key m d))) (count b (g.pushed t (key m d))))
  stay g u t ps qs d a b e f same h = rw (e, f, same) h

  push_queued : (g : Ghost) (t c : ℕ) (v : ℤ) → Queued g → Fresh g (Does t (Pushes c v)) → Queued (follow m g (Does t (Pushes c v)))
  unfolding acted
  push_queued g t c v h n u d = go (cases_eq t u) (cases_eq (key m c) (key m d))
    where
      list : List (List Pending)
      list = slice_set g.state.pending t (pending_of g.state t ++ (c, v) ∷ [])

      test : Bool
      test = (t == u) && (key m c == key m d)

      Now : Type 0
      Now = (g.popped u (key m d) ≤ count test (g.pushed u (key m d))) × (part m (slice_index_or list u []) d ≡ live (stores u (key m d)) (g.popped u (key m d)) (count test (g.pushed u (key m d))))

      elsewhere : (t ≡ u → ⊥) → slice_index_or list u [] ≡ pending_of g.state u
      elsewhere x = get_or-set_other g.state.pending t u (pending_of g.state t ++ (c, v) ∷ []) [] (λ e. x (sym e))

      here : t ≡ u → slice_index_or list u [] ≡ pending_of g.state u ++ (c, v) ∷ []
      here e = subst (λ y. slice_index_or (slice_set g.state.pending t (pending_of g.state t ++ (c, v) ∷ [])) y [] ≡ pending_of g.state y ++ (c, v) ∷ []) e (get_or-set_same g.state.pending t (pending_of g.state t ++ (c, v) ∷ []) [] n.1)

      go : (t ≡ u) ⊎ (t ≡ u → ⊥) → (key m c ≡ key m d) ⊎ (key m c ≡ key m d → ⊥) → Now
      go (inr x) y =
          let no : test ≡ false = ap (λ b. b && (key m c == key m d)) (ne_eqb t u x) in
          rw (no, elsewhere x) (h u d)
      go (inl e) (inr y) =
          let no : test ≡ false = ap₂ (λ a b. a && b) (eq-eqb t u e) (ne_eqb (key m c) (key m d) y) in
          rw (no, here e) ((h u d).0, part_push_other m (pending_of g.state u) d c v y ∙ (h u d).1)
      go (inl e) (inl y) =
          let yes : test ≡ true = ap₂ (λ a b. a && b) (eq-eqb t u e) (eq-eqb (key m c) (key m d) y) in
          let next : slice_get (stores u (key m d)) (g.pushed u (key m d)) ≡ Some (c, v) = subst (λ k. slice_get (stores u k) (g.pushed u k) ≡ Some (c, v)) y (subst (λ w. slice_get (stores w (key m c)) (g.pushed w (key m c)) ≡ Some (c, v)) e n.0) in
          rw (yes, here e) (
            let l : g.popped u (key m d) ≤ g.pushed u (key m d) = (h u d).0 in omega arith,
            part_push m (pending_of g.state u) d c v y ∙ ap (λ ps. ps ++ (c, v) ∷ []) (h u d).1 ∙ sym (live_push (stores u (key m d)) (g.popped u (key m d)) (g.pushed u (key m d)) (c, v) (h u d).0 next),
          )

  pop_queued : (g : Ghost) (t c : ℕ) (v : ℤ) → Queued g → Fresh g (Flushes t c v) → Queued (follow m g (Flushes t c v))
  unfolding flushed
  pop_queued g t c v h n u d = go (cases_eq t u) (cases_eq (key m c) (key m d))
    where
      list : List (List Pending)
      list = slice_set g.state.pending t (without (pending_of g.state t) c)

      test : Bool
      test = (t == u) && (key m c == key m d)

      Now : Type 0
      Now = (count test (g.popped u (key m d)) ≤ g.pushed u (key m d)) × (part m (slice_index_or list u []) d ≡ live (stores u (key m d)) (count test (g.popped u (key m d))) (g.pushed u (key m d)))

      elsewhere : (t ≡ u → ⊥) → slice_index_or list u [] ≡ pending_of g.state u
      elsewhere x = get_or-set_other g.state.pending t u (without (pending_of g.state t) c) [] (λ e. x (sym e))

      here : t ≡ u → slice_index_or list u [] ≡ without (pending_of g.state u) c
      here e = subst (λ y. slice_index_or (slice_set g.state.pending t (without (pending_of g.state t) c)) y [] ≡ without (pending_of g.state y) c) e (get_or-set_same g.state.pending t (without (pending_of g.state t) c) [] n.1)

      go : (t ≡ u) ⊎ (t ≡ u → ⊥) → (key m c ≡ key m d) ⊎ (key m c ≡ key m d → ⊥) → Now
      go (inr x) y =
          let no : test ≡ false = ap (λ b. b && (key m c == key m d)) (ne_eqb t u x) in
          rw (no, elsewhere x) (h u d)
      go (inl e) (inr y) =
          let no : test ≡ false = ap₂ (λ a b. a && b) (eq-eqb t u e) (ne_eqb (key m c) (key m d) y) in
          rw (no, here e) ((h u d).0, part_without_other m (pending_of g.state u) d c y ∙ (h u d).1)
      go (inl e) (inl y) =
          let yes : test ≡ true = ap₂ (λ a b. a && b) (eq-eqb t u e) (eq-eqb (key m c) (key m d) y) in
          let first : head_of (part m (pending_of g.state u) c) ≡ Some (c, v) = subst (λ w. head_of (part m (pending_of g.state w) c) ≡ Some (c, v)) e n.0 in
          let now : live (stores u (key m d)) (g.popped u (key m d)) (g.pushed u (key m d)) ≡ (c, v) ∷ part m (without (pending_of g.state u) c) d = sym (h u d).1 ∙ part_pop m (pending_of g.state u) c d v (sym y) first in
          let out : (g.popped u (key m d) < g.pushed u (key m d)) × (live (stores u (key m d)) (g.popped u (key m d)) (g.pushed u (key m d)) ≡ (c, v) ∷ live (stores u (key m d)) (suc (g.popped u (key m d))) (g.pushed u (key m d))) = live_first (stores u (key m d)) (g.popped u (key m d)) (g.pushed u (key m d)) (c, v) (ap head_of now) in
          rw (yes, here e) (let l : g.popped u (key m d) < g.pushed u (key m d) = out.0 in omega arith, same_rest (c, v) (part m (without (pending_of g.state u) c) d) (live (stores u (key m d)) (suc (g.popped u (key m d))) (g.pushed u (key m d))) (sym now ∙ out.1))

  quiet : (t u k : ℕ) (n : ℕ) → count ((t == u) && false) n ≡ n
  quiet t u k n = go (t == u)
    where
      go : (b : Bool) → count (b && false) n ≡ n
      go true = refl
      go false = refl

  other_queued : (g : Ghost) (t : ℕ) (u d : ℕ) → QueuedAt g u (pending_of g.state u) d → (g.popped u (key m d) ≤ count ((t == u) && false) (g.pushed u (key m d))) × (part m (pending_of g.state u) d ≡ live (stores u (key m d)) (g.popped u (key m d)) (count ((t == u) && false) (g.pushed u (key m d))))
  other_queued g t u d h = rw (quiet t u d (g.pushed u (key m d))) h

  pub queued_more : (g : Ghost) (v : Event) → Queued g → Fresh g v → Queued (follow m g v)
  unfolding acted
  queued_more g (Flushes t c v) h n = pop_queued g t c v h n
  queued_more g (Does t (Pushes c v)) h n = push_queued g t c v h n
  queued_more g (Does t (Starts w)) h n = λ u d. other_queued g t u d (h u d)
  queued_more g (Does t _) h n = λ u d. other_queued g t u d (h u d)

  pub same_part : (g h : Ghost) (t d : ℕ) → Queued g → Queued h → g.pushed t (key m d) ≡ h.pushed t (key m d) → g.popped t (key m d) ≡ h.popped t (key m d) → part m (pending_of g.state t) d ≡ part m (pending_of h.state t) d
  same_part g h t d a b x y = (a t d).1 ∙ ap₂ (λ out into. live (stores t (key m d)) out into) y x ∙ sym (b t d).1

-- ---- a run

-- the states of a run by their numbers, what each step did, and what each thread stores into each queue
pub record Walk (m : Model) (bound : Bounding) (p : Listing) : Type 0 where
  pub size : ℕ
  pub at : ℕ → Ghost
  pub what : ℕ → Event
  pub by : ℕ → Entry
  pub stores : ℕ → ℕ → List Pending
  pub goes : (n : ℕ) → n < size → at (suc n) ≡ follow m (at n) (what n)
  pub did : (n : ℕ) → n < size → Did (Buffered m bound) p (at n).state (by n) (what n)
  pub queued : (n : ℕ) → n ≤ size → Queued m stores (at n)
  pub fresh : (n : ℕ) → n < size → Fresh m stores (at n) (what n)
  pub names : (n : ℕ) → n < size → HasNames (at n).state (what n)
  pub none_in : (t k : ℕ) → (at zero).pushed t k ≡ 0
  pub none_out : (t k : ℕ) → (at zero).popped t k ≡ 0

module _ (m : Model) (bound : Bounding) (p : Listing) (w : Walk m bound p) where
  abbrev pub changed : ℕ → Part → Bool
  changed n x = changes m (w.what n) x

  pub frame : (n : ℕ) (x : Part) → n < w.size → changed n x ≡ false → Same (w.at (suc n)) (w.at n) x
  frame n x l e = subst (λ g. Same g (w.at n) x) (sym (w.goes n l)) (kept m (w.what n) (w.at n) x e)

  abbrev pub Cuts : (ℕ → Bool) → Part → ℕ → Type 0
  Cuts done x k = IsCut w.size changed done x k

  abbrev pub Agree : (ℕ → Bool) → Ghost → Type 0
  Agree done g = Agrees Same w.size w.at changed done g

  pub same_at : (done : ℕ → Bool) (g : Ghost) (x : Part) (k : ℕ) → Agree done g → Cuts done x k → k ≤ w.size → Same g (w.at k) x
  same_at = agrees_at Part Ghost Same same_refl same_sym same_trans w.size w.at changed frame

  -- where the parts that step v changes are as they were before it, it does there what it did
  pub advance : (done : ℕ → Bool) (g : Ghost) (v : ℕ) → v < w.size → Agree done g → ((x : Part) → changed v x ≡ true → Cuts done x v) → Agree (with_step done v) (follow m g (w.what v))
  advance done g v l a cut = agrees_more Part Ghost Same same_refl same_sym same_trans w.size w.at changed frame done g (follow m g (w.what v)) v l a cut
      (λ x e. subst (λ h. Same (follow m g (w.what v)) h x) (sym (w.goes v l)) (alike m (w.what v) g (w.at v) x (same_at done g x v a (cut x e) (omega arith))))
      (λ x e. kept m (w.what v) g x e)

  -- ---- the next step in another order

  -- all that the thread did and flushed before v is done, and no more
  abbrev pub Drained : (ℕ → Bool) → ℕ → ℕ → Type 0
  Drained done v t = (d : ℕ) → Cuts done (PushedOf t (key m d)) v × Cuts done (PoppedOf t (key m d)) v

  -- what the edges to v give for the act of thread t
  abbrev pub Ready : (ℕ → Bool) → Ghost → ℕ → ℕ → Act → Type 0
  Ready done g v t (Goes k) = Unit {0}
  Ready done g v t (Assigns l x) = Unit {0}
  Ready done g v t (Fails n) = Unit {0}
  Ready done g v t Ends = Unit {0}
  Ready done g v t (Loads l c x) = seen (w.at v).state t c ≡ seen g.state t c
  Ready done g v t (Pushes c x) = g.pushed t (key m c) < g.popped t (key m c) + bound_of bound t
  Ready done g v t (Puts c x) = Unit {0}
  Ready done g v t Fences = Drained done v t
  Ready done g v t (Takes k) = Drained done v t × Cuts done (OwnerOf k) v
  Ready done g v t (Gives k) = Drained done v t × Cuts done (OwnerOf k) v
  Ready done g v t (Updates l c x y) = Drained done v t × Cuts done (CellOf x) v
  Ready done g v t (Misses l c) = Drained done v t × Cuts done (CellOf c) v
  Ready done g v t (Starts u) = Drained done v t × Cuts done (FrameOf u) v
  Ready done g v t (Joins u) = Drained done v t × Cuts done (FrameOf u) v × Drained done v u
  Ready done g v t Enters = Unit {0}
  Ready done g v t Leaves = Unit {0}

  module _ (done : ℕ → Bool) (g : Ghost) (v : ℕ) (l : v < w.size) (agree : Agree done g) (queued : Queued m w.stores g) where
    same_now : (x : Part) → Cuts done x v → Same g (w.at v) x
    same_now x c = same_at done g x v agree c (omega arith)

    empty_same : (t : ℕ) → Drained done v t → is_empty (pending_of (w.at v).state t) ≡ is_empty (pending_of g.state t)
    empty_same t d = empty_alike m (pending_of (w.at v).state t) (pending_of g.state t) (λ c. same_part m w.stores (w.at v) g t c (w.queued v (omega arith)) queued (sym (same_now (PushedOf t (key m c)) (d c).0)) (sym (same_now (PoppedOf t (key m c)) (d c).1)))

    cell_same : (c : ℕ) → Cuts done (CellOf c) v → at_cell (w.at v).state c ≡ at_cell g.state c
    cell_same c d = sym (unwrap_or-slice_get (w.at v).state.memory c (pos 0)) ∙ ap (λ o. unwrap_or o (pos 0)) (sym (same_now (CellOf c) d)) ∙ unwrap_or-slice_get g.state.memory c (pos 0)

    has_room : (t c : ℕ) → g.pushed t (key m c) < g.popped t (key m c) + bound_of bound t → length (part m (pending_of g.state t) c) < bound_of bound t
    has_room t c r =
        let k : length (live (w.stores t (key m c)) (g.popped t (key m c)) (g.pushed t (key m c))) + g.popped t (key m c) ≤ g.pushed t (key m c) = live_room (w.stores t (key m c)) (g.popped t (key m c)) (g.pushed t (key m c)) (queued t c).0 in
        let e : length (part m (pending_of g.state t) c) ≡ length (live (w.stores t (key m c)) (g.popped t (key m c)) (g.pushed t (key m c))) = ap length (queued t c).1 in
        omega (arith, k, e, r)

    pub head_again : (t c : ℕ) (q : Pending) → head_of (part m (pending_of (w.at v).state t) c) ≡ Some q → Cuts done (PoppedOf t (key m c)) v → g.popped t (key m c) < g.pushed t (key m c) → head_of (part m (pending_of g.state t) c) ≡ Some q
    head_again t c q h k b =
        let before : head_of (live (w.stores t (key m c)) ((w.at v).popped t (key m c)) ((w.at v).pushed t (key m c))) ≡ Some q = subst (λ ps. head_of ps ≡ Some q) (w.queued v (omega arith) t c).1 h in
        ap head_of (queued t c).1
        ∙ live_at (w.stores t (key m c)) (g.popped t (key m c)) (g.pushed t (key m c)) b
        ∙ ap (slice_get (w.stores t (key m c))) (same_now (PoppedOf t (key m c)) k)
        ∙ sym (live_at (w.stores t (key m c)) ((w.at v).popped t (key m c)) ((w.at v).pushed t (key m c)) (live_first (w.stores t (key m c)) ((w.at v).popped t (key m c)) ((w.at v).pushed t (key m c)) q before).0)
        ∙ before

    needs_at : Cuts done Whole v → (t : ℕ) (a : Act) → Ready done g v t a → Needs m bound (w.at v).state g.state t a
    needs_at q t (Goes k) r = tt
    needs_at q t (Assigns k x) r = tt
    needs_at q t (Fails n) r = tt
    needs_at q t Ends r = tt
    needs_at q t (Loads k c x) r = r
    needs_at q t (Pushes c x) r = has_room t c r
    needs_at q t (Puts c x) r = tt
    needs_at q t Fences r = empty_same t r
    needs_at q t (Takes k) r = (empty_same t r.0, sym (same_now (OwnerOf k) r.1))
    needs_at q t (Gives k) r = (empty_same t r.0, sym (same_now (OwnerOf k) r.1))
    needs_at q t (Updates k x c y) r = (empty_same t r.0, cell_same c r.1)
    needs_at q t (Misses k c) r = (empty_same t r.0, cell_same c r.1)
    needs_at q t (Starts u) r = (empty_same t r.0, sym (same_now (FrameOf u) r.1))
    needs_at q t (Joins u) r = (empty_same t r.0, sym (same_now (FrameOf u) r.1), empty_same u r.2)
    needs_at q t Enters r = sym (same_now Whole q).1
    needs_at q t Leaves r = sym (same_now Whole q).1

    pub ran_again : (e : Entry) (t : ℕ) (a : Act) → Ran (Buffered m bound) p (w.at v).state e t a → Cuts done Whole v → Cuts done (FrameOf t) v → Cuts done Sizes v → Ready done g v t a → Ran (Buffered m bound) p g.state e t a
    ran_again e t a d q c z r =
        let still = same_now Whole q in record {
          frame = d.frame;
          instr = d.instr;
          there = same_now (FrameOf t) c ∙ d.there;
          fetches = d.fetches;
          allowed = ap₂ (λ x y. d.frame.started && not d.frame.ended && is_none x && is_open_to t y) still.0 still.1 ∙ d.allowed;
          act_is = again e d.act_is;
          by = d.by;
        }
      where
        again : (h : Entry) → acts (Buffered m bound) (w.at v).state t d.frame d.instr h ≡ Some a → acts (Buffered m bound) g.state t d.frame d.instr h ≡ Some a
        again (Step u) x = act_again m bound (w.at v).state g.state t d.frame (sym (same_now Sizes z).0) d.instr a x (needs_at q t a r)
        again (In u y) x = x
        again (Flush u) x = x
        again (FlushCell u y) x = x

    pub flushed_again : (e : Entry) (t c : ℕ) (x : ℤ) → Did (Buffered m bound) p (w.at v).state e (Flushes t c x) → Cuts done (PoppedOf t (key m c)) v → g.popped t (key m c) < g.pushed t (key m c) → Did (Buffered m bound) p g.state e (Flushes t c x)
    flushed_again e t c x d k b = (takes_again m e (pending_of (w.at v).state t) (pending_of g.state t) c x d.0 (head_again t c (c, x) (takes_head m e (pending_of (w.at v).state t) c x d.0) k b), d.1)

  -- ---- a whole step

  -- what the edges to v give
  abbrev pub GivenFor : (ℕ → Bool) → Ghost → ℕ → Event → Type 0
  GivenFor done g v (Does t a) = Cuts done Whole v × Ready done g v t a
  GivenFor done g v (Flushes t c x) = g.popped t (key m c) < g.pushed t (key m c)

  abbrev pub Given : (ℕ → Bool) → Ghost → ℕ → Type 0
  Given done g v = ((x : Part) → changed v x ≡ true → Cuts done x v) × GivenFor done g v (w.what v)

  no_sizes : (done : ℕ → Bool) (v : ℕ) → Cuts done Sizes v
  no_sizes done v = λ u l e. absurd (false≢true (sym (go (w.what u)) ∙ e))
    where
      go : (x : Event) → changes m x Sizes ≡ false
      go (Does t a) = refl
      go (Flushes t c y) = refl

  module _ (done : ℕ → Bool) (g : Ghost) (v : ℕ) (l : v < w.size) (agree : Agree done g) (queued : Queued m w.stores g) where
    again_by : (x : Event) → ((y : Part) → changes m x y ≡ true → Cuts done y v) → Did (Buffered m bound) p (w.at v).state (w.by v) x → GivenFor done g v x → Did (Buffered m bound) p g.state (w.by v) x
    again_by (Does t a) cut d k = ran_again done g v l agree queued (w.by v) t a d k.0 (cut (FrameOf t) (or_left (t == t) (is_key t (deed a).starts) (eq-eqb t t refl))) (no_sizes done v) k.1
    again_by (Flushes t c y) cut d k = flushed_again done g v l agree queued (w.by v) t c y d (cut (PoppedOf t (key m c)) (and_from (t == t) (key m c == key m c) (eq-eqb t t refl) (eq-eqb (key m c) (key m c) refl))) k

    pub again : Given done g v → Did (Buffered m bound) p g.state (w.by v) (w.what v)
    again k = again_by (w.what v) k.0 (w.did v l) k.1

    -- a store that is taken in is the next here too, and one that comes out the first
    fresh_by : (x : Event) → ((y : Part) → changes m x y ≡ true → Cuts done y v) → GivenFor done g v x → Fresh m w.stores (w.at v) x → Fresh m w.stores g x
    fresh_by (Flushes t c y) cut k n = (
      head_again done g v l agree queued t c (c, y) n.0 (cut (PoppedOf t (key m c)) (and_from (t == t) (key m c == key m c) (eq-eqb t t refl) (eq-eqb (key m c) (key m c) refl))) k,
      subst (λ i. t < i) (sym (same_now done g v l agree queued Sizes (no_sizes done v)).1) n.1,
    )
    fresh_by (Does t (Pushes c y)) cut k n = (
      ap (slice_get (w.stores t (key m c))) (same_now done g v l agree queued (PushedOf t (key m c)) (cut (PushedOf t (key m c)) (and_from (t == t) (key m c == key m c) (eq-eqb t t refl) (eq-eqb (key m c) (key m c) refl)))) ∙ n.0,
      subst (λ i. t < i) (sym (same_now done g v l agree queued Sizes (no_sizes done v)).1) n.1,
    )
    fresh_by (Does t (Goes j)) cut k n = tt
    fresh_by (Does t _) cut k n = tt

    pub fresh_again : Given done g v → Fresh m w.stores g (w.what v)
    fresh_again k = fresh_by (w.what v) k.0 k.1 (w.fresh v l)

    pub agree_on : Given done g v → Agree (with_step done v) (follow m g (w.what v))
    agree_on k = advance done g v l agree k.0

    pub queued_on : Given done g v → Queued m w.stores (follow m g (w.what v))
    queued_on k = queued_more m w.stores g (w.what v) queued (fresh_again k)
