-- A store outside the set, and what lies behind it in its thread with no drained instruction between.
use Rattle.std.proofs.Common.{arith, ◌≡◌, ◌≢◌, ℕ, suc, ◌+◌, ◌*◌, ◌<◌, ◌≤◌, ℤ, List, length, Some, None, refl, Bool, true, false, sym, ◌∙◌, ap, subst, ◌⊎◌, inl, inr, ⊎_elim}
use Rattle.std.proofs.lemmas.Bool.{cases_lt, cases_eq, false≢true, eq-eqb}
use Rattle.std.proofs.lemmas.Option.{same_Some}
use Rattle.mm_goto.specs.Bounds.{Bounding}
use Rattle.mm_goto.specs.declared.model.Model.{Model}
use Rattle.mm_goto.specs.declared.model.Model.TheVariants.{Tso, Pso}
use Rattle.mm_goto.specs.Listing.{Listing}
use Rattle.mm_sched.specs.declared.entry.Act.{Act}
use Rattle.mm_sched.specs.declared.entry.Act.TheVariants.{Goes, Assigns, Fails, Ends, Loads, Pushes, Puts, Fences, Takes, Gives, Updates, Misses, Starts, Joins, Enters, Leaves}
use Rattle.mm_sched.specs.declared.entry.Event.TheVariants.{Does, Flushes}
use Rattle.mm_sched.specs.State.{State, pending_of}
use Rattle.mm_sched.specs.Buffer.{is_empty}
use Rattle.mm_runkeys.specs.declared.graph.EdgeKind.TheVariants.{Program, Issue}
use Rattle.mm_rungraph.specs.Edges.{by, IsIssued, IsEdge}
use Rattle.mm_runkeys.specs.Keys.{key, queue, runs, drains, pops}
use Rattle.mm_rungraph.specs.RunGraph.{layout_of}
use Rattle.mm_runkeys.specs.Spans.{is_key}
use Rattle.mm_rungraph.proofs.Forward.{issued_is}
use Rattle.mm_reorder.specs.AddedEdges.{IsDirect}
use Rattle.mm_reorder.specs.Cycles.{Walk, here, step, IsOvertakenAt}
use Rattle.mm_reorder.proofs.Acting.{Tells}
use Rattle.mm_reorder.proofs.Classes.{what_is, below, issued_below, one_store}
use Rattle.mm_reorder.proofs.Closing as closing
use Rattle.mm_reorder.proofs.Counting.{pushed_up, popped_up, pushed_hit, popped_hit, pushes_it, store_is}
use Rattle.mm_reorder.proofs.Course.{Course, Edge, R, Has, has, by_is, edge, trans, program, fifo, drain_runs, told}
use Rattle.mm_reorder.proofs.Issuing.{StoreOf, store_of, made_behind, flush_before}
use Rattle.mm_reorder.proofs.Newest.{newest, newest_none}
use Rattle.mm_reorder.proofs.Nexts.{First, first}
use Rattle.mm_reorder.proofs.Parts.{PushedOf, PoppedOf, changes}
use Rattle.mm_reorder.proofs.Queue.{live}
use Rattle.mm_reorder.proofs.Seeing.{newest_queued}
use Rattle.mm_reorder.proofs.Threads.{runs_by, runs_it}
use Rattle.mm_reorder.proofs.Ways.{Way, one, on}

-- ---- ways as walks

module _ (E : ℕ → ℕ → Type 0) where
  to_walk : (b a : ℕ) → Way E b a → Walk E b a
  to_walk b a (one e) = step b e here
  to_walk b a (on k e y) = step k e (to_walk b k y)

  pub to_way : (b a : ℕ) → Way E b a → closing.Way E a b
  to_way b a (one e) = (b, e, here)
  to_way b a (on k e y) = (k, e, to_walk b k y)

  pub way_walk : (b a : ℕ) → Way E b a → Walk E b a
  way_walk b a y = to_walk b a y

-- two keys differ under partial store order alone
pub pso_apart : (m : Model) (c d : ℕ) → (key m c ≡ key m d → ⊥) → (m ≡ Pso) × (c ≢ d)
pso_apart Tso c d n = absurd (n refl)
pso_apart Pso c d n = (refl, n)

-- nothing is pending where a drained act is done
pub empty_by : (m : Model) (bound : Bounding) (s : State) (t : ℕ) (a : Act) → Tells m bound s t a → is_key t (drains (Does t a)) ≡ true → is_empty (pending_of s t) ≡ true
empty_by m bound s t (Goes k) h d = absurd (false≢true d)
empty_by m bound s t (Assigns l v) h d = absurd (false≢true d)
empty_by m bound s t (Fails n) h d = absurd (false≢true d)
empty_by m bound s t Ends h d = absurd (false≢true d)
empty_by m bound s t (Loads l c v) h d = absurd (false≢true d)
empty_by m bound s t (Pushes c v) h d = absurd (false≢true d)
empty_by m bound s t (Puts c v) h d = absurd h
empty_by m bound s t Fences h d = h
empty_by m bound s t (Takes k) h d = h.0
empty_by m bound s t (Gives k) h d = h.0
empty_by m bound s t (Updates l v c w) h d = h
empty_by m bound s t (Misses l c) h d = h
empty_by m bound s t (Starts u) h d = h.0
empty_by m bound s t (Joins u) h d = h.0
empty_by m bound s t Enters h d = absurd h
empty_by m bound s t Leaves h d = absurd h

module _ (m : Model) (bound : Bounding) (p : Listing) (k : Course m bound p) (set : List (List Bool)) where
  -- ---- a store outside the set, with its flush and the instruction behind it

  pub record Late : Type 0 where
    pub at : ℕ
    pub direct : IsDirect p set k.events at
    pub flush : ℕ
    pub issued : IsIssued (layout_of m bound p) k.events at flush
    pub next : ℕ
    pub follows : IsEdge (layout_of m bound p) k.events Program at next

  abbrev pub thread : Late → ℕ
  thread w = w.direct.thread

  pub made : (w : Late) → k.walk.what w.at ≡ Does w.direct.thread (Pushes w.direct.cell w.direct.value)
  made w = what_is m bound p k set w.at (Does w.direct.thread (Pushes w.direct.cell w.direct.value)) w.direct.stores

  pub at_below : (w : Late) → w.at < k.walk.size
  at_below w = below m bound p k set w.at (Does w.direct.thread (Pushes w.direct.cell w.direct.value)) w.direct.stores

  pub flush_below : (w : Late) → w.flush < k.walk.size
  flush_below w = issued_below m bound p k set w.at w.flush w.issued

  -- a store and its flush, by the store
  pub flush_is : (a n t c : ℕ) (x : ℤ) → a < k.walk.size → k.walk.what a ≡ Does t (Pushes c x) → IsIssued (layout_of m bound p) k.events a n → k.walk.what n ≡ Flushes t c x
  flush_is a n t c x l e i =
      let z = issued_is p k.valid (layout_of m bound p) bound refl k.entries k.events k.happen a n i in
      let parts = same z.thread t z.cell c z.value x (same_Some (Does z.thread (Pushes z.cell z.value)) (Does t (Pushes c x)) (sym z.made ∙ k.each a l ∙ ap Some e)) in
      what_is m bound p k set n (Flushes z.thread z.cell z.value) z.flushed ∙ parts
    where
      same : (t u c d : ℕ) (x y : ℤ) → Does t (Pushes c x) ≡ Does u (Pushes d y) → Flushes t c x ≡ Flushes u d y
      same t u c d x y h = cc

  -- and by the flush
  pub store_made : (a n t c : ℕ) (x : ℤ) → n < k.walk.size → k.walk.what n ≡ Flushes t c x → IsIssued (layout_of m bound p) k.events a n → k.walk.what a ≡ Does t (Pushes c x)
  store_made a n t c x l e i =
      let z = issued_is p k.valid (layout_of m bound p) bound refl k.entries k.events k.happen a n i in
      let parts = same z.thread t z.cell c z.value x (same_Some (Flushes z.thread z.cell z.value) (Flushes t c x) (sym z.flushed ∙ k.each n l ∙ ap Some e)) in
      what_is m bound p k set a (Does z.thread (Pushes z.cell z.value)) z.made ∙ parts
    where
      same : (t u c d : ℕ) (x y : ℤ) → Flushes t c x ≡ Flushes u d y → Does t (Pushes c x) ≡ Does u (Pushes d y)
      same t u c d x y h = cc

  pub flushed : (w : Late) → k.walk.what w.flush ≡ Flushes w.direct.thread w.direct.cell w.direct.value
  flushed w = flush_is w.at w.flush w.direct.thread w.direct.cell w.direct.value (at_below w) (made w) w.issued

  -- the store that a flush brings to memory has its number
  pub of_flush : (w : Late) → StoreOf m bound p k w.flush w.direct.thread w.direct.cell
  of_flush w = store_of m bound p k w.flush w.direct.thread w.direct.cell w.direct.value (flush_below w) (flushed w)

  pub same_store : (w : Late) → (of_flush w).store ≡ w.at
  same_store w = one_store (layout_of m bound p) k.events (of_flush w).store w.at w.flush (of_flush w).issued w.issued

  pub number : (w : Late) → (k.walk.at w.at).pushed w.direct.thread (key m w.direct.cell) ≡ (k.walk.at w.flush).popped w.direct.thread (key m w.direct.cell)
  number w = subst (λ a. (k.walk.at a).pushed w.direct.thread (key m w.direct.cell) ≡ (k.walk.at w.flush).popped w.direct.thread (key m w.direct.cell)) (same_store w) (of_flush w).number

  -- ---- queues keep order

  -- of two stores of a queue the earlier is flushed first
  pub flushed_first : (t q a b fa fb : ℕ) → a < b → b < k.walk.size → fa < k.walk.size → fb < k.walk.size → changes m (k.walk.what a) (PushedOf t q) ≡ true → (k.walk.at a).pushed t q ≡ (k.walk.at fa).popped t q → (k.walk.at b).pushed t q ≡ (k.walk.at fb).popped t q → fa < fb
  flushed_first t q a b fa fb l lb lfa lfb h na nb = ⊎_elim (λ z. z) (λ z. absurd (late z)) (cases_lt fa fb)
    where
      late : fb ≤ fa → ⊥
      late z =
          let one : (k.walk.at (suc a)).pushed t q ≡ suc ((k.walk.at a).pushed t q) = pushed_hit m bound p k.walk t q a (omega (arith, l, lb)) h in
          let up : (k.walk.at (suc a)).pushed t q ≤ (k.walk.at b).pushed t q = pushed_up m bound p k.walk t q (suc a) b l (omega (arith, lb)) in
          let out : (k.walk.at fb).popped t q ≤ (k.walk.at fa).popped t q = popped_up m bound p k.walk t q fb fa z (omega (arith, lfa)) in
          omega (arith, one, up, out, na, nb)

  -- and the one that is flushed first is the earlier
  pub stored_first : (t q a b fa fb : ℕ) → fa < fb → fb < k.walk.size → a < k.walk.size → changes m (k.walk.what fa) (PoppedOf t q) ≡ true → (k.walk.at a).pushed t q ≡ (k.walk.at fa).popped t q → (k.walk.at b).pushed t q ≡ (k.walk.at fb).popped t q → a < b
  stored_first t q a b fa fb l lfb la h na nb = ⊎_elim (λ z. z) (λ z. absurd (late z)) (cases_lt a b)
    where
      late : b ≤ a → ⊥
      late z =
          let one : (k.walk.at (suc fa)).popped t q ≡ suc ((k.walk.at fa).popped t q) = popped_hit m bound p k.walk t q fa (omega (arith, l, lfb)) h in
          let up : (k.walk.at (suc fa)).popped t q ≤ (k.walk.at fb).popped t q = popped_up m bound p k.walk t q (suc fa) fb l (omega (arith, lfb)) in
          let into : (k.walk.at b).pushed t q ≤ (k.walk.at a).pushed t q = pushed_up m bound p k.walk t q b a z (omega (arith, la)) in
          omega (arith, one, up, into, na, nb)

  -- where a thread has no store to the cell pending, one that it made is out
  pub out_before : (t c a fa v : ℕ) (x : ℤ) → a < v → v < k.walk.size → fa < k.walk.size → k.walk.what a ≡ Does t (Pushes c x) → (k.walk.at a).pushed t (key m c) ≡ (k.walk.at fa).popped t (key m c) → newest (pending_of (k.walk.at v).state t) c ≡ None → fa < v
  out_before t c a fa v x l lv lfa e n none = ⊎_elim (λ z. z) (λ z. absurd (late z)) (cases_lt fa v)
    where
      late : v ≤ fa → ⊥
      late z =
          let hit = pushes_it m (k.walk.what a) t c x e in
          let one : (k.walk.at (suc a)).pushed t (key m c) ≡ suc ((k.walk.at a).pushed t (key m c)) = pushed_hit m bound p k.walk t (key m c) a (omega (arith, l, lv)) hit in
          let up : (k.walk.at (suc a)).pushed t (key m c) ≤ (k.walk.at v).pushed t (key m c) = pushed_up m bound p k.walk t (key m c) (suc a) v l (omega (arith, lv)) in
          let out : (k.walk.at v).popped t (key m c) ≤ (k.walk.at fa).popped t (key m c) = popped_up m bound p k.walk t (key m c) v fa z (omega (arith, lfa)) in
          let empty : newest (live (k.walk.stores t (key m c)) ((k.walk.at v).popped t (key m c)) ((k.walk.at v).pushed t (key m c))) c ≡ None = sym (newest_queued m bound p k.walk (k.walk.at v) t c (k.walk.queued v (omega (arith, lv)))) ∙ none in
          false≢true (sym (newest_none (k.walk.stores t (key m c)) ((k.walk.at v).popped t (key m c)) ((k.walk.at v).pushed t (key m c)) c empty ((k.walk.at a).pushed t (key m c)) (omega (arith, out, n)) (omega (arith, one, up)) (c, x) (store_is m bound p k.walk a t c x (omega (arith, l, lv)) e)) ∙ eq-eqb c c refl)

  -- ---- what lies behind the store

  -- the thread executes no drained instruction behind a, up to b
  abbrev pub Clear : ℕ → ℕ → ℕ → Type 0
  Clear t a b = (j : ℕ) → a < j → j ≤ b → is_key t (by drains k.events j) ≡ false

  -- a flush of a later store of another queue
  pub record LaterFlush (w : Late) (x : ℕ) : Type 0 where
    pub cell : ℕ
    pub value : ℤ
    pub is : k.walk.what x ≡ Flushes w.direct.thread cell value
    pub of : StoreOf m bound p k x w.direct.thread cell
    pub behind : w.at < of.store
    pub clear : Clear w.direct.thread w.at of.store
    pub apart : key m cell ≡ key m w.direct.cell → ⊥

  pub record LaterRun (w : Late) (x : ℕ) : Type 0 where
    pub act : Act
    pub is : k.walk.what x ≡ Does w.direct.thread act
    pub behind : w.at < x
    pub clear : Clear w.direct.thread w.at x

  abbrev pub Later : Late → ℕ → Type 0
  Later w x = (x < k.walk.size) × (LaterRun w x ⊎ LaterFlush w x)

  abbrev pub Escapes : Late → ℕ → Type 0
  Escapes w y = IsOvertakenAt (layout_of m bound p) p set k.events w.at y

  abbrev pub Leads : Late → ℕ → Type 0
  Leads = closing.Leads Late (Edge m bound p k) (λ w. w.flush) (λ w. w.next) Later Escapes

  pub past_by : (w : Late) (y : ℕ) → R m bound p k w.flush y → Leads w y
  past_by w y r = closing.past (to_way (Edge m bound p k) y w.flush r)

  -- the store's flush leads to each drained instruction behind it
  pub to_drained : (w : Late) (j : ℕ) → w.at < j → j < k.walk.size → Has m bound p k drains w.direct.thread j → R m bound p k w.flush j
  to_drained w j l lj h = flush_before m bound p k w.direct.thread w.flush j w.direct.cell w.direct.value first_out lj (flushed w) h
    where
      ran_it : (a : Act) × (k.walk.what j ≡ Does w.direct.thread a)
      ran_it = runs_by m bound p k w.direct.thread j (k.walk.what j) refl (ap (is_key w.direct.thread) (sym (by_is m bound p k runs j lj)) ∙ drain_runs m bound p k w.direct.thread j h)

      empty : is_empty (pending_of (k.walk.at j).state w.direct.thread) ≡ true
      empty = empty_by m bound (k.walk.at j).state w.direct.thread ran_it.0 (told m bound p k j w.direct.thread ran_it.0 lj ran_it.1) (ap (is_key w.direct.thread) (sym (by_is m bound p k drains j lj ∙ ap drains ran_it.1)) ∙ h)

      first_out : w.flush < j
      first_out = ⊎_elim (λ z. z) (λ z. absurd (
          let behind : j ≤ (of_flush w).store = made_behind m bound p k w.direct.thread w.direct.cell w.flush j w.direct.value z (flush_below w) empty (flushed w) (of_flush w) in
          let same = same_store w in
          omega (arith, behind, same, l))) (cases_lt w.flush j)

  -- an instruction of the thread behind the store
  pub run_goes : (w : Late) (y : ℕ) (a : Act) → k.walk.what y ≡ Does w.direct.thread a → w.at < y → y < k.walk.size → Leads w y
  run_goes w y a e l ly = go (first (λ n. is_key w.direct.thread (by drains k.events n)) w.at (suc y))
    where
      here_runs : Has m bound p k runs w.direct.thread y
      here_runs = runs_it m bound p k w.direct.thread y a ly e

      on_to : (j : ℕ) → j < suc y → Has m bound p k drains w.direct.thread j → R m bound p k w.flush j → R m bound p k w.flush y
      on_to j z h r = ⊎_elim
          (λ same. subst (λ i. R m bound p k w.flush i) same r)
          (λ n. trans m bound p k w.flush j y r (program m bound p k w.direct.thread j y (omega arith) (drain_runs m bound p k w.direct.thread j h) here_runs))
          (cases_eq j y)

      go : First (λ n. is_key w.direct.thread (by drains k.events n)) w.at (suc y) → Leads w y
      go (inl (j, l1, l2, h, none)) = past_by w y (on_to j l2 h (to_drained w j l1 (omega (arith, l2, ly)) h))
      go (inr none) = closing.stays (ly, inl (record { act = a; is = e; behind = l; clear = λ j x z. none j x (omega arith) }))

  -- a flush of a later store of the thread
  pub flush_goes : (w : Late) (y d : ℕ) (x : ℤ) → k.walk.what y ≡ Flushes w.direct.thread d x → y < k.walk.size → (f : StoreOf m bound p k y w.direct.thread d) → w.at < f.store → Leads w y
  flush_goes w y d x e ly f l = go (first (λ n. is_key w.direct.thread (by drains k.events n)) w.at (suc f.store))
    where
      ls : f.store < k.walk.size
      ls = let b : f.store < y = f.before in omega (arith, b, ly)

      issue : R m bound p k f.store y
      issue = edge m bound p k Issue f.store y f.issued

      on_to : (j : ℕ) → j < suc f.store → Has m bound p k drains w.direct.thread j → R m bound p k w.flush j → R m bound p k w.flush f.store
      on_to j z h r = ⊎_elim
          (λ same. subst (λ i. R m bound p k w.flush i) same r)
          (λ n. trans m bound p k w.flush j f.store r (program m bound p k w.direct.thread j f.store (omega arith) (drain_runs m bound p k w.direct.thread j h) (runs_it m bound p k w.direct.thread f.store (Pushes f.cell f.value) ls f.made)))
          (cases_eq j f.store)

      in_order : key m d ≡ key m w.direct.cell → R m bound p k w.flush y
      in_order same =
          let q = key m w.direct.cell in
          let later : w.flush < y = flushed_first w.direct.thread (key m w.direct.cell) w.at f.store w.flush y l ls (flush_below w) ly (pushes_it m (k.walk.what w.at) w.direct.thread w.direct.cell w.direct.value (made w)) (number w) (subst (λ z. (k.walk.at f.store).pushed w.direct.thread z ≡ (k.walk.at y).popped w.direct.thread z) same f.number) in
          fifo m bound p k (queue (layout_of m bound p) w.direct.thread w.direct.cell) w.flush y later
          (has m bound p k (pops (layout_of m bound p)) (queue (layout_of m bound p) w.direct.thread w.direct.cell) w.flush (flush_below w) (ap (pops (layout_of m bound p)) (flushed w)))
          (has m bound p k (pops (layout_of m bound p)) (queue (layout_of m bound p) w.direct.thread w.direct.cell) y ly (ap (pops (layout_of m bound p)) e ∙ ap (λ i. Some (w.direct.thread * length p.cells + i)) same))

      go : First (λ n. is_key w.direct.thread (by drains k.events n)) w.at (suc f.store) → Leads w y
      go (inl (j, l1, l2, h, none)) = past_by w y (trans m bound p k w.flush f.store y (on_to j l2 h (to_drained w j l1 (omega (arith, l2, ls)) h)) issue)
      go (inr none) = ⊎_elim
          (λ same. past_by w y (in_order same))
          (λ n. closing.stays (ly, inr (record { cell = d; value = x; is = e; of = f; behind = l; clear = λ j a z. none j a (omega arith); apart = n })))
          (cases_eq (key m d) (key m w.direct.cell))
