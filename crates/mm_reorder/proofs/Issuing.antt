-- The edges between a store and its flush, and between a flush and the store that takes its room.
use Rattle.std.proofs.Common.{arith, ◌≡◌, ℕ, zero, suc, ◌+◌, ◌-◌, ◌*◌, ◌<◌, ◌≤◌, ℤ, List, [], ◌∷◌, length, Some, None, refl, Bool, true, sym, ◌∙◌, ap, subst, slice_get, ◌⊎◌, inl, inr, ⊎_elim}
use Rattle.std.proofs.lemmas.Bool.{cases_lt}
use Rattle.std.proofs.lemmas.Option.{slice_get_within}
use Rattle.mm_goto.specs.Bounds.{Bounding, bound_of}
use Rattle.mm_goto.specs.declared.model.Model.{Model}
use Rattle.mm_goto.specs.Listing.{Listing}
use Rattle.mm_sched.specs.declared.entry.Act.{Act}
use Rattle.mm_sched.specs.declared.entry.Act.TheVariants.{Pushes}
use Rattle.mm_sched.specs.declared.entry.Event.TheVariants.{Does, Flushes}
use Rattle.mm_sched.specs.State.{pending_of}
use Rattle.mm_sched.specs.Buffer.{is_empty, part}
use Rattle.mm_sched.proofs.Happens.{HasNames}
use Rattle.mm_runkeys.specs.declared.graph.EdgeKind.TheVariants.{Issue, Room}
use Rattle.mm_rungraph.specs.Edges.{IsNth, IsIssued, IsRoomFor}
use Rattle.mm_runkeys.specs.Keys.{key, runs, flushes, drains, pushes, pops, queue}
use Rattle.mm_rungraph.specs.RunGraph.{layout_of}
use Rattle.mm_reorder.proofs.Counting.{IsPush, IsPop, push_of, pop_of, pushed_up, popped_up, pushed_hit, pushes_it, head_is, store_is, pushed_past, popped_past}
use Rattle.mm_reorder.proofs.Course.{Course, R, Has, has, by_is, edge, trans, program, draining, told, Edge}
use Rattle.mm_reorder.proofs.Part.{none_counts}
use Rattle.mm_reorder.proofs.Parts.{Ghost, PushedOf, changes}
use Rattle.mm_reorder.proofs.Queue.{live, live_at, head_of}
use Rattle.mm_reorder.proofs.Threads.{runs_it}
use Rattle.mm_reorder.proofs.Walking.{Queued, Agree}

-- as many as are in and not out
live_length : {A : Type 0} (xs : List A) (out into : ℕ) → out ≤ into → into ≤ length xs → length (live xs out into) + out ≡ into
live_length [] out into l n = omega arith
live_length (x ∷ xs) out zero l n = omega arith
live_length (x ∷ xs) zero (suc into) l n = let h : length (live xs zero into) + 0 ≡ into = live_length xs zero into (omega arith) (omega arith) in omega arith
live_length (x ∷ xs) (suc out) (suc into) l n = let h : length (live xs out into) + out ≡ into = live_length xs out into (omega arith) (omega arith) in omega arith

none_some : {A : Type 0} (x : A) → None ≡ Some x → ⊥
none_some x h = cc

module _ (m : Model) (bound : Bounding) (p : Listing) (k : Course m bound p) where
  pub store_cell : (a t c : ℕ) (x : ℤ) → a < k.walk.size → k.walk.what a ≡ Does t (Pushes c x) → c < length p.cells
  store_cell a t c x l e = subst (λ n. c < n) (k.cells a l) (subst (HasNames (k.walk.at a).state) e (k.walk.names a l)).1

  pub flush_cell : (a t c : ℕ) (x : ℤ) → a < k.walk.size → k.walk.what a ≡ Flushes t c x → c < length p.cells
  flush_cell a t c x l e = subst (λ n. c < n) (k.cells a l) (subst (HasNames (k.walk.at a).state) e (k.walk.names a l)).1

  -- the store of number j of the queue, and the flush of number j
  pub store_nth : (a t c j : ℕ) (x : ℤ) → a < k.walk.size → k.walk.what a ≡ Does t (Pushes c x) → (k.walk.at a).pushed t (key m c) ≡ j → IsNth (pushes (layout_of m bound p)) k.events (queue (layout_of m bound p) t c) j a
  store_nth a t c j x l e n = record { is = by_is m bound p k (pushes (layout_of m bound p)) a l ∙ ap (pushes (layout_of m bound p)) e; nth = sym (k.into a (omega arith) t c (store_cell a t c x l e)) ∙ n }

  pub flush_nth : (b t c j : ℕ) (x : ℤ) → b < k.walk.size → k.walk.what b ≡ Flushes t c x → (k.walk.at b).popped t (key m c) ≡ j → IsNth (pops (layout_of m bound p)) k.events (queue (layout_of m bound p) t c) j b
  flush_nth b t c j x l e n = record { is = by_is m bound p k (pops (layout_of m bound p)) b l ∙ ap (pops (layout_of m bound p)) e; nth = sym (k.out b (omega arith) t c (flush_cell b t c x l e)) ∙ n }

  pub same_queue_number : (t c d : ℕ) → key m c ≡ key m d → queue (layout_of m bound p) t c ≡ queue (layout_of m bound p) t d
  same_queue_number t c d e = ap (λ i. t * length p.cells + i) e

  -- a store and the flush that has its number
  pub issue_is : (a b t c d : ℕ) (x y : ℤ) → a < b → b < k.walk.size → k.walk.what a ≡ Does t (Pushes c x) → k.walk.what b ≡ Flushes t d y → key m c ≡ key m d → (k.walk.at a).pushed t (key m c) ≡ (k.walk.at b).popped t (key m d) → IsIssued (layout_of m bound p) k.events a b
  issue_is a b t c d x y l l2 e f same n = record {
    queue = queue (layout_of m bound p) t d;
    nth = (k.walk.at b).popped t (key m d);
    before = l;
    made = subst (λ q. IsNth (pushes (layout_of m bound p)) k.events q ((k.walk.at b).popped t (key m d)) a) (same_queue_number t c d same) (store_nth a t c ((k.walk.at b).popped t (key m d)) x (omega arith) e n);
    flushed = flush_nth b t d ((k.walk.at b).popped t (key m d)) y l2 f refl;
  }

  -- the store that a flush brings to memory
  pub record StoreOf (b t d : ℕ) : Type 0 where
    pub store : ℕ
    pub before : store < b
    pub cell : ℕ
    pub value : ℤ
    pub made : k.walk.what store ≡ Does t (Pushes cell value)
    pub same : key m cell ≡ key m d
    pub number : (k.walk.at store).pushed t (key m d) ≡ (k.walk.at b).popped t (key m d)
    pub issued : IsIssued (layout_of m bound p) k.events store b

  pub store_of : (b t d : ℕ) (y : ℤ) → b < k.walk.size → k.walk.what b ≡ Flushes t d y → StoreOf b t d
  store_of b t d y l e = go (push_of m bound p k.walk t (key m d) b ((k.walk.at b).popped t (key m d)) (omega arith) (head_is m bound p k.walk b t d y l e).0)
    where
      go : (u : ℕ) × (u < b) × ((k.walk.at u).pushed t (key m d) ≡ (k.walk.at b).popped t (key m d)) × IsPush m (k.walk.what u) t (key m d) → StoreOf b t d
      go (u, l2, n, (c, x, is, same)) = record {
        store = u;
        before = l2;
        cell = c;
        value = x;
        made = is;
        same = same;
        number = n;
        issued = issue_is u b t c d x y l2 l is e same (ap (λ i. (k.walk.at u).pushed t i) same ∙ n);
      }

  -- ---- drained steps

  -- where nothing is pending, all that went in is out
  pub all_out : (t c v : ℕ) → v ≤ k.walk.size → is_empty (pending_of (k.walk.at v).state t) ≡ true → (k.walk.at v).pushed t (key m c) ≤ (k.walk.at v).popped t (key m c)
  all_out t c v l e = ⊎_elim (λ b. absurd (clash b)) (λ b. b) (cases_lt ((k.walk.at v).popped t (key m c)) ((k.walk.at v).pushed t (key m c)))
    where
      clash : (k.walk.at v).popped t (key m c) < (k.walk.at v).pushed t (key m c) → ⊥
      clash b = go (push_of m bound p k.walk t (key m c) v ((k.walk.at v).popped t (key m c)) l b)
        where
          go : (u : ℕ) × (u < v) × ((k.walk.at u).pushed t (key m c) ≡ (k.walk.at v).popped t (key m c)) × IsPush m (k.walk.what u) t (key m c) → ⊥
          go (u, l2, n, (d, x, is, same)) =
              let at : slice_get (k.walk.stores t (key m c)) ((k.walk.at v).popped t (key m c)) ≡ Some (d, x) = subst (λ i. slice_get (k.walk.stores t (key m c)) i ≡ Some (d, x)) n (subst (λ z. slice_get (k.walk.stores t z) ((k.walk.at u).pushed t z) ≡ Some (d, x)) same (store_is m bound p k.walk u t d x (omega arith) is)) in
              let none : live (k.walk.stores t (key m c)) ((k.walk.at v).popped t (key m c)) ((k.walk.at v).pushed t (key m c)) ≡ [] = sym (k.walk.queued v l t c).1 ∙ none_counts m (pending_of (k.walk.at v).state t) c e in
              none_some (d, x) (sym (ap head_of none) ∙ live_at (k.walk.stores t (key m c)) ((k.walk.at v).popped t (key m c)) ((k.walk.at v).pushed t (key m c)) b ∙ at)

  -- a store of a flush behind such a moment is behind it too
  pub made_behind : (t d u v : ℕ) (y : ℤ) → v ≤ u → u < k.walk.size → is_empty (pending_of (k.walk.at v).state t) ≡ true → k.walk.what u ≡ Flushes t d y → (f : StoreOf u t d) → v ≤ f.store
  made_behind t d u v y l l2 empty e f = ⊎_elim (λ b. absurd (clash b)) (λ b. b) (cases_lt f.store v)
    where
      clash : f.store < v → ⊥
      clash b =
          let out : (k.walk.at v).popped t (key m d) ≤ (k.walk.at u).popped t (key m d) = popped_up m bound p k.walk t (key m d) v u l (omega arith) in
          let all : (k.walk.at v).pushed t (key m d) ≤ (k.walk.at v).popped t (key m d) = all_out t d v (omega arith) empty in
          let up : (k.walk.at (suc f.store)).pushed t (key m d) ≤ (k.walk.at v).pushed t (key m d) = pushed_up m bound p k.walk t (key m d) (suc f.store) v b (omega arith) in
          let hit : changes m (k.walk.what f.store) (PushedOf t (key m d)) ≡ true = subst (λ z. changes m (k.walk.what f.store) (PushedOf t z) ≡ true) f.same (pushes_it m (k.walk.what f.store) t f.cell f.value f.made) in
          let one : (k.walk.at (suc f.store)).pushed t (key m d) ≡ suc ((k.walk.at f.store).pushed t (key m d)) = pushed_hit m bound p k.walk t (key m d) f.store (omega arith) hit in
          let number : (k.walk.at f.store).pushed t (key m d) ≡ (k.walk.at u).popped t (key m d) = f.number in
          omega (arith, out, all, up, one, number)

  -- each flush of the thread before a drained step leads to it, and it leads to each behind it
  pub flush_before : (t u v d : ℕ) (y : ℤ) → u < v → v < k.walk.size → k.walk.what u ≡ Flushes t d y → Has m bound p k drains t v → R m bound p k u v
  flush_before t u v d y l l2 e h = draining m bound p k t u v l (has m bound p k flushes t u (omega arith) (ap flushes e)) h

  pub flush_behind : (t u v d : ℕ) (y : ℤ) → v < u → u < k.walk.size → is_empty (pending_of (k.walk.at v).state t) ≡ true → k.walk.what u ≡ Flushes t d y → (a : Act) → k.walk.what v ≡ Does t a → ((c : ℕ) (x : ℤ) → a ≡ Pushes c x → ⊥) → R m bound p k v u
  flush_behind t u v d y l l2 empty e a is no_push = go (store_of u t d y l2 e)
    where
      go : StoreOf u t d → R m bound p k v u
      go f =
          let behind : v ≤ f.store = made_behind t d u v y (omega arith) l2 empty e f in
          let below : f.store < u = f.before in
          let apart : v ≡ f.store → ⊥ = λ j. no_push f.cell f.value (same_act (sym is ∙ ap k.walk.what j ∙ f.made)) in
          let later : v < f.store = omega (arith, behind, apart) in
          trans m bound p k v f.store u (program m bound p k t v f.store later (runs_it m bound p k t v a (omega (arith, l, l2)) is) (runs_it m bound p k t f.store (Pushes f.cell f.value) (omega (arith, below, l2)) f.made)) (edge m bound p k Issue f.store u f.issued)
        where
          same_act : {b c : Act} → Does t b ≡ Does t c → b ≡ c
          same_act h = cc

  -- ---- in another order

  module _ (done : ℕ → Bool) (g : Ghost) (v : ℕ) (l : v < k.walk.size) (agree : Agree m bound p k.walk done g) (queued : Queued m k.walk.stores g) (ready : (a : ℕ) → Edge m bound p k a v → done a ≡ true) where
    -- a flush finds its store
    pub has_store_now : (t c : ℕ) (x : ℤ) → k.walk.what v ≡ Flushes t c x → g.popped t (key m c) ≡ (k.walk.at v).popped t (key m c) → g.popped t (key m c) < g.pushed t (key m c)
    has_store_now t c x e same = go (store_of v t c x l e)
      where
        go : StoreOf v t c → g.popped t (key m c) < g.pushed t (key m c)
        go f =
            let below : f.store < v = f.before in
            let past : (k.walk.at f.store).pushed t (key m c) < g.pushed t (key m c) = subst (λ z. (k.walk.at f.store).pushed t z < g.pushed t z) f.same (pushed_past m bound p k.walk done g agree t f.cell f.store f.value (omega (arith, below, l)) f.made (ready f.store (Issue, f.issued))) in
            omega (arith, past, same, (let n : (k.walk.at f.store).pushed t (key m c) ≡ (k.walk.at v).popped t (key m c) = f.number in n))

    -- a store finds room
    pub has_room_now : (t c : ℕ) (x : ℤ) → k.walk.what v ≡ Does t (Pushes c x) → g.pushed t (key m c) ≡ (k.walk.at v).pushed t (key m c) → g.pushed t (key m c) < g.popped t (key m c) + bound_of bound t
    has_room_now t c x e same = go (cases_lt ((k.walk.at v).pushed t (key m c)) bound)
      where
        room : length (part m (pending_of (k.walk.at v).state t) c) < bound_of bound t
        room = told m bound p k v t (Pushes c x) l e

        enough : (k.walk.at v).pushed t (key m c) ≤ length (k.walk.stores t (key m c))
        enough = some (cases_lt 0 ((k.walk.at v).pushed t (key m c)))
          where
            some : (0 < (k.walk.at v).pushed t (key m c)) ⊎ ((k.walk.at v).pushed t (key m c) ≤ 0) → (k.walk.at v).pushed t (key m c) ≤ length (k.walk.stores t (key m c))
            some (inr z) = omega arith
            some (inl z) = last (push_of m bound p k.walk t (key m c) v ((k.walk.at v).pushed t (key m c) - 1) (omega arith) (omega arith))
              where
                last : (u : ℕ) × (u < v) × ((k.walk.at u).pushed t (key m c) ≡ (k.walk.at v).pushed t (key m c) - 1) × IsPush m (k.walk.what u) t (key m c) → (k.walk.at v).pushed t (key m c) ≤ length (k.walk.stores t (key m c))
                last (u, l2, n, (d, y, is, q)) =
                    let within : (k.walk.at u).pushed t (key m c) < length (k.walk.stores t (key m c)) = slice_get_within (k.walk.stores t (key m c)) ((k.walk.at u).pushed t (key m c)) (d, y) (subst (λ z. slice_get (k.walk.stores t z) ((k.walk.at u).pushed t z) ≡ Some (d, y)) q (store_is m bound p k.walk u t d y (omega arith) is)) in
                    omega (arith, within, n, z)

        counted : length (part m (pending_of (k.walk.at v).state t) c) + (k.walk.at v).popped t (key m c) ≡ (k.walk.at v).pushed t (key m c)
        counted =
            ap (λ ps. length ps + (k.walk.at v).popped t (key m c)) (k.walk.queued v (omega arith) t c).1
            ∙ live_length (k.walk.stores t (key m c)) ((k.walk.at v).popped t (key m c)) ((k.walk.at v).pushed t (key m c)) (k.walk.queued v (omega arith) t c).0 enough

        go : ((k.walk.at v).pushed t (key m c) < bound) ⊎ (bound ≤ (k.walk.at v).pushed t (key m c)) → g.pushed t (key m c) < g.popped t (key m c) + bound_of bound t
        go (inl few) = omega (arith, few, same)
        go (inr many) = freed (pop_of m bound p k.walk t (key m c) v ((k.walk.at v).pushed t (key m c) - bound) (omega arith) (omega (arith, room, counted, many)))
          where
            freed : (u : ℕ) × (u < v) × ((k.walk.at u).popped t (key m c) ≡ (k.walk.at v).pushed t (key m c) - bound) × IsPop m (k.walk.what u) t (key m c) → g.pushed t (key m c) < g.popped t (key m c) + bound_of bound t
            freed (u, l2, n, (d, y, is, q)) =
                let number : (k.walk.at u).popped t (key m d) ≡ (k.walk.at v).pushed t (key m c) - bound = ap (λ z. (k.walk.at u).popped t z) q ∙ n in
                let made : (k.walk.at v).pushed t (key m c) ≡ ((k.walk.at v).pushed t (key m c) - bound) + bound_of bound t = omega (arith, many) in
                let for : IsRoomFor (layout_of m bound p) k.events u v = record {
                  thread = t;
                  queue = queue (layout_of m bound p) t c;
                  nth = (k.walk.at v).pushed t (key m c) - bound;
                  before = l2;
                  runs_it = by_is m bound p k runs v l ∙ ap runs e;
                  flushed = subst (λ z. IsNth (pops (layout_of m bound p)) k.events z ((k.walk.at v).pushed t (key m c) - bound) u) (same_queue_number t d c q) (flush_nth u t d ((k.walk.at v).pushed t (key m c) - bound) y (omega arith) is number);
                  made = store_nth v t c (((k.walk.at v).pushed t (key m c) - bound) + bound_of bound t) x l e made;
                } in
                let past : (k.walk.at u).popped t (key m c) < g.popped t (key m c) = subst (λ z. (k.walk.at u).popped t z < g.popped t z) q (popped_past m bound p k.walk done g agree t d u y (omega arith) is (ready u (Room, for))) in
                omega (arith, past, n, same, many)
