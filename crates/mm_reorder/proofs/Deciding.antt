-- An order is found, or a store outside the set is overtaken.
use Rattle.std.proofs.Common.{arith, ◌≡◌, ◌↔◌, ℕ, zero, suc, ◌<◌, ◌≤◌, List, [], ◌∷◌, length, Some, None, refl, Bool, true, false, sym, ◌∙◌, ap, subst, slice_get, ◌⊎◌, inl, inr, ⊎_elim}
use Rattle.std.specs.Prelude.{Contains}
use Rattle.std.proofs.lemmas.Bool.{cases_lt, cases_eq, cases_Bool, false≢true}
use Rattle.std.proofs.lemmas.Option.{same_Some}
use Rattle.mm_goto.specs.Bounds.{Bounding}
use Rattle.mm_goto.specs.declared.model.Model.{Model}
use Rattle.mm_goto.specs.Listing.{Listing}
use Rattle.mm_goto.specs.Valid.{IsValid}
use Rattle.mm_sched.specs.declared.entry.Act.TheVariants.{Pushes}
use Rattle.mm_sched.specs.declared.entry.Entry.{Entry}
use Rattle.mm_sched.specs.declared.entry.Event.TheVariants.{Does}
use Rattle.mm_sched.specs.declared.entry.Rules.TheVariants.{Buffered}
use Rattle.mm_sched.specs.Sections.{HasNoSection}
use Rattle.mm_sched.specs.State.{initial}
use Rattle.mm_runkeys.specs.declared.graph.EdgeKind.{EdgeKind}
use Rattle.mm_runkeys.specs.declared.graph.EdgeKind.TheVariants.{Program}
use Rattle.mm_runkeys.specs.declared.graph.RunEdge.{RunEdge}
use Rattle.mm_rungraph.specs.declared.graph.RunGraph.{RunGraph}
use Rattle.mm_rungraph.specs.Edges.{by, IsIssued, IsEdge}
use Rattle.mm_runkeys.specs.Keys.{runs}
use Rattle.mm_rungraph.specs.RunGraph.{layout_of, IsRunGraph}
use Rattle.mm_runkeys.specs.Spans.{is_key}
use Rattle.mm_rungraph.proofs.ForOrders.{span_at}
use Rattle.mm_rungraph.proofs.Spanning.{key_is, is_key_at}
use Rattle.mm_rungraph.proofs.Totals.{events_length}
use Rattle.mm_reorder.specs.AddedEdges.{IsDirect, IsAdded}
use Rattle.mm_reorder.specs.Cycles.{Link, IsOvertaken}
use Rattle.mm_reorder.specs.Orders.{KeepsEdges}
use Rattle.mm_reorder.proofs.Arranging.{In, in_list, listed}
use Rattle.mm_reorder.proofs.Classes.{store_or, direct_or, Decided, what_is, below, one_store, issued_below}
use Rattle.mm_reorder.proofs.Course.{Course, Edge, Has, has}
use Rattle.mm_reorder.proofs.Coursing.{run_of}
use Rattle.mm_reorder.proofs.Nexts.{First, first}
use Rattle.mm_reorder.proofs.Overtaking.{edge_forward, edge_below}
use Rattle.mm_reorder.proofs.Sorting.{Order, sort, precedes}
use Rattle.mm_reorder.proofs.Waiting.{waiting}

some_same : (x y : ℕ) → Some x ≡ Some y → x ≡ y
some_same x y h = cc

-- an edge of the list from a to b, or none is
abbrev Searched : List RunEdge → ℕ → ℕ → Type 0
Searched xs a b = ((e : RunEdge) × In xs e × (e.from ≡ a) × (e.to ≡ b)) ⊎ ((e : RunEdge) → In xs e → e.from ≡ a → e.to ≡ b → ⊥)

search_edge : (xs : List RunEdge) (a b : ℕ) → Searched xs a b
search_edge [] a b = inr (λ e h f t. nothing e h.0 h.1)
  where
    nothing : (e : RunEdge) (i : ℕ) → None ≡ Some e → ⊥
    nothing e i h = cc
search_edge (x ∷ xs) a b = go (search_edge xs a b) (cases_eq x.from a) (cases_eq x.to b)
  where
    no : Searched xs a b → (x.from ≡ a → x.to ≡ b → ⊥) → Searched (x ∷ xs) a b
    no (inl (e, (i, h), f, t)) n = inl (e, (suc i, h), f, t)
    no (inr r) n = inr (λ e h f t. split e h.0 h.1 f t)
      where
        split : (e : RunEdge) (i : ℕ) → slice_get (x ∷ xs) i ≡ Some e → e.from ≡ a → e.to ≡ b → ⊥
        split e zero h f t = let same : x ≡ e = same_Some x e h in n (ap (λ (z : RunEdge). z.from) same ∙ f) (ap (λ (z : RunEdge). z.to) same ∙ t)
        split e (suc i) h f t = r e (i, h) f t

    go : Searched xs a b → (x.from ≡ a) ⊎ (x.from ≡ a → ⊥) → (x.to ≡ b) ⊎ (x.to ≡ b → ⊥) → Searched (x ∷ xs) a b
    go r (inl f) (inl t) = inl (x, (zero, refl), f, t)
    go r (inr n) t = no r (λ f q. n f)
    go r (inl f) (inr n) = no r (λ q t. n t)

module _ (m : Model) (bound : Bounding) (p : Listing) (k : Course m bound p) (set : List (List Bool)) (g : RunGraph)
    (edges : (kind : EdgeKind) (a b : ℕ) → Contains g.edges (record { from = a; to = b; kind = kind }) ↔ IsEdge (layout_of m bound p) k.events kind a b)
    (size : k.walk.size ≡ length g.nodes) where
  edge_or : (a b : ℕ) → Edge m bound p k a b ⊎ (Edge m bound p k a b → ⊥)
  edge_or a b = go (search_edge g.edges a b)
    where
      go : Searched g.edges a b → Edge m bound p k a b ⊎ (Edge m bound p k a b → ⊥)
      go (inl (e, h, f, t)) = inl (e.kind, subst (λ i. IsEdge (layout_of m bound p) k.events e.kind i b) f (subst (λ i. IsEdge (layout_of m bound p) k.events e.kind e.from i) t ((edges e.kind e.from e.to).0 (listed g.edges e h))))
      go (inr r) = inr (λ e. r (record { from = a; to = b; kind = e.0 }) (in_list g.edges (record { from = a; to = b; kind = e.0 }) ((edges e.0 a b).1 e.1)) refl refl)

  -- the next instruction of the thread
  program_or : (a b t : ℕ) → Has m bound p k runs t a → IsEdge (layout_of m bound p) k.events Program a b ⊎ (IsEdge (layout_of m bound p) k.events Program a b → ⊥)
  program_or a b t h = go (cases_lt a b) (cases_Bool (is_key t (by runs k.events b))) (first (λ n. is_key t (by runs k.events n)) a b)
    where
      key_is_t : (e : IsEdge (layout_of m bound p) k.events Program a b) → e.key ≡ t
      key_is_t e = some_same e.key t (sym e.from ∙ key_is t (by runs k.events a) h)

      go : (a < b) ⊎ (b ≤ a) → (is_key t (by runs k.events b) ≡ true) ⊎ (is_key t (by runs k.events b) ≡ false) → First (λ n. is_key t (by runs k.events n)) a b → IsEdge (layout_of m bound p) k.events Program a b ⊎ (IsEdge (layout_of m bound p) k.events Program a b → ⊥)
      go (inr l) x y = inr (λ e. let f : a < b = e.before in omega (arith, f, l))
      go (inl l) (inr x) y = inr (λ e. false≢true (sym x ∙ is_key_at t (by runs k.events b) (e.to ∙ ap Some (key_is_t e))))
      go (inl l) (inl x) (inl (j, l1, l2, q, none)) = inr (λ e. e.none j l1 l2 (key_is t (by runs k.events j) q ∙ ap Some (sym (key_is_t e))))
      go (inl l) (inl x) (inr none) = inl (span_at (by runs k.events) (by runs k.events) (by runs k.events) t a b l h x none)

  abbrev Added : ℕ → ℕ → Type 0
  Added a b = IsAdded (layout_of m bound p) p set k.events a b

  added_or : (a b : ℕ) → Added a b ⊎ (Added a b → ⊥)
  added_or a b = ⊎_elim (λ r. of_store r.0 r.1 (direct_or m bound p k set r.0)) (λ none. inr (λ x. none x.store x.flush)) (store_or m bound p k set a)
    where
      of_store : (st : ℕ) → IsIssued (layout_of m bound p) k.events st a → Decided m bound p k set st → Added a b ⊎ (Added a b → ⊥)
      of_store st i (inr n) = inr (λ x. n (subst (IsDirect p set k.events) (one_store (layout_of m bound p) k.events x.store st a x.flush i) x.direct))
      of_store st i (inl d) = ⊎_elim
          (λ e. inl (record { store = st; direct = d; flush = i; next = e }))
          (λ n. inr (λ x. n (subst (λ z. IsEdge (layout_of m bound p) k.events Program z b) (one_store (layout_of m bound p) k.events x.store st a x.flush i) x.next)))
          (program_or st b d.thread (has m bound p k runs d.thread st (below m bound p k set st (Does d.thread (Pushes d.cell d.value)) d.stores) (ap runs (what_is m bound p k set st (Does d.thread (Pushes d.cell d.value)) d.stores))))

  link_or : (a b : ℕ) → Link (layout_of m bound p) p set k.events a b ⊎ (Link (layout_of m bound p) p set k.events a b → ⊥)
  link_or a b = go (edge_or a b) (added_or a b)
    where
      no : (Edge m bound p k a b → ⊥) → (Added a b → ⊥) → Link (layout_of m bound p) p set k.events a b → ⊥
      no n q (inl e) = n e
      no n q (inr e) = q e

      go : Edge m bound p k a b ⊎ (Edge m bound p k a b → ⊥) → Added a b ⊎ (Added a b → ⊥) → Link (layout_of m bound p) p set k.events a b ⊎ (Link (layout_of m bound p) p set k.events a b → ⊥)
      go (inl e) q = inl (inl e)
      go (inr n) (inl e) = inl (inr e)
      go (inr n) (inr q) = inr (no n q)

  -- the order that is found keeps the edges
  keeps : (o : Order k.walk.size (Link (layout_of m bound p) p set k.events) link_or) → KeepsEdges (layout_of m bound p) p set g k.events o.list
  keeps o = record {
    nodes = λ n. (
      λ c. let l : n < k.walk.size = (o.sorted.complete n (in_list o.list n c)).1 in omega (arith, l, size),
      λ l. listed o.list n (o.sorted.sound n (o.all n (omega (arith, l, size)))),
    );
    once = o.sorted.once;
    edges = λ e c.
        let is : IsEdge (layout_of m bound p) k.events e.kind e.from e.to = (edges e.kind e.from e.to).0 c in
        let f : e.from < e.to = edge_forward m bound p k set e.from e.to (e.kind, is) in
        let b : e.to < k.walk.size = edge_below m bound p k set e.from e.to (e.kind, is) in
        precedes k.walk.size (Link (layout_of m bound p) p set k.events) link_or o e.from e.to (omega (arith, f, b)) (inl (e.kind, is));
    added = λ a b x. precedes k.walk.size (Link (layout_of m bound p) p set k.events) link_or o a b (issued_below m bound p k set x.store a x.flush) (inr x);
  }

  -- nodes that wait for each other
  abbrev pub WaitFor : Type 0
  WaitFor = (node : ℕ) × (others : List ℕ) × ((b : ℕ) → Contains (node ∷ others) b → (a : ℕ) × Contains (node ∷ others) a × Link (layout_of m bound p) p set k.events a b)

  pub order_or : ((order : List ℕ) × KeepsEdges (layout_of m bound p) p set g k.events order) ⊎ WaitFor
  order_or = ⊎_elim (λ o. inl (o.list, keeps o)) (λ s. inr (s.node, s.others, s.each)) (sort k.walk.size (Link (layout_of m bound p) p set k.events) link_or)

pub order_or_overtaken : (m : Model) (bound : Bounding) (p : Listing) (es : List Entry) (g : RunGraph) (graph : IsRunGraph m bound p es g) → IsValid p → HasNoSection p → (set : List (List Bool)) → ((order : List ℕ) × KeepsEdges (layout_of m bound p) p set g graph.trace.events order) ⊎ ((store : ℕ) × IsOvertaken (layout_of m bound p) p set graph.trace.events store)
order_or_overtaken m bound p es g graph valid calm set = go (run_of m bound p valid calm g.entries graph.trace.events graph.trace.happen)
  where
    go : (k : Course m bound p) × (k.entries ≡ g.entries) × (k.events ≡ graph.trace.events) → ((order : List ℕ) × KeepsEdges (layout_of m bound p) p set g graph.trace.events order) ⊎ ((store : ℕ) × IsOvertaken (layout_of m bound p) p set graph.trace.events store)
    go (k, entries, events) =
        let a : length graph.trace.events ≡ length g.entries = events_length (Buffered m bound) p (initial p) g.entries graph.trace.events graph.trace.happen in
        let size : k.walk.size ≡ length g.nodes = sym k.size ∙ ap length events ∙ a ∙ sym graph.size in
        ⊎_elim
        (λ o. inl (o.0, subst (λ vs. KeepsEdges (layout_of m bound p) p set g vs o.0) events o.1))
        (λ q. inr (waiting m bound p es g graph valid calm set q.0 q.1 (λ b c. let r = q.2 b c in (r.0, r.1, subst (λ vs. Link (layout_of m bound p) p set vs r.0 b) events r.2))))
        (order_or m bound p k set g (λ kind x y. subst (λ vs. Contains g.edges (record { from = x; to = y; kind = kind }) ↔ IsEdge (layout_of m bound p) vs kind x y) (sym events) (graph.edges kind x y)) size)
