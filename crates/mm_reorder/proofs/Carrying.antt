-- A failing run is one of the partial machine, or a store outside the set is overtaken.
use Rattle.std.proofs.Common.{arith, ◌≡◌, ℕ, zero, suc, ◌<◌, ◌≤◌, List, [], ◌∷◌, ◌++◌, length, map, take, Some, None, refl, Bool, sym, ◌∙◌, ap, subst, slice_get, ◌⊎◌, inl, inr, ⊎_elim, length-append}
use Rattle.std.proofs.lemmas.List.{take_at}
use Rattle.std.proofs.lemmas.Option.{same_Some}
use Rattle.mm_goto.specs.Bounds.{Bounding}
use Rattle.mm_goto.specs.declared.model.Model.{Model}
use Rattle.mm_goto.specs.Listing.{Listing}
use Rattle.mm_goto.specs.Valid.{IsValid}
use Rattle.mm_sched.specs.declared.entry.Act.TheVariants.{Goes, Fails, Pushes, Puts}
use Rattle.mm_sched.specs.declared.entry.Entry.{Entry}
use Rattle.mm_sched.specs.declared.entry.Event.{Event}
use Rattle.mm_sched.specs.declared.entry.Event.TheVariants.{Does, Flushes}
use Rattle.mm_sched.specs.declared.entry.Rules.TheVariants.{Buffered, Partial}
use Rattle.mm_sched.specs.Event.{acted, flushed}
use Rattle.mm_sched.specs.Runs.{run, FailAlike}
use Rattle.mm_sched.specs.Sections.{HasNoSection}
use Rattle.mm_sched.specs.State.{State, initial}
use Rattle.mm_rungraph.specs.declared.graph.RunGraph.{RunGraph}
use Rattle.mm_rungraph.specs.Edges.{IsIssued}
use Rattle.mm_rungraph.specs.Extension.{extension}
use Rattle.mm_rungraph.specs.RunGraph.{layout_of, IsRunGraph}
use Rattle.mm_rungraph.specs.Traces.{events_of, after_all}
use Rattle.mm_rungraph.proofs.Concluding.{run_is}
use Rattle.mm_rungraph.proofs.Totals.{events_length}
use Rattle.mm_reorder.specs.AddedEdges.{IsDirect}
use Rattle.mm_reorder.specs.Cycles.{IsOvertaken}
use Rattle.mm_reorder.specs.Orders.{KeepsEdges, Taken, Stands, moved, at_once, kept, AreSteps, IsReduced}
use Rattle.mm_reorder.proofs.Arranging.{In, in_list, listed}
use Rattle.mm_reorder.proofs.Classes.{Decided, direct_or, store_or, one_store, below}
use Rattle.mm_reorder.proofs.Course.{Course}
use Rattle.mm_reorder.proofs.Coursing.{run_of}
use Rattle.mm_reorder.proofs.Deciding.{order_or_overtaken}
use Rattle.mm_reorder.proofs.Failing.{InTwo, in_two, initial_verdict}
use Rattle.mm_reorder.proofs.Law.{alike}
use Rattle.mm_reorder.proofs.Parts.{Ghost, follow}

-- ---- the assertion that fails

-- the event fails n, or the verdict stood before it
abbrev Verdict : State → Event → ℕ → Type 0
Verdict s v n = ((t : ℕ) × (v ≡ Does t (Fails n))) ⊎ (s.verdict ≡ Some n)

same_number : (i n : ℕ) → Some i ≡ Some n → i ≡ n
same_number i n h = cc

verdict_step : (m : Model) (g : Ghost) (v : Event) (n : ℕ) → (follow m g v).state.verdict ≡ Some n → Verdict g.state v n
unfolding acted flushed
verdict_step m g (Flushes t c x) n h = inr h
verdict_step m g (Does t (Fails i)) n h = inl (t, ap (λ j. Does t (Fails j)) (same_number i n h))
verdict_step m g (Does t (Goes j)) n h = inr h
verdict_step m g (Does t a) n h = inr h

module _ (m : Model) (bound : Bounding) (p : Listing) (k : Course m bound p) where
  abbrev FailsAt : ℕ → ℕ → Type 0
  FailsAt n j = (t : ℕ) × (k.walk.what j ≡ Does t (Fails n))

  fails_by : (n v : ℕ) → v ≤ k.walk.size → (k.walk.at v).state.verdict ≡ Some n → (j : ℕ) × (j < k.walk.size) × FailsAt n j
  fails_by n zero l h = absurd (clash (sym (ap (λ (s : State). s.verdict) (k.states zero l) ∙ initial_verdict p) ∙ h))
    where
      clash : None ≡ Some n → ⊥
      clash z = cc
  fails_by n (suc v) l h = ⊎_elim (λ r. (v, l, r)) (fails_by n v (omega arith)) (verdict_step m (k.walk.at v) (k.walk.what v) n (subst (λ (g : Ghost). g.state.verdict ≡ Some n) (k.walk.goes v l) h))

  -- it is there where the run fails
  there_fails : (es : List Entry) (last : State) (n : ℕ) → k.entries ≡ es ++ extension m last → run (Buffered m bound) p (initial p) es ≡ Some last → last.verdict ≡ Some n → (j : ℕ) × (j < k.walk.size) × FailsAt n j
  there_fails es last n entries runs verdict =
      let two : InTwo (Buffered m bound) p (initial p) es k.events = in_two (Buffered m bound) p es (extension m last) (initial p) k.events (subst (λ xs. events_of (Buffered m bound) p (initial p) xs ≡ Some k.events) entries k.happen) in
      let size : length two.front ≡ length es = events_length (Buffered m bound) p (initial p) es two.front two.one in
      let all : length k.events ≡ length (two.front ++ two.back) = ap length two.all in
      let both = length-append two.front two.back in
      let whole = k.size in
      let within : length es ≤ k.walk.size = omega (arith, all, both, whole, size) in
      let reached : (k.walk.at (length es)).state ≡ last =
      k.states (length es) within
      ∙ ap (λ xs. after_all (initial p) (take (length es) xs)) two.all
      ∙ ap (after_all (initial p)) (take_at two.front two.back (length es) size)
      ∙ same_Some (after_all (initial p) two.front) last (sym (run_is (Buffered m bound) p es (initial p) two.front two.one) ∙ runs) in
      fails_by n (length es) within (ap (λ (s : State). s.verdict) reached ∙ verdict)

  -- ---- what each node is

  module _ (set : List (List Bool)) (g : RunGraph) (entries : g.entries ≡ k.entries) where
    entry_at : (n : ℕ) → n < k.walk.size → slice_get g.entries n ≡ Some (k.walk.by n)
    entry_at n l = ap (λ xs. slice_get xs n) entries ∙ k.taken n l

    stands_for : (n : ℕ) → n < k.walk.size → (here : List Taken) × Stands (layout_of m bound p) p set g k.events n here
    stands_for n l = ⊎_elim (λ d. ([], moved d)) (λ nd. ⊎_elim (λ r. of_store nd r.0 r.1 (direct_or m bound p k set r.0)) (λ none. ((k.walk.by n, k.walk.what n) ∷ [], kept nd (λ a d i. none a i) (k.walk.by n) (k.walk.what n) (entry_at n l) (k.each n l))) (store_or m bound p k set n)) (direct_or m bound p k set n)
      where
        of_store : (IsDirect p set k.events n → ⊥) → (a : ℕ) → IsIssued (layout_of m bound p) k.events a n → Decided m bound p k set a → (here : List Taken) × Stands (layout_of m bound p) p set g k.events n here
        of_store nd a i (inl d) = ((k.walk.by a, Does d.thread (Puts d.cell d.value)) ∷ [], at_once a d i (k.walk.by a) (entry_at a (below m bound p k set a (Does d.thread (Pushes d.cell d.value)) d.stores)))
        of_store nd a i (inr na) = ((k.walk.by n, k.walk.what n) ∷ [], kept nd (λ b d j. na (subst (IsDirect p set k.events) (one_store (layout_of m bound p) k.events b a n j i) d)) (k.walk.by n) (k.walk.what n) (entry_at n l) (k.each n l))

    steps_for : (ns : List ℕ) → ((n : ℕ) → In ns n → n < k.walk.size) → (steps : List Taken) × AreSteps (layout_of m bound p) p set g k.events ns steps
    steps_for [] h = ([], refl)
    steps_for (n ∷ ns) h =
        let a = stands_for n (h n (zero, refl)) in
        let r = steps_for ns (λ i q. h i (suc q.0, q.1)) in
        (a.0 ++ r.0, (a.0, r.0, refl, a.1, r.1))

-- the list in front of an item and behind it
split_at : (xs : List ℕ) (i x : ℕ) → slice_get xs i ≡ Some x → (ys : List ℕ) × (zs : List ℕ) × (xs ≡ ys ++ x ∷ zs)
split_at [] i x e = absurd (clash e)
  where
    clash : None ≡ Some x → ⊥
    clash h = cc
split_at (y ∷ xs) zero x e = ([], xs, ap (λ z. z ∷ xs) (same_Some y x e))
split_at (y ∷ xs) (suc i) x e = let r = split_at xs i x e in (y ∷ r.0, r.1, ap (λ zs. y ∷ zs) r.2)

in_front : (ys : List ℕ) (x : ℕ) (zs : List ℕ) (n : ℕ) → In (ys ++ x ∷ []) n → In (ys ++ x ∷ zs) n
in_front [] x zs n (zero, e) = (zero, e)
in_front [] x zs n (suc i, e) = absurd (clash e)
  where
    clash : None ≡ Some n → ⊥
    clash h = cc
in_front (y ∷ ys) x zs n (zero, e) = (zero, e)
in_front (y ∷ ys) x zs n (suc i, e) = let r = in_front ys x zs n (i, e) in (suc r.0, r.1)

module _ (m : Model) (bound : Bounding) (p : Listing) (es : List Entry) (g : RunGraph) (graph : IsRunGraph m bound p es g) (valid : IsValid p) (calm : HasNoSection p) (set : List (List Bool)) where
  reduced_by : (order : List ℕ) → KeepsEdges (layout_of m bound p) p set g graph.trace.events order → (k : Course m bound p) → k.entries ≡ g.entries → k.events ≡ graph.trace.events → (steps : List Taken) × IsReduced (layout_of m bound p) p set g graph.trace.events order steps
  reduced_by order keeps k entries events =
      let f = there_fails m bound p k es graph.fails.last g.verdict (entries ∙ graph.entries) graph.fails.runs graph.fails.verdict in
      let a : length graph.trace.events ≡ length g.entries = events_length (Buffered m bound) p (initial p) g.entries graph.trace.events graph.trace.happen in
      let size : k.walk.size ≡ length g.nodes = sym k.size ∙ ap length events ∙ a ∙ sym graph.size in
      let lf : f.0 < k.walk.size = f.1 in
      let at : In order f.0 = in_list order f.0 ((keeps.nodes f.0).1 (omega (arith, lf, size))) in
      let parts = split_at order at.0 f.0 at.1 in
      let within : (n : ℕ) → In (parts.0 ++ f.0 ∷ []) n → n < k.walk.size = λ n h. (let b : n < length g.nodes = (keeps.nodes n).0 (listed order n (subst (λ xs. In xs n) (sym parts.2) (in_front parts.0 f.0 parts.1 n h))) in omega (arith, b, size)) in
      let s = steps_for m bound p k set g (sym entries) (parts.0 ++ f.0 ∷ []) within in (
        s.0,
        subst (λ vs. IsReduced (layout_of m bound p) p set g vs order s.0) events (record {
          before = parts.0;
          fail = f.0;
          behind = parts.1;
          parts = parts.2;
          thread = f.2.0;
          fails = k.each f.0 lf ∙ ap Some f.2.1;
          are = s.1;
        }),
      )

  -- what is left of an order
  pub reduced : (order : List ℕ) → KeepsEdges (layout_of m bound p) p set g graph.trace.events order → (steps : List Taken) × IsReduced (layout_of m bound p) p set g graph.trace.events order steps
  reduced order keeps = let r = run_of m bound p valid calm g.entries graph.trace.events graph.trace.happen in reduced_by order keeps r.0 r.1 r.2

  pub carried : ((fs : List Entry) × FailAlike (Buffered m bound) (Partial m bound set) p p g.verdict es fs) ⊎ ((store : ℕ) × IsOvertaken (layout_of m bound p) p set graph.trace.events store)
  carried = ⊎_elim
      (λ o.
      let r = reduced o.0 o.1 in
      inl (map (λ (x : Taken). x.0) r.0, alike m bound p es g graph valid calm set o.0 o.1 r.0 r.1))
      (λ s. inr s)
      (order_or_overtaken m bound p es g graph valid calm set)
