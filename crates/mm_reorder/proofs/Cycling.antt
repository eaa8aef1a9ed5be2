-- The law of cycles.
use Rattle.std.proofs.Common.{arith, ◌≡◌, ℕ, ◌<◌, ◌≤◌, ℤ, List, [], Some, Bool, sym, ◌∙◌, ap, subst, inl, inr, ⊎_elim}
use Rattle.std.proofs.lemmas.Bool.{cases_lt}
use Rattle.mm_goto.specs.Bounds.{Bounding}
use Rattle.mm_goto.specs.declared.model.Model.{Model}
use Rattle.mm_goto.specs.Listing.{Listing}
use Rattle.mm_goto.specs.Valid.{IsValid}
use Rattle.mm_sched.specs.declared.entry.Act.{Act}
use Rattle.mm_sched.specs.declared.entry.Entry.{Entry}
use Rattle.mm_sched.specs.declared.entry.Event.TheVariants.{Does, Flushes}
use Rattle.mm_sched.specs.Sections.{HasNoSection}
use Rattle.mm_rungraph.specs.declared.graph.RunGraph.{RunGraph}
use Rattle.mm_runkeys.specs.Keys.{runs}
use Rattle.mm_rungraph.specs.RunGraph.{layout_of, IsRunGraph}
use Rattle.mm_rungraph.proofs.Nths.{within}
use Rattle.mm_reorder.specs.Cycles.{Walk, here, step, Cycle, Link, IsOvertaken}
use Rattle.mm_reorder.proofs.Classes.{one_store}
use Rattle.mm_reorder.proofs.Closing as closing
use Rattle.mm_reorder.proofs.Course.{Course, Edge, by_is, program}
use Rattle.mm_reorder.proofs.Coursing.{run_of}
use Rattle.mm_reorder.proofs.Lateness.{Late, made, at_below, flushed, Later, Leads, Escapes, run_goes, way_walk}
use Rattle.mm_reorder.proofs.Overtaking.{runs_as, edge_forward, goes}
use Rattle.mm_reorder.proofs.Threads.{runs_it}

some_same : (x y : ℕ) → Some x ≡ Some y → x ≡ y
some_same x y h = cc

module _ (m : Model) (bound : Bounding) (p : Listing) (k : Course m bound p) (set : List (List Bool)) where
  walk_up : (b a : ℕ) → Walk (Edge m bound p k) b a → a ≤ b
  walk_up b a here = omega arith
  walk_up b a (step c e q) = let l : c ≤ b = walk_up b c q in let f : a < c = edge_forward m bound p k set a c e in omega (arith, l, f)

  no_cycle : (x : ℕ) → closing.Way (Edge m bound p k) x x → ⊥
  no_cycle x (b, e, q) = let l : b ≤ x = walk_up x b q in let f : x < b = edge_forward m bound p k set x b e in omega (arith, l, f)

  -- the instruction behind the store
  next_runs : (w : Late m bound p k set) → (a : Act) × (k.walk.what w.next ≡ Does w.direct.thread a) × (w.next < k.walk.size)
  next_runs w =
      let l : w.next < k.walk.size = subst (λ n. w.next < n) k.size (within runs k.events w.follows.key w.next w.follows.to) in
      let same : w.direct.thread ≡ w.follows.key = some_same w.direct.thread w.follows.key (sym (by_is m bound p k runs w.at (at_below m bound p k set w) ∙ ap runs (made m bound p k set w)) ∙ w.follows.from) in
      let a = runs_as (k.walk.what w.next) w.follows.key (sym (by_is m bound p k runs w.next l) ∙ w.follows.to) in
      (a.0, a.1 ∙ ap (λ u. Does u a.0) (sym same), l)

  enters : (w : Late m bound p k set) → Leads m bound p k set w w.next
  enters w = let n = next_runs w in run_goes m bound p k set w w.next n.0 n.1 w.follows.before n.2

  flush_no_run : (t u c : ℕ) (x : ℤ) (a : Act) → Flushes t c x ≡ Does u a → ⊥
  flush_no_run t u c x a h = cc

  apart : (w : Late m bound p k set) → Later m bound p k set w w.flush → ⊥
  apart w (l, inl r) = flush_no_run w.direct.thread w.direct.thread w.direct.cell w.direct.value r.act (sym (flushed m bound p k set w) ∙ r.is)
  apart w (l, inr r) =
      let same : r.of.store ≡ w.at = one_store (layout_of m bound p) k.events r.of.store w.at w.flush r.of.issued w.issued in
      let late : w.at < r.of.store = r.behind in
      omega (arith, same, late)

  onward : (w v : Late m bound p k set) → Later m bound p k set w v.flush → Walk (Edge m bound p k) v.next w.next
  onward w v (l, inl r) = absurd (flush_no_run v.direct.thread w.direct.thread v.direct.cell v.direct.value r.act (sym (flushed m bound p k set v) ∙ r.is))
  onward w v (l, inr r) = way_walk (Edge m bound p k) v.next w.next (program m bound p k w.direct.thread w.next v.next later (runs_it m bound p k w.direct.thread w.next nw.0 nw.2 nw.1) (runs_it m bound p k w.direct.thread v.next nv.0 nv.2 (nv.1 ∙ ap (λ u. Does u nv.0) threads)))
    where
      nw : (a : Act) × (k.walk.what w.next ≡ Does w.direct.thread a) × (w.next < k.walk.size)
      nw = next_runs w

      nv : (a : Act) × (k.walk.what v.next ≡ Does v.direct.thread a) × (v.next < k.walk.size)
      nv = next_runs v

      same_threads : (t u c d : ℕ) (x y : ℤ) → Flushes t c x ≡ Flushes u d y → t ≡ u
      same_threads t u c d x y h = cc

      threads : v.direct.thread ≡ w.direct.thread
      threads = same_threads v.direct.thread w.direct.thread v.direct.cell r.cell v.direct.value r.value (sym (flushed m bound p k set v) ∙ r.is)

      after_it : w.at < v.at
      after_it = let same : r.of.store ≡ v.at = one_store (layout_of m bound p) k.events r.of.store v.at v.flush r.of.issued v.issued in let late : w.at < r.of.store = r.behind in omega (arith, same, late)

      key_w : w.direct.thread ≡ w.follows.key
      key_w = some_same w.direct.thread w.follows.key (sym (by_is m bound p k runs w.at (at_below m bound p k set w) ∙ ap runs (made m bound p k set w)) ∙ w.follows.from)

      not_before : w.next ≤ v.at
      not_before = ⊎_elim (λ z. absurd (w.follows.none v.at after_it z (by_is m bound p k runs v.at (at_below m bound p k set v) ∙ ap runs (made m bound p k set v) ∙ ap Some (threads ∙ key_w)))) (λ z. z) (cases_lt v.at w.next)

      later : w.next < v.next
      later = let f : v.at < v.next = v.follows.before in let b = not_before in omega (arith, f, b)

  -- ---- walks of all edges

  abbrev Links : ℕ → ℕ → Type 0
  Links = Link (layout_of m bound p) p set k.events

  abbrev Shade : ℕ → ℕ → Type 0
  Shade a b = Walk (Link (layout_of m bound p) p set k.events) b a

  shade_edge : (a x y : ℕ) → Walk (Link (layout_of m bound p) p set k.events) x a → Edge m bound p k x y → Walk (Link (layout_of m bound p) p set k.events) y a
  shade_edge a x y q e = closing.joined (Link (layout_of m bound p) p set k.events) a x y q (step y (inl e) here)

  shade_added : (a : ℕ) (w : Late m bound p k set) → Walk (Link (layout_of m bound p) p set k.events) w.flush a → Walk (Link (layout_of m bound p) p set k.events) w.next a
  shade_added a w q = closing.joined (Link (layout_of m bound p) p set k.events) a w.flush w.next q (step w.next (inr (record { store = w.at; direct = w.direct; flush = w.issued; next = w.follows })) here)

  abbrev Linked : ℕ → ℕ → Type 0
  Linked = closing.Linked (Late m bound p k set) (Edge m bound p k) (λ w. w.flush) (λ w. w.next) (Later m bound p k set) (Escapes m bound p k set) Shade no_cycle enters (goes m bound p k set) apart onward (λ a. here) shade_edge shade_added

  of_link : (a b : ℕ) → Link (layout_of m bound p) p set k.events a b → Linked a b
  of_link a b (inl e) = inl (b, e, here)
  of_link a b (inr e) = inr (record { at = e.store; direct = e.direct; flush = a; issued = e.flush; next = b; follows = e.next }, [], here, here)

  linked_on : (a b c : ℕ) → Linked a b → Linked b c → Linked a c
  linked_on = closing.linked_trans (Late m bound p k set) (Edge m bound p k) (λ w. w.flush) (λ w. w.next) (Later m bound p k set) (Escapes m bound p k set) Shade no_cycle enters (goes m bound p k set) apart onward (λ a. here) shade_edge shade_added

  linked_walk : (c a b : ℕ) → Linked a b → Walk (Link (layout_of m bound p) p set k.events) c b → Linked a c
  linked_walk c a b l here = l
  linked_walk c a b l (step d e q) = linked_walk c a d (linked_on a b d l (of_link b d e)) q

  pub cycle_law : (a : ℕ) → Cycle (Link (layout_of m bound p) p set k.events) a → (store : ℕ) × IsOvertaken (layout_of m bound p) p set k.events store
  cycle_law a (b, e, q) =
      let r = closing.cycle_delayed (Late m bound p k set) (Edge m bound p k) (λ w. w.flush) (λ w. w.next) (Later m bound p k set) (Escapes m bound p k set) Shade no_cycle enters (goes m bound p k set) apart onward (λ a. here) shade_edge shade_added a (linked_walk a a b (of_link a b e) q) in
      (r.0.at, record { other = r.1.0; at = r.1.1; flush = r.0.flush; issued = r.0.issued; back = r.1.2 })

pub overtaken : (m : Model) (bound : Bounding) (p : Listing) (es : List Entry) (g : RunGraph) (graph : IsRunGraph m bound p es g) → IsValid p → HasNoSection p → (set : List (List Bool)) (a : ℕ) → Cycle (Link (layout_of m bound p) p set graph.trace.events) a → (store : ℕ) × IsOvertaken (layout_of m bound p) p set graph.trace.events store
overtaken m bound p es g graph valid calm set a cycle =
    let r = run_of m bound p valid calm g.entries graph.trace.events graph.trace.happen in
    subst (λ vs. (store : ℕ) × IsOvertaken (layout_of m bound p) p set vs store) r.2 (cycle_law m bound p r.0 set a (subst (λ vs. Cycle (Link (layout_of m bound p) p set vs) a) (sym r.2) cycle))
