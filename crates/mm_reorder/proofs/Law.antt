-- The law of orders.
use Rattle.std.proofs.Common.{arith, ◌≡◌, ℕ, zero, ◌<◌, ℤ, List, [], ◌∷◌, ◌++◌, length, map, take, Some, Bool, true, sym, ◌∙◌, ap, subst, inl, inr}
use Rattle.std.specs.Prelude.{Contains}
use Rattle.std.proofs.lemmas.List.{map-append, take_all}
use Rattle.std.proofs.lemmas.List.Elements.{All-nil}
use Rattle.std.proofs.lemmas.Option.{same_Some}
use Rattle.mm_goto.specs.Bounds.{Bounding}
use Rattle.mm_goto.specs.declared.model.Model.{Model}
use Rattle.mm_goto.specs.Listing.{Listing}
use Rattle.mm_goto.specs.Valid.{IsValid}
use Rattle.mm_sched.specs.declared.entry.Act.TheVariants.{Fails}
use Rattle.mm_sched.specs.declared.entry.Entry.{Entry}
use Rattle.mm_sched.specs.declared.entry.Entry.TheVariants.{Step}
use Rattle.mm_sched.specs.declared.entry.Event.TheVariants.{Does}
use Rattle.mm_sched.specs.declared.entry.Rules.TheVariants.{Buffered, Partial}
use Rattle.mm_sched.specs.Buffer.{is_empty}
use Rattle.mm_sched.specs.Failing.{IsFlush}
use Rattle.mm_sched.specs.Runs.{FailAlike, IsFront, failing_thread, locals_of}
use Rattle.mm_sched.specs.Sections.{HasNoSection}
use Rattle.mm_sched.specs.State.{State, initial, pending_of}
use Rattle.mm_sched.proofs.Failures.{last-step}
use Rattle.mm_runkeys.specs.declared.graph.EdgeKind.{EdgeKind}
use Rattle.mm_rungraph.specs.declared.graph.RunGraph.{RunGraph}
use Rattle.mm_rungraph.specs.Edges.{IsEdge}
use Rattle.mm_rungraph.specs.RunGraph.{layout_of, IsRunGraph}
use Rattle.mm_rungraph.specs.Traces.{events_of, after_all}
use Rattle.mm_rungraph.proofs.Concluding.{run_is}
use Rattle.mm_rungraph.proofs.Holding.{emptied, forward}
use Rattle.mm_rungraph.proofs.Totals.{events_length}
use Rattle.mm_reorder.specs.Orders.{Precedes, KeepsEdges, Taken, IsReduced}
use Rattle.mm_reorder.proofs.Arranging.{In, in_list, listed}
use Rattle.mm_reorder.proofs.Classes.{All, below, what_is, issued_below}
use Rattle.mm_reorder.proofs.Course.{Course, ran}
use Rattle.mm_reorder.proofs.Coursing.{run_of}
use Rattle.mm_reorder.proofs.Failing.{fails_by, fails_in, last_locals}
use Rattle.mm_reorder.proofs.Finishing.{finished}
use Rattle.mm_reorder.proofs.Reordering.{Leads}

module _ (m : Model) (bound : Bounding) (p : Listing) (es : List Entry) (g : RunGraph) (graph : IsRunGraph m bound p es g) (valid : IsValid p) (calm : HasNoSection p) (set : List (List Bool)) (order : List ℕ)
    (keeps : KeepsEdges (layout_of m bound p) p set g graph.trace.events order) (steps : List Taken) (reduced : IsReduced (layout_of m bound p) p set g graph.trace.events order steps) where
  -- where the steps lead, and who fails
  pub record Outcome : Type 0 where
    pub last : State
    pub leads : Leads (Partial m bound set) p (initial p) steps last
    pub verdict : last.verdict ≡ Some g.verdict
    pub thread : ℕ
    pub fails : failing_thread es ≡ Some thread
    pub fails_too : failing_thread (map (λ (x : Taken). x.0) steps) ≡ Some thread
    pub locals : locals_of graph.fails.last thread ≡ locals_of last thread

  module _ (k : Course m bound p) (entries : k.entries ≡ g.entries) (events : k.events ≡ graph.trace.events) where
    kept : KeepsEdges (layout_of m bound p) p set g k.events order
    kept = subst (λ vs. KeepsEdges (layout_of m bound p) p set g vs order) (sym events) keeps

    left : IsReduced (layout_of m bound p) p set g k.events order steps
    left = subst (λ vs. IsReduced (layout_of m bound p) p set g vs order steps) (sym events) reduced

    edge_is : (kind : EdgeKind) (a b : ℕ) → IsEdge (layout_of m bound p) k.events kind a b → Contains g.edges (record { from = a; to = b; kind = kind })
    edge_is kind a b e = (graph.edges kind a b).1 (subst (λ vs. IsEdge (layout_of m bound p) vs kind a b) events e)

    size : k.walk.size ≡ length g.nodes
    size =
        let a : length graph.trace.events ≡ length g.entries = events_length (Buffered m bound) p (initial p) g.entries graph.trace.events graph.trace.happen in
        sym k.size ∙ ap length events ∙ a ∙ sym graph.size

    node_in : (n : ℕ) → n < length g.nodes → In order n
    node_in n l = in_list order n ((kept.nodes n).1 l)

    within : (n : ℕ) → In order n → n < k.walk.size
    within n h = let a : n < length g.nodes = (kept.nodes n).0 (listed order n h) in let b = size in omega (arith, a, b)

    there : (a v : ℕ) → All m bound p k set a v → In order a
    there a v (inl (kind, e)) =
        let f : (a < v) × (v < length g.nodes) = forward m bound p es g valid graph (record { from = a; to = v; kind = kind }) (edge_is kind a v e) in
        let x : a < v = f.0 in
        let y : v < length g.nodes = f.1 in
        node_in a (omega (arith, x, y))
    there a v (inr e) = let x : a < k.walk.size = issued_below m bound p k set e.store a e.flush in let y = size in node_in a (omega (arith, x, y))

    earlier : (a v : ℕ) → All m bound p k set a v → Precedes order a v
    earlier a v (inl (kind, e)) = kept.edges (record { from = a; to = v; kind = kind }) (edge_is kind a v e)
    earlier a v (inr e) = kept.added a v e

    empty_end : (t : ℕ) → is_empty (pending_of (k.walk.at k.walk.size).state t) ≡ true
    empty_end t =
        ap (λ (s : State). is_empty (pending_of s t)) (k.states k.walk.size (omega arith) ∙ ap (after_all (initial p)) (take_all k.walk.size k.events (let a = k.size in omega (arith, a)) ∙ events))
        ∙ ap is_empty (emptied m bound p es g graph t)

    fail_is : k.walk.what left.fail ≡ Does left.thread (Fails g.verdict)
    fail_is = what_is m bound p k set left.fail (Does left.thread (Fails g.verdict)) left.fails

    fail_below : left.fail < k.walk.size
    fail_below = below m bound p k set left.fail (Does left.thread (Fails g.verdict)) left.fails

    pub outcome_by : Outcome
    outcome_by =
        let f = finished m bound p k set g (sym entries) empty_end order kept.once there earlier within left.before left.fail left.behind left.parts left.thread g.verdict fail_below fail_is steps left.are in
        let begins : (k.walk.at zero).state ≡ initial p = k.states zero (omega arith) in
        let extended = entries ∙ graph.entries in
        let step : k.walk.by left.fail ≡ Step left.thread = fails_by (Buffered m bound) p (k.walk.at left.fail).state (k.walk.by left.fail) left.thread g.verdict (ran m bound p k left.fail left.thread (Fails g.verdict) fail_below fail_is) in
        record {
          last = f.last;
          leads = subst (λ s. Leads (Partial m bound set) p s steps f.last) begins f.leads;
          verdict = f.verdict;
          thread = left.thread;
          fails = fails_in m bound p k es graph.fails.last extended g.verdict graph.fails.runs graph.fails.verdict left.thread left.fail fail_below fail_is;
          fails_too =
              ap failing_thread (ap (map (λ (x : Taken). x.0)) f.ends ∙ map-append (λ (x : Taken). x.0) f.front ((k.walk.by left.fail, k.walk.what left.fail) ∷ []) ∙ ap (λ e. map (λ (x : Taken). x.0) f.front ++ e ∷ []) step)
              ∙ last-step (map (λ (x : Taken). x.0) f.front) [] left.thread (All-nil IsFlush);
          locals = last_locals m bound p k es graph.fails.last extended g.verdict graph.fails.runs graph.fails.verdict left.thread left.fail fail_below fail_is ∙ sym f.locals;
        }

  outcome : Outcome
  outcome = let r = run_of m bound p valid calm g.entries graph.trace.events graph.trace.happen in outcome_by r.0 r.1 r.2

  pub runs : events_of (Partial m bound set) p (initial p) (map (λ (x : Taken). x.0) steps) ≡ Some (map (λ (x : Taken). x.1) steps)
  runs = outcome.leads.happen

  -- lists that are the same are fronts of each other
  front_of : (xs ys : List ℤ) → xs ≡ ys → IsFront xs ys
  front_of xs ys e = ap (take (length xs)) (sym e) ∙ take_all (length xs) xs (omega arith)

  pub alike : FailAlike (Buffered m bound) (Partial m bound set) p p g.verdict es (map (λ (x : Taken). x.0) steps)
  alike = record {
    one = graph.fails;
    other = record {
      last = outcome.last;
      runs = run_is (Partial m bound set) p (map (λ (x : Taken). x.0) steps) (initial p) (map (λ (x : Taken). x.1) steps) runs ∙ ap Some outcome.leads.ends;
      verdict = outcome.verdict;
    };
    thread = outcome.fails ∙ sym outcome.fails_too;
    locals = λ t h. front_of (locals_of graph.fails.last t) (locals_of outcome.last t) (subst (λ u. locals_of graph.fails.last u ≡ locals_of outcome.last u) (same_Some outcome.thread t (sym outcome.fails ∙ h)) outcome.locals);
  }
