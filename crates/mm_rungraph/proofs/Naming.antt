-- The nodes are those of the steps.
use Rattle.std.proofs.Common.{arith, ◌≡◌, ℕ, zero, suc, ◌+◌, ◌<◌, ◌≤◌, ◌⊎◌, inl, inr, List, [], ◌∷◌, ◌++◌, length, length-append, Option, Some, None, option_map, option_and_then, refl, sym, ◌∙◌, ap, subst, slice_get}
use Rattle.std.specs.Prelude.{Contains, option_to_list}
use Rattle.std.proofs.lemmas.Bool.{cases_lt, cases_eq}
use Rattle.std.proofs.lemmas.Option.{slice_get_within}
use Rattle.mm_sched.specs.declared.entry.Event.{Event}
use Rattle.mm_sched.specs.declared.entry.Event.TheVariants.{Does, Flushes}
use Rattle.mm_runkeys.specs.declared.graph.RunNode.{RunNode}
use Rattle.mm_runkeys.specs.declared.graph.RunNode.TheVariants.{Run, Flush}
use Rattle.mm_runkeys.specs.declared.keys.Layout.{Layout}
use Rattle.mm_runkeys.specs.Spans.{times}
use Rattle.mm_runkeys.specs.Keys.{runs, queue, pushes, pops}
use Rattle.mm_rungraph.specs.Edges.{by, IsNth, IsIssued}
use Rattle.mm_rungraph.specs.RunGraph.{IsNode}
use Rattle.mm_runkeys.specs.reading.Tables.{row}
use Rattle.mm_runkeys.specs.reading.Marks.{Marks, InRange, oldest, issued, flush_of, node_of}
use Rattle.mm_rungraph.proofs.Spanning.{get_old, get_new}
use Rattle.mm_rungraph.proofs.Nths.{within, nth_old, nth_new}
use Rattle.mm_rungraph.proofs.Ends.{if_below, in_option, issue_here}
use Rattle.mm_rungraph.proofs.Exact.{IsGraph, issued_local}

-- there is a store that the event, if it is a flush, brings to memory
abbrev pub HasStore : Layout → List Event → Event → Type 0
HasStore s es e = (q : ℕ) → pops s e ≡ Some q → times (pops s) q es < times (pushes s) q es

pub record AreNodes (s : Layout) (es : List Event) (nodes : List RunNode) : Type 0 where
  pub size : length nodes ≡ length es
  pub each : (k : ℕ) (n : RunNode) → slice_get nodes k ≡ Some n → IsNode s es k n

there_is : {A : Type 0} (xs : List A) (i : ℕ) → i < length xs → (x : A) × (slice_get xs i ≡ Some x)
there_is [] i l = absurd (omega arith)
there_is (x ∷ xs) zero l = (x, refl)
there_is (x ∷ xs) (suc i) l = there_is xs i (omega arith)

-- no event joins a queue and leaves one
not_both : (s : Layout) (es : List Event) (a x y : ℕ) → by (pushes s) es a ≡ Some x → by (pops s) es a ≡ Some y → ⊥
not_both s es a x y h k = go (slice_get es a) h k
  where
    go : (o : Option Event) → option_and_then (λ e. pushes s e) o ≡ Some x → option_and_then (λ e. pops s e) o ≡ Some y → ⊥
    go None h k = cc
    go (Some (Does t a)) h k = cc
    go (Some (Flushes t c v)) h k = cc

module _ (s : Layout) (es : List Event) (g : Marks) (graph : IsGraph s es g) (so_far : AreNodes s es g.nodes) (e : Event) (r : InRange s g e) where
  abbrev es' : List Event
  es' = es ++ e ∷ []

  old_node : (k : ℕ) (n : RunNode) → k < length es → IsNode s es k n → IsNode s es' k n
  old_node k (Run t i) l h = nth_old runs es e t i k l h
  old_node k (Flush t i) l h = (h.0, (issued_local es e s h.0 k l).1 h.1, nth_old runs es e t i h.0 (let b = h.1.before in omega arith) h.2)

  -- one more node
  add_one : (n : RunNode) → IsNode s es' (length es) n → AreNodes s es' (g.nodes ++ n ∷ [])
  add_one n h = record {
    size = length-append g.nodes (n ∷ []) ∙ ap (λ k. k + 1) so_far.size ∙ sym (length-append es (e ∷ []));
    each = λ k z d. go k z d (cases_lt k (length g.nodes)) (cases_eq k (length g.nodes));
  }
    where
      go : (k : ℕ) (z : RunNode) → slice_get (g.nodes ++ n ∷ []) k ≡ Some z → (k < length g.nodes) ⊎ (length g.nodes ≤ k) → (k ≡ length g.nodes) ⊎ (k ≡ length g.nodes → ⊥) → IsNode s es' k z
      go k z d (inl l) c = old_node k z (omega (arith, l, so_far.size)) (so_far.each k z (sym (get_old g.nodes (n ∷ []) k l) ∙ d))
      go k z d (inr l) (inl i) =
          let same : n ≡ z = some n z (sym (get_new g.nodes n) ∙ subst (λ j. slice_get (g.nodes ++ n ∷ []) j ≡ Some z) i d) in
          subst (λ j. IsNode s es' j z) (sym (i ∙ so_far.size)) (subst (λ y. IsNode s es' (length es) y) same h)
        where
          some : (a b : RunNode) → Some a ≡ Some b → a ≡ b
          some a b h = cc
      go k z d (inr l) (inr o) = absurd (let m : k < length (g.nodes ++ n ∷ []) = slice_get_within (g.nodes ++ n ∷ []) k z d in omega (arith, m, l, o, length-append g.nodes (n ∷ [])))

  run_node : (t : ℕ) → runs e ≡ Some t → IsNode s es' (length es) (Run t (length (row g.executed t)))
  run_node t d = subst (λ i. IsNth runs es' t i (length es)) (sym (graph.executed.count t (if_below (length g.executed) (runs e) r.in_executed t d))) (nth_new runs es e t d)

  -- the node of a flush, where its store is there
  flush_node : (q : ℕ) → pops s e ≡ Some q → times (pops s) q es < times (pushes s) q es → (n : RunNode) × (option_map flush_of (option_and_then (λ a. slice_get g.nodes a) (oldest g q)) ≡ Some n) × IsNode s es' (length es) n
  flush_node q d l = named (there_is (row g.pushed q) (length (row g.popped q)) some_left)
    where
      in_pushed : q < length g.pushed
      in_pushed = if_below (length g.pushed) (pops s e) r.in_pushed_pops q d

      in_popped : q < length g.popped
      in_popped = if_below (length g.popped) (pops s e) r.in_popped q d

      some_left : length (row g.popped q) < length (row g.pushed q)
      some_left = omega (arith, l, graph.popped.count q in_popped, graph.pushed.count q in_pushed)

      issue : (a : ℕ) → oldest g q ≡ Some a → IsIssued s es' a (length es)
      issue a h = (issue_here s es e g graph.pushed graph.popped r.in_pushed_pops r.in_popped a).0 (subst (λ o. Contains (issued g o) a) (sym d) ((in_option (oldest g q) a).1 h))

      of_store : (a : ℕ) → oldest g q ≡ Some a → (n : RunNode) → slice_get g.nodes a ≡ Some n → IsNth (pushes s) es q (length (row g.popped q)) a → IsNode s es a n → (z : RunNode) × (option_map flush_of (slice_get g.nodes a) ≡ Some z) × IsNode s es' (length es) z
      of_store a h (Flush t i) got made node = absurd (not_both s es a q node.1.queue made.is node.1.flushed.is)
      of_store a h (Run t i) got made node = (Flush t i, ap (option_map flush_of) got, (a, issue a h, nth_old runs es e t i a (within (pushes s) es q a made.is) node))

      named : (a : ℕ) × (oldest g q ≡ Some a) → (n : RunNode) × (option_map flush_of (option_and_then (λ a. slice_get g.nodes a) (oldest g q)) ≡ Some n) × IsNode s es' (length es) n
      named (a, h) =
          let made = (graph.pushed.each q (length (row g.popped q)) a in_pushed).0 h in
          let node = there_is g.nodes a (let l = within (pushes s) es q a made.is in omega (arith, l, so_far.size)) in
          let z = of_store a h node.0 node.1 made (so_far.each a node.0 node.1) in
          (z.0, ap (λ o. option_map flush_of (option_and_then (λ b. slice_get g.nodes b) o)) h ∙ z.1, z.2)

  pub nodes_step : HasStore s es e → AreNodes s es' (g.nodes ++ option_to_list (node_of s g e))
  nodes_step store = go e refl
    where
      go : (d : Event) → e ≡ d → AreNodes s es' (g.nodes ++ option_to_list (node_of s g d))
      go (Does t a) i = add_one (Run t (length (row g.executed t))) (run_node t (ap runs i))
      go (Flushes t c v) i =
          let q : pops s e ≡ Some (queue s t c) = ap (pops s) i in
          let n = flush_node (queue s t c) q (store (queue s t c) q) in
          subst (λ o. AreNodes s es' (g.nodes ++ option_to_list o)) (sym n.1) (add_one n.0 n.2)
