-- Whether an edge leads from a step of a run to another is decided.
use Rattle.std.proofs.Common.{arith, take, ◌≡◌, ℕ, ◌+◌, ◌<◌, inl, inr, ⊎_elim, List, Option, Some, None, refl, sym, ◌∙◌, ap}
use Rattle.std.proofs.lemmas.Bool.{cases_eq, cases_lt}
use Rattle.std.proofs.lemmas.Option.{same_Some, none-some}
use Rattle.mm_goto.specs.Bounds.{bound_of}
use Rattle.mm_decided.proofs.Deciding.{Decided, SomeBelow, as_well, all_three, either, some_below, both}
use Rattle.mm_sched.specs.declared.entry.Event.{Event}
use Rattle.mm_runkeys.specs.declared.graph.EdgeKind.{EdgeKind}
use Rattle.mm_runkeys.specs.declared.graph.EdgeKind.TheVariants.{Program, Issue, Fifo, Reads, Coherence, FromRead, Drain, Mutex, Start, Join as Joining, Room}
use Rattle.mm_runkeys.specs.declared.keys.Layout.{Layout}
use Rattle.mm_runkeys.specs.Keys.{runs, drains, flushes, settles, starts, joins_first, takes, gives, pushes, pops, makes, writes, reads, only_reads, reads_own}
use Rattle.mm_runkeys.specs.Spans.{Span, Last, at, times}
use Rattle.mm_rungraph.specs.Edges.{by, IsIssued, IsRoomFor, IsCoherent, IsOverwritten, IsEdge}

option_or : (o : Option ℕ) (x : ℕ) → Decided (o ≡ Some x)
option_or None x = inr (none-some x)
option_or (Some y) x = as_well (λ e. ap Some e) (same_Some y x) (cases_eq y x)

less_or : (a b : ℕ) → Decided (a < b)
less_or a b = ⊎_elim (λ l. inl l) (λ h. inr (λ l. omega (arith, l, h))) (cases_lt a b)

span_or : (marked erased asked : ℕ → Option ℕ) (a b : ℕ) → Decided (Span marked erased asked a b)
span_or marked erased asked a b = by (marked a) refl
  where
    by : (o : Option ℕ) → marked a ≡ o → Decided (Span marked erased asked a b)
    by None h = inr (λ s. none-some s.key (sym h ∙ s.from))
    by (Some x) h = as_well there back (all_three (less_or a b) (option_or (asked b) x) (no_or (some_below (λ k. (a < k) × (erased k ≡ Some x)) (λ k. both (less_or a k) (option_or (erased k) x)) b)))
      where
        Between : Type 0
        Between = SomeBelow (λ k. (a < k) × (erased k ≡ Some x)) b

        no_or : Decided Between → Decided (Between → ⊥)
        no_or (inl s) = inr (λ n. n s)
        no_or (inr n) = inl n

        there : (a < b) × (asked b ≡ Some x) × (Between → ⊥) → Span marked erased asked a b
        there (low, to, none) = record { key = x; before = low; from = h; to = to; none = λ k l r e. none (k, r, (l, e)) }

        back : Span marked erased asked a b → (a < b) × (asked b ≡ Some x) × (Between → ⊥)
        back s =
            let same : s.key ≡ x = same_Some s.key x (sym s.from ∙ h) in
            (s.before, s.to ∙ ap Some same, λ q. s.none q.0 q.2.0 q.1 (q.2.1 ∙ ap Some (sym same)))

module _ (s : Layout) (es : List Event) where
  issued_or : (a b : ℕ) → Decided (IsIssued s es a b)
  issued_or a b = go (by (pushes s) es a) refl
    where
      go : (o : Option ℕ) → by (pushes s) es a ≡ o → Decided (IsIssued s es a b)
      go None h = inr (λ i. none-some i.queue (sym h ∙ i.made.is))
      go (Some q) h = as_well there back (all_three (less_or a b) (option_or (by (pops s) es b) q) (cases_eq (times (pops s) q (take b es)) (times (pushes s) q (take a es))))
        where
          there : (a < b) × (by (pops s) es b ≡ Some q) × (times (pops s) q (take b es) ≡ times (pushes s) q (take a es)) → IsIssued s es a b
          there (low, is, nth) = record { queue = q; nth = times (pushes s) q (take a es); before = low; made = record { is = h; nth = refl }; flushed = record { is = is; nth = nth } }

          back : IsIssued s es a b → (a < b) × (by (pops s) es b ≡ Some q) × (times (pops s) q (take b es) ≡ times (pushes s) q (take a es))
          back i =
              let same : i.queue ≡ q = same_Some i.queue q (sym i.made.is ∙ h) in (
                i.before,
                i.flushed.is ∙ ap Some same,
                ap (λ x. times (pops s) x (take b es)) (sym same) ∙ i.flushed.nth ∙ sym i.made.nth ∙ ap (λ x. times (pushes s) x (take a es)) same,
              )

  room_or : (a b : ℕ) → Decided (IsRoomFor s es a b)
  room_or a b = go (by runs es b) (by (pops s) es a) refl refl
    where
      go : (o r : Option ℕ) → by runs es b ≡ o → by (pops s) es a ≡ r → Decided (IsRoomFor s es a b)
      go None r h k = inr (λ i. none-some i.thread (sym h ∙ i.runs_it))
      go (Some t) None h k = inr (λ i. none-some i.queue (sym k ∙ i.flushed.is))
      go (Some t) (Some q) h k = as_well there back (all_three (less_or a b) (option_or (by (pushes s) es b) q) (cases_eq (times (pushes s) q (take b es)) (times (pops s) q (take a es) + bound_of s.bound t)))
        where
          there : (a < b) × (by (pushes s) es b ≡ Some q) × (times (pushes s) q (take b es) ≡ times (pops s) q (take a es) + bound_of s.bound t) → IsRoomFor s es a b
          there (low, is, nth) = record { thread = t; queue = q; nth = times (pops s) q (take a es); before = low; runs_it = h; flushed = record { is = k; nth = refl }; made = record { is = is; nth = nth } }

          back : IsRoomFor s es a b → (a < b) × (by (pushes s) es b ≡ Some q) × (times (pushes s) q (take b es) ≡ times (pops s) q (take a es) + bound_of s.bound t)
          back i =
              let thread : i.thread ≡ t = same_Some i.thread t (sym i.runs_it ∙ h) in
              let same : i.queue ≡ q = same_Some i.queue q (sym i.flushed.is ∙ k) in (
                i.before,
                i.made.is ∙ ap Some same,
                ap (λ x. times (pushes s) x (take b es)) (sym same) ∙ i.made.nth ∙ ap (λ n. n + bound_of s.bound i.thread) (sym i.flushed.nth ∙ ap (λ x. times (pops s) x (take a es)) same) ∙ ap (λ u. times (pops s) q (take a es) + bound_of s.bound u) thread,
              )

  coherent_or : (a b : ℕ) → Decided (IsCoherent es a b)
  coherent_or a b = span_or (by writes es) (by writes es) (by writes es) a b

  overwritten_or : (a b : ℕ) → Decided (IsOverwritten s es a b)
  overwritten_or a b = as_well there back (some_below Stored (λ store. some_below (Flushed store) (λ flush. all_three (span_or (by (makes s) es) (by (makes s) es) (at (reads_own s) es) store a) (issued_or store flush) (coherent_or flush b)) b) a)
    where
      Flushed : ℕ → ℕ → Type 0
      Flushed store flush = Last (by (makes s) es) (at (reads_own s) es) store a × IsIssued s es store flush × IsCoherent es flush b

      Stored : ℕ → Type 0
      Stored store = SomeBelow (Flushed store) b

      there : SomeBelow Stored a → IsOverwritten s es a b
      there (store, low, (flush, less, (took, issued, next))) = record { store = store; flush = flush; took = took; issued = issued; next = next }

      back : IsOverwritten s es a b → SomeBelow Stored a
      back o = (o.store, o.took.before, (o.flush, o.next.before, (o.took, o.issued, o.next)))

  pub edge_or : (kind : EdgeKind) (a b : ℕ) → Decided (IsEdge s es kind a b)
  edge_or Program a b = span_or (by runs es) (by runs es) (by runs es) a b
  edge_or Issue a b = issued_or a b
  edge_or Fifo a b = span_or (by (pops s) es) (by (pops s) es) (by (pops s) es) a b
  edge_or Reads a b = span_or (by writes es) (by writes es) (at (reads s) es) a b
  edge_or Coherence a b = coherent_or a b
  edge_or FromRead a b = either (span_or (at (only_reads s) es) (by writes es) (by writes es) a b) (overwritten_or a b)
  edge_or Drain a b = span_or (by flushes es) (by drains es) (by drains es) a b
  edge_or Mutex a b = span_or (by gives es) (by takes es) (by takes es) a b
  edge_or Start a b = span_or (by starts es) (by runs es) (by runs es) a b
  edge_or Joining a b = span_or (by settles es) (by drains es) (at (joins_first s) es) a b
  edge_or Room a b = room_or a b
